use Rattle.std.proofs.Common.{◌≡◌, false, rules, tests}
use Rattle.plant_text.proofs.BodyLines.{IsBehindBody-next, IsBehindBody-less, not_end, no_body_behind, shorter_behind_line}
use Rattle.plant_text.proofs.bodies.behind_body.Goals as goal

pub lines-preserved : goal.lines-preserved
lines-preserved c =
    let no : c.is_end_line.result ≡ false = search (rules, tests) in
    record {
      more = λ r b. c.lines.invariant.more r (IsBehindBody-next c.lines.rest.now c.first_line.result.now c.in_ok-rest.rest.now r c.is_end_line.result c.first_line.ensures c.is_end_line.ensures.1 no c.in_ok-rest.ensures b);
      less = λ r b f. IsBehindBody-less c.lines.rest.now c.in_ok-rest.rest.now r c.in_ok-rest.ensures (not_end c.lines.rest.now c.first_line.result.now c.is_end_line.result c.first_line.ensures c.is_end_line.ensures.1 no) (c.lines.invariant.less r b f) f;
    }

pub lines-smaller : goal.lines-smaller
lines-smaller c = shorter_behind_line c.lines.rest.now c.in_ok-rest.rest.now c.in_ok-rest.ensures

pub returns-in_err-rest : goal.returns-in_err-rest
returns-in_err-rest c =
    let no : c.is_end_line.result ≡ false = search (rules, tests) in
    let text = c.lines.rest.now in
    rw c.from_residual.ensures
    (λ r b f. no_body_behind text r c.in_err-rest.ensures (not_end text c.first_line.result.now c.is_end_line.result c.first_line.ensures c.is_end_line.ensures.1 no) (c.lines.invariant.less r b f) f)
