use Rattle.std.proofs.Common.{◌≡◌, [], length, ap, sym, drop, ◌∙◌, arith}
use Rattle.plant_text.specs.Spelling.{first_line}
use Rattle.plant_text.proofs.BodyLines.{behind_first_line, only_line, empty_of_length}
use Rattle.plant_text.proofs.bodies.behind_line.Goals as goal

pub returns-in-len1-up : goal.returns-in-len1-up
returns-in-len1-up c = behind_first_line c.args.text.now c.behind.result.now (c.behind.ensures ∙ ap (λ n. drop n c.args.text.now) c.line_len.ensures) c.in-len1-up.len_at_least

pub returns-in-empty : goal.returns-in-empty
returns-in-empty c =
    let left : c.behind.result.now ≡ drop (length (first_line c.args.text.now)) c.args.text.now = c.behind.ensures ∙ ap (λ n. drop n c.args.text.now) c.line_len.ensures in
    let none : c.behind.result.now ≡ [] = empty_of_length c.behind.result.now (omega (arith, c.in-empty.len_below)) in
    only_line c.args.text.now (sym left ∙ none)
