use Rattle.std.proofs.Common.{◌++◌, ◌∙◌, Bor, List, ℕ, ap, drop, map, take}
use Rattle.mistakes.specs.Emptied.{emptied}
use Rattle.mistakes.proofs.Parts.{parts_left}
use Rattle.mistakes.proofs.emptied.rows_left.Goals as goal

pub returns : goal.returns
returns c =
    let f = λ (row : Bor (List ℕ)). row.now in
    let g = λ (row : Bor (List ℕ)). emptied c.args.rail c.args.bare.now row.now in
    c.in_ok-push_rows-2.ensures
    ∙ ap (λ l. l ++ map f c.behind.result.now)
    (c.in_ok-push_emptied.ensures
    ∙ ap (λ l. l ++ map g c.front-2.result.now)
    (c.in_ok-push_rows.ensures ∙ ap (λ l. map f l ++ map f c.front.result.now) c.new-left.ensures.items))
    ∙ ap (λ l. map f l ++ map g c.front-2.result.now ++ map f c.behind.result.now) c.front.ensures
    ∙ ap (λ l. map f (take c.args.first c.args.rows.now) ++ map g l ++ map f c.behind.result.now)
    (c.front-2.ensures ∙ ap (take c.args.count) c.behind-rest.ensures)
    ∙ ap (λ l. map f (take c.args.first c.args.rows.now) ++ map g (take c.args.count (drop c.args.first c.args.rows.now)) ++ map f l)
    (c.behind.ensures ∙ ap (drop c.args.count) c.behind-rest.ensures)
    ∙ parts_left f c.args.first c.args.count c.args.rail c.args.bare.now c.args.rows.now
