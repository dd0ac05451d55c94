use Rattle.std.proofs.Common.{◌≡◌, ◌≤◌, ◌<◌, ◌-◌, ◌∙◌, [], List, ℕ, length, get_or, sym, ap, subst, arith, rules, tests, inl, inr}
use Rattle.ladder_rows.specs.Steps.RowBoxes.{AreInRows, numbers_on}
use Rattle.ladder_rows.proofs.Outlines.RowBoxes.{none_on, numbers-at}
use Rattle.ladder_rows.proofs.boxes.box_rows.Boxes.on_row.Goals as goal

pub returns-then-row-eq0 : goal.returns-then-row-eq0
returns-then-row-eq0 c =
    let n = length c.self.inside.by_row.items in
    sym (none_on n c.args.self.now c.args.row (subst (AreInRows n) c.self.view_is c.self.invariant.0) (inl c.if-row-eq0.true))

pub returns-in-Some : goal.returns-in-Some
returns-in-Some c =
    let ns = c.self.inside.by_row.items in
    let r = c.args.row in
    let size = ap length c.deref.ensures.value in
    let some : 0 < r = omega arith in
    let inside : r - 1 < length c.deref.result.now = search (rules, tests) in
    let e : c.in-Some.numbers.now ≡ get_or c.deref.result.now (r - 1) [] = search rules in
    c.as_slice.ensures ∙ e ∙ ap (λ (xs : List (List ℕ)). get_or xs (r - 1) []) c.deref.ensures.value
    ∙ numbers-at c.self.inside.outlines.items ns r c.self.invariant.1 some (omega arith)
    ∙ ap (λ bs. numbers_on bs r) c.self.view_is

pub returns-in-None : goal.returns-in-None
returns-in-None c =
    let n = length c.self.inside.by_row.items in
    let size = ap length c.deref.ensures.value in
    let past : length c.deref.result.now ≤ c.args.row - 1 = search (rules, tests) in
    sym (none_on n c.args.self.now c.args.row (subst (AreInRows n) c.self.view_is c.self.invariant.0) (inr (omega arith)))
