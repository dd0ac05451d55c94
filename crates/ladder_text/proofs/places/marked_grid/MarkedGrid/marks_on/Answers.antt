use Rattle.std.proofs.Common.{◌<◌, ◌≡◌, ◌-◌, [], length, get_or, sym, subst, arith, rules, tests}
use Rattle.ladder_rows.specs.Rows.{Rows}
use Rattle.ladder_text.specs.Steps.RowMarks.{AreMarksIfFound}
use Rattle.ladder_text.proofs.Marks.LaidMarks.{marks-found}
use Rattle.ladder_text.proofs.places.marked_grid.MarkedGrid.marks_on.Goals as goal

pub returns : goal.returns
returns c =
    let r = c.args.row in
    let d = c.args.self.now in
    let kept = c.deref.result.now in
    let found : AreMarksIfFound d kept = subst (λ (e : Rows). AreMarksIfFound e kept) c.self.view_is (subst (AreMarksIfFound c.self.inside.grid) (sym c.deref.ensures.value) c.self.invariant.2) in
    let some : 0 < r = omega arith in
    let inside : r - 1 < length kept = search (rules, tests) in
    let e : c.in_ok-marks.marks.now ≡ get_or kept (r - 1) [] = search rules in
    rw e (marks-found d kept r found some inside)
