use Rattle.std.proofs.Common.{ℕ, List, length, subst}
use Rattle.declared_names.specs.declared.declarations.Declaration.{Declaration}
use Rattle.verifying.specs.Steps.Marks.{AreMarksOf}
use Rattle.verifying.proofs.verify_command.marked_of_both.Goals as goal

pub returns-clause-marked : goal.returns-clause-marked
returns-clause-marked c =
    let joined = c.in_ok-joined.ensures in
    let l = c.in_ok-joined.joined.ladder in
    let places = c.in_ok-places.places.items in
    let marks = c.in_ok-marks.marks.items in
    let marked = subst (λ n. AreMarksOf places n marks) c.len.ensures (subst (λ ps. AreMarksOf ps c.len.result marks) c.deref.ensures.value c.in_ok-marks.ensures) in
    let named = subst (λ (ds : List Declaration). AreMarksOf places (length ds) marks) c.declarations.ensures.list marked in
    record {
      marks = subst (λ (ps : List ℕ). AreMarksOf ps (length l.declarations) marks) c.in_ok-places.ensures named;
      rails = joined.rails;
      count = joined.count;
    }
