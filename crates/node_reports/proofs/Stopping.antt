-- Which faults may have stopped a resource, once one more is gone through.
use Rattle.std.proofs.Common.{◌≡◌, ◌⊎◌, inl, inr, ℕ, ◌+◌, ◌<◌, ◌≤◌, ◌||◌, ◌&&◌, ◌==◌, Bool, true, List, Some, length, take, get_or, slice_get, ap, sym, ◌∙◌, subst, arith}
use Rattle.std.proofs.lemmas.Bool.{cases_lt}
use Rattle.std.proofs.lemmas.List.Folds.{list_any_more}
use Rattle.std.proofs.lemmas.Option.{get_or_from_slice_get, slice_get-get_or}
use Rattle.node_reports.specs.declared.cause.Cause.TheVariants.{Stopped}
use Rattle.node_reports.specs.declared.node_fault.NodeFault.{NodeFault}
use Rattle.node_reports.specs.Reports.{may_stop, may_have_stopped}
use Rattle.node_reports.specs.Steps.Collecting.{AreMarkedBy, IsMarkedIfStopped, AreStopMarks, AreStopsTold}

-- the marks after one more fault
pub stop_marks_more : (faults : List NodeFault) (marks new : List Bool) (k : ℕ) (d : NodeFault) → k < length faults → AreStopMarks (take k faults) marks
    → length new ≡ length marks → AreMarkedBy marks new (get_or faults k d) → AreStopMarks (take (k + 1) faults) new
stop_marks_more faults marks new k d within are many marked = λ r lt.
    let inside : r < length marks = omega (arith, lt, many) in
    marked r inside
    ∙ ap (λ (b : Bool). b || ((get_or faults k d).resource == r && may_stop (get_or faults k d).cause)) (are r inside)
    ∙ sym (list_any_more (λ (f : NodeFault). f.resource == r && may_stop f.cause) faults k d within)

-- one more resource that has stopped is marked
pub stops_more : (faults : List NodeFault) (marks : List Bool) (k : ℕ) (d : NodeFault) → k < length faults → (get_or faults k d).resource < length marks → AreStopMarks (take k faults) marks
    → AreStopsTold k faults → IsMarkedIfStopped marks (get_or faults k d) → AreStopsTold (k + 1) faults
stops_more faults marks k d within inside are told stopped = λ i f lt at is. by i f at is (cases_lt i k) lt
  where
    by : (i : ℕ) (f : NodeFault) → slice_get faults i ≡ Some f → f.cause ≡ Stopped → (i < k) ⊎ (k ≤ i) → i < k + 1 → may_have_stopped f.resource (take i faults) ≡ true
    by i f at is (inl before) lt = told i f before at is
    by i f at is (inr behind) lt =
        let same_place : k ≡ i = omega arith in
        let same : get_or faults k d ≡ f = ap (λ (n : ℕ). get_or faults n d) same_place ∙ get_or_from_slice_get faults i f d at in
        let marked = subst (IsMarkedIfStopped marks) same stopped is in
        let lies = subst (λ (g : NodeFault). g.resource < length marks) same inside in
        subst (λ (n : ℕ). may_have_stopped f.resource (take n faults) ≡ true) same_place (sym (are f.resource lies) ∙ marked)

-- where all that have stopped are told, one more of them is marked
pub stop_marked : (faults : List NodeFault) (marks : List Bool) (k : ℕ) (d : NodeFault) → k < length faults → (get_or faults k d).resource < length marks → AreStopMarks (take k faults) marks
    → AreStopsTold (length faults) faults → IsMarkedIfStopped marks (get_or faults k d)
stop_marked faults marks k d within inside are told = λ stopped.
    are (get_or faults k d).resource inside ∙ told k (get_or faults k d) within (slice_get-get_or faults k d within) stopped
