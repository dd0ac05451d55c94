-- What was heard, and the incarnations in which the resources were.
use Rattle.std.proofs.Common.{◌≡◌, ℕ, List, Option, Some, None, IfSome, Contains, map, slice_get, refl, ap, sym, ◌∙◌, subst}
use Rattle.std.specs.Option.{option_map}
use Rattle.std.proofs.lemmas.Option.{slice_get-map}
use Rattle.evaluation.specs.Meaning.{Evaluated}
use Rattle.node_reports.specs.declared.journal.Journal.{Journal}
use Rattle.node_reports.specs.Reports.{incarnations_of, HasHeardTruly}
use Rattle.node_reports.specs.Steps.Collecting.{IsAt, AreAt}

-- the incarnations at a place are those of the journal there
at_place : (journals : List Journal) (m : ℕ) (o : Option Journal) → slice_get journals m ≡ o → slice_get (map incarnations_of journals) m ≡ option_map incarnations_of o
at_place journals m o e = slice_get-map incarnations_of journals m ∙ ap (option_map incarnations_of) e

-- what is among them was heard truly
pub truly : (journals : List Journal) (x : Evaluated) → AreAt (map incarnations_of journals) x.heard → HasHeardTruly journals x
truly journals x at = λ m i j heard found. subst (λ o. IfSome o (λ those. Contains those i)) (at_place journals m (Some j) found) (at m i heard)

-- and what was heard truly is among them
pub at_places : (journals : List Journal) (x : Evaluated) → HasHeardTruly journals x → AreAt (map incarnations_of journals) x.heard
at_places journals x h = λ m i heard. by m i heard (slice_get journals m) refl
  where
    by : (m i : ℕ) → slice_get x.heard m ≡ Some i → (o : Option Journal) → slice_get journals m ≡ o → IsAt (map incarnations_of journals) m i
    by m i heard None e = subst (λ o. IfSome o (λ those. Contains those i)) (sym (at_place journals m None e)) tt
    by m i heard (Some j) e = subst (λ o. IfSome o (λ those. Contains those i)) (sym (at_place journals m (Some j) e)) (h m i j heard e)
