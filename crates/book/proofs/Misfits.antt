-- What the tests of a book tell of an evaluation.
use Rattle.std.proofs.Common.{refl, ℕ, Bool, true, false, cond, List, None, Some}
use Rattle.std.specs.Prelude.{not, MatchOption}
use Rattle.std.specs.List.{list_all}
use Rattle.std.proofs.lemmas.Bool.{false≢true}
use Rattle.evaluation.specs.Meaning.{Evaluated}
use Rattle.book.specs.declared.book.misfit.Misfit.TheVariants.{WrongNumber, UnknownTake, Torn, Back, NotOwnLatest, NotAddressed, Misheard, Memory}
use Rattle.std.specs.List.{AllByRecursion}
use Rattle.book.specs.Fits.{IsNumbered, IsKnown, IsUntorn, IsNotBack, IsOwnLatest, IsAddressed, IsWellHeard, Fits, AllFit}
use Rattle.book.specs.Book.{IsMisfit}
use Rattle.book.specs.Steps.Deciding.{is_numbered, is_known, is_untorn, is_not_back, is_own_latest, is_addressed_to, is_well_heard, first_failed}
use Rattle.book.proofs.Presents.{lows}
use Rattle.book.proofs.Deciding.{IsTest, test-each, test-numbered, test-known, test-untorn, test-not_back, test-own_latest, test-addressed, test-heard}

fails : (P : Type 0) → IsTest false P → ¬ P
fails P test h = false≢true (test.passes h)

-- the first clause that fails is the misfit, and where none fails the evaluation fits
pub first_failed-is : (first : List ℕ) (older : List Evaluated) → AllFit first older → (x : Evaluated) → MatchOption (first_failed first older x.name x.heard x.takes) (Fits first older x) (IsMisfit first older x)
first_failed-is first older fit x =
    by (is_numbered first older x.name) (list_all (is_known older) x.takes) (list_all (is_untorn older) x.takes) (list_all (is_not_back older x.name) x.takes) (list_all (is_own_latest older x.name) x.takes)
    (list_all (is_addressed_to older x.name) x.takes) (is_well_heard first older x.name x.heard)
    (test-numbered first older fit x.name) (test-each (is_known older) (IsKnown older) (test-known older) x.takes) (test-each (is_untorn older) (IsUntorn older) (test-untorn first older fit) x.takes)
    (λ n. test-each (is_not_back older x.name) (IsNotBack older x.name) (test-not_back first older fit x.name (lows first older x.name n)) x.takes)
    (λ n. test-each (is_own_latest older x.name) (IsOwnLatest older x.name) (test-own_latest first older fit x.name (lows first older x.name n)) x.takes)
    (test-each (is_addressed_to older x.name) (IsAddressed older x.name) (test-addressed first older fit x.name) x.takes)
    (λ n. test-heard first older fit x.name (lows first older x.name n) x.heard) where
      by : (a b c d e f g : Bool) → IsTest a (IsNumbered first older x.name) → IsTest b (AllByRecursion (IsKnown older) x.takes) → IsTest c (AllByRecursion (IsUntorn older) x.takes)
          → (IsNumbered first older x.name → IsTest d (AllByRecursion (IsNotBack older x.name) x.takes)) → (IsNumbered first older x.name → IsTest e (AllByRecursion (IsOwnLatest older x.name) x.takes))
          → IsTest f (AllByRecursion (IsAddressed older x.name) x.takes) → (IsNumbered first older x.name → IsTest g (IsWellHeard first older x.name x.heard))
          → MatchOption (cond (not a) (Some WrongNumber) (cond (not b) (Some UnknownTake) (cond (not c) (Some Torn) (cond (not d) (Some Back) (cond (not e) (Some NotOwnLatest) (cond (not f) (Some NotAddressed) (cond (not g) (Some Misheard) None)))))))
          (Fits first older x) (IsMisfit first older x)
      by false b c d e f g p q r s t u v = record { place = 0; at = refl; kept = tt; fails = fails _ p }
      by true false c d e f g p q r s t u v = record { place = 1; at = refl; kept = (p.holds refl, tt); fails = fails _ q }
      by true true false d e f g p q r s t u v = record { place = 2; at = refl; kept = (p.holds refl, (q.holds refl, tt)); fails = fails _ r }
      by true true true false e f g p q r s t u v = record { place = 3; at = refl; kept = (p.holds refl, (q.holds refl, (r.holds refl, tt))); fails = fails _ (s (p.holds refl)) }
      by true true true true false f g p q r s t u v = record { place = 4; at = refl; kept = (p.holds refl, (q.holds refl, (r.holds refl, ((s (p.holds refl)).holds refl, tt)))); fails = fails _ (t (p.holds refl)) }
      by true true true true true false g p q r s t u v = record { place = 5; at = refl; kept = (p.holds refl, (q.holds refl, (r.holds refl, ((s (p.holds refl)).holds refl, ((t (p.holds refl)).holds refl, tt))))); fails = fails _ u }
      by true true true true true true false p q r s t u v = record { place = 6; at = refl; kept = (p.holds refl, (q.holds refl, (r.holds refl, ((s (p.holds refl)).holds refl, ((t (p.holds refl)).holds refl, (u.holds refl, tt)))))); fails = fails _ (v (p.holds refl)) }
      by true true true true true true true p q r s t u v =
          record { numbered = p.holds refl; known = q.holds refl; untorn = r.holds refl; not_back = (s (p.holds refl)).holds refl; own_latest = (t (p.holds refl)).holds refl; addressed = u.holds refl; heard = (v (p.holds refl)).holds refl }

-- memory may be wanting for what fits
pub memory-wanting : (first : List ℕ) (older : List Evaluated) (x : Evaluated) → Fits first older x → IsMisfit first older x Memory
memory-wanting first older x fits =
    record {
      place = 7;
      at = refl;
      kept = (fits.numbered, (fits.known, (fits.untorn, (fits.not_back, (fits.own_latest, (fits.addressed, (fits.heard, tt)))))));
      fails = λ h. h;
    }
