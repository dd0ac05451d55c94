-- The log of a run is entered into a book without a misfit, and whoever holds one of its evaluations holds the same.
use Rattle.std.proofs.Common.{refl, ◌≡◌, ℕ, zero, suc, Bool, true, false, cond, List, [], ◌∷◌, ◌++◌, Option, Some, None, ap, ◌∙◌, subst, eqb, take}
use Rattle.std.specs.Prelude.{MatchOption, reverse, slice_get}
use Rattle.std.proofs.lemmas.List.{reverse-append, append_assoc}
use Rattle.std.proofs.lemmas.Option.{none-some, same_Some}
use Rattle.task_codes.specs.declared.task_ref.TaskRef.{TaskRef}
use Rattle.evaluation.specs.Meaning.{Evaluated}
use Rattle.evaluation.specs.Last.{same_task}
use Rattle.world.specs.History.{history_of}
use Rattle.world.specs.Run.{has_reached}
use Rattle.world.specs.World.{WorldValue, node_takes, latest_at, held_at}
use Rattle.lists.specs.Among.{Among}
use Rattle.book.specs.declared.book.misfit.Misfit.{Misfit}
use Rattle.book.specs.declared.book.misfit.Misfit.TheVariants.{WrongNumber, UnknownTake, Torn, Back, NotOwnLatest, Memory, NotAddressed, Misheard}
use Rattle.book.specs.Fits.{Fits, AllFit}
use Rattle.book.specs.Book.{IsMisfit}
use Rattle.world.specs.BookLaws.{RunsFit, RunsAreEntered, HoldersAgree}
use Rattle.world.specs.Steps.Histories.Tasks.{same_task-itself}
use Rattle.world.specs.Steps.Histories.Names.{AllLawful-after, log-rises}
use Rattle.world.proofs.Consistency.Fitting.{last_among-entry}
use Rattle.world.proofs.Consistency.AllFits.{one_name, log-fits}

-- each evaluation of a run fits those before it
pub run-fits : RunsFit
run-fits s events log firsts is = log-fits s (history_of s events) (reverse log) (AllLawful-after s [] events tt) is

-- what stands behind an item
split-at : (log : List Evaluated) (k : ℕ) (x : Evaluated) → slice_get log k ≡ Some x → (rest : List Evaluated) × (log ≡ take k log ++ x ∷ rest)
split-at [] k x e = absurd (none-some x e)
split-at (y ∷ ys) zero x e = (ys, ap (λ (z : Evaluated). z ∷ ys) (same_Some y x e))
split-at (y ∷ ys) (suc k) x e = let found = split-at ys k x e in (found.0, ap (λ (l : List Evaluated). y ∷ l) found.1)

fit-within : (first : List ℕ) (newer older : List Evaluated) → AllFit first (newer ++ older) → AllFit first older
fit-within first [] older all = all
fit-within first (y ∷ newer) older all = fit-within first newer older all.1

-- an entry of a log and those before it fit
pub fit-at : (first : List ℕ) (log : List Evaluated) (k : ℕ) (x : Evaluated) → AllFit first (reverse log) → slice_get log k ≡ Some x → AllFit first (x ∷ reverse (take k log))
fit-at first log k x all e =
    let found = split-at log k x e in
    let rest : List Evaluated = found.0 in
    let turned : reverse log ≡ reverse rest ++ x ∷ reverse (take k log) =
    ap reverse found.1 ∙ reverse-append (take k log) (x ∷ rest) ∙ ap (λ (l : List Evaluated). l ++ reverse (take k log)) (reverse-append (x ∷ []) rest) ∙ append_assoc (reverse rest) (x ∷ []) (reverse (take k log)) in
    fit-within first (reverse rest) (x ∷ reverse (take k log)) (subst (AllFit first) turned all)

-- an entry of a log fits those before it
pub fits-at : (first : List ℕ) (log : List Evaluated) (k : ℕ) (x : Evaluated) → AllFit first (reverse log) → slice_get log k ≡ Some x → Fits first (reverse (take k log)) x
fits-at first log k x all e = (fit-at first log k x all e).0

-- what fits is refused for want of memory alone
only-memory : (first : List ℕ) (older : List Evaluated) (x : Evaluated) (misfit : Misfit) → Fits first older x → IsMisfit first older x misfit → misfit ≡ Memory
only-memory first older x WrongNumber fits is = absurd (is.fails fits.numbered)
only-memory first older x UnknownTake fits is = absurd (is.fails fits.known)
only-memory first older x Torn fits is = absurd (is.fails fits.untorn)
only-memory first older x Back fits is = absurd (is.fails fits.not_back)
only-memory first older x NotOwnLatest fits is = absurd (is.fails fits.own_latest)
only-memory first older x NotAddressed fits is = absurd (is.fails fits.addressed)
only-memory first older x Misheard fits is = absurd (is.fails fits.heard)
only-memory first older x Memory fits is = refl

pub runs-entered : RunsAreEntered
runs-entered s events log k x misfit firsts is at refused =
    only-memory s.first (reverse (take k log)) x misfit (fits-at s.first log k x (run-fits s events log firsts is) at) refused

-- what is held is an entry of the log
held-among : (w : WorldValue) (n : ℕ) (p : TaskRef) (x : Evaluated) → held_at w n p ≡ Some x → Among x (reverse w.log)
held-among w n p x e = by (eqb p.resource n) (node_takes w.setting.plant n p) e where
  by : (b t : Bool) → cond b None (cond t (latest_at w n p) None) ≡ Some x → Among x (reverse w.log)
  by true t f = absurd (none-some x f)
  by false false f = absurd (none-some x f)
  by false true f =
      (subst (λ (o : Option Evaluated). MatchOption o (Unit {0}) (λ z. Among z (reverse w.log) × (same_task z.name.task p ≡ true))) f
      (last_among-entry p (has_reached w.setting n (history_of w.setting w.events)) (reverse w.log))).0

pub holders-agree : HoldersAgree
holders-agree w is n m p q x y first second same =
    one_name x.name.task (reverse w.log) x y (log-rises w.setting x.name.task (history_of w.setting w.events) (reverse w.log) is) (held-among w n p x first) (held-among w m q y second) (same_task-itself x.name.task) same
