-- Each evaluation of a run could have been made after those before it.
use Rattle.std.proofs.Common.{◌≡◌, ℕ, ◌+◌, ◌<◌, ◌≤◌, Bool, true, false, List, [], ◌∷◌, length, Option, Some, None, refl, ap, sym, ◌∙◌, subst, arith, eqb, ltb}
use Rattle.std.specs.Prelude.{is_some, slice_get, slice_index, reverse}
use Rattle.std.specs.Option.{option_map}
use Rattle.std.proofs.lemmas.Bool.{and_parts, ltb-true, eqb-true}
use Rattle.lists.proofs.Places.{index_at}
use Rattle.task_codes.specs.declared.task_ref.TaskRef.{TaskRef}
use Rattle.plant.specs.PlantValue.{code_at}
use Rattle.evaluation.specs.declared.field_input.FieldInput.{FieldInput}
use Rattle.evaluation.specs.Meaning.{Evaluated}
use Rattle.world.specs.declared.event.Event.{Event}
use Rattle.world.specs.declared.event.Event.TheVariants.{Evaluate, Deliver, Restart, Hear}
use Rattle.world.specs.History.{Setting, incarnation_of, number_of, heard_by, is_lawful, history_of}
use Rattle.world.specs.Run.{IsLog, IsNextEvaluation, next_name, state_before}
use Rattle.book.specs.Fits.{last_in}
use Rattle.world.specs.Replays.{CouldBeMade, AllCouldBeMade}
use Rattle.world.specs.BookLaws.{AreIncarnations, RunsCouldBeMade, RunsReplay}
use Rattle.world.specs.Steps.Histories.Names.{AllLawful, AllLawful-after, named}
use Rattle.world.specs.Steps.Histories.Heard.{heard_of, heard-get, heard-is, heard_of-low, index-none}
use Rattle.world.specs.Steps.Histories.Steps.{incarnation-restart}
use Rattle.world.proofs.Consistency.Fitting.{own-latest}

-- the present incarnation of a resource is a number of 32 bits
incarnation-fits : (s : Setting) → AreIncarnations s.first → (n : ℕ) (h : List Event) → AllLawful s h → incarnation_of s n h ≤ 4294967295
incarnation-fits s low n [] all = let first : slice_index s.first n ≤ 4294967295 = low n in omega arith
incarnation-fits s low n (Evaluate k t dt inputs ∷ h) all = incarnation-fits s low n h all.1
incarnation-fits s low n (Deliver k m ∷ h) all = incarnation-fits s low n h all.1
incarnation-fits s low n (Hear r o i ∷ h) all = incarnation-fits s low n h all.1
incarnation-fits s low n (Restart m ∷ h) all = by (eqb m n) refl (incarnation-fits s low n h all.1) where
  below : incarnation_of s m h < 4294967295
  below = ltb-true (incarnation_of s m h) 4294967295 (and_parts (ltb m (length s.plant.resources)) (ltb (incarnation_of s m h) 4294967295) all.0).1

  by : (b : Bool) → eqb m n ≡ b → incarnation_of s n h ≤ 4294967295 → incarnation_of s n (Restart m ∷ h) ≤ 4294967295
  by false e ih = subst (λ i. i ≤ 4294967295) (sym (rw e refl)) ih
  by true e ih =
      subst (λ r. incarnation_of s r (Restart m ∷ h) ≤ 4294967295) (eqb-true m n e)
      (let up : incarnation_of s m (Restart m ∷ h) ≡ incarnation_of s m h + 1 = incarnation-restart s m h in omega (arith, up, below))

heard-fits : (s : Setting) → AreIncarnations s.first → (n : ℕ) (h : List Event) → AllLawful s h → (m : ℕ) → slice_index (heard_by s n h) m ≤ 4294967295
heard-fits s low n h all m = by (slice_get s.first m) refl where
  by : (o : Option ℕ) → slice_get s.first m ≡ o → slice_index (heard_by s n h) m ≤ 4294967295
  by None e = let none = index-none (heard_by s n h) m (heard-get s n m h ∙ ap (option_map (λ _. heard_of s n m h)) e) in omega (arith, none)
  by (Some x) e =
      let at = index_at (heard_by s n h) m (heard_of s n m h) (heard-get s n m h ∙ ap (option_map (λ _. heard_of s n m h)) e) in
      let under = heard_of-low s n m h all in
      let fits = incarnation-fits s low m h all in
      omega (arith, at, under, fits)

next-could_be_made : (s : Setting) (h : List Event) (log : List Evaluated) (k : ℕ) (t : TaskRef) (dt : ℕ) (inputs : List FieldInput) (x : Evaluated) → AreIncarnations s.first → AllLawful s h → is_lawful s h (Evaluate k t dt inputs) ≡ true → IsLog s h log
    → IsNextEvaluation s h log k t dt inputs x → CouldBeMade s log x
next-could_be_made s h log k t dt inputs x low all lawful is next =
    record {
      code = next.code;
      found = subst (λ n. code_at s.plant n.task ≡ Some next.code) (sym at) next.found;
      number_left = subst (λ n. n.number ≤ s.max_number) (sym at) (let left : number_of t h < s.max_number = ltb-true (number_of t h) s.max_number (and_parts (is_some (code_at s.plant t)) (ltb (number_of t h) s.max_number) lawful).1 in omega arith);
      incarnation_left = subst (λ n. n.incarnation ≤ 4294967295) (sym at) (incarnation-fits s low t.resource h all);
      heard_left = λ m. subst (λ l. slice_index l m ≤ 4294967295) (sym (heard-is s h log k t dt inputs x next)) (heard-fits s low t.resource h all m);
      same_code = ap (λ y. y.code) next.asked.is;
      before = ap (λ y. y.before) next.asked.is ∙ ap (state_before s next.code t log) (own-latest s t h log all is) ∙ ap (λ n. state_before s next.code n.task log (last_in log n.task n.incarnation)) (sym at);
      meant = next.asked.meant;
      whole = next.asked.whole;
    } where
      at : x.name ≡ next_name s t h
      at = named s h log k t dt inputs x next

log-could_be_made : (s : Setting) (h : List Event) (log : List Evaluated) → AreIncarnations s.first → AllLawful s h → IsLog s h log → AllCouldBeMade s log
log-could_be_made s [] [] low all is = tt
log-could_be_made s [] (x ∷ older) low all is = absurd is
log-could_be_made s (Deliver k n ∷ h) log low all is = log-could_be_made s h log low all.1 is
log-could_be_made s (Restart n ∷ h) log low all is = log-could_be_made s h log low all.1 is
log-could_be_made s (Hear n o i ∷ h) log low all is = log-could_be_made s h log low all.1 is
log-could_be_made s (Evaluate k t dt inputs ∷ h) [] low all is = absurd is
log-could_be_made s (Evaluate k t dt inputs ∷ h) (x ∷ older) low all is =
    (next-could_be_made s h older k t dt inputs x low all.1 all.0 is.0 is.1, log-could_be_made s h older low all.1 is.0)

pub could_be_made : RunsCouldBeMade
could_be_made s events log sound firsts low is = log-could_be_made s (history_of s events) (reverse log) low (AllLawful-after s [] events tt) is

-- the entries of a run could have been made, so events that make them again do so
pub run_again : RunsReplay
run_again s events again log sound firsts low is replays = replays s.plant s.opening s.max_number sound firsts (could_be_made s events log sound firsts low is)
