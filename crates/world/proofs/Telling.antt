-- What one event tells.
use Rattle.std.proofs.Common.{◌≡◌, ◌≢◌, inl, inr, ℕ, ◌+◌, ◌-◌, true, false, List, [], ◌∷◌, ◌++◌, length, Some, slice_get, refl, sym, ap, ◌∙◌, subst, arith, length-append, Result, Ok, Err, OnOk}
use Rattle.std.specs.Prelude.{reverse, if◌then◌else◌}
use Rattle.std.proofs.lemmas.List.{reverse-append}
use Rattle.lists.proofs.Places.{push_here}
use Rattle.evaluation.specs.Meaning.{Evaluated}
use Rattle.world.specs.declared.event.Event.{Event}
use Rattle.world.specs.declared.event.Event.TheVariants.{Evaluate, Deliver, Restart, Hear}
use Rattle.world.specs.declared.done.Done.{Done}
use Rattle.world.specs.declared.done.Done.TheVariants.{Evaluated as MadeOne, Delivered, Restarted, Heard}
use Rattle.world.specs.declared.world_fault.WorldFault.{WorldFault}
use Rattle.world.specs.declared.world_fault.WorldFault.TheVariants.{Memory}
use Rattle.world.specs.History.{Setting, history_of, after_events, is_lawful, incarnation_of}
use Rattle.world.specs.Run.{IsRun, IsLog}
use Rattle.world.specs.World.{WorldValue}
use Rattle.world.specs.Step.{history_at, IsDone, IsStep, IsCause}
use Rattle.world.specs.RunLines.{evaluation_line}
use Rattle.world.specs.RunText.{TellsEvent, refused_line, delivery_line, restart_line, hear_line}
use Rattle.world.specs.Steps.Telling.{made_line, done_line, IsTold}

pub length-one_more : {X : Type 0} (xs : List X) (y : X) → length (xs ++ y ∷ []) ≡ length xs + 1
length-one_more xs y = length-append xs (y ∷ [])

pub last_of : {X : Type 0} (xs : List X) (y : X) → slice_get (xs ++ y ∷ []) (length (xs ++ y ∷ []) - 1) ≡ Some y
last_of xs y = let n : length (xs ++ y ∷ []) - 1 ≡ length xs = omega (arith, length-one_more xs y) in ap (slice_get (xs ++ y ∷ [])) n ∙ push_here xs y

after_one : (s : Setting) (h es : List Event) (e : Event) → after_events s h (es ++ e ∷ []) ≡ after_events s (after_events s h es) (e ∷ [])
after_one s h [] e = refl
after_one s h (x ∷ es) e = after_one s (if is_lawful s h x then x ∷ h else h) es e

-- the history after one more event
pub one_more : (s : Setting) (es : List Event) (e : Event) → history_of s (es ++ e ∷ []) ≡ after_events s (history_of s es) (e ∷ [])
one_more s es e = after_one s [] es e

-- and after a lawful one
lawful_more : (w : WorldValue) (e : Event) → is_lawful w.setting (history_at w) e ≡ true → history_of w.setting (w.events ++ e ∷ []) ≡ e ∷ history_at w
lawful_more w e lawful = one_more w.setting w.events e ∙ ap (λ b. if b then e ∷ history_at w else history_at w) lawful

-- what a step does to a world
step_done : (old new : WorldValue) (e : Event) (d : Done) → IsStep old new e d → (log : List Evaluated) × IsDone old new e log
step_done old new (Evaluate ticket task dt inputs) (MadeOne k) h = (_, h.done)
step_done old new (Deliver k n) (Delivered a) h = (_, h.0)
step_done old new (Restart n) (Restarted i) h = (_, h.0)
step_done old new (Evaluate ticket task dt inputs) (Delivered a) h = absurd h
step_done old new (Evaluate ticket task dt inputs) (Restarted i) h = absurd h
step_done old new (Deliver k n) (MadeOne m) h = absurd h
step_done old new (Deliver k n) (Restarted i) h = absurd h
step_done old new (Restart n) (MadeOne m) h = absurd h
step_done old new (Restart n) (Delivered a) h = absurd h
step_done old new (Hear n m i) (Heard newer) h = (_, h.0)
step_done old new (Evaluate ticket task dt inputs) (Heard newer) h = absurd h
step_done old new (Deliver k n) (Heard newer) h = absurd h
step_done old new (Restart n) (Heard newer) h = absurd h
step_done old new (Hear n m i) (MadeOne k) h = absurd h
step_done old new (Hear n m i) (Delivered a) h = absurd h
step_done old new (Hear n m i) (Restarted j) h = absurd h

-- the run before an event
run_before : (old new : WorldValue) (e : Event) (d : Done) → IsStep old new e d → IsRun new.setting new.events new.log → IsRun old.setting old.events old.log
run_before old new (Evaluate ticket task dt inputs) (MadeOne k) h run =
    let e = Evaluate ticket task dt inputs in
    let whole : IsRun old.setting (old.events ++ e ∷ []) (old.log ++ h.made ∷ []) = subst (λ (w : WorldValue). IsRun w.setting w.events w.log) h.done.is run in
    let one : IsLog old.setting (e ∷ history_of old.setting old.events) (reverse (old.log ++ h.made ∷ [])) =
    subst (λ es. IsLog old.setting es (reverse (old.log ++ h.made ∷ []))) (lawful_more old e h.done.lawful) whole in
    let two : IsLog old.setting (e ∷ history_of old.setting old.events) (h.made ∷ reverse old.log) = subst (IsLog old.setting (e ∷ history_of old.setting old.events)) (reverse-append old.log (h.made ∷ [])) one in
    two.0
run_before old new (Evaluate ticket task dt inputs) (Delivered a) h run = absurd h
run_before old new (Evaluate ticket task dt inputs) (Restarted i) h run = absurd h
run_before old new (Deliver k n) (Delivered a) h run =
    let e = Deliver k n in
    let whole : IsRun old.setting (old.events ++ e ∷ []) old.log = subst (λ (w : WorldValue). IsRun w.setting w.events w.log) h.0.is run in
    subst (λ es. IsLog old.setting es (reverse old.log)) (lawful_more old e h.0.lawful) whole
run_before old new (Deliver k n) (MadeOne m) h run = absurd h
run_before old new (Deliver k n) (Restarted i) h run = absurd h
run_before old new (Restart n) (Restarted i) h run =
    let e = Restart n in
    let whole : IsRun old.setting (old.events ++ e ∷ []) old.log = subst (λ (w : WorldValue). IsRun w.setting w.events w.log) h.0.is run in
    subst (λ es. IsLog old.setting es (reverse old.log)) (lawful_more old e h.0.lawful) whole
run_before old new (Restart n) (MadeOne m) h run = absurd h
run_before old new (Restart n) (Delivered a) h run = absurd h
run_before old new (Hear n m i) (Heard newer) h run =
    let e = Hear n m i in
    let whole : IsRun old.setting (old.events ++ e ∷ []) old.log = subst (λ (w : WorldValue). IsRun w.setting w.events w.log) h.0.is run in
    subst (λ es. IsLog old.setting es (reverse old.log)) (lawful_more old e h.0.lawful) whole
run_before old new (Evaluate ticket task dt inputs) (Heard newer) h run = absurd h
run_before old new (Deliver k n) (Heard newer) h run = absurd h
run_before old new (Restart n) (Heard newer) h run = absurd h
run_before old new (Hear n m i) (MadeOne k) h run = absurd h
run_before old new (Hear n m i) (Delivered a) h run = absurd h
run_before old new (Hear n m i) (Restarted j) h run = absurd h

-- the line of an event that was done
done_tells : (old new : WorldValue) (n : ℕ) (e : Event) (d : Done) (line : List ℕ) → IsStep old new e d → IsRun new.setting new.events new.log → line ≡ done_line new.setting.plant new.log e d → TellsEvent old n e line
done_tells old new n (Evaluate ticket task dt inputs) (MadeOne k) line h run is =
    let e = Evaluate ticket task dt inputs in
    let whole : IsRun old.setting (old.events ++ e ∷ []) (old.log ++ h.made ∷ []) = subst (λ (w : WorldValue). IsRun w.setting w.events w.log) h.done.is run in
    let at : k ≡ length old.log + 1 = h.place ∙ ap (λ (w : WorldValue). length w.log) h.done.is ∙ length-one_more old.log h.made in
    let one : line ≡ made_line old.setting.plant k (slice_get (old.log ++ h.made ∷ []) (length (old.log ++ h.made ∷ []) - 1)) =
    subst (λ (w : WorldValue). line ≡ made_line w.setting.plant k (slice_get w.log (length w.log - 1))) h.done.is is in
    let two : line ≡ evaluation_line old.setting.plant k h.made = one ∙ ap (made_line old.setting.plant k) (last_of old.log h.made) in
    inl (h.done.lawful, (h.made, whole, two ∙ ap (λ m. evaluation_line old.setting.plant m h.made) at))
done_tells old new n (Evaluate ticket task dt inputs) (Delivered a) line h run is = absurd h
done_tells old new n (Evaluate ticket task dt inputs) (Restarted i) line h run is = absurd h
done_tells old new n (Deliver k r) (Delivered a) line h run is =
    inl (h.0.lawful, (a, h.1, is ∙ ap (λ (w : WorldValue). delivery_line w.setting.plant k r a) h.0.is))
done_tells old new n (Deliver k r) (MadeOne m) line h run is = absurd h
done_tells old new n (Deliver k r) (Restarted i) line h run is = absurd h
done_tells old new n (Restart r) (Restarted i) line h run is =
    inl (
      h.0.lawful,
      is ∙ ap (λ (w : WorldValue). restart_line w.setting.plant r i) h.0.is
          ∙ ap (restart_line old.setting.plant r) (h.1 ∙ ap (λ (w : WorldValue). incarnation_of w.setting r (history_of w.setting w.events)) h.0.is),
    )
done_tells old new n (Restart r) (MadeOne m) line h run is = absurd h
done_tells old new n (Restart r) (Delivered a) line h run is = absurd h
done_tells old new n (Hear r m i) (Heard newer) line h run is =
    inl (h.0.lawful, is ∙ ap (λ (w : WorldValue). hear_line w.setting.plant r m i newer) h.0.is ∙ ap (hear_line old.setting.plant r m i) h.1)
done_tells old new n (Evaluate ticket task dt inputs) (Heard newer) line h run is = absurd h
done_tells old new n (Deliver k r) (Heard newer) line h run is = absurd h
done_tells old new n (Restart r) (Heard newer) line h run is = absurd h
done_tells old new n (Hear r m i) (MadeOne k) line h run is = absurd h
done_tells old new n (Hear r m i) (Delivered a) line h run is = absurd h
done_tells old new n (Hear r m i) (Restarted j) line h run is = absurd h

pub told_done : (old new : WorldValue) (n : ℕ) (e : Event) (d : Done) (line : List ℕ) → IsStep old new e d → IsRun new.setting new.events new.log → line ≡ done_line new.setting.plant new.log e d → IsTold old new n e line
told_done old new n e d line h run is =
    let done = (step_done old new e d h).1 in
    record { setting = ap (λ w. w.setting) done.is; history = ap history_at done.is ∙ one_more old.setting old.events e; run = run_before old new e d h run; tells = done_tells old new n e d line h run is }

pub told_refused : (old new : WorldValue) (n : ℕ) (e : Event) (f : WorldFault) (line : List ℕ) → new ≡ old → (f ≢ Memory) → IsCause old e f → is_lawful old.setting (history_at old) e ≡ false → IsRun new.setting new.events new.log → line ≡ refused_line n f → IsTold old new n e line
told_refused old new n e f line same other cause refused run is =
    record {
      setting = ap (λ w. w.setting) same;
      history = ap history_at same ∙ ap (λ b. if b then e ∷ history_at old else history_at old) (sym refused);
      run = subst (λ (w : WorldValue). IsRun w.setting w.events w.log) same run;
      tells = inr (refused, (f, cause, other, is));
    }

pub on_ok_so : {T E P Q : Type 0} (r : Result T E) → OnOk r P → (P → Q) → OnOk r Q
on_ok_so (Ok x) p f = f p
on_ok_so (Err e) p f = tt
