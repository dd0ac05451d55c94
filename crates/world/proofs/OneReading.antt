-- A text spells one list of events.
use Rattle.std.proofs.Common.{◌≡◌, ℕ, ◌+◌, not, List, [], ◌∷◌, length, drop, refl, sym, ap, ◌∙◌}
use Rattle.std.proofs.lemmas.Option.{same_Some}
use Rattle.std.specs.List.{filter}
use Rattle.task_codes.specs.declared.task_ref.TaskRef.{TaskRef}
use Rattle.plant.specs.PlantValue.{PlantValue}
use Rattle.evaluation.specs.declared.field_input.FieldInput.{FieldInput}
use Rattle.world.specs.declared.event.Event.{Event}
use Rattle.world.specs.declared.event.Event.TheVariants.{Evaluate, Deliver, Restart, Hear}
use Rattle.world.specs.ScheduleText.{is_idle, task_in, IsTaskWord, SpellsEvaluate, SpellsDeliver, SpellsRestart, SpellsHear, SpellsEvent, SpellEvents, schedule_lines}
use Rattle.world.specs.ScheduleLaws.{OneReading}
use Rattle.world.proofs.ScheduleWords.{cut_at, task_parts}
use Rattle.world.proofs.ScheduleReading.{one_inputs, eval_word, deliver_word, restart_word, hear_word}

pub one_task : (plant : PlantValue) (word : List ℕ) (s t : TaskRef) → IsTaskWord plant word s → IsTaskWord plant word t → s ≡ t
one_task plant word s t g h =
    let i = length g.owner in
    let at = cut_at plant word s g in
    let one = task_parts plant word i s at g in
    let two = task_parts plant word i t at h in
    let owner : s.resource ≡ t.resource = one.0.resource_is ∙ sym two.0.resource_is in
    let task : s.task ≡ t.task = one.2 ∙ ap (λ r. task_in plant r (drop (i + 1) word)) owner ∙ sym two.2 in
    ap (λ r. record { resource = r; task = s.task }) owner ∙ ap (λ k. record { resource = t.resource; task = k }) task

one_evaluate : (plant : PlantValue) (s t : TaskRef) (m n : ℕ) (a b : List FieldInput) (ticket : ℕ) (words : List (List ℕ)) → SpellsEvaluate plant s m a words → SpellsEvaluate plant t n b words
    → Evaluate ticket s m a ≡ Evaluate ticket t n b
one_evaluate plant s t m n a b ticket [] g h = absurd g
one_evaluate plant s t m n a b ticket (x ∷ []) g h = absurd g
one_evaluate plant s t m n a b ticket (x ∷ y ∷ more) g h =
    ap (λ r. Evaluate ticket r m a) (one_task plant x s t g.0 h.0) ∙ ap (λ d. Evaluate ticket t d a) (same_Some m n (sym g.1 ∙ h.1)) ∙ ap (λ i. Evaluate ticket t n i) (one_inputs more a b g.2 h.2)

one_deliver : (plant : PlantValue) (m n r s : ℕ) (words : List (List ℕ)) → SpellsDeliver plant m r words → SpellsDeliver plant n s words → Deliver m r ≡ Deliver n s
one_deliver plant m n r s [] g h = absurd g
one_deliver plant m n r s (x ∷ []) g h = absurd g
one_deliver plant m n r s (x ∷ y ∷ []) g h = ap (λ k. Deliver k r) (same_Some m n (sym g.0 ∙ h.0)) ∙ ap (λ k. Deliver n k) (g.1.resource_is ∙ sym h.1.resource_is)
one_deliver plant m n r s (x ∷ y ∷ z ∷ more) g h = absurd g

one_restart : (plant : PlantValue) (r s : ℕ) (words : List (List ℕ)) → SpellsRestart plant r words → SpellsRestart plant s words → Restart r ≡ Restart s
one_restart plant r s [] g h = absurd g
one_restart plant r s (x ∷ []) g h = ap (λ k. Restart k) (g.resource_is ∙ sym h.resource_is)
one_restart plant r s (x ∷ y ∷ more) g h = absurd g

one_hear : (plant : PlantValue) (r s m n i j : ℕ) (words : List (List ℕ)) → SpellsHear plant r m i words → SpellsHear plant s n j words → Hear r m i ≡ Hear s n j
one_hear plant r s m n i j [] g h = absurd g
one_hear plant r s m n i j (x ∷ []) g h = absurd g
one_hear plant r s m n i j (x ∷ y ∷ []) g h = absurd g
one_hear plant r s m n i j (x ∷ y ∷ z ∷ []) g h =
    ap (λ k. Hear k m i) (g.0.resource_is ∙ sym h.0.resource_is) ∙ ap (λ k. Hear s k i) (g.1.resource_is ∙ sym h.1.resource_is) ∙ ap (λ k. Hear s n k) (same_Some i j (sym g.2 ∙ h.2))
one_hear plant r s m n i j (x ∷ y ∷ z ∷ w ∷ more) g h = absurd g

-- a line spells one event
pub one_event : (plant : PlantValue) (n : ℕ) (a b : Event) (words : List (List ℕ)) → SpellsEvent plant n a words → SpellsEvent plant n b words → a ≡ b
one_event plant n a b [] g h = absurd g
one_event plant n (Evaluate j s m i) (Evaluate k t d l) (w ∷ words) g h = ap (λ x. Evaluate x s m i) (g.1 ∙ sym h.1) ∙ one_evaluate plant s t m d i l k words g.2 h.2
one_event plant n (Deliver m r) (Deliver k s) (w ∷ words) g h = one_deliver plant m k r s words g.1 h.1
one_event plant n (Restart r) (Restart s) (w ∷ words) g h = one_restart plant r s words g.1 h.1
one_event plant n (Hear r m i) (Hear s k j) (w ∷ words) g h = one_hear plant r s m k i j words g.1 h.1
one_event plant n (Evaluate j s m i) (Deliver k r) (w ∷ words) g h = absurd (let e = sym (eval_word w g.0) ∙ deliver_word w h.0 in cc)
one_event plant n (Evaluate j s m i) (Restart r) (w ∷ words) g h = absurd (let e = sym (eval_word w g.0) ∙ restart_word w h.0 in cc)
one_event plant n (Deliver m r) (Evaluate j s d i) (w ∷ words) g h = absurd (let e = sym (deliver_word w g.0) ∙ eval_word w h.0 in cc)
one_event plant n (Deliver m r) (Restart s) (w ∷ words) g h = absurd (let e = sym (deliver_word w g.0) ∙ restart_word w h.0 in cc)
one_event plant n (Restart r) (Evaluate j s d i) (w ∷ words) g h = absurd (let e = sym (restart_word w g.0) ∙ eval_word w h.0 in cc)
one_event plant n (Restart r) (Deliver m s) (w ∷ words) g h = absurd (let e = sym (restart_word w g.0) ∙ deliver_word w h.0 in cc)
one_event plant n (Evaluate j s m i) (Hear r k l) (w ∷ words) g h = absurd (let e = sym (eval_word w g.0) ∙ hear_word w h.0 in cc)
one_event plant n (Deliver m r) (Hear s k l) (w ∷ words) g h = absurd (let e = sym (deliver_word w g.0) ∙ hear_word w h.0 in cc)
one_event plant n (Restart r) (Hear s k l) (w ∷ words) g h = absurd (let e = sym (restart_word w g.0) ∙ hear_word w h.0 in cc)
one_event plant n (Hear r k l) (Evaluate j s d i) (w ∷ words) g h = absurd (let e = sym (hear_word w g.0) ∙ eval_word w h.0 in cc)
one_event plant n (Hear r k l) (Deliver m s) (w ∷ words) g h = absurd (let e = sym (hear_word w g.0) ∙ deliver_word w h.0 in cc)
one_event plant n (Hear r k l) (Restart s) (w ∷ words) g h = absurd (let e = sym (hear_word w g.0) ∙ restart_word w h.0 in cc)

one_list : (plant : PlantValue) (n : ℕ) (xs ys : List Event) (lines : List (List (List ℕ))) → SpellEvents plant n xs lines → SpellEvents plant n ys lines → xs ≡ ys
one_list plant n [] [] [] g h = refl
one_list plant n [] [] (line ∷ lines) g h = absurd g
one_list plant n [] (b ∷ ys) [] g h = absurd h
one_list plant n [] (b ∷ ys) (line ∷ lines) g h = absurd g
one_list plant n (a ∷ xs) [] [] g h = absurd g
one_list plant n (a ∷ xs) [] (line ∷ lines) g h = absurd h
one_list plant n (a ∷ xs) (b ∷ ys) [] g h = absurd g
one_list plant n (a ∷ xs) (b ∷ ys) (line ∷ lines) g h = ap (λ e. e ∷ xs) (one_event plant n a b line g.0 h.0) ∙ ap (λ es. b ∷ es) (one_list plant (n + 1) xs ys lines g.1 h.1)

pub one_reading : OneReading
one_reading plant text a b g h = one_list plant 1 a b (filter (λ line. not (is_idle line)) (schedule_lines text)) g h
