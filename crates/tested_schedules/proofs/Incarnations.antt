-- What events do to the incarnations of resources.
use Rattle.std.proofs.Common.{◌≡◌, ◌≢◌, inl, inr, ℕ, ◌+◌, ◌<◌, false, List, [], ◌∷◌, ◌⊎◌, length, refl, slice_set, sym, ap, ◌∙◌, subst, arith}
use Rattle.std.specs.Prelude.{if◌then◌else◌, slice_index}
use Rattle.std.proofs.lemmas.Bool.{cases_eq, ne_eqb}
use Rattle.std.proofs.lemmas.List.{get_or-set_other, get_or-set_same, length-set}
use Rattle.std.specs.List.{filter}
use Rattle.evaluation.specs.Meaning.{Evaluated}
use Rattle.world.specs.declared.event.Event.{Event}
use Rattle.world.specs.declared.event.Event.TheVariants.{Evaluate, Deliver, Restart, Hear}
use Rattle.world.specs.declared.done.Done.{Done}
use Rattle.world.specs.declared.done.Done.TheVariants.{Evaluated as MadeOne, Delivered, Restarted, Heard}
use Rattle.world.specs.History.{Setting, incarnation_of, is_restart_of}
use Rattle.world.specs.Step.{IsDone, IsStep, history_at}
use Rattle.world.specs.World.{WorldValue}
use Rattle.world.proofs.Telling.{one_more}
use Rattle.tested_schedules.specs.Steps.Testing.{AreIncarnations}

-- an event that was done is the newest of the history
newest_now : (old new : WorldValue) (e : Event) (log : List Evaluated) → IsDone old new e log → history_at new ≡ e ∷ history_at old
newest_now old new e log d = ap history_at d.is ∙ one_more old.setting old.events e ∙ ap (λ b. if b then e ∷ history_at old else history_at old) d.lawful

-- another event than a restart of a resource leaves its incarnation
same_incarnation : (old new : WorldValue) (e : Event) (log : List Evaluated) (n : ℕ) → IsDone old new e log → is_restart_of n e ≡ false → incarnation_of old.setting n (history_at old) ≡ incarnation_of new.setting n (history_at new)
same_incarnation old new e log n d other =
    let more : filter (is_restart_of n) (e ∷ history_at old) ≡ filter (is_restart_of n) (history_at old) =
    ap (λ b. if b then e ∷ filter (is_restart_of n) (history_at old) else filter (is_restart_of n) (history_at old)) other in
    ap (λ (l : List Event). slice_index old.setting.first n + length l) (sym more) ∙ ap (λ h. incarnation_of old.setting n h) (sym (newest_now old new e log d))
    ∙ ap (λ (s : Setting). incarnation_of s n (history_at new)) (sym (ap (λ (w : WorldValue). w.setting) d.is))

-- the resources are as many
as_many : (old new : WorldValue) (e : Event) (log : List Evaluated) (incarnations : List ℕ) → IsDone old new e log → length incarnations ≡ length old.setting.plant.resources → length incarnations ≡ length new.setting.plant.resources
as_many old new e log incarnations d many = many ∙ ap (λ (w : WorldValue). length w.setting.plant.resources) (sym d.is)

-- what was done leaves incarnations that it doesn't raise
kept : (old new : WorldValue) (e : Event) (log : List Evaluated) (incarnations : List ℕ) → IsDone old new e log → ((n : ℕ) → is_restart_of n e ≡ false) → AreIncarnations old incarnations → AreIncarnations new incarnations
kept old new e log incarnations d other known =
    record { many = as_many old new e log incarnations d known.many; each = λ n lt. known.each n lt ∙ same_incarnation old new e log n d (other n) }

-- no restart was done
pub kept_other : (old new : WorldValue) (incarnations : List ℕ) (e : Event) (d : Done) → ((n : ℕ) → e ≢ Restart n) → IsStep old new e d → AreIncarnations old incarnations → AreIncarnations new incarnations
kept_other old new incarnations (Evaluate ticket task dt inputs) (MadeOne k) none h known = kept old new (Evaluate ticket task dt inputs) _ incarnations h.done (λ n. refl) known
kept_other old new incarnations (Deliver k r) (Delivered a) none h known = kept old new (Deliver k r) _ incarnations h.0 (λ n. refl) known
kept_other old new incarnations (Hear r m i) (Heard newer) none h known = kept old new (Hear r m i) _ incarnations h.0 (λ n. refl) known
kept_other old new incarnations (Restart r) d none h known = absurd (none r refl)
kept_other old new incarnations (Evaluate ticket task dt inputs) (Delivered a) none h known = absurd h
kept_other old new incarnations (Evaluate ticket task dt inputs) (Restarted i) none h known = absurd h
kept_other old new incarnations (Evaluate ticket task dt inputs) (Heard newer) none h known = absurd h
kept_other old new incarnations (Deliver k r) (MadeOne m) none h known = absurd h
kept_other old new incarnations (Deliver k r) (Restarted i) none h known = absurd h
kept_other old new incarnations (Deliver k r) (Heard newer) none h known = absurd h
kept_other old new incarnations (Hear r m i) (MadeOne k) none h known = absurd h
kept_other old new incarnations (Hear r m i) (Delivered a) none h known = absurd h
kept_other old new incarnations (Hear r m i) (Restarted j) none h known = absurd h

-- a restart was done
pub raised : (old new : WorldValue) (incarnations : List ℕ) (r i : ℕ) → IsStep old new (Restart r) (Restarted i) → AreIncarnations old incarnations → AreIncarnations new (slice_set incarnations r i)
raised old new incarnations r i h known = record {
  many = length-set incarnations r i ∙ as_many old new (Restart r) _ incarnations h.0 known.many;
  each = λ n lt. by n (subst (λ k. n < k) (length-set incarnations r i) lt) (cases_eq n r);
}
  where
    by : (n : ℕ) → n < length incarnations → (n ≡ r) ⊎ (n ≢ r) → slice_index (slice_set incarnations r i) n ≡ incarnation_of new.setting n (history_at new)
    by n lt (inl same) = subst (λ k. slice_index (slice_set incarnations r i) k ≡ incarnation_of new.setting k (history_at new)) (sym same) (get_or-set_same incarnations r i 0 (subst (λ k. k < length incarnations) same lt) ∙ h.1)
    by n lt (inr other) =
        get_or-set_other incarnations r n i 0 other ∙ known.each n lt ∙ same_incarnation old new (Restart r) _ n h.0 (ne_eqb r n (λ e. other (sym e)))

-- before the first event
pub first_known : (s : Setting) (w : WorldValue) → w ≡ record { setting = s; events = []; log = [] } → length s.first ≡ length s.plant.resources → AreIncarnations w s.first
first_known s w is many = subst (λ (x : WorldValue). AreIncarnations x s.first) (sym is) (record { many = many; each = λ n lt. omega arith })
