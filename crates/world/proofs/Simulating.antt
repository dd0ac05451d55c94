-- A schedule is done line by line.
use Rattle.std.proofs.Common.{◌≡◌, ◌≢◌, ◌⊎◌, inl, inr, ℕ, zero, suc, ◌+◌, ◌<◌, ◌≤◌, Bool, true, false, cond, not, List, [], ◌∷◌, ◌++◌, length, take, Option, Some, slice_get, refl, sym, ap, ◌∙◌, subst, arith, ltb}
use Rattle.std.specs.Prelude.{reverse, slice_index}
use Rattle.std.specs.List.{filter, flat_map}
use Rattle.std.specs.Io.KnownBytes.{Appends}
use Rattle.std.proofs.KnownBytes.{Appends-trans, Appends-nil}
use Rattle.std.proofs.Math.Seq.{take-append_seam}
use Rattle.std.proofs.lemmas.Bool.{cases_eq}
use Rattle.std.proofs.lemmas.List.{append-nil, take-append-le}
use Rattle.std.proofs.lemmas.List.Concat.{flat_map-append}
use Rattle.std.proofs.lemmas.List.Elements.{filter-append}
use Rattle.std.proofs.lemmas.Option.{slice_get_within, same_Some}
use Rattle.lists.proofs.Places.{push_here}
use Rattle.text_lines.proofs.Sending.{appends_kept}
use Rattle.task_codes.specs.declared.task_ref.TaskRef.{TaskRef}
use Rattle.plant.specs.PlantValue.{PlantValue}
use Rattle.evaluation.specs.Meaning.{Evaluated}
use Rattle.evaluation.specs.Heard.{is_addressed}
use Rattle.exchange_core.specs.declared.accepted.Accepted.{Accepted}
use Rattle.exchange_core.specs.declared.accepted.Accepted.TheVariants.{Taken, Old, Unused, Stray}
use Rattle.world.specs.declared.event.Event.{Event}
use Rattle.world.specs.declared.event.Event.TheVariants.{Evaluate, Deliver, Restart, Hear}
use Rattle.world.specs.declared.world_fault.WorldFault.{WorldFault}
use Rattle.world.specs.declared.world_fault.WorldFault.TheVariants.{NoSuchResource, NoSuchTask, NoSuchMessage, NumbersSpent, IncarnationsSpent, Memory, NeverHeld}
use Rattle.world.specs.History.{Setting, history_of, after_events, is_lawful, incarnation_of, heard_by, number_of, made_count}
use Rattle.world.specs.Run.{IsLog, latest}
use Rattle.world.specs.World.{WorldValue}
use Rattle.world.specs.Step.{history_at, IsCause, Answers}
use Rattle.world.specs.RunText.{IsDoneLine, TellsEvent, IsLineAfter, IsRunText, restart_line, hear_line}
use Rattle.world.specs.ScheduleText.{is_idle, SpellsEvent, SpellEvents, Spell}
use Rattle.world.specs.Steps.Telling.{IsTold}
use Rattle.world.specs.Steps.Simulating.{HasTold, HasRested, HasWritten, HasDone}
use Rattle.world.proofs.Telling.{length-one_more, one_more}

-- one more event after lists of one history
pub history_with : (s : Setting) (es fs : List Event) (e : Event) → history_of s es ≡ history_of s fs → history_of s (es ++ e ∷ []) ≡ history_of s (fs ++ e ∷ [])
history_with s es fs e same = one_more s es e ∙ ap (λ h. after_events s h (e ∷ [])) same ∙ sym (one_more s fs e)

answers_moved : (w : WorldValue) (events : List Event) (k n : ℕ) (x : Evaluated) (p : TaskRef) (a : Accepted) → history_at w ≡ history_of w.setting events → Answers w k n x p a → Answers (record w { events = events }) k n x p a
answers_moved w events k n x p Unused same h = h
answers_moved w events k n x p Stray same h = (h.0, h.1, subst (λ (l : List Event). is_addressed x n (incarnation_of w.setting n l) ≡ false) same h.2)
answers_moved w events k n x p Taken same h = (
  h.0,
  h.1,
  subst (λ (l : List Event). is_addressed x n (incarnation_of w.setting n l) ≡ true) same h.2,
  subst (λ (l : List Event). latest w.setting n (Deliver k n ∷ l) p (reverse w.log) ≡ latest w.setting n l p (reverse w.log) → ⊥) same h.3,
)
answers_moved w events k n x p Old same h = (
  h.0,
  h.1,
  subst (λ (l : List Event). is_addressed x n (incarnation_of w.setting n l) ≡ true) same h.2,
  subst (λ (l : List Event). latest w.setting n (Deliver k n ∷ l) p (reverse w.log) ≡ latest w.setting n l p (reverse w.log)) same h.3,
)

-- what an event does hangs on the history alone
done_moved : (w : WorldValue) (events : List Event) (e : Event) (line : List ℕ) → history_at w ≡ history_of w.setting events → IsDoneLine w e line → IsDoneLine (record w { events = events }) e line
done_moved w events (Evaluate ticket task dt inputs) line same h =
    (h.0, subst (λ l. IsLog w.setting l (reverse (w.log ++ h.0 ∷ []))) (history_with w.setting w.events events (Evaluate ticket task dt inputs) same) h.1, h.2)
done_moved w events (Deliver k n) line same h = (h.0, (h.1.0, h.1.1, answers_moved w events k n h.1.0 h.1.0.name.task h.0 same h.1.2), h.2)
done_moved w events (Restart n) line same h = h ∙ ap (λ (l : List Event). restart_line w.setting.plant n (incarnation_of w.setting n l)) (history_with w.setting w.events events (Restart n) same)
done_moved w events (Hear n m i) line same h = h ∙ ap (λ (l : List Event). hear_line w.setting.plant n m i (ltb (slice_index (heard_by w.setting n l) m) i)) same

cause_moved : (w : WorldValue) (events : List Event) (e : Event) (f : WorldFault) → history_at w ≡ history_of w.setting events → IsCause w e f → IsCause (record w { events = events }) e f
cause_moved w events (Evaluate ticket task dt inputs) NoSuchResource same h = h
cause_moved w events (Evaluate ticket task dt inputs) NoSuchTask same h = h
cause_moved w events (Evaluate ticket task dt inputs) NumbersSpent same h = (h.0, subst (λ (l : List Event). w.setting.max_number ≤ number_of task l) same h.1)
cause_moved w events (Evaluate ticket task dt inputs) NoSuchMessage same h = h
cause_moved w events (Evaluate ticket task dt inputs) IncarnationsSpent same h = h
cause_moved w events (Evaluate ticket task dt inputs) NeverHeld same h = h
cause_moved w events (Evaluate ticket task dt inputs) Memory same h = subst (λ (l : List Event). is_lawful w.setting l (Evaluate ticket task dt inputs) ≡ true) same h
cause_moved w events (Deliver k n) NoSuchResource same h = h
cause_moved w events (Deliver k n) NoSuchMessage same h = (h.0, subst (λ (l : List Event). (k ≡ 0) ⊎ (made_count l < k)) same h.1)
cause_moved w events (Deliver k n) NoSuchTask same h = h
cause_moved w events (Deliver k n) NumbersSpent same h = h
cause_moved w events (Deliver k n) IncarnationsSpent same h = h
cause_moved w events (Deliver k n) NeverHeld same h = h
cause_moved w events (Deliver k n) Memory same h = subst (λ (l : List Event). is_lawful w.setting l (Deliver k n) ≡ true) same h
cause_moved w events (Restart n) NoSuchResource same h = h
cause_moved w events (Restart n) IncarnationsSpent same h = (h.0, subst (λ (l : List Event). 4294967295 ≤ incarnation_of w.setting n l) same h.1)
cause_moved w events (Restart n) NoSuchTask same h = h
cause_moved w events (Restart n) NoSuchMessage same h = h
cause_moved w events (Restart n) NumbersSpent same h = h
cause_moved w events (Restart n) NeverHeld same h = h
cause_moved w events (Restart n) Memory same h = subst (λ (l : List Event). is_lawful w.setting l (Restart n) ≡ true) same h
cause_moved w events (Hear n m i) NoSuchResource same h = h
cause_moved w events (Hear n m i) NeverHeld same h =
    (h.0, h.1, subst (λ (l : List Event). (i < slice_index w.setting.first m) ⊎ (incarnation_of w.setting m l < i)) same h.2)
cause_moved w events (Hear n m i) NoSuchTask same h = h
cause_moved w events (Hear n m i) NoSuchMessage same h = h
cause_moved w events (Hear n m i) NumbersSpent same h = h
cause_moved w events (Hear n m i) IncarnationsSpent same h = h
cause_moved w events (Hear n m i) Memory same h = subst (λ (l : List Event). is_lawful w.setting l (Hear n m i) ≡ true) same h

tells_moved : (w : WorldValue) (events : List Event) (n : ℕ) (e : Event) (line : List ℕ) → history_at w ≡ history_of w.setting events → TellsEvent w n e line → TellsEvent (record w { events = events }) n e line
tells_moved w events n e line same (inl h) = inl (subst (λ (l : List Event). is_lawful w.setting l e ≡ true) same h.0, done_moved w events e line same h.1)
tells_moved w events n e line same (inr h) =
    inr (subst (λ (l : List Event). is_lawful w.setting l e ≡ false) same h.0, (h.1.0, cause_moved w events e h.1.0 same h.1.1, h.1.2, h.1.3))

-- what was told is the line after the events
line_after : (s : Setting) (events : List Event) (old new : WorldValue) (n : ℕ) (e : Event) (line : List ℕ) → old.setting ≡ s → history_of s old.events ≡ history_of s events → n ≡ length events + 1 → IsTold old new n e line
    → IsLineAfter s events e line
line_after s events old new n e line setting same number t =
    let run : IsLog s (history_of s old.events) (reverse old.log) = subst (λ (x : Setting). IsLog x (history_of x old.events) (reverse old.log)) setting t.run in
    let moved : TellsEvent (record old { events = events }) n e line = tells_moved old events n e line (subst (λ (x : Setting). history_of x old.events ≡ history_of x events) (sym setting) same) t.tells in
    let tells : TellsEvent (record { setting = s; events = events; log = old.log }) n e line = subst (λ (x : Setting). TellsEvent (record { setting = x; events = events; log = old.log }) n e line) setting moved in
    record {
      log = old.log;
      run = subst (λ (l : List Event). IsLog s l (reverse old.log)) same run;
      tells = subst (λ k. TellsEvent (record { setting = s; events = events; log = old.log }) k e line) number tells;
    }

front : {X : Type 0} (xs ys : List X) (k : ℕ) → k < length xs → slice_get (xs ++ ys) k ≡ slice_get xs k
front [] ys k lt = absurd (omega (arith, lt))
front (x ∷ xs) ys zero lt = refl
front (x ∷ xs) ys (suc k) lt = front xs ys k (omega (arith, lt))

-- the text of one more event
pub text_more : (s : Setting) (events : List Event) (text : List ℕ) (e : Event) (line : List ℕ) → IsRunText s events text → IsLineAfter s events e line → IsRunText s (events ++ e ∷ []) (text ++ line)
text_more s events text e line r last = record {
  lines = r.lines ++ line ∷ [];
  many = length-one_more r.lines line ∙ ap (λ n. n + 1) r.many ∙ sym (length-one_more events e);
  each = λ k x l at told. by k x l (cases_eq k (length events)) at told;
  text_is = ap (λ t. t ++ line) r.text_is ∙ ap (λ t. flat_map (λ l. l) r.lines ++ t) (sym (append-nil line)) ∙ sym (flat_map-append (λ l. l) r.lines (line ∷ []));
}
  where
    by : (k : ℕ) (x : Event) (l : List ℕ) → (k ≡ length events) ⊎ (k ≢ length events) → slice_get (events ++ e ∷ []) k ≡ Some x → slice_get (r.lines ++ line ∷ []) k ≡ Some l → IsLineAfter s (take k (events ++ e ∷ [])) x l
    by k x l (inl here) at told =
        let first : take k (events ++ e ∷ []) ≡ events = ap (λ n. take n (events ++ e ∷ [])) here ∙ take-append_seam events (e ∷ []) in
        let event : e ≡ x = same_Some e x (sym (push_here events e) ∙ ap (slice_get (events ++ e ∷ [])) (sym here) ∙ at) in
        let is : line ≡ l = same_Some line l (sym (push_here r.lines line) ∙ ap (slice_get (r.lines ++ line ∷ [])) (r.many ∙ sym here) ∙ told) in
        subst (λ (es : List Event). IsLineAfter s es x l) (sym first) (subst (λ (y : Event). IsLineAfter s events y l) event (subst (λ m. IsLineAfter s events e m) is last))
    by k x l (inr other) at told =
        let within = slice_get_within (events ++ e ∷ []) k x at in
        let lt : k < length events = omega (arith, within, length-one_more events e, other) in
        let first : take k (events ++ e ∷ []) ≡ take k events = take-append-le k events (e ∷ []) (omega (arith, lt)) in
        subst (λ (es : List Event). IsLineAfter s es x l) (sym first)
        (r.each k x l (sym (front events (e ∷ []) k lt) ∙ at) (sym (front r.lines (line ∷ []) k (omega (arith, lt, r.many))) ∙ told))

spells_more : (plant : PlantValue) (n : ℕ) (events : List Event) (lines : List (List (List ℕ))) (e : Event) (line : List (List ℕ)) → SpellEvents plant n events lines → SpellsEvent plant (n + length events) e line
    → SpellEvents plant n (events ++ e ∷ []) (lines ++ line ∷ [])
spells_more plant n [] [] e line h g = (subst (λ k. SpellsEvent plant k e line) (omega arith) g, tt)
spells_more plant n [] (l ∷ lines) e line h g = absurd h
spells_more plant n (x ∷ events) [] e line h g = absurd h
spells_more plant n (x ∷ events) (l ∷ lines) e line h g = (h.0, spells_more plant (n + 1) events lines e line h.1 (subst (λ k. SpellsEvent plant k e line) (omega arith) g))

abbrev is_busy : List (List ℕ) → Bool
is_busy line = not (is_idle line)

-- one more line that is blank or a comment
pub spell_rest : (plant : PlantValue) (events : List Event) (lines : List (List (List ℕ))) (line : List (List ℕ)) → is_idle line ≡ true → Spell plant events lines → Spell plant events (lines ++ line ∷ [])
spell_rest plant events lines line idle h =
    let one : filter is_busy (line ∷ []) ≡ [] = ap (λ b. cond (not b) (line ∷ []) []) idle in
    subst (SpellEvents plant 1 events) (sym (filter-append is_busy lines (line ∷ []) ∙ ap (λ l. filter is_busy lines ++ l) one ∙ append-nil (filter is_busy lines))) h

-- one more line that spells the next event
pub spell_more : (plant : PlantValue) (events : List Event) (lines : List (List (List ℕ))) (e : Event) (line : List (List ℕ)) → is_idle line ≡ false → SpellsEvent plant (length events + 1) e line → Spell plant events lines
    → Spell plant (events ++ e ∷ []) (lines ++ line ∷ [])
spell_more plant events lines e line busy g h =
    let one : filter is_busy (line ∷ []) ≡ line ∷ [] = ap (λ b. cond (not b) (line ∷ []) []) busy in
    subst (SpellEvents plant 1 (events ++ e ∷ [])) (sym (filter-append is_busy lines (line ∷ []) ∙ ap (λ l. filter is_busy lines ++ l) one))
    (spells_more plant 1 events (filter is_busy lines) e line h (subst (λ k. SpellsEvent plant k e line) (omega arith) g))

-- where a schedule stands after some of its lines
pub record Stands (s : Setting) (lines : List (List (List ℕ))) (w : WorldValue) (count : ℕ) (old now : Option (List ℕ)) : Type 0 where
  pub events : List Event
  pub setting : w.setting ≡ s
  pub history : history_of s w.events ≡ history_of s events
  pub number : count ≡ length events
  pub few : count ≤ length lines
  pub spelled : Spell s.plant events lines
  pub text : List ℕ
  pub told : IsRunText s events text
  pub written : Appends old now text

-- before the first line
pub stands_first : (s : Setting) (w : WorldValue) (old : Option (List ℕ)) → w ≡ record { setting = s; events = []; log = [] } → Stands s [] w 0 old old
stands_first s w old is = record {
  events = [];
  setting = ap (λ (x : WorldValue). x.setting) is;
  history = ap (λ (x : WorldValue). history_of s x.events) is;
  number = refl;
  few = omega arith;
  spelled = tt;
  text = [];
  told = record { lines = []; many = refl; each = λ k e line at told. absurd cc; text_is = refl };
  written = Appends-nil old;
}

rested : (s : Setting) (lines : List (List (List ℕ))) (w new : WorldValue) (n m : ℕ) (line : List (List ℕ)) (old now next : Option (List ℕ)) → Stands s lines w n old now → HasRested w new n m line now next
    → Stands s (lines ++ line ∷ []) new m old next
rested s lines w new n m line old now next a r = record {
  events = a.events;
  setting = ap (λ (x : WorldValue). x.setting) r.world ∙ a.setting;
  history = ap (λ (x : WorldValue). history_of s x.events) r.world ∙ a.history;
  number = r.number ∙ a.number;
  few = omega (arith, r.number, a.few, length-one_more lines line);
  spelled = spell_rest s.plant a.events lines line r.idle a.spelled;
  text = a.text;
  told = a.told;
  written = appends_kept old now next a.text a.written r.kept;
}

-- the line of the next event
pub next_line : (s : Setting) (lines : List (List (List ℕ))) (w new : WorldValue) (n : ℕ) (words : List (List ℕ)) (line : List ℕ) (old now : Option (List ℕ)) (a : Stands s lines w n old now) (t : HasTold w new (n + 1) words line)
    → Spell s.plant (a.events ++ t.event ∷ []) (lines ++ words ∷ []) × IsRunText s (a.events ++ t.event ∷ []) (a.text ++ line)
next_line s lines w new n words line old now a t = (
  spell_more s.plant a.events lines t.event words t.busy (subst (λ (p : PlantValue). SpellsEvent p (length a.events + 1) t.event words) (ap (λ (x : Setting). x.plant) a.setting) (subst (λ k. SpellsEvent w.setting.plant (k + 1) t.event words) a.number t.spelled)) a.spelled,
  text_more s a.events a.text t.event line a.told (line_after s a.events w new (n + 1) t.event line a.setting a.history (ap (λ k. k + 1) a.number) t.told),
)

written : (s : Setting) (lines : List (List (List ℕ))) (w new : WorldValue) (n m : ℕ) (words : List (List ℕ)) (old now next : Option (List ℕ)) → Stands s lines w n old now → HasWritten w new n m words now next
    → Stands s (lines ++ words ∷ []) new m old next
written s lines w new n m words old now next a r =
    let both = next_line s lines w new n words r.line old now a r.told in
    let e = r.told.event in
    let t = r.told.told in
    record {
      events = a.events ++ e ∷ [];
      setting = t.setting ∙ a.setting;
      history =
          ap (λ (x : Setting). history_of x new.events) (sym (t.setting ∙ a.setting)) ∙ t.history
          ∙ ap (λ (x : Setting). after_events x (history_of x w.events) (e ∷ [])) a.setting
          ∙ ap (λ (h : List Event). after_events s h (e ∷ [])) a.history ∙ sym (one_more s a.events e);
      number = r.number ∙ ap (λ k. k + 1) a.number ∙ sym (length-one_more a.events e);
      few = omega (arith, r.number, a.few, length-one_more lines words);
      spelled = both.0;
      text = a.text ++ r.line;
      told = both.1;
      written = Appends-trans old now next a.text r.line a.written r.written;
    }

-- one more line was done
pub stands_next : (s : Setting) (lines : List (List (List ℕ))) (w new : WorldValue) (n m : ℕ) (words : List (List ℕ)) (old now next : Option (List ℕ)) → Stands s lines w n old now → HasDone w new n m words now next
    → Stands s (lines ++ words ∷ []) new m old next
stands_next s lines w new n m words old now next a (inl r) = rested s lines w new n m words old now next a r
stands_next s lines w new n m words old now next a (inr r) = written s lines w new n m words old now next a r
