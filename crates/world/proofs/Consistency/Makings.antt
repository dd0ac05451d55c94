-- The consistency theorem: where in the list of events each evaluation was made.
use Rattle.std.proofs.Common.{◌≡◌, ◌⊎◌, inl, inr, ℕ, suc, Bool, true, false, cond, List, [], ◌∷◌, ◌++◌, length, Some, refl, ap, sym, ◌∙◌, subst, arith, eqb, take, drop}
use Rattle.std.specs.Prelude.{reverse, slice_get}
use Rattle.std.proofs.Math.Seq.{take-append_seam}
use Rattle.std.proofs.lemmas.Bool.{eqb-true}
use Rattle.std.proofs.lemmas.List.{reverse-append, reverse-reverse, length-reverse, append_assoc}
use Rattle.std.proofs.lemmas.Option.{none-some, same_Some}
use Rattle.task_codes.specs.declared.task_ref.TaskRef.{TaskRef}
use Rattle.plant.specs.PlantValue.{code_at}
use Rattle.task_codes.specs.CodeValue.{CodeValue}
use Rattle.evaluation.specs.declared.field_input.FieldInput.{FieldInput}
use Rattle.evaluation.specs.Meaning.{Evaluated}
use Rattle.world.specs.declared.event.Event.{Event}
use Rattle.world.specs.declared.event.Event.TheVariants.{Evaluate, Deliver, Restart, Hear}
use Rattle.world.specs.History.{Setting, heard_by, made_count, is_lawful, after_events, history_of}
use Rattle.world.specs.Run.{IsLog, IsRun, IsNextEvaluation, latest, state_before, message}
use Rattle.world.specs.Consistent.{TakesOnly}
use Rattle.world.specs.BookLaws.{BooksAreConsistent}
use Rattle.book.specs.Laws.{TakesNeverFall}
use Rattle.world.specs.Theorem.{IsMade, ConsistencyTheorem}
use Rattle.world.specs.Steps.Histories.Heard.{heard-is}
use Rattle.world.specs.Steps.Histories.Names.{length-log, named}
use Rattle.world.proofs.Worlds.Moves.{run-message}
use Rattle.world.proofs.Consistency.Places.{next-code, takes-latest, run-consistent}
use Rattle.world.proofs.Consistency.Entered.{holders-agree}

-- the place in a history at which an entry of its log was made
record MadeIn (s : Setting) (history : List Event) (log : List Evaluated) (k : ℕ) (x : Evaluated) : Type 0 where
  pub newer : List Event
  pub ticket : ℕ
  pub task : TaskRef
  pub dt : ℕ
  pub inputs : List FieldInput
  pub h : List Event
  pub older : List Evaluated
  pub rest : List Evaluated
  pub history_is : history ≡ newer ++ Evaluate ticket task dt inputs ∷ h
  pub log_is : log ≡ rest ++ x ∷ older
  pub place : length older ≡ k
  pub logged : IsLog s h older
  pub next : IsNextEvaluation s h older ticket task dt inputs x

-- one more event in front of the history
later-event : (s : Setting) (e : Event) (history : List Event) (log : List Evaluated) (k : ℕ) (x : Evaluated) → MadeIn s history log k x → MadeIn s (e ∷ history) log k x
later-event s e history log k x m =
    record {
      newer = e ∷ m.newer;
      ticket = m.ticket;
      task = m.task;
      dt = m.dt;
      inputs = m.inputs;
      h = m.h;
      older = m.older;
      rest = m.rest;
      history_is = ap (λ (l : List Event). e ∷ l) m.history_is;
      log_is = m.log_is;
      place = m.place;
      logged = m.logged;
      next = m.next;
    }

-- one more entry in front of the log
later-entry : (s : Setting) (history : List Event) (y : Evaluated) (log : List Evaluated) (k : ℕ) (x : Evaluated) → MadeIn s history log k x → MadeIn s history (y ∷ log) k x
later-entry s history y log k x m =
    record {
      newer = m.newer;
      ticket = m.ticket;
      task = m.task;
      dt = m.dt;
      inputs = m.inputs;
      h = m.h;
      older = m.older;
      rest = y ∷ m.rest;
      history_is = m.history_is;
      log_is = ap (λ (l : List Evaluated). y ∷ l) m.log_is;
      place = m.place;
      logged = m.logged;
      next = m.next;
    }

made-in : (s : Setting) (h : List Event) (log : List Evaluated) → IsLog s h log → (k : ℕ) (x : Evaluated) → message log (suc k) ≡ Some x → MadeIn s h log k x
made-in s [] [] is k x at = absurd (none-some x at)
made-in s [] (y ∷ older) is k x at = absurd is
made-in s (Deliver m n ∷ h) log is k x at = later-event s (Deliver m n) h log k x (made-in s h log is k x at)
made-in s (Restart n ∷ h) log is k x at = later-event s (Restart n) h log k x (made-in s h log is k x at)
made-in s (Hear n o i ∷ h) log is k x at = later-event s (Hear n o i) h log k x (made-in s h log is k x at)
made-in s (Evaluate ticket task dt inputs ∷ h) [] is k x at = absurd is
made-in s (Evaluate ticket task dt inputs ∷ h) (y ∷ older) is k x at = by (eqb (suc k) (suc (length older))) refl at (made-in s h older is.0 k x) where
  here : k ≡ length older → y ≡ x → MadeIn s (Evaluate ticket task dt inputs ∷ h) (y ∷ older) k x
  here place same = record {
    newer = [];
    ticket = ticket;
    task = task;
    dt = dt;
    inputs = inputs;
    h = h;
    older = older;
    rest = [];
    history_is = refl;
    log_is = ap (λ (z : Evaluated). z ∷ older) same;
    place = sym place;
    logged = is.0;
    next = subst (IsNextEvaluation s h older ticket task dt inputs) same is.1;
  }

  by : (b : Bool) → eqb (suc k) (suc (length older)) ≡ b → cond b (Some y) (message older (suc k)) ≡ Some x → (message older (suc k) ≡ Some x → MadeIn s h older k x)
      → MadeIn s (Evaluate ticket task dt inputs ∷ h) (y ∷ older) k x
  by true e f ih = here (let same : suc k ≡ suc (length older) = eqb-true _ _ e in omega (arith, same)) (same_Some y x f)
  by false e f ih = later-event s (Evaluate ticket task dt inputs) h (y ∷ older) k x (later-entry s h y older k x (ih f))

-- the events before an event of a history, and those behind it
record Found (s : Setting) (h0 es : List Event) (e : Event) (h : List Event) : Type 0 where
  pub before : List Event
  pub later : List Event
  pub events_are : es ≡ before ++ e ∷ later
  pub history_is : after_events s h0 before ≡ h
  pub lawful : is_lawful s h e ≡ true

same_head : (x y : Event) (xs ys : List Event) → x ∷ xs ≡ y ∷ ys → x ≡ y
same_head x y xs ys e = same_Some x y (ap (λ (l : List Event). slice_get l 0) e)

same_tail : (x y : Event) (xs ys : List Event) → x ∷ xs ≡ y ∷ ys → xs ≡ ys
same_tail x y xs ys e = ap (λ (l : List Event). drop 1 l) e

-- an event of a history stood in the list, or was there before
find-event : (s : Setting) (h0 es newer : List Event) (e : Event) (h : List Event) → after_events s h0 es ≡ newer ++ e ∷ h → ((first : List Event) × (h0 ≡ first ++ e ∷ h)) ⊎ Found s h0 es e h
find-event s h0 [] newer e h is = inl (newer, is)
find-event s h0 (x ∷ xs) newer e h is = by (is_lawful s h0 x) refl (find-event s (cond (is_lawful s h0 x) (x ∷ h0) h0) xs newer e h is) where
  found : Found s (cond (is_lawful s h0 x) (x ∷ h0) h0) xs e h → Found s h0 (x ∷ xs) e h
  found f = record { before = x ∷ f.before; later = f.later; events_are = ap (λ (l : List Event). x ∷ l) f.events_are; history_is = f.history_is; lawful = f.lawful }

  first_of_all : is_lawful s h0 x ≡ true → (first : List Event) → x ∷ h0 ≡ first ++ e ∷ h → ((first : List Event) × (h0 ≡ first ++ e ∷ h)) ⊎ Found s h0 (x ∷ xs) e h
  first_of_all lawful [] f =
      let same : x ≡ e = same_head x e h0 h f in
      let rest : h0 ≡ h = same_tail x e h0 h f in
      inr (record { before = []; later = xs; events_are = ap (λ (y : Event). y ∷ xs) same; history_is = rest; lawful = subst (λ (y : Event). is_lawful s h y ≡ true) same (subst (λ (l : List Event). is_lawful s l x ≡ true) rest lawful) })
  first_of_all lawful (y ∷ ys) f = inl (ys, same_tail x y h0 (ys ++ e ∷ h) f)

  earlier : (b : Bool) → is_lawful s h0 x ≡ b → (first : List Event) → cond b (x ∷ h0) h0 ≡ first ++ e ∷ h → ((first : List Event) × (h0 ≡ first ++ e ∷ h)) ⊎ Found s h0 (x ∷ xs) e h
  earlier true lawful first f = first_of_all lawful first f
  earlier false lawful first f = inl (first, f)

  by : (b : Bool) → is_lawful s h0 x ≡ b → ((first : List Event) × (cond (is_lawful s h0 x) (x ∷ h0) h0 ≡ first ++ e ∷ h)) ⊎ Found s (cond (is_lawful s h0 x) (x ∷ h0) h0) xs e h
      → ((first : List Event) × (h0 ≡ first ++ e ∷ h)) ⊎ Found s h0 (x ∷ xs) e h
  by b lawful (inr f) = inr (found f)
  by b lawful (inl f) = earlier (is_lawful s h0 x) refl f.0 f.1

event-of : (s : Setting) (es newer : List Event) (e : Event) (h : List Event) → history_of s es ≡ newer ++ e ∷ h → Found s [] es e h
event-of s es newer e h is = by (find-event s [] es newer e h is) where
  empty : (first : List Event) → [] ≡ first ++ e ∷ h → Found s [] es e h
  empty [] f = absurd (none-some e (ap (λ (l : List Event). slice_get l 0) f))
  empty (y ∷ ys) f = absurd (none-some y (ap (λ (l : List Event). slice_get l 0) f))

  by : ((first : List Event) × ([] ≡ first ++ e ∷ h)) ⊎ Found s [] es e h → Found s [] es e h
  by (inl f) = empty f.0 f.1
  by (inr f) = f

-- what was made before an entry
older-is : (log rest older : List Evaluated) (x : Evaluated) → reverse log ≡ rest ++ x ∷ older → reverse (take (length older) log) ≡ older
older-is log rest older x is =
    let turned : log ≡ reverse older ++ reverse (rest ++ x ∷ []) =
    sym (reverse-reverse log) ∙ ap reverse (is ∙ sym (append_assoc rest (x ∷ []) older)) ∙ reverse-append (rest ++ x ∷ []) older in
    ap reverse (subst (λ n. take n log ≡ reverse older) (length-reverse older) (subst (λ l. take (length (reverse older)) l ≡ reverse older) (sym turned) (take-append_seam (reverse older) (reverse (rest ++ x ∷ [])))))
    ∙ reverse-reverse older

made-of : (s : Setting) (events : List Event) (log : List Evaluated) (k : ℕ) (x : Evaluated) → MadeIn s (history_of s events) (reverse log) k x → IsMade s events log k x
made-of s events log k x m =
    record {
      before = found.before;
      ticket = m.ticket;
      dt = m.dt;
      inputs = m.inputs;
      later = found.later;
      events_are = subst (λ t. events ≡ found.before ++ Evaluate m.ticket t m.dt m.inputs ∷ found.later) (sym own) found.events_are;
      lawful = subst (λ t. is_lawful s (history_of s found.before) (Evaluate m.ticket t m.dt m.inputs) ≡ true) (sym own) (subst (λ h. is_lawful s h (Evaluate m.ticket m.task m.dt m.inputs) ≡ true) (sym found.history_is) found.lawful);
      place = sym m.place ∙ many;
      heard_is = subst (λ t. x.heard ≡ heard_by s t.resource (history_of s found.before)) (sym own) (heard-is s m.h m.older m.ticket m.task m.dt m.inputs x m.next ∙ ap (heard_by s m.task.resource) (sym found.history_is));
      taken = λ p. subst (TakesOnly x p) (seen p) (subst (λ t. TakesOnly x p (latest s t.resource m.h p m.older)) (sym own) (takes-latest s m.h m.older m.ticket m.task m.dt m.inputs x p m.next));
      code_is = subst (λ t. code_at s.plant t ≡ Some x.code) (sym own) (m.next.found ∙ ap (λ (c : CodeValue). Some c) (sym code));
      stored = stored (ap (λ (y : Evaluated). y.before) m.next.asked.is);
      ticket_is = ap (λ (y : Evaluated). y.ticket) m.next.asked.is;
      dt_is = ap (λ (y : Evaluated). y.dt) m.next.asked.is;
      inputs_are = ap (λ (y : Evaluated). y.inputs) m.next.asked.is;
      meant = m.next.asked.meant;
    } where
      found : Found s [] events (Evaluate m.ticket m.task m.dt m.inputs) m.h
      found = event-of s events m.newer (Evaluate m.ticket m.task m.dt m.inputs) m.h m.history_is

      own : x.name.task ≡ m.task
      own = ap (λ n. n.task) (named s m.h m.older m.ticket m.task m.dt m.inputs x m.next)

      code : x.code ≡ m.next.code
      code = next-code s m.h m.older m.ticket m.task m.dt m.inputs x m.next

      many : length m.older ≡ made_count (history_of s found.before)
      many = length-log s m.h m.older m.logged ∙ ap made_count (sym found.history_is)

      older : reverse (take (made_count (history_of s found.before)) log) ≡ m.older
      older = subst (λ n. reverse (take n log) ≡ m.older) many (older-is log m.rest m.older x m.log_is)

      seen : (p : TaskRef) → latest s x.name.task.resource m.h p m.older ≡ latest s x.name.task.resource (history_of s found.before) p (reverse (take (made_count (history_of s found.before)) log))
      seen p = ap (λ h. latest s x.name.task.resource h p m.older) (sym found.history_is) ∙ ap (λ l. latest s x.name.task.resource (history_of s found.before) p l) (sym older)

      stored : x.before ≡ state_before s m.next.code m.task m.older (latest s m.task.resource m.h m.task m.older)
          → x.before ≡ state_before s x.code x.name.task (reverse (take (made_count (history_of s found.before)) log)) (latest s x.name.task.resource (history_of s found.before) x.name.task (reverse (take (made_count (history_of s found.before)) log)))
      stored e =
          subst (λ t. x.before ≡ state_before s m.next.code t m.older (latest s t.resource m.h t m.older)) (sym own) e
          ∙ ap (λ c. state_before s c x.name.task m.older (latest s x.name.task.resource m.h x.name.task m.older)) (sym code)
          ∙ ap (state_before s x.code x.name.task m.older) (seen x.name.task)
          ∙ ap (λ l. state_before s x.code x.name.task l (latest s x.name.task.resource (history_of s found.before) x.name.task (reverse (take (made_count (history_of s found.before)) log)))) (sym older)

pub consistency-theorem : TakesNeverFall → ConsistencyTheorem
consistency-theorem takes_never_fall s events log is =
    record {
      made = λ k x at. made-of s events log k x (made-in s (history_of s events) (reverse log) is k x (sym (run-message (reverse log) k) ∙ ap (λ l. slice_get l k) (reverse-reverse log) ∙ at));
      never_falls = (run-consistent takes_never_fall s events log is).never_falls;
      never_back = (run-consistent takes_never_fall s events log is).never_back;
      holders = holders-agree (record { setting = s; events = events; log = log }) is;
    }

pub books-consistent : TakesNeverFall → BooksAreConsistent
books-consistent takes_never_fall s entries events sound firsts could again =
    let is : IsRun s events entries = again s.plant s.opening s.max_number sound firsts could in
    (consistency-theorem takes_never_fall s events entries is, run-consistent takes_never_fall s events entries is)
