-- What is left of the tasks of a resource, step by step.
use Rattle.std.proofs.Common.{◌≡◌, ℕ, ◌<◌, ◌==◌, ◌&&◌, List, [], ◌∷◌, Bool, true, false, cond, Some, length, reverse, slice_get, refl, inl, inr, ap, sym, ◌∙◌, subst, arith, filter}
use Rattle.std.specs.Prelude.{slice_set}
use Rattle.std.proofs.lemmas.List.{reverse-append, length-set}
use Rattle.std.proofs.lemmas.Bool.{eq-eqb, eqb-true}
use Rattle.std.proofs.lemmas.Option.{slice_get_within, same_Some, get_or_from_slice_get}
use Rattle.lists.proofs.Places.{same_by_each, slice_get-set_same, slice_get-set_other}
use Rattle.std_blocks.specs.declared.value.Value.{Value}
use Rattle.task_codes.specs.declared.task_ref.TaskRef.{TaskRef}
use Rattle.evaluation.specs.Last.{left_by, same_task}
use Rattle.evaluation.specs.Meaning.{Evaluated}
use Rattle.evaluation.specs.Retained.{retained_values}
use Rattle.node_reports.specs.declared.step.Step.{Step}
use Rattle.node_reports.specs.declared.step.Step.TheVariants.{Took, Made, Restarted, Heard}
use Rattle.node_reports.specs.declared.journal.Journal.{Journal}
use Rattle.node_reports.specs.Journals.{made, newest, last_of, opening_at, with_step, fresh_journal}
use Rattle.node_reports.specs.Stations.{StationValue, PendingValue, IsNoted, IsRestarted}
use Rattle.evaluation.specs.Messages.{MessageValue}
use Rattle.audit.specs.declared.item.Item.{Item}
use Rattle.audit.specs.declared.outcome.Outcome.{Outcome}
use Rattle.audit.specs.declared.outcome.Outcome.TheVariants.{Done, Waits, Stops}
use Rattle.audit.specs.Lines.{left_in, AreLeft, Takes, Hears}
use Rattle.audit.specs.Steps.AuditedBook.{AuditedBook}
use Rattle.audit.specs.Steps.Following.{Meets}

abbrev task_of : Journal → ℕ → TaskRef
task_of j task = record { resource = j.resource; task = task }

-- a step by which nothing is made leaves what was left
pub left_still : (j : Journal) (s : Step) (kept : List (List Value)) → made (s ∷ reverse j.steps) ≡ made (reverse j.steps) → AreLeft j kept → AreLeft (with_step j s) kept
left_still j s kept none are = record {
  many = are.many;
  each = λ task values at.
      are.each task values at
      ∙ ap (λ (xs : List Evaluated). left_by (opening_at j.opening (task_of j task)) (newest (filter (λ (x : Evaluated). same_task x.name.task (task_of j task)) xs))) (sym none)
      ∙ ap (λ (before : List Step). left_by (opening_at j.opening (task_of j task)) (last_of (task_of j task) before)) (sym (reverse-append j.steps (s ∷ [])));
}

same_here : (a : TaskRef) (n k : ℕ) → a.resource ≡ n → a.task ≡ k → same_task a (record { resource = n; task = k }) ≡ true
same_here a n k one two = ap (λ b. b && (a.task == k)) (eq-eqb a.resource n one) ∙ eq-eqb a.task k two

same_not : (a : TaskRef) (n k : ℕ) → (a.task ≡ k → ⊥) → same_task a (record { resource = n; task = k }) ≡ false
same_not a n k other = by (a.resource == n) (a.task == k) refl
  where
    by : (b c : Bool) → (a.task == k) ≡ c → (b && c) ≡ false
    by b true is = absurd (other (eqb-true a.task k is))
    by true false is = refl
    by false false is = refl

-- what a task is left with by an evaluation of it, and by one of another task
pub left_made : (j : Journal) (x : Evaluated) (task : ℕ) → x.name.task.resource ≡ j.resource → x.name.task.task ≡ task → left_in (with_step j (Made x)) task ≡ retained_values x.code x.after
left_made j x task own is =
    ap (λ (before : List Step). left_by (opening_at j.opening (task_of j task)) (last_of (task_of j task) before)) (reverse-append j.steps (Made x ∷ []))
    ∙ ap (λ b. left_by (opening_at j.opening (task_of j task)) (newest (cond b (x ∷ filter (λ (y : Evaluated). same_task y.name.task (task_of j task)) (made (reverse j.steps))) (filter (λ (y : Evaluated). same_task y.name.task (task_of j task)) (made (reverse j.steps))))))
    (same_here x.name.task j.resource task own is)

pub left_other : (j : Journal) (x : Evaluated) (task : ℕ) → (x.name.task.task ≡ task → ⊥) → left_in (with_step j (Made x)) task ≡ left_in j task
left_other j x task other =
    ap (λ (before : List Step). left_by (opening_at j.opening (task_of j task)) (last_of (task_of j task) before)) (reverse-append j.steps (Made x ∷ []))
    ∙ ap (λ b. left_by (opening_at j.opening (task_of j task)) (newest (cond b (x ∷ filter (λ (y : Evaluated). same_task y.name.task (task_of j task)) (made (reverse j.steps))) (filter (λ (y : Evaluated). same_task y.name.task (task_of j task)) (made (reverse j.steps))))))
    (same_not x.name.task j.resource task other)

pub left_after : (j : Journal) (x : Evaluated) (kept : List (List Value)) → x.name.task.resource ≡ j.resource → AreLeft j kept
    → AreLeft (with_step j (Made x)) (slice_set kept x.name.task.task (retained_values x.code x.after))
left_after j x kept own are = record {
  many = length-set kept x.name.task.task (retained_values x.code x.after) ∙ are.many;
  each = λ task values at. by task values at (x.name.task.task == task) refl;
}
  where
    by : (task : ℕ) (values : List Value) → slice_get (slice_set kept x.name.task.task (retained_values x.code x.after)) task ≡ Some values → (b : Bool) → (x.name.task.task == task) ≡ b → values ≡ left_in (with_step j (Made x)) task
    by task values at true is =
        let same : x.name.task.task ≡ task = eqb-true x.name.task.task task is in
        let within : task < length kept = omega (arith, slice_get_within (slice_set kept x.name.task.task (retained_values x.code x.after)) task values at, length-set kept x.name.task.task (retained_values x.code x.after)) in
        let here : slice_get (slice_set kept x.name.task.task (retained_values x.code x.after)) task ≡ Some (retained_values x.code x.after) =
        subst (λ k. slice_get (slice_set kept k (retained_values x.code x.after)) task ≡ Some (retained_values x.code x.after)) (sym same) (slice_get-set_same kept task (retained_values x.code x.after) within) in
        same_Some values (retained_values x.code x.after) (sym at ∙ here) ∙ sym (left_made j x task own same)
    by task values at false is =
        let other : x.name.task.task ≡ task → ⊥ = λ same. let e = sym (eq-eqb x.name.task.task task same) ∙ is in cc in
        are.each task values (sym (slice_get-set_other kept x.name.task.task task (retained_values x.code x.after) (λ same. other (sym same))) ∙ at) ∙ sym (left_other j x task other)

-- before the first step what is left is the opening
pub left_fresh : (n first : ℕ) (opening : List (List Value)) → AreLeft (fresh_journal n first opening) opening
left_fresh n first opening = record { many = refl; each = λ task values at. sym (found opening task values at) }
  where
    found : (xs : List (List Value)) (k : ℕ) (values : List Value) → slice_get xs k ≡ Some values → opening_at xs (record { resource = n; task = k }) ≡ values
    found xs k values at = get_or_from_slice_get xs k values [] at

-- what is left is one list
pub left_same : (j : Journal) (a b : List (List Value)) → AreLeft j a → AreLeft j b → a ≡ b
left_same j a b one two = same_by_each a b (one.many ∙ sym two.many) (λ k x y at here. one.each k x at ∙ sym (two.each k y here))

-- a restart, a message and a hello leave what was left
pub left_restarted : (old new : StationValue) (ticket incarnation : ℕ) (kept : List (List Value)) → IsRestarted old new ticket incarnation → AreLeft old.journal kept → AreLeft new.journal kept
left_restarted old new ticket incarnation kept is are = subst (λ j. AreLeft j kept) (sym is.noted) (left_still old.journal (Restarted ticket incarnation) kept refl are)

same_left : (old new : StationValue) (kept : List (List Value)) → new ≡ old → AreLeft old.journal kept → AreLeft new.journal kept
same_left old new kept same are = subst (λ (s : StationValue). AreLeft s.journal kept) (sym same) are

pub left_taken : (old new : StationValue) (item : Item) (m : MessageValue) (outcome : Outcome) (kept : List (List Value)) (b : AuditedBook) → Meets b (Takes old new m) old new item outcome → AreLeft old.journal kept → AreLeft new.journal kept
left_taken old new item m Done kept b (inl h) are = subst (λ j. AreLeft j kept) (sym h.1.received.noted) (left_still old.journal (Took h.1.evaluated) kept refl are)
left_taken old new item m Done kept b (inr h) are = same_left old new kept h.3 are
left_taken old new item m (Waits need) kept b h are = same_left old new kept h.0 are
left_taken old new item m (Stops why) kept b h are = same_left old new kept h.0 are

pub left_heard : (old new : StationValue) (item : Item) (of incarnation : ℕ) (outcome : Outcome) (kept : List (List Value)) (b : AuditedBook) → Meets b (Hears old new of incarnation) old new item outcome → AreLeft old.journal kept → AreLeft new.journal kept
left_heard old new item of incarnation Done kept b (inl h) are = subst (λ j. AreLeft j kept) (sym h.1.noted) (left_still old.journal (Heard of incarnation) kept refl are)
left_heard old new item of incarnation Done kept b (inr h) are = same_left old new kept h.1 are
left_heard old new item of incarnation (Waits need) kept b h are = same_left old new kept h.0 are
left_heard old new item of incarnation (Stops why) kept b h are = same_left old new kept h.0 are

-- what an evaluation leaves takes the place of what its task had
pub left_noted : (p : PendingValue) (s : StationValue) (kept : List (List Value)) → IsNoted p s → p.made.name.task.resource ≡ p.journal.resource → AreLeft p.journal kept
    → AreLeft s.journal (slice_set kept p.made.name.task.task (retained_values p.made.code p.made.after))
left_noted p s kept is own are = subst (λ j. AreLeft j (slice_set kept p.made.name.task.task (retained_values p.made.code p.made.after))) (sym is.noted) (left_after p.journal p.made kept own are)
