-- What a core over messages answers, told of the core in which all is known as a whole.
use Rattle.std.proofs.Common.{◌≡◌, ◌<◌, ◌+◌, ℕ, Bool, true, false, List, [], ◌∷◌, map, Option, Some, None, Result, Ok, Err, IfOk, OnErr, refl, ap, sym, ◌∙◌, subst}
use Rattle.std.specs.List.{zip}
use Rattle.std.specs.Option.{option_map}
use Rattle.std_blocks.specs.declared.value.Value.{Value}
use Rattle.declared_names.specs.declared.declarations.Kind.{Kind}
use Rattle.task_codes.specs.declared.task_ref.TaskRef.{TaskRef}
use Rattle.plant.specs.PlantValue.{PlantValue}
use Rattle.task_codes.specs.CodeValue.{CodeValue}
use Rattle.evaluation.specs.declared.field_input.FieldInput.{FieldInput}
use Rattle.evaluation.specs.declared.name.Name.{Name}
use Rattle.evaluation.specs.declared.take.Take.{Take}
use Rattle.evaluation.specs.Meaning.{Evaluated, IsAsked}
use Rattle.evaluation.specs.Last.{state_from, left_by, takes_of, last_number}
use Rattle.evaluation.specs.Messages.{MessageValue, message_of, take_from, taken_of, TakenAlike}
use Rattle.exchange_core.specs.declared.accepted.Accepted.{Accepted}
use Rattle.exchange_core.specs.declared.accepted.Accepted.TheVariants.{Taken, Old, Unused, Stray}
use Rattle.exchange_core.specs.declared.eval_fault.EvalFault.{EvalFault}
use Rattle.exchange_core.specs.declared.last.Last.TheVariants.{Whole}
use Rattle.exchange_core.specs.HeldMessages.{message_known}
use Rattle.exchange_core.specs.MessageCoreValue.{MessageCoreValue}
use Rattle.exchange_core.specs.MessageCoreValue as messages
use Rattle.exchange_core.specs.Held.{known}
use Rattle.exchange_core.specs.CoreValue.{fresh_core, own_task, own_last, is_greater, IsUsable, IsAccepted, HasHeard, IsNextOf, IsNext, IsRestartOf}
use Rattle.exchange_core.specs.Wholes.{wholes, AreWhole, core_in}
use Rattle.exchange_core.proofs.Wholes.{wholes-at, wholes-with, wholes-nothing, are-whole-with, messages-at}

-- a fresh core
pub fresh-in : (plant : PlantValue) (resource : ℕ) (first : List ℕ) (incarnation : ℕ) (opening : List (List Value)) (max_number : ℕ)
    → core_in (messages.fresh_core plant resource first incarnation opening max_number) ≡ fresh_core plant resource first incarnation opening max_number
fresh-in plant resource first incarnation opening max_number =
    ap (λ t. record (fresh_core plant resource first incarnation opening max_number) { table = t }) (wholes-nothing plant)

-- the last evaluation of a task of the resource
pub last-in : (core : MessageCoreValue) (task : ℕ) → own_last (core_in core) task ≡ messages.own_last core task
last-in core task = wholes-at core.table (messages.own_task core task)

-- a restart
pub restart-in : (old new : MessageCoreValue) (incarnation : ℕ) → messages.IsRestartOf old new incarnation → IsRestartOf (core_in old) (core_in new) incarnation
restart-in old new incarnation is = record {
  is = ap core_in is.is ∙ fresh-in old.plant old.resource old.first incarnation new.kept old.max_number;
  long = is.long;
  kept = λ task lt. is.kept task lt ∙ ap (left_by (messages.kept_at old task)) (sym (last-in old task));
}

-- a hearing
pub heard-in : (old new : MessageCoreValue) (of incarnation : ℕ) (answer : Bool) → messages.HasHeard old new of incarnation answer → HasHeard (core_in old) (core_in new) of incarnation answer
heard-in old new of incarnation true is = record { answer_is = is.answer_is; after = ap core_in is.after }
heard-in old new of incarnation false is = record { answer_is = is.answer_is; after = ap core_in is.after }

-- what is of use
usable-in : (core : MessageCoreValue) (x : Evaluated) → messages.IsUsable core (message_of x) → IsUsable (core_in core) x
usable-in core x is = record { another = is.another; expected = is.expected }

usable-out : (core : MessageCoreValue) (x : Evaluated) → IsUsable (core_in core) x → messages.IsUsable core (message_of x)
usable-out core x is = record { another = is.another; expected = is.expected }

-- whether a pair is greater
greater-in : (core : MessageCoreValue) (name : Name) → AreWhole core.table → is_greater (known (core_in core).table name.task) name ≡ messages.is_greater (message_known core.table name.task) name
greater-in core name are = by (known (wholes core.table) name.task) ∙ ap (λ o. messages.is_greater o name) (sym (messages-at core.table name.task are))
  where
    by : (o : Option Evaluated) → is_greater o name ≡ messages.is_greater (option_map message_of o) name
    by None = refl
    by (Some y) = refl

-- what is answered to an evaluation
pub accepted-in : (old new : MessageCoreValue) (x : Evaluated) (answer : Accepted) → AreWhole old.table → messages.IsAccepted old new (Whole x) answer → IsAccepted (core_in old) (core_in new) x answer
accepted-in old new x Unused are is = (λ usable. is.answer_is (usable-out old x usable), ap core_in is.after)
accepted-in old new x Stray are is = (usable-in old x is.answer_is.0, is.answer_is.1, ap core_in is.after)
accepted-in old new x Old are is = (usable-in old x is.answer_is.0, is.answer_is.1, greater-in old x.name are ∙ is.answer_is.2, ap core_in is.after)
accepted-in old new x Taken are is = (
  usable-in old x is.answer_is.0,
  is.answer_is.1,
  greater-in old x.name are ∙ is.answer_is.2,
  ap core_in is.after ∙ ap (λ t. record (core_in old) { table = t }) (wholes-with old.table x.name.task x),
)

-- all is known as a whole from then on
pub accepted-whole : (old new : MessageCoreValue) (x : Evaluated) (answer : Accepted) → AreWhole old.table → messages.IsAccepted old new (Whole x) answer → AreWhole new.table
accepted-whole old new x Unused are is = subst (λ (w : MessageCoreValue). AreWhole w.table) (sym is.after) are
accepted-whole old new x Stray are is = subst (λ (w : MessageCoreValue). AreWhole w.table) (sym is.after) are
accepted-whole old new x Old are is = subst (λ (w : MessageCoreValue). AreWhole w.table) (sym is.after) are
accepted-whole old new x Taken are is = subst (λ (w : MessageCoreValue). AreWhole w.table) (sym is.after) (are-whole-with old.table x.name.task x are)

-- what is taken of messages, and of evaluations with these messages
taken-same : (a b : TaskRef → Option MessageValue) (code : CodeValue) → ((p : TaskRef) → a p ≡ b p) → taken_of a code ≡ taken_of b code
taken-same a b code same = by (zip code.producers code.expected) where
  by : (es : List (TaskRef × List Kind)) → map (λ e. take_from e.0 e.1 (a e.0)) es ≡ map (λ e. take_from e.0 e.1 (b e.0)) es
  by [] = refl
  by (e ∷ es) = rw (same e.0, by es) refl

takes-in : TakenAlike → (core : MessageCoreValue) (code : CodeValue) → AreWhole core.table → taken_of (message_known core.table) code ≡ takes_of (known (core_in core).table) code
takes-in alike core code are =
    taken-same (message_known core.table) (λ p. option_map message_of (known (wholes core.table) p)) code (λ p. messages-at core.table p are)
    ∙ sym (alike (known (wholes core.table)) code)

-- the next evaluation
pub next-of-in : TakenAlike → (core : MessageCoreValue) (ticket task dt : ℕ) (inputs : List FieldInput) (x : Evaluated) → AreWhole core.table → messages.IsNextOf core ticket task dt inputs x → IsNextOf (core_in core) ticket task dt inputs x
next-of-in alike core ticket task dt inputs x are is = record {
  code = is.code;
  found = is.found;
  below = subst (λ o. last_number o < core.max_number) (sym last) is.below;
  asked = subst (Asked (own_last (core_in core) task)) (takes-in alike core is.code are) (subst (λ o. Asked o (taken_of (message_known core.table) is.code)) (sym last) is.asked);
}
  where
    last : own_last (core_in core) task ≡ messages.own_last core task
    last = last-in core task

    Asked : Option Evaluated → List Take → Type 0
    Asked o takes =
        IsAsked ticket (record { task = own_task (core_in core) task; incarnation = core.incarnation; number = last_number o + 1 }) core.heard dt inputs takes
        (state_from is.code (messages.kept_at core task) o) is.code x

pub next-in : TakenAlike → (old new : MessageCoreValue) (ticket task dt : ℕ) (inputs : List FieldInput) (x : Evaluated) → AreWhole old.table → messages.IsNext old new ticket task dt inputs x → IsNext (core_in old) (core_in new) ticket task dt inputs x
next-in alike old new ticket task dt inputs x are is = record {
  next = next-of-in alike old ticket task dt inputs x are is.next;
  after = ap core_in is.after ∙ ap (λ t. record (core_in old) { table = t }) (wholes-with old.table (messages.own_task old task) x);
}

-- what an evaluation answers, and leaves
pub made-in : TakenAlike → (old new : MessageCoreValue) (ticket task dt : ℕ) (inputs : List FieldInput) (answer : Result Evaluated EvalFault) → AreWhole old.table
    → IfOk answer (λ x. messages.IsNext old new ticket task dt inputs x) → IfOk answer (λ x. IsNext (core_in old) (core_in new) ticket task dt inputs x)
made-in alike old new ticket task dt inputs (Ok x) are is = next-in alike old new ticket task dt inputs x are is
made-in alike old new ticket task dt inputs (Err fault) are is = tt

pub made-whole : (old new : MessageCoreValue) (ticket task dt : ℕ) (inputs : List FieldInput) (answer : Result Evaluated EvalFault) → AreWhole old.table
    → IfOk answer (λ x. messages.IsNext old new ticket task dt inputs x) → OnErr answer (new ≡ old) → AreWhole new.table
made-whole old new ticket task dt inputs (Ok x) are is err = subst (λ (w : MessageCoreValue). AreWhole w.table) (sym is.after) (are-whole-with old.table (messages.own_task old task) x are)
made-whole old new ticket task dt inputs (Err fault) are is err = subst (λ (w : MessageCoreValue). AreWhole w.table) (sym err) are
