use Rattle.std.proofs.Common.{◌≡◌, List, length, arith, sym, ap, subst, ◌∙◌, Some, slice_get, refl}
use Rattle.std.proofs.lemmas.Option.{slice_get_read}
use Rattle.std_blocks.specs.declared.value.Value.{Value}
use Rattle.exchange_core.specs.MessageCoreValue.{MessageCoreValue, IsCore}
use Rattle.exchange_core.proofs.Keeping.{IsLeft, left-none, left-more, left-all, left-suit}
use Rattle.exchange_core.proofs.message_core.MessageCore.kept_now.Goals as goal

pub loop-task-init : goal.loop-task-init
loop-task-init c = rw c.in_ok-kept.ensures.items (left-none c.args.self.now)

pub loop-task-preserved : goal.loop-task-preserved
loop-task-preserved c =
    let core : MessageCoreValue = c.args.self.now in
    let is : IsCore core = subst IsCore c.self.view_is c.self.invariant in
    let k = c.loop-task.task in
    let items = c.deref-began-items.result.now in
    let same : items ≡ core.kept = c.deref-began-items.ensures.value ∙ ap (λ (w : MessageCoreValue). w.kept) c.self.view_is in
    let read : slice_get items k ≡ Some c.began-item.result = slice_get_read items (length items) k c.began-item.result refl c.loop-task-test.true c.began-item.is in
    let at : slice_get core.kept k ≡ Some c.began-item.result = ap (λ (l : List (List Value)). slice_get l k) (sym same) ∙ read in
    rw c.in_ok-push.ensures.items
    (left-more core k c.loop-task.kept.items c.began-item.result c.in_ok-left.field-0 c.loop-task.invariant at c.in_ok-left.ensures.value
    (λ code found. c.in_ok-left.ensures.suits code found (is.kept_suit.each k code c.began-item.result found at)))

pub returns-clause-left : goal.returns-clause-left
returns-clause-left c =
    let core : MessageCoreValue = c.args.self.now in
    let same : length c.deref-began-items.result.now ≡ length core.kept = ap length (c.deref-began-items.ensures.value ∙ ap (λ (w : MessageCoreValue). w.kept) c.self.view_is) in
    left-all core c.loop-task.kept.items (subst (λ n. IsLeft core n c.loop-task.kept.items) (omega arith) c.loop-task.invariant)

pub returns-clause-suit : goal.returns-clause-suit
returns-clause-suit c =
    let core : MessageCoreValue = c.args.self.now in
    let is : IsCore core = subst IsCore c.self.view_is c.self.invariant in
    let same : length c.deref-began-items.result.now ≡ length core.kept = ap length (c.deref-began-items.ensures.value ∙ ap (λ (w : MessageCoreValue). w.kept) c.self.view_is) in
    left-suit core c.loop-task.kept.items is.kept_suit (subst (λ n. IsLeft core n c.loop-task.kept.items) (omega arith) c.loop-task.invariant)
