use Rattle.std.proofs.Common.{◌≡◌, List, [], slice_get, Some, sym, ap, subst, ◌∙◌, refl}
use Rattle.std.proofs.lemmas.Option.{slice_get-get_or, get_or_from_slice_get}
use Rattle.std_blocks.specs.declared.value.Value.{Value}
use Rattle.evaluation.specs.Retained.{Suits}
use Rattle.exchange_core.specs.MessageCoreValue.{MessageCoreValue, IsCore, own_task, kept_at}
use Rattle.exchange_core.proofs.Keeping.{began-within, began-suits}
use Rattle.exchange_core.proofs.message_core.MessageCore.began.Goals as goal

pub returns-clause-suits : goal.returns-clause-suits
returns-clause-suits c = λ code found.
    let core : MessageCoreValue = c.args.self.now in
    let is : IsCore core = subst IsCore c.self.view_is c.self.invariant in
    let k = c.args.task in
    let kept : c.self.inside.kept.items ≡ core.kept = ap (λ (w : MessageCoreValue). w.kept) c.self.view_is in
    let at : slice_get core.kept k ≡ Some (kept_at core k) = slice_get-get_or core.kept k [] (began-within core (own_task core k) code is refl found) in
    let read : slice_get c.self.inside.kept.items k ≡ Some (kept_at core k) = ap (λ (l : List (List Value)). slice_get l k) kept ∙ at in
    let same : c.index.result.now ≡ kept_at core k = c.index.ensures ∙ get_or_from_slice_get c.self.inside.kept.items k (kept_at core k) c.index.result.now read in
    subst (Suits code) (sym same) (began-suits core (own_task core k) code is refl found)
