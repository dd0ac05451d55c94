use Rattle.std.proofs.Common.{◌≡◌, ◌++◌, ◌∷◌, [], take, sym, ap, arith, ◌∙◌}
use Rattle.std.proofs.lemmas.List.{take_more, take_all, map-append}
use Rattle.task_codes.specs.CodeValue.{lists_of}
use Rattle.world.proofs.openings.copy_of_openings.Goals as goal

pub loop-tasks-preserved : goal.loop-tasks-preserved
loop-tasks-preserved c =
    let xs = c.args.opening.now in
    let i = c.loop-tasks.tasks-index in
    let s = c.tasks-item.result in
    let value : c.in_ok-try_copy_all.field-0.items ≡ s.items = c.in_ok-try_copy_all.ensures ∙ c.as_slice.ensures.value in
    ap lists_of c.in_ok-push.ensures.items
    ∙ map-append (λ v. v.items) c.loop-tasks.copy.items (c.in_ok-try_copy_all.field-0 ∷ [])
    ∙ ap (λ l. l ++ c.in_ok-try_copy_all.field-0.items ∷ []) c.loop-tasks.invariant
    ∙ ap (λ v. lists_of (take i xs) ++ v ∷ []) value
    ∙ sym (map-append (λ v. v.items) (take i xs) (s ∷ []))
    ∙ ap (λ x. lists_of (take i xs ++ x ∷ [])) c.tasks-item.is
    ∙ ap lists_of (sym (take_more xs i s (omega arith)))

pub returns : goal.returns
returns c = c.loop-tasks.invariant ∙ ap lists_of (take_all c.loop-tasks.tasks-index c.args.opening.now c.loop-tasks-test.false)
