use Rattle.std.proofs.Common.{◌≡◌, ◌+◌, Some, slice_get, get_or, sym, arith, subst, ◌∙◌}
use Rattle.std.proofs.lemmas.Option.{slice_get-get_or, same_Some}
use Rattle.power_flow.specs.StateValue.{StateValue}
use Rattle.scan_steps.specs.Slots.{IsKindAt}
use Rattle.words.specs.declared.address.Space.TheVariants.{Bit}
use Rattle.task_codes.specs.declared.binding.Source.TheVariants.{Field}
use Rattle.task_codes.specs.declared.binding.Binding.{Binding}
use Rattle.std_blocks.specs.declared.value.Value.{Value}
use Rattle.evaluation.specs.Meaning.{given}
use Rattle.evaluation.proofs.MappedLists.{on_true}
use Rattle.evaluation.proofs.FilledInputs.{FilledTo, filled_more, filled_all, filled_fits, next_kind}
use Rattle.evaluation.proofs.fill.fill_program.Goals as goal
use Rattle.evaluation.proofs.fill.fill_program.Goals.{in-Some, in_default}

abbrev none : Binding
none = record { place = 0; source = Field (record { space = Bit; number = 0 }) }

pub loop-binding-preserved : goal.loop-binding-preserved
loop-binding-preserved c =
    let inputs = c.args.inputs.now in
    let takes = c.args.takes.now in
    let bindings = c.args.bindings.now in
    let i = c.loop-binding.binding-index in
    let t = c.loop-binding.state in
    let b = get_or bindings i none in
    let found : slice_get bindings i ≡ Some b = slice_get-get_or bindings i none c.loop-binding-test.true in
    let value = c.requires.ready i b found in
    elim c.match-given.branch [
      | in-Some w ↦
          (let gives : given inputs takes b.source ≡ Some w.in-Some.value = sym c.given.ensures ∙ w.in-Some.is in
          let same : value.0 ≡ w.in-Some.value = same_Some value.0 w.in-Some.value (sym value.1 ∙ gives) in
          let kind : IsKindAt t.slots b.place w.in-Some.value = subst (λ (x : Value). IsKindAt t.slots b.place x) same
          (next_kind inputs takes bindings i c.args.state.now t b value.0 c.requires.once c.loop-binding.invariant found value.2) in
          subst (λ (x : StateValue). FilledTo inputs takes bindings (i + 1) c.args.state.now x) (sym w.state-is)
          (filled_more inputs takes bindings i c.args.state.now t w.set.new.self b w.in-Some.value c.requires.once c.loop-binding.invariant found gives
          (on_true w.set.result _ (w.set.ensures.answer.1 kind) w.set.ensures.stored) (on_true w.set.result _ (w.set.ensures.answer.1 kind) w.set.ensures.changed) w.set.ensures.declared))
      | in_default w ↦ absurd (w.in_default.not-Some value.0 (c.given.ensures ∙ value.1))
    ]

pub returns-clause-filled : goal.returns-clause-filled
returns-clause-filled c =
    filled_all c.args.inputs.now c.args.takes.now c.args.bindings.now c.loop-binding.binding-index c.args.state.now c.loop-binding.state c.loop-binding.invariant (omega arith)

pub returns-clause-fits : goal.returns-clause-fits
returns-clause-fits c = λ l fits. filled_fits c.args.inputs.now c.args.takes.now c.args.bindings.now c.loop-binding.binding-index c.args.state.now c.loop-binding.state l c.loop-binding.invariant fits
