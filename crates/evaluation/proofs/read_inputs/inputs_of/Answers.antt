use Rattle.std.proofs.Common.{map, sym, ap, ◌∙◌}
use Rattle.std.proofs.lemmas.List.{take_all}
use Rattle.lists.proofs.Mapped.{map-map}
use Rattle.evaluation.specs.InputTexts.{input_of}
use Rattle.evaluation.proofs.read_inputs.inputs_of.Goals as goal

pub returns-clause-read : goal.returns-clause-read
returns-clause-read c =
    map-map input_of (λ w. w.now) c.args.words.now
    ∙ ap (map (λ w. input_of w.now)) (sym (take_all c.loop-word.word-index c.args.words.now c.loop-word-test.false))
    ∙ sym c.loop-word.invariant
