use Rattle.std.proofs.Common.{◌≡◌, Some, map, take}
use Rattle.evaluation.specs.InputTexts.{input_of}
use Rattle.evaluation.proofs.read_inputs.inputs_of.Given as goal

abbrev pub invariant-loop-word : goal.invariant-loop-word
invariant-loop-word l = map (λ i. Some i) l.inputs.items ≡ map (λ w. input_of w.now) (take l.word-index l.words)
