use Rattle.std.proofs.Common.{◌≡◌, fold, take, string_bytes}
use Rattle.guidance.specs.Steps.Explained.{and_occasion}
use Rattle.guidance.proofs.explanation.push_occasions.Given as goal

abbrev pub invariant-loop-occasion : goal.invariant-loop-occasion
invariant-loop-occasion l = string_bytes l.text ≡ fold (and_occasion l.name) (string_bytes l.initial.text) (take l.occasion-index l.occasions)
