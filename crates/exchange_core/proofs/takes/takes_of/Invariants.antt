use Rattle.std.proofs.Common.{◌≡◌, map, take}
use Rattle.std.specs.List.{zip}
use Rattle.evaluation.specs.Messages.{take_from}
use Rattle.exchange_core.specs.HeldMessages.{message_known}
use Rattle.exchange_core.proofs.takes.takes_of.Given as goal

abbrev pub invariant-loop-k : goal.invariant-loop-k
invariant-loop-k l = l.takes.items ≡ map (λ e. take_from e.0 e.1 (message_known l.fn.table e.0)) (take l.k (zip l.fn.code.producers l.fn.code.expected))
