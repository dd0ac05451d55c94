use Rattle.std.proofs.Common.{map, take}
use Rattle.warnings.specs.Steps.NameSets.{AreSmall, AnswerAsSmall}
use Rattle.warnings.proofs.small_names.all_small.Given as goal

abbrev pub invariant-loop-name : goal.invariant-loop-name
invariant-loop-name l =
    AreSmall (map (λ n. n.now) (take l.name-index l.names)) l.seen × AnswerAsSmall (map (λ n. n.now) (take l.name-index l.names)) l.all.items
