use Rattle.std.proofs.Common.{◌≡◌, ◌++◌, take, string_bytes}
use Rattle.std.specs.List.{flat_map}
use Rattle.guidance.specs.Explaining.{topic_line}
use Rattle.guidance.proofs.explanation.push_topic_kinds.Given as goal

abbrev pub invariant-loop-topic : goal.invariant-loop-topic
invariant-loop-topic l = string_bytes l.text ≡ string_bytes l.initial.text ++ flat_map topic_line (take l.topic-index l.topics)
