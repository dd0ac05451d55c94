use Rattle.std.proofs.Common.{◌≡◌, fold, take, string_bytes}
use Rattle.guidance.specs.Steps.Explained.{and_topic}
use Rattle.guidance.proofs.explanation.push_topics.Given as goal

abbrev pub invariant-loop-topic : goal.invariant-loop-topic
invariant-loop-topic l = string_bytes l.text ≡ fold (and_topic l.name) (string_bytes l.initial.text) (take l.topic-index l.topics)
