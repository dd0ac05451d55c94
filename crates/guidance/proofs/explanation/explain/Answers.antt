use Rattle.std.proofs.Common.{ap, fold, ◌∙◌}
use Rattle.guidance.specs.declared.remarks.TheConstants.{OCCASIONS}
use Rattle.guidance.specs.declared.topic.TheConstants.{TOPICS}
use Rattle.guidance.specs.Steps.Explained.{and_occasion, and_topic}
use Rattle.guidance.proofs.Told.{all_told}
use Rattle.guidance.proofs.explanation.explain.Goals as goal

pub returns : goal.returns
returns c =
    c.in_ok-push_occasions.ensures
    ∙ (ap (λ text. fold (and_occasion c.args.kind.now) text OCCASIONS) (c.in_ok-push_topics.ensures ∙ ap (λ text. fold (and_topic c.args.kind.now) text TOPICS) c.new-text.ensures.bytes)
    ∙ all_told c.args.kind.now)
