-- What was asked decides.
use Rattle.node_reports.proofs.AskedAlike.{equal_if_asked_alike, asked_alike_if_equal}
use Rattle.node_reports.proofs.comparing.are_equal.Goals as goal

pub returns : goal.returns
returns c =
    let x = c.args.frame.now in
    let y = c.args.other.now in (
      λ yes. equal_if_asked_alike c.one_evaluation.ensures x y c.outputs-outputs.ensures.meant c.outputs-outputs.ensures.whole c.outputs-others.ensures.meant c.outputs-others.ensures.whole c.requires.one_code
          (rw (c.evaluation.ensures, c.evaluation-2.ensures) at (c.are_asked_alike.ensures.0 yes)),
      λ same. c.are_asked_alike.ensures.1 (rw (c.evaluation.ensures, c.evaluation-2.ensures) (asked_alike_if_equal x y same)),
    )
