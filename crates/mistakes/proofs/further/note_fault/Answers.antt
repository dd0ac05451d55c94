use Rattle.std.proofs.lemmas.List.Elements.{All-same}
use Rattle.mistakes.specs.Further.{IsFurtherIn}
use Rattle.mistakes.proofs.Noting.{further_noted}
use Rattle.mistakes.proofs.further.note_fault.Goals as goal

pub returns-clause-every : goal.returns-clause-every
returns-clause-every c all =
    All-same (IsFurtherIn c.args.whole.now) _ _ c.in_ok-push.ensures.items
    (further_noted c.args.whole.now c.args.rest.now c.args.fault c.args.faults.now.items c.requires.left c.requires.refused all)
