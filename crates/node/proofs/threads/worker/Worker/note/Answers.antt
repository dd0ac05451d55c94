-- With one more fault the keeper keeps what it kept.
use Rattle.node.specs.Steps.States.{journal_of}
use Rattle.node.proofs.Kept.{keeps_more}
use Rattle.node.proofs.threads.worker.Worker.note.Goals as goal

pub invariant_of-self : goal.invariant_of-self
invariant_of-self g c = (
  c.self.invariant.0,
  c.self.invariant.1,
  keeps_more (g.K.Keeper.last c.self.inside.keeper) (g.K.Keeper.kept_gives c.self.inside.keeper) c.self.inside.plant.value c.self.inside.noted c.note.new.self (journal_of c.self.inside.state) c.note.ensures.more
      c.self.invariant.2,
)
