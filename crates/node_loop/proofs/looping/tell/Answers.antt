-- What is noted didn't come to the disk; or what waits isn't written.
use Rattle.node_loop.proofs.Telling.{unsynced_told, unwritten_told}
use Rattle.node_loop.proofs.looping.tell.Goals as goal

pub returns-in_err-sync-clause-untold : goal.returns-in_err-sync-clause-untold
returns-in_err-sync-clause-untold g c =
    unsynced_told c.from_residual.result c.in_err-sync.field-0.0 c.args.waiting.now (g.N.Notes.noted c.sync.new.self.node.notes) (g.N.Notes.synced c.sync.new.self.node.notes) (g.W.Write.contents c.args.out.now) c.in_err-sync.ensures.stopped c.from_residual.ensures.1

pub returns-clause-untold : goal.returns-clause-untold
returns-clause-untold g c =
    unwritten_told c.hand_on.result c.args.waiting.now (g.N.Notes.noted c.sync.new.self.node.notes) (g.N.Notes.synced c.sync.new.self.node.notes) (g.W.Write.contents c.args.out.now) (g.W.Write.contents c.hand_on.new.out) c.in_ok-sync.ensures.synced c.hand_on.ensures.part
