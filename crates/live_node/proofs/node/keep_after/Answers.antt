-- What an evaluation left is kept once all that is noted is on the disk.
use Rattle.std.proofs.Common.{refl}
use Rattle.live_node.specs.declared.node_stop.NodeStop.TheVariants.{Memory, Note}
use Rattle.live_node.proofs.Stopping.{keeper_stop, other_stop}
use Rattle.live_node.proofs.Syncing.{same_first, synced_first}
use Rattle.live_node.proofs.node.keep_after.Goals as goal

pub returns-in_err-sync-clause-first : goal.returns-in_err-sync-clause-first
returns-in_err-sync-clause-first g c = same_first g.K.Keeper.kept_gives c.args.keeper.now c.args.keeper.now (g.N.Notes.noted c.sync.new.self) (g.N.Notes.synced c.sync.new.self) refl

pub returns-in_err-sync-clause-fault : goal.returns-in_err-sync-clause-fault
returns-in_err-sync-clause-fault g c = other_stop Note c.from_residual.result c.from_residual.ensures.1 tt

pub returns-in_err-retained-clause-first : goal.returns-in_err-retained-clause-first
returns-in_err-retained-clause-first g c = same_first g.K.Keeper.kept_gives c.args.keeper.now c.args.keeper.now (g.N.Notes.noted c.sync.new.self) (g.N.Notes.synced c.sync.new.self) refl

pub returns-in_err-retained-clause-fault : goal.returns-in_err-retained-clause-fault
returns-in_err-retained-clause-fault g c = other_stop Memory c.from_residual-in_err-retained.result c.from_residual-in_err-retained.ensures.1 tt

pub returns-in_err-keep-clause-first : goal.returns-in_err-keep-clause-first
returns-in_err-keep-clause-first g c =
    synced_first (g.K.Keeper.kept_gives c.args.keeper.now) (g.K.Keeper.kept_gives c.keep.new.self) (g.N.Notes.noted c.sync.new.self) (g.N.Notes.synced c.sync.new.self) c.in_ok-sync.ensures.synced

pub returns-in_err-keep-clause-fault : goal.returns-in_err-keep-clause-fault
returns-in_err-keep-clause-fault g c = keeper_stop c.in_err-keep.field-0.0 c.from_residual-in_err-keep.result c.from_residual-in_err-keep.ensures.1 c.in_err-keep.ensures.fault

pub returns-clause-first : goal.returns-clause-first
returns-clause-first g c =
    synced_first (g.K.Keeper.kept_gives c.args.keeper.now) (g.K.Keeper.kept_gives c.keep.new.self) (g.N.Notes.noted c.sync.new.self) (g.N.Notes.synced c.sync.new.self) c.in_ok-sync.ensures.synced
