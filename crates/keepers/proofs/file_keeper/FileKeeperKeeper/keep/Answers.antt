-- The values suit the code, so they are as many as its retained variables. What replaces the task's file leaves those of the others.
use Rattle.std.proofs.Common.{arith, rules, ap}
use Rattle.std.specs.Prelude.{string_bytes}
use Rattle.keepers.specs.KeptRetained.{retained_text}
use Rattle.keepers.proofs.Keeping.{stored_others}
use Rattle.keepers.proofs.ReadTexts.{suits_many}
use Rattle.keepers.proofs.file_keeper.FileKeeperKeeper.keep.Goals as goal

pub retained_text-requires : goal.retained_text-requires
retained_text-requires g c = suits_many c.args.code.now c.values.result.now c.args.retained.now c.values.ensures c.requires

pub returns-clause-others : goal.returns-clause-others
returns-clause-others g c =
    stored_others (g.F.Folder.replace_gives c.args.self.now.folder) (g.F.Folder.file c.args.self.now.folder) (g.F.Folder.file c.store.new.self.folder) (string_bytes c.args.self.now.resource) (string_bytes c.store.new.self.resource)
    (retained_text c.args.code.now c.args.retained.now) c.args.task c.store.result (omega arith) (search rules) (ap string_bytes c.store.ensures.resource)
