-- What keep stores may be told.
use Rattle.std.proofs.Common.{rules, ap}
use Rattle.std.specs.Prelude.{string_bytes}
use Rattle.keepers.specs.KeptNumbers.{temporary_file}
use Rattle.keepers.specs.KeptRetained.{retained_file, retained_text}
use Rattle.keepers.proofs.Keeping.{stored_told, stored_either, stored_may}
use Rattle.keepers.proofs.file_keeper.FileKeeperKeeper.TheImpl.Goals as goal

pub keep-tells : goal.keep-tells
keep-tells g x c = record {
  last = c.ensures.last;
  kept =
      stored_told (g.F.Folder.replace_gives c.args.self.now.folder) (g.F.Folder.file c.args.self.now.folder) (g.F.Folder.file c.new.self.now.folder) (string_bytes c.args.self.now.resource) (string_bytes c.new.self.now.resource) c.args.task c.args.code.now c.args.retained.now c.result
      c.ensures.kept (ap string_bytes c.ensures.resource);
  either =
      stored_either (g.F.Folder.replace_gives c.args.self.now.folder) (g.F.Folder.file c.args.self.now.folder) (g.F.Folder.file c.new.self.now.folder) (string_bytes c.args.self.now.resource) (string_bytes c.new.self.now.resource) c.args.task c.args.code.now c.args.retained.now c.result
      c.ensures.kept (ap string_bytes c.ensures.resource);
  others = c.ensures.others;
  given =
      stored_may (g.F.Folder.replace_gives c.args.self.now.folder) (g.F.Folder.file c.args.self.now.folder) (g.F.Folder.file c.new.self.now.folder) (retained_file (string_bytes c.args.self.now.resource) c.args.task)
      (temporary_file (string_bytes c.args.self.now.resource)) (retained_text c.args.code.now c.args.retained.now) c.result c.ensures.kept;
  fault = search rules;
}
