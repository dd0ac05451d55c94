use Rattle.scan_steps.proofs.rung.Rung.scan.Goals as goal

pub set_bool-requires : goal.set_bool-requires
set_bool-requires c = c.requires.coil c.all_conduct-on.result
