-- The plant of the run is the one that it is handed.
use Rattle.node.proofs.threads.run_all.Given as goal

abbrev pub ghosts-run_for : goal.ghosts-run_for
ghosts-run_for g a = record { plant = a.plant.now.value }
