use Rattle.std.proofs.Common.{◌≡◌, length, map}
use Rattle.evaluation.specs.InputTexts.{words_of}
use Rattle.words.specs.Lines.{without_last}
use Rattle.world.specs.Simulated.{from_one}
use Rattle.world.proofs.Simulating.{Stands}
use Rattle.world.proofs.simulation.simulate_world.Given as goal

abbrev pub invariant-loop-text : goal.invariant-loop-text
invariant-loop-text g l = record {
  stands : Stands (from_one l.fn.plant.value l.max_number) (map (λ t. words_of (without_last 13 t.now)) l.yielded) l.simulation.world l.simulation.events (g.W.Write.contents l.initial.out) (g.W.Write.contents l.out);
  number : l.number ≡ length l.yielded;
}
