use Rattle.std.proofs.Common.{◌≡◌, length, map}
use Rattle.evaluation.specs.InputTexts.{words_of}
use Rattle.words.specs.Lines.{without_last}
use Rattle.world.specs.Simulated.{from_one}
use Rattle.tested_schedules.specs.Steps.Testing.{AreIncarnations, state_of}
use Rattle.tested_schedules.proofs.Standing.{Standing}
use Rattle.tested_schedules.proofs.testing.test_schedule.Given as goal

abbrev pub invariant-loop-text : goal.invariant-loop-text
invariant-loop-text g l = record {
  stands : Standing (from_one l.fn.plant.value l.max_number) (map (λ t. words_of (without_last 13 t.now)) l.yielded) (state_of l.testing) (g.W.Write.contents l.initial.out) (g.W.Write.contents l.out);
  known : AreIncarnations l.testing.world l.testing.incarnations.items;
  number : l.number ≡ length l.yielded;
}
