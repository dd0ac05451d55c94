use Rattle.std.proofs.Common.{ap, rules, ◌∙◌}
use Rattle.traces.proofs.Tracks.{nothing_made}
use Rattle.traces.specs.Moments.{made_at}
use Rattle.traces.proofs.evaluated_moments.of_events.Goals as goal

pub loop-entry-init : goal.loop-entry-init
loop-entry-init c = record {
  many = search rules;
  made = ap made_at (c.in_ok-moments.ensures.items_if_clones_equal (search rules)) ∙ nothing_made c.in-Ok.count;
}
