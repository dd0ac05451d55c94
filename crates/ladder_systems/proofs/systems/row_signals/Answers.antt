use Rattle.std.proofs.Common.{length, ap, ◌∙◌, ◌+◌}
use Rattle.std.proofs.lemmas.List.{length_push}
use Rattle.ladder_systems.proofs.systems.row_signals.Goals as goal

pub loop-digit-preserved : goal.loop-digit-preserved
loop-digit-preserved c = record {
  built = λ v agrees. c.loop-digit.invariant.built v (c.in_ok-bit.ensures v agrees).0;
  long = ap length c.in_ok-push.ensures.items ∙ length_push c.loop-digit.row.items c.in_ok-bit.bit ∙ ap (λ n. n + 1) c.loop-digit.invariant.long;
}
