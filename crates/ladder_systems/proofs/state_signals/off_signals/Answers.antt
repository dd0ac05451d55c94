use Rattle.std.proofs.Common.{◌++◌, ◌∷◌, [], ap, ◌∙◌}
use Rattle.std.proofs.lemmas.List.{replicate_more}
use Rattle.ladder_systems.specs.Steps.States.{off}
use Rattle.ladder_systems.proofs.state_signals.off_signals.Goals as goal

pub loop-place-preserved : goal.loop-place-preserved
loop-place-preserved c = c.in_ok-push.ensures.items ∙ ap (λ l. l ++ off ∷ []) c.loop-place.invariant ∙ replicate_more c.loop-place._place off
