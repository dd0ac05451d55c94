use Rattle.std.proofs.Common.{◌≡◌, map}
use Rattle.text_commands.specs.declared.live_drawing.Sign.TheVariants.{Drawn}
use Rattle.text_commands.proofs.live_drawing.Line.drawn.Given as goal

abbrev pub invariant-loop-sign : goal.invariant-loop-sign
invariant-loop-sign l = l.signs.items ≡ map (λ c. Drawn c) l.yielded
