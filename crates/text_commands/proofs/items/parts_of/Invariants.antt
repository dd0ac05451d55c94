use Rattle.std.proofs.Common.{◌≡◌, map}
use Rattle.text_commands.specs.Rows.{texts}
use Rattle.text_commands.proofs.items.parts_of.Given as goal

abbrev pub invariant-loop-part : goal.invariant-loop-part
invariant-loop-part l = texts l.parts.items ≡ map (λ part. part.now) l.yielded
