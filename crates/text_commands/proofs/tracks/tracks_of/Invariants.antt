use Rattle.std.proofs.Common.{◌≡◌}
use Rattle.text_commands.specs.Traced.{tracks_to}
use Rattle.text_commands.specs.Steps.Testing.{slots_of}
use Rattle.text_commands.proofs.tracks.tracks_of.Given as goal

abbrev pub invariant-loop-place : goal.invariant-loop-place
invariant-loop-place l = l.tracks.items ≡ tracks_to l.declarations (slots_of l.states) l.place
