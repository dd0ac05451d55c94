use Rattle.std.proofs.Common.{◌≡◌, length, map, take}
use Rattle.std.specs.Char.{to_ascii_lowercase}
use Rattle.declared_names.proofs.declarations.put_small.Given as goal

abbrev pub invariant-loop-i : goal.invariant-loop-i
invariant-loop-i l = record {
  long : length l.room ≡ length l.name;
  small : take l.i l.room ≡ map to_ascii_lowercase (take l.i l.name);
}
