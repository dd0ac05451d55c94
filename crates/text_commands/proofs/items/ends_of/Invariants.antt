use Rattle.std.proofs.Common.{◌≡◌, ℕ, ◌+◌, ◌<◌, ◌≤◌, get_or, length, take}
use Rattle.text_commands.specs.Series.{given_by}
use Rattle.text_commands.proofs.items.ends_of.Given as goal

abbrev pub invariant-loop-item : goal.invariant-loop-item
invariant-loop-item l = record {
  end_is : l.end ≡ length (given_by (take l.item-index l.items));
  few : l.end ≤ 1000000;
  long : length l.ends.items ≡ l.item-index;
  each : (i : ℕ) → i < l.item-index → get_or l.ends.items i 0 ≡ length (given_by (take (i + 1) l.items));
}
