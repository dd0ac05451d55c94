use Rattle.std.proofs.Common.{◌≡◌, length, map}
use Rattle.drawings.specs.Picture.{Picture}
use Rattle.network.specs.Steps.Listed.{stand_for}
use Rattle.network.specs.Steps.Ranks.{AreSplit}
use Rattle.network.proofs.order.split.split_entries.Given as goal

abbrev pub invariant-loop-k : goal.invariant-loop-k
invariant-loop-k l = record {
  long : length l.parts.items ≡ l.count;
  split : (g : Picture) → AreSplit (stand_for g l.entries) l.ranks l.count (map (stand_for g) l.parts.items) l.k;
}
