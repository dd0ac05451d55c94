use Rattle.std.proofs.Common.{◌≡◌, ◌≤◌, ◌-◌}
use Rattle.ladder_rows.specs.Rows.{upto}
use Rattle.ladder_rows.specs.Boxes.{option_list}
use Rattle.ladder_text.specs.Places.{layout_of}
use Rattle.ladder_text.specs.Names.{in_word, word_at}
use Rattle.ladder_text.proofs.names.spans.words.Given as goal

abbrev pub invariant-loop-column : goal.invariant-loop-column
invariant-loop-column l = record {
  within : l.column ≤ l.last;
  words : l.words.items ≡ upto l.column (λ c. option_list (word_at (layout_of l.marked) l.row c));
  inside : l.inside ≡ in_word (layout_of l.marked) l.row l.column;
}

abbrev pub decreases-loop-column : goal.decreases-loop-column
decreases-loop-column l = l.last - l.column
