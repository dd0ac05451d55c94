use Rattle.std.proofs.Common.{◌≡◌}
use Rattle.ladder_rows.specs.Rows.{upto}
use Rattle.ladder_text.specs.Places.{layout_of}
use Rattle.ladder_text.specs.Names.{row_contacts, row_coils}
use Rattle.ladder_text.proofs.symbols.Symbols.of.Given as goal

abbrev pub invariant-loop-row : goal.invariant-loop-row
invariant-loop-row l = (l.symbols.contacts.items ≡ upto l.row (row_contacts (layout_of l.worded)))
    × (l.symbols.coils.items ≡ upto l.row (row_coils (layout_of l.worded)))
