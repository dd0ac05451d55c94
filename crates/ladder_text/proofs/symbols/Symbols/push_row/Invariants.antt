use Rattle.std.proofs.Common.{◌≡◌, ◌++◌, take}
use Rattle.std.specs.List.{filter_map}
use Rattle.ladder_rows.specs.declared.span.Span.{Span}
use Rattle.ladder_text.specs.Places.{layout_of}
use Rattle.ladder_text.specs.Names.{contact_here, coil_here}
use Rattle.ladder_text.proofs.symbols.Symbols.push_row.Given as goal

abbrev pub invariant-loop-near : goal.invariant-loop-near
invariant-loop-near l =
    (l.self.contacts.items ≡ l.initial.self.contacts.items ++ filter_map (λ (s : Span). contact_here (layout_of l.worded) l.row s.first) (take l.near l.symbol-items))
    × (l.self.coils.items ≡ l.initial.self.coils.items ++ filter_map (λ (s : Span). coil_here (layout_of l.worded) l.row s.first) (take l.near l.symbol-items))
