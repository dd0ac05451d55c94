-- A drawing is well drawn, from what was checked.
use Rattle.std.proofs.Common.{ℕ, ◌<◌, ◌≤◌, length, arith, IsFalse, IsTrue}
use Rattle.ladder_text.specs.declared.places.place_fault.PlaceFault.{PlaceFault}
use Rattle.ladder_rows.specs.Rows.{Rows, width}
use Rattle.ladder_text.specs.Places.{layout_of}
use Rattle.ladder_text.specs.Faults.{IsWellDrawn, IsNamed, has_fault, boxes_apart, has_stray_operand}
use Rattle.ladder_rows.specs.Faults.{NowhereInRows, not_ascii, no_left_rail, bad_box}

pub well_drawn_checked : (d : Rows) → NowhereInRows d (not_ascii d) → length d ≤ 2001 → width d ≤ 240 → 0 < width d
    → ((r : ℕ) → r < length d → IsFalse (no_left_rail d r)) → NowhereInRows d (bad_box d) → IsTrue (boxes_apart (layout_of d))
    → ((f : PlaceFault) → NowhereInRows d (has_fault f (layout_of d))) → IsNamed d → IsFalse (has_stray_operand (layout_of d)) → IsWellDrawn d
well_drawn_checked d ascii low narrow drawn rail whole apart places named operands = record {
  ascii = ascii;
  low_enough = omega arith;
  narrow_enough = narrow;
  drawn = drawn;
  left_rail = rail;
  boxes_whole = whole;
  boxes_apart = apart;
  places = places;
  named = named;
  operands_good = operands;
}
