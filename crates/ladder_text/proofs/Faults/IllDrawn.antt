-- A text in which a fault was found isn't well drawn.
use Rattle.std.proofs.Common.{ℕ, ◌<◌, ◌≤◌, ◌≡◌, ◌∙◌, length, sym, arith, Bool, true, false, IsTrue}
use Rattle.std.specs.List.{list_any}
use Rattle.std.proofs.lemmas.Bool.{true≢false}
use Rattle.ladder_text.specs.declared.places.place_fault.PlaceFault.{PlaceFault}
use Rattle.ladder_rows.specs.Rows.{Rows, width}
use Rattle.ladder_text.specs.Places.{layout_of}
use Rattle.ladder_text.specs.Names.{words, things}
use Rattle.ladder_text.specs.Faults.{IsIllDrawn, boxes_apart, has_stray_operand, has_fault, name_missing, stray_name}
use Rattle.ladder_rows.specs.Faults.{PassesInRows, bad_box, not_ascii, no_left_rail}

pub clash : (b : Bool) → b ≡ true → b ≡ false → ⊥
clash b t f = true≢false (sym t ∙ f)

pub ill_place : (d : Rows) (f : PlaceFault) (r c : ℕ) → PassesInRows d (has_fault f (layout_of d)) r c → IsIllDrawn d
ill_place d f r c w well = clash (has_fault f (layout_of d) r c) w.passes (well.places f r c w.in_rows w.in_columns)

pub ill_ascii : (d : Rows) (r c : ℕ) → PassesInRows d (not_ascii d) r c → IsIllDrawn d
ill_ascii d r c w well = clash (not_ascii d r c) w.passes (well.ascii r c w.in_rows w.in_columns)

pub ill_large : (d : Rows) → (length d ≤ 2001 → width d ≤ 240 → ⊥) → IsIllDrawn d
ill_large d h well =
    let low = well.low_enough in
    h (omega arith) well.narrow_enough

pub ill_empty : (d : Rows) → width d ≡ 0 → IsIllDrawn d
ill_empty d e well =
    let drawn = well.drawn in
    absurd (omega arith)

pub ill_rail : (d : Rows) (r : ℕ) → r < length d → IsTrue (no_left_rail d r) → IsIllDrawn d
ill_rail d r h t well = clash (no_left_rail d r) t (well.left_rail r h)

pub ill_box : (d : Rows) (r c : ℕ) → PassesInRows d (bad_box d) r c → IsIllDrawn d
ill_box d r c w well = clash (bad_box d r c) w.passes (well.boxes_whole r c w.in_rows w.in_columns)

pub ill_apart : (d : Rows) → boxes_apart (layout_of d) ≡ false → IsIllDrawn d
ill_apart d f well = clash (boxes_apart (layout_of d)) well.boxes_apart f

pub ill_missing : (d : Rows) (r : ℕ) → r < length d → IsTrue (list_any (name_missing (layout_of d) r) (things (layout_of d) r)) → IsIllDrawn d
ill_missing d r h t well = clash (list_any (name_missing (layout_of d) r) (things (layout_of d) r)) t (well.named.things_named r h)

pub ill_stray : (d : Rows) (r : ℕ) → r < length d → IsTrue (list_any (stray_name (layout_of d) r) (words (layout_of d) r)) → IsIllDrawn d
ill_stray d r h t well = clash (list_any (stray_name (layout_of d) r) (words (layout_of d) r)) t (well.named.no_stray_name r h)

pub ill_operand : (d : Rows) → has_stray_operand (layout_of d) ≡ true → IsIllDrawn d
ill_operand d t well = clash (has_stray_operand (layout_of d)) t well.operands_good
