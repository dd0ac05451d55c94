-- The worked drawings, by computation.
use Rattle.std.proofs.Common.{ℕ, zero, suc, ◌+◌, ◌<◌, ◌≡◌, length, Bool, true, false, ◌&&◌, not, leb, ltb, refl, arith, below_more, IsFalse}
use Rattle.std.specs.List.{list_any}
use Rattle.std.proofs.lemmas.Bool.{and_parts, not-true, leb-true, ltb-true, true≢false}
use Rattle.ladder_text.specs.declared.places.place_fault.PlaceFault.{PlaceFault}
use Rattle.ladder_text.specs.declared.places.place_fault.PlaceFault.TheVariants.{BadMark, Crossing, NoSource}
use Rattle.ladder_rows.specs.Rows.{Rows, rows_of, char_at, height, width}
use Rattle.words.specs.Chars.{block_type, is_value_word, is_program_word, is_resource_word, is_task_word, is_reserved, is_identifier, is_plain_name, is_name, is_part, has_parts, is_duration_behind, is_duration, is_operand}
use Rattle.ladder_text.specs.SymbolKinds.{contact_kind, coil_kind}
use Rattle.ladder_rows.specs.Boxes.{left_column, begins_box, nearer_pin, outline_at, box_at, row_outlines, outlines}
use Rattle.ladder_text.specs.Places.{contact_at, coil_at, may_be_rail, has_right_rail, mark, gives, layout_of}
use Rattle.ladder_text.specs.Names.{in_word, word_at, words, symbol_at, symbols, tops, things, name_above, row_contacts, contacts, row_coils, coils, drawn_boxes}
use Rattle.ladder_text.specs.Faults.{IsWellDrawn, IsIllDrawn, has_fault, boxes_apart, name_missing, stray_name, has_stray_operand}
use Rattle.ladder_rows.specs.Faults.{NowhereInRows, not_ascii, no_left_rail, bad_box}
use Rattle.ladder_rows.specs.BoxTests.{some_takes_word}
use Rattle.ladder_text.specs.Picture.{marks_of, picture_of}
use Rattle.plant_tests.specs.Figures.{IsDrawnAs, IsBranchesListed, IsOnDelayListed, branches, branches_marks, start_stop, start_stop_marks, rising_contact, rising_contact_marks, on_delay, on_delay_marks, parallel_wire, parallel_wire_marks, unattached_box, unattached_box_marks, wire_beside_box, box_without_type, box_without_bottom, cut_drawing, two_words, word_of_two, loose_upright, loose_contact}

-- the test passes at each number below n
abbrev below : (ℕ → Bool) → ℕ → Bool
below f zero = true
below f (suc n) = below f n && f n

below_at : (f : ℕ → Bool) (n k : ℕ) → below f n ≡ true → k < n → f k ≡ true
below_at f zero k e h = absurd (omega arith)
below_at f (suc n) k e h =
    let w = and_parts (below f n) (f n) e in
    below_more (λ (j : ℕ). f j ≡ true) n (λ j l. below_at f n j w.0 l) w.1 k (omega arith)

abbrev nowhere : Rows → (ℕ → ℕ → Bool) → Bool
nowhere d test = below (λ r. below (λ c. not (test r c)) (width d + 1)) (length d)

nowhere_at : (d : Rows) (test : ℕ → ℕ → Bool) → nowhere d test ≡ true → NowhereInRows d test
nowhere_at d test e r c h k =
    not-true (test r c) (below_at (λ c. not (test r c)) (width d + 1) c (below_at (λ r. below (λ c. not (test r c)) (width d + 1)) (length d) r e h) (omega arith))

abbrev in_no_row : Rows → (ℕ → Bool) → Bool
in_no_row d test = below (λ r. not (test r)) (length d)

in_no_row_at : (d : Rows) (test : ℕ → Bool) → in_no_row d test ≡ true → (r : ℕ) → r < length d → IsFalse (test r)
in_no_row_at d test e r h = not-true (test r) (below_at (λ r. not (test r)) (length d) r e h)

-- no fault is found, as a test that computes
record IsClear (d : Rows) : Type 0 where
  ascii : nowhere d (not_ascii d) ≡ true
  low : leb (height d) 2000 ≡ true
  narrow : leb (width d) 240 ≡ true
  drawn : ltb 0 (width d) ≡ true
  left_rail : in_no_row d (no_left_rail d) ≡ true
  whole : nowhere d (bad_box d) ≡ true
  apart : boxes_apart (layout_of d) ≡ true
  marks : nowhere d (has_fault BadMark (layout_of d)) ≡ true
  crossings : nowhere d (has_fault Crossing (layout_of d)) ≡ true
  sources : nowhere d (has_fault NoSource (layout_of d)) ≡ true
  named : in_no_row d (λ r. list_any (name_missing (layout_of d) r) (things (layout_of d) r)) ≡ true
  words : in_no_row d (λ r. list_any (stray_name (layout_of d) r) (words (layout_of d) r)) ≡ true
  operands : has_stray_operand (layout_of d) ≡ false

places_clear : (d : Rows) → IsClear d → (fault : PlaceFault) → NowhereInRows d (has_fault fault (layout_of d))
places_clear d clear BadMark = nowhere_at d (has_fault BadMark (layout_of d)) clear.marks
places_clear d clear Crossing = nowhere_at d (has_fault Crossing (layout_of d)) clear.crossings
places_clear d clear NoSource = nowhere_at d (has_fault NoSource (layout_of d)) clear.sources

well_drawn_clear : (d : Rows) → IsClear d → IsWellDrawn d
well_drawn_clear d clear = record {
  ascii = nowhere_at d (not_ascii d) clear.ascii;
  low_enough = leb-true _ _ clear.low;
  narrow_enough = leb-true _ _ clear.narrow;
  drawn = ltb-true _ _ clear.drawn;
  left_rail = in_no_row_at d (no_left_rail d) clear.left_rail;
  boxes_whole = nowhere_at d (bad_box d) clear.whole;
  boxes_apart = clear.apart;
  places = places_clear d clear;
  named = record {
    things_named = in_no_row_at d (λ r. list_any (name_missing (layout_of d) r) (things (layout_of d) r)) clear.named;
    no_stray_name = in_no_row_at d (λ r. list_any (stray_name (layout_of d) r) (words (layout_of d) r)) clear.words;
  };
  operands_good = clear.operands;
}

-- unfolds the words of drawings
drawing_words : Unit {0}
unfolding rows_of char_at block_type is_value_word is_program_word is_resource_word is_task_word is_reserved is_identifier is_plain_name is_name contact_kind coil_kind is_part has_parts is_duration_behind is_duration is_operand left_column begins_box nearer_pin outline_at box_at row_outlines outlines contact_at coil_at may_be_rail has_right_rail mark gives layout_of in_word word_at words symbol_at symbols tops things name_above row_contacts contacts row_coils coils drawn_boxes stray_name name_missing some_takes_word has_stray_operand marks_of picture_of
drawing_words = tt

branches_clear : IsClear (rows_of branches)
unfolding drawing_words branches
branches_clear = record { ascii = refl; low = refl; narrow = refl; drawn = refl; left_rail = refl; whole = refl; apart = refl; marks = refl; crossings = refl; sources = refl; named = refl; words = refl; operands = refl }

pub branches_drawn : IsDrawnAs branches branches_marks
unfolding drawing_words branches branches_marks
branches_drawn = record { well_drawn = well_drawn_clear (rows_of branches) branches_clear; marks = refl }

start_stop_clear : IsClear (rows_of start_stop)
unfolding drawing_words start_stop
start_stop_clear = record { ascii = refl; low = refl; narrow = refl; drawn = refl; left_rail = refl; whole = refl; apart = refl; marks = refl; crossings = refl; sources = refl; named = refl; words = refl; operands = refl }

pub start_stop_drawn : IsDrawnAs start_stop start_stop_marks
unfolding drawing_words start_stop start_stop_marks
start_stop_drawn = record { well_drawn = well_drawn_clear (rows_of start_stop) start_stop_clear; marks = refl }

rising_contact_clear : IsClear (rows_of rising_contact)
unfolding drawing_words rising_contact
rising_contact_clear = record { ascii = refl; low = refl; narrow = refl; drawn = refl; left_rail = refl; whole = refl; apart = refl; marks = refl; crossings = refl; sources = refl; named = refl; words = refl; operands = refl }

pub rising_contact_drawn : IsDrawnAs rising_contact rising_contact_marks
unfolding drawing_words rising_contact rising_contact_marks
rising_contact_drawn = record { well_drawn = well_drawn_clear (rows_of rising_contact) rising_contact_clear; marks = refl }

on_delay_clear : IsClear (rows_of on_delay)
unfolding drawing_words on_delay
on_delay_clear = record { ascii = refl; low = refl; narrow = refl; drawn = refl; left_rail = refl; whole = refl; apart = refl; marks = refl; crossings = refl; sources = refl; named = refl; words = refl; operands = refl }

pub on_delay_drawn : IsDrawnAs on_delay on_delay_marks
unfolding drawing_words on_delay on_delay_marks
on_delay_drawn = record { well_drawn = well_drawn_clear (rows_of on_delay) on_delay_clear; marks = refl }

parallel_wire_clear : IsClear (rows_of parallel_wire)
unfolding drawing_words parallel_wire
parallel_wire_clear = record { ascii = refl; low = refl; narrow = refl; drawn = refl; left_rail = refl; whole = refl; apart = refl; marks = refl; crossings = refl; sources = refl; named = refl; words = refl; operands = refl }

pub parallel_wire_drawn : IsDrawnAs parallel_wire parallel_wire_marks
unfolding drawing_words parallel_wire parallel_wire_marks
parallel_wire_drawn = record { well_drawn = well_drawn_clear (rows_of parallel_wire) parallel_wire_clear; marks = refl }

unattached_box_clear : IsClear (rows_of unattached_box)
unfolding drawing_words unattached_box
unattached_box_clear = record { ascii = refl; low = refl; narrow = refl; drawn = refl; left_rail = refl; whole = refl; apart = refl; marks = refl; crossings = refl; sources = refl; named = refl; words = refl; operands = refl }

pub unattached_box_drawn : IsDrawnAs unattached_box unattached_box_marks
unfolding drawing_words unattached_box unattached_box_marks
unattached_box_drawn = record { well_drawn = well_drawn_clear (rows_of unattached_box) unattached_box_clear; marks = refl }

pub branches_listed : IsBranchesListed
unfolding drawing_words branches
branches_listed = record { contacts = refl; coils = refl }

pub on_delay_listed : IsOnDelayListed
unfolding drawing_words on_delay
on_delay_listed = record { contacts = refl; coils = refl; boxes = refl }

pub wire_beside_box_refused : IsIllDrawn (rows_of wire_beside_box)
unfolding drawing_words wire_beside_box
wire_beside_box_refused well = true≢false (well.places BadMark 2 3 (omega arith) (omega arith))

pub box_without_type_refused : IsIllDrawn (rows_of box_without_type)
unfolding drawing_words box_without_type
box_without_type_refused well = true≢false (well.places NoSource 2 4 (omega arith) (omega arith))

pub box_without_bottom_refused : IsIllDrawn (rows_of box_without_bottom)
unfolding drawing_words box_without_bottom
box_without_bottom_refused well = true≢false (well.boxes_whole 2 4 (omega arith) (omega arith))

pub loose_upright_refused : IsIllDrawn (rows_of loose_upright)
unfolding drawing_words loose_upright
loose_upright_refused well = true≢false (well.places Crossing 3 4 (omega arith) (omega arith))

pub loose_contact_refused : IsIllDrawn (rows_of loose_contact)
unfolding drawing_words loose_contact
loose_contact_refused well = true≢false (well.places Crossing 2 4 (omega arith) (omega arith))

pub cut_drawing_refused : IsIllDrawn (rows_of cut_drawing)
unfolding drawing_words cut_drawing
cut_drawing_refused well = true≢false (well.named.no_stray_name 1 (omega arith))

pub two_words_refused : IsIllDrawn (rows_of two_words)
unfolding drawing_words two_words
two_words_refused well = true≢false (well.named.no_stray_name 1 (omega arith))

pub word_of_two_refused : IsIllDrawn (rows_of word_of_two)
unfolding drawing_words word_of_two
word_of_two_refused well = true≢false (well.named.no_stray_name 1 (omega arith))
