-- Drawings that have no ladder, by computation.
use Rattle.std.proofs.Common.{ℕ, zero, suc, ◌+◌, ◌≡◌, ◌∙◌, List, [], ◌∷◌, Bool, true, false, inl, refl, arith, sym, ap, subst}
use Rattle.std.specs.List.{list_all}
use Rattle.std.proofs.lemmas.Bool.{and_parts, true≢false}
use Rattle.std.specs.Prelude.{slice_index_or}
use Rattle.drawings.specs.declared.drawn_box.DrawnBox.{DrawnBox}
use Rattle.std_blocks.specs.declared.block_type.BlockType.TheVariants as block
use Rattle.ladder_rows.specs.Rows.{rows_of, char_at}
use Rattle.words.specs.Chars.{block_type, is_value_word, is_program_word, is_resource_word, is_task_word, is_reserved, is_identifier, is_plain_name, is_name, is_part, has_parts, is_duration_behind, is_duration, is_operand}
use Rattle.ladder_text.specs.SymbolKinds.{contact_kind, coil_kind}
use Rattle.ladder_rows.specs.Boxes.{left_column, begins_box, nearer_pin, outline_at, box_at, row_outlines, outlines}
use Rattle.ladder_text.specs.Places.{contact_at, coil_at, may_be_rail, has_right_rail, mark, gives, layout_of}
use Rattle.ladder_text.specs.Names.{in_word, word_at, words, symbol_at, symbols, tops, things, name_above, row_contacts, contacts, row_coils, coils, drawn_boxes}
use Rattle.ladder_text.specs.Faults.{name_missing, stray_name, has_stray_operand}
use Rattle.ladder_rows.specs.BoxTests.{some_takes_word}
use Rattle.ladder_text.specs.Picture.{marks_of, picture_of}
use Rattle.drawings.specs.declared.mark.Mark.{Mark}
use Rattle.drawings.specs.declared.mark.Mark.TheVariants as mark
use Rattle.drawings.specs.Picture.{Picture, mark_at}
use Rattle.network.specs.declared.element.Element.{Element}
use Rattle.network.specs.declared.element.Element.TheVariants.{Wire, Join, Upright, Contact, Coil, Box}
use Rattle.network.specs.Networks.{HasFaultlessNetworks, IsElementOf, Chained, MeetsAt}
use Rattle.network.specs.Networks.Chained.{here, along}
use Rattle.network.specs.Links.{place, Takes}
use Rattle.power_flow.specs.LadderValue.{LadderValue}
use Rattle.plant_grammar.specs.declared.grammar.tree.Program.{Program}
use Rattle.plant.specs.Ladders.{IsLadderOf}
use Rattle.plant_tests.specs.Figures.{unattached_box}
use Rattle.plant_tests.specs.NoLadder.{HasNoLadder, name_twice, tall_box}

-- unfolds the words of drawings
drawing_words : Unit {0}
unfolding rows_of char_at block_type is_value_word is_program_word is_resource_word is_task_word is_reserved is_identifier is_plain_name is_name contact_kind coil_kind is_part has_parts is_duration_behind is_duration is_operand left_column begins_box nearer_pin outline_at box_at row_outlines outlines contact_at coil_at may_be_rail has_right_rail mark gives layout_of in_word word_at words symbol_at symbols tops things name_above row_contacts contacts row_coils coils drawn_boxes stray_name name_missing some_takes_word has_stray_operand marks_of picture_of
drawing_words = tt

-- the networks of a body that has a ladder have no fault
faultless_of : (text : List ℕ) (p : Program) (l : LadderValue) → p.body ≡ text → (is : IsLadderOf p l) → HasFaultlessNetworks (picture_of is.first_line (layout_of (rows_of text)))
faultless_of text p l body is = subst (λ t. HasFaultlessNetworks (picture_of is.first_line (layout_of (rows_of t)))) body is.networks_faultless

any_box : DrawnBox
any_box = record { top = 0; left = 0; bottom = 0; right = 0; block = block.TON; instance = []; pins = [] }

-- box k of a drawing
abbrev box_of : List ℕ → ℕ → DrawnBox
box_of text k = slice_index_or (drawn_boxes (layout_of (rows_of text))) k any_box

pub name_twice_refused : HasNoLadder name_twice
unfolding drawing_words name_twice picture_of drawn_boxes
name_twice_refused p l body is =
    let b = box_of name_twice 0 in
    let c = box_of name_twice 1 in
    (faultless_of name_twice p l body is).named_once (place 7 4) (b, c, (0, omega arith, refl), (1, omega arith, refl), inl (omega arith), refl, refl)

-- no wire, join or upright
abbrev is_apart : Mark → Bool
is_apart mark.Blank = true
is_apart mark.Rail = true
is_apart mark.Wire = false
is_apart mark.Join = false
is_apart mark.Upright = false
is_apart mark.ContactPart = true
is_apart mark.CoilPart = true
is_apart mark.BoxPart = true

in_row : (row : List Mark) (c : ℕ) → list_all is_apart row ≡ true → is_apart (slice_index_or row c mark.Blank) ≡ true
in_row [] c all = refl
in_row (m ∷ row) zero all = (and_parts (is_apart m) (list_all is_apart row) all).0
in_row (m ∷ row) (suc c) all = in_row row c (and_parts (is_apart m) (list_all is_apart row) all).1

in_rows : (rows : List (List Mark)) (r c : ℕ) → list_all (list_all is_apart) rows ≡ true → is_apart (slice_index_or (slice_index_or rows r []) c mark.Blank) ≡ true
in_rows [] r c all = refl
in_rows (row ∷ rows) zero c all = in_row row c (and_parts (list_all is_apart row) (list_all (list_all is_apart) rows) all).0
in_rows (row ∷ rows) (suc r) c all = in_rows rows r c (and_parts (list_all is_apart row) (list_all (list_all is_apart) rows) all).1

-- a picture of one box and nothing else
record IsLone (g : Picture) (b : DrawnBox) : Type 0 where
  marks : list_all (list_all is_apart) g.marks ≡ true
  contacts : g.contacts ≡ []
  coils : g.coils ≡ []
  boxes : g.boxes ≡ b ∷ []

module _ (g : Picture) (b : DrawnBox) (lone : IsLone g b) where
  apart_at : (r c : ℕ) → is_apart (mark_at g r c) ≡ true
  unfolding mark_at
  apart_at zero c = refl
  apart_at (suc r) c = in_rows g.marks r c lone.marks

  only_box : (e : Element) → IsElementOf g e → e ≡ Box b
  only_box (Wire at) is = absurd (true≢false (sym (apart_at at.row at.column) ∙ ap is_apart is))
  only_box (Join at) is = absurd (true≢false (sym (apart_at at.row at.column) ∙ ap is_apart is))
  only_box (Upright at) is = absurd (true≢false (sym (apart_at at.row at.column) ∙ ap is_apart is))
  only_box (Contact x) is = let few = rw lone.contacts at is.1 in absurd (omega (arith, few))
  only_box (Coil x) is = let few = rw lone.coils at is.1 in absurd (omega (arith, few))
  only_box (Box x) (zero, few, is) = ap Box (sym (rw lone.boxes at is))
  only_box (Box x) (suc k, few, is) = let few' = rw lone.boxes at few in absurd (omega (arith, few'))

  chained_box : (e : Element) → Chained g (Box b) e → e ≡ Box b
  chained_box e here = refl
  chained_box e (along before is linked) = only_box e is

pub unattached_box_refused : HasNoLadder unattached_box
unfolding drawing_words unattached_box picture_of drawn_boxes
unattached_box_refused p l body is =
    let b = box_of unattached_box 0 in
    let g = picture_of is.first_line (layout_of (rows_of unattached_box)) in
    let lone : IsLone g b = record { marks = refl; contacts = refl; coils = refl; boxes = refl } in
    let never : (row : ℕ) → MeetsAt g (Box b) row → ⊥ =
    λ row m. let takes = subst (λ f. Takes f (place row (g.left + 1))) (chained_box g b lone m.1 m.2) m.3 in absurd (omega (arith, takes.0)) in
    (faultless_of unattached_box p l body is).attached (place 2 4) (Box b, (0, omega arith, refl), never, refl)

pub tall_box_refused : HasNoLadder tall_box
unfolding drawing_words tall_box picture_of drawn_boxes
tall_box_refused p l body is =
    let b = box_of tall_box 0 in
    (faultless_of tall_box p l body is).low (place 2 4) (Box b, Box b, Box b, (0, omega arith, refl), here, here, omega arith, refl)
