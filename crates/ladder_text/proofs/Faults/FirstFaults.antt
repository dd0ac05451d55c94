-- The first fault, from what was found and what was ruled out before.
use Rattle.std.proofs.Common.{ℕ, ◌+◌, ◌<◌, ◌≤◌, ◌≡◌, ◌==◌, if◌then◌else◌, length, Option, refl, sym, ap, ◌∙◌, subst, arith, Bool, true, IsTrue, IsFalse, inl, inr}
use Rattle.std.specs.List.{list_any}
use Rattle.std.proofs.lemmas.Bool.{cases_lt, both_ways}
use Rattle.std.proofs.lemmas.List.Folds.{list_any_at}
use Rattle.ladder_text.specs.declared.draw_fault.DrawFaultKind.{DrawFaultKind}
use Rattle.ladder_text.specs.declared.draw_fault.DrawFaultKind.TheVariants as kind
use Rattle.drawings.specs.declared.drawn_box.DrawnPin.{DrawnPin}
use Rattle.ladder_rows.specs.declared.boxes.outline.Outline.{Outline}
use Rattle.drawings.specs.declared.place.Place.{Place}
use Rattle.ladder_text.specs.declared.places.place_fault.PlaceFault.{PlaceFault}
use Rattle.ladder_text.specs.declared.places.place_fault.PlaceFault.TheVariants.{BadMark, Crossing, NoSource}
use Rattle.ladder_rows.specs.Rows.{Rows, width}
use Rattle.ladder_rows.specs.Laws.{AreBoxesWhole}
use Rattle.ladder_rows.specs.Boxes.{left_column, outlines}
use Rattle.ladder_text.specs.Places.{layout_of}
use Rattle.ladder_text.specs.Names.{words, things}
use Rattle.ladder_rows.specs.Faults.{PassesInRows, NowhereInRows, not_ascii, no_left_rail, bad_box, IsFirstAt, IsTooLargeAt}
use Rattle.ladder_text.specs.Faults.{IsWellDrawn, has_fault, boxes_apart, name_missing, stray_name, is_stray_operand, has_stray_pin, has_stray_operand}
use Rattle.ladder_text.specs.FirstFault.{IsDrawFaultAt, HasNoDrawFault, IsFirstDrawFault, IsOffRailAt, IsSharedAt, IsUnnamedAt, IsStrayWordAt, IsStrayOperandAt, IsSpanAt, rank}
use Rattle.ladder_text.specs.Steps.Search.{IsNone, IsFirstOf, IsFirstFrom, IsFirstColumn, or_earlier}
use Rattle.ladder_text.proofs.Outlines.BoxOrder.{not_apart}
use Rattle.ladder_text.proofs.Outlines.RisingBoxes.{outlines_rising}
use Rattle.ladder_text.proofs.Faults.FirstPlaces.{no_span, row_first, either_first, second_first}
use Rattle.lists.proofs.Longest.{row-narrow}

rank_above : (k : DrawFaultKind) → 0 < rank k
rank_above kind.NotAscii = omega arith
rank_above kind.TooLarge = omega arith
rank_above kind.NoLeftRail = omega arith
rank_above kind.BadBox = omega arith
rank_above kind.BadMark = omega arith
rank_above kind.Crossing = omega arith
rank_above kind.NoSource = omega arith
rank_above kind.NameMissing = omega arith
rank_above kind.StrayName = omega arith
rank_above kind.Memory = omega arith

kind_of : ℕ → DrawFaultKind
kind_of n =
    if n == 1 then kind.NotAscii else (if n == 2 then kind.TooLarge else (if n == 3 then kind.NoLeftRail else (if n == 4 then kind.BadBox
    else (if n == 5 then kind.BadMark else (if n == 6 then kind.Crossing else (if n == 7 then kind.NoSource else (if n == 8 then kind.NameMissing
    else (if n == 9 then kind.StrayName else kind.Memory))))))))

kind_of-rank : (k : DrawFaultKind) → kind_of (rank k) ≡ k
unfolding kind_of
kind_of-rank kind.NotAscii = refl
kind_of-rank kind.TooLarge = refl
kind_of-rank kind.NoLeftRail = refl
kind_of-rank kind.BadBox = refl
kind_of-rank kind.BadMark = refl
kind_of-rank kind.Crossing = refl
kind_of-rank kind.NoSource = refl
kind_of-rank kind.NameMissing = refl
kind_of-rank kind.StrayName = refl
kind_of-rank kind.Memory = refl

same_kind : (a b : DrawFaultKind) → rank a ≡ rank b → a ≡ b
same_kind a b e = sym (kind_of-rank a) ∙ ap kind_of e ∙ kind_of-rank b

-- the kind that is sought first
pub from_here : (d : Rows) (k : DrawFaultKind) (r c : ℕ) → IsFirstAt (IsDrawFaultAt d k) r c → IsFirstFrom d (rank k) k r c
from_here d k r c first = record { place = first; before = λ e h l. absurd (omega (arith, h, l)) }

-- one more kind before, of which no fault is anywhere
pub from_before : (d : Rows) (b k : DrawFaultKind) (r c : ℕ) → IsNone (IsDrawFaultAt d b) → IsFirstFrom d (rank b + 1) k r c → IsFirstFrom d (rank b) k r c
from_before d b k r c none first = record {
  place = first.place;
  before = λ e h l. elim (cases_lt (rank b) (rank e)) [
    | inl m ↦ first.before e (omega arith) l
    | inr m ↦ subst (λ (f : DrawFaultKind). IsNone (IsDrawFaultAt d f)) (same_kind b e (omega arith)) none
  ];
}

-- all kinds
pub from_first : (d : Rows) (k : DrawFaultKind) (r c : ℕ) → IsFirstFrom d 1 k r c → IsFirstDrawFault d k r c
from_first d k r c first = record { place = first.place; before = λ e l. first.before e (omega (arith, rank_above e)) l }

none_found : (d : Rows) (test : ℕ → ℕ → Bool) → NowhereInRows d test → IsNone (PassesInRows d test)
none_found d test none r c w = both_ways (test r c) (none r c w.in_rows w.in_columns) w.passes

none_large : (d : Rows) → length d ≤ 2001 → width d ≤ 240 → IsNone (IsTooLargeAt d)
none_large d low narrow r c (inl w) = absurd (omega (arith, w.0))
none_large d low narrow r c (inr w) = absurd (omega (arith, row-narrow d r 241 w.0))

none_off_rail : (d : Rows) → 0 < width d → ((r : ℕ) → r < length d → IsFalse (no_left_rail d r)) → IsNone (IsOffRailAt d)
none_off_rail d drawn rail r c (inl w) = absurd (omega (arith, w.0))
none_off_rail d drawn rail r c (inr w) = both_ways (no_left_rail d r) (rail r w.1) w.3

none_shared : AreBoxesWhole → (d : Rows) → IsTrue (boxes_apart (layout_of d)) → IsNone (IsSharedAt (outlines d))
unfolding layout_of
none_shared whole d apart r c w = both_ways (boxes_apart (layout_of d)) (not_apart (outlines d) (outlines_rising whole d) w.number w.box w.listed w.shares) apart

none_box : AreBoxesWhole → (d : Rows) → NowhereInRows d (bad_box d) → IsTrue (boxes_apart (layout_of d)) → IsNone (IsDrawFaultAt d kind.BadBox)
none_box shape d whole apart r c (inl w) = none_found d (bad_box d) whole r c w
none_box shape d whole apart r c (inr w) = none_shared shape d apart r c w

none_unnamed : (d : Rows) → ((r : ℕ) → r < length d → IsFalse (list_any (name_missing (layout_of d) r) (things (layout_of d) r))) → IsNone (IsUnnamedAt d)
none_unnamed d named r c w = no_span (name_missing (layout_of d) r) (things (layout_of d) r) (named r w.0) c w.1

pub none_word : (d : Rows) → ((r : ℕ) → r < length d → IsFalse (list_any (stray_name (layout_of d) r) (words (layout_of d) r))) → IsNone (IsStrayWordAt d)
none_word d fine r c w = no_span (stray_name (layout_of d) r) (words (layout_of d) r) (fine r w.0) c w.1

none_operand : (d : Rows) → IsFalse (has_stray_operand (layout_of d)) → IsNone (IsStrayOperandAt (outlines d))
unfolding has_stray_operand layout_of
none_operand d fine r c w =
    let bs = outlines d in
    let b = w.1 in
    let v = w.4 in
    let q = v.1 in
    let pin : has_stray_pin bs b ≡ true
    = list_any_at (λ (q : DrawnPin). is_stray_operand bs q.row q.operand) b.pins v.0 q v.2 (subst (λ (q : DrawnPin). is_stray_operand bs q.row q.operand ≡ true) (sym v.3) v.4.stray) in
    both_ways (list_any (has_stray_pin bs) bs) fine (list_any_at (has_stray_pin bs) bs w.0 b w.2 (subst (λ (b : Outline). has_stray_pin bs b ≡ true) (sym w.3) pin))

none_stray : (d : Rows) → ((r : ℕ) → r < length d → IsFalse (list_any (stray_name (layout_of d) r) (words (layout_of d) r))) → IsFalse (has_stray_operand (layout_of d)) → IsNone (IsDrawFaultAt d kind.StrayName)
none_stray d fine operands r c (inl w) = none_word d fine r c w
none_stray d fine operands r c (inr w) = none_operand d operands r c w

-- the fault that is found first in a text whose characters, size and rail were looked at
pub behind_grid : (d : Rows) (k : DrawFaultKind) (r c : ℕ) → NowhereInRows d (not_ascii d) → length d ≤ 2001 → width d ≤ 240 → 0 < width d
    → ((r : ℕ) → r < length d → IsFalse (no_left_rail d r)) → IsFirstFrom d 4 k r c → IsFirstDrawFault d k r c
behind_grid d k r c ascii low narrow drawn rail first =
    from_first d k r c (from_before d kind.NotAscii k r c (none_found d (not_ascii d) ascii)
    (from_before d kind.TooLarge k r c (none_large d low narrow) (from_before d kind.NoLeftRail k r c (none_off_rail d drawn rail) first)))

-- and whose boxes were
pub behind_boxes : AreBoxesWhole → (d : Rows) (k : DrawFaultKind) (r c : ℕ) → NowhereInRows d (bad_box d) → IsTrue (boxes_apart (layout_of d)) → IsFirstFrom d 5 k r c → IsFirstFrom d 4 k r c
behind_boxes shape d k r c whole apart first = from_before d kind.BadBox k r c (none_box shape d whole apart) first

-- and whose places were
pub behind_places : (d : Rows) (k : DrawFaultKind) (r c : ℕ) → ((f : PlaceFault) → NowhereInRows d (has_fault f (layout_of d))) → IsFirstFrom d 8 k r c → IsFirstFrom d 5 k r c
behind_places d k r c places first =
    from_before d kind.BadMark k r c (none_found d (has_fault BadMark (layout_of d)) (places BadMark))
    (from_before d kind.Crossing k r c (none_found d (has_fault Crossing (layout_of d)) (places Crossing))
    (from_before d kind.NoSource k r c (none_found d (has_fault NoSource (layout_of d)) (places NoSource)) first))

-- and whose names were
pub behind_names : (d : Rows) (k : DrawFaultKind) (r c : ℕ) → ((r : ℕ) → r < length d → IsFalse (list_any (name_missing (layout_of d) r) (things (layout_of d) r)))
    → IsFirstFrom d 9 k r c → IsFirstFrom d 8 k r c
behind_names d k r c named first = from_before d kind.NameMissing k r c (none_unnamed d named) first

pub ascii_first : (d : Rows) (r c : ℕ) → IsFirstAt (PassesInRows d (not_ascii d)) r c → IsFirstDrawFault d kind.NotAscii r c
ascii_first d r c first = from_first d kind.NotAscii r c (from_here d kind.NotAscii r c first)

pub large_first : (d : Rows) (r c : ℕ) → NowhereInRows d (not_ascii d) → IsFirstAt (IsTooLargeAt d) r c → IsFirstDrawFault d kind.TooLarge r c
large_first d r c ascii first =
    from_first d kind.TooLarge r c (from_before d kind.NotAscii kind.TooLarge r c (none_found d (not_ascii d) ascii) (from_here d kind.TooLarge r c first))

off_rail : (d : Rows) (r c : ℕ) → NowhereInRows d (not_ascii d) → length d ≤ 2001 → width d ≤ 240 → IsFirstAt (IsOffRailAt d) r c → IsFirstDrawFault d kind.NoLeftRail r c
off_rail d r c ascii low narrow first =
    from_first d kind.NoLeftRail r c (from_before d kind.NotAscii kind.NoLeftRail r c (none_found d (not_ascii d) ascii)
    (from_before d kind.TooLarge kind.NoLeftRail r c (none_large d low narrow) (from_here d kind.NoLeftRail r c first)))

pub empty_first : (d : Rows) → NowhereInRows d (not_ascii d) → length d ≤ 2001 → width d ≤ 240 → width d ≡ 0 → IsFirstDrawFault d kind.NoLeftRail 1 1
empty_first d ascii low narrow empty = off_rail d 1 1 ascii low narrow (record {
  such = inl (empty, refl, refl);
  first = λ i j w. elim w [
    | inl v ↦ inr (sym v.1, omega (arith, v.2))
    | inr v ↦ absurd (omega (arith, v.0))
  ];
})

pub rail_first : (d : Rows) (r : ℕ) → NowhereInRows d (not_ascii d) → length d ≤ 2001 → width d ≤ 240 → 0 < width d → r < length d → IsTrue (no_left_rail d r)
    → ((k : ℕ) → k < r → IsFalse (no_left_rail d k)) → IsFirstDrawFault d kind.NoLeftRail r (left_column d)
rail_first d r ascii low narrow drawn inside here above = off_rail d r (left_column d) ascii low narrow (record {
  such = inr (drawn, inside, refl, here);
  first = λ i j w. elim w [
    | inl v ↦ absurd (omega (arith, v.0))
    | inr v ↦ elim (cases_lt i r) [
      | inl h ↦ absurd (both_ways (no_left_rail d i) (above i h) v.3)
      | inr h ↦ elim (cases_lt r i) [
        | inl l ↦ inl l
        | inr l ↦ inr (omega arith, omega (arith, v.2))
      ]
    ]
  ];
})

-- a bad box, or an earlier one that shares a place
pub box_first : (d : Rows) (p : Place) (o : Option Place) → IsFirstAt (PassesInRows d (bad_box d)) p.row p.column → IsFirstOf (IsSharedAt (outlines d)) o
    → IsFirstFrom d 4 kind.BadBox (or_earlier p o).row (or_earlier p o).column
box_first d p o bad shared =
    from_here d kind.BadBox (or_earlier p o).row (or_earlier p o).column (either_first (PassesInRows d (bad_box d)) (IsSharedAt (outlines d)) p o bad shared)

-- a box that shares a place, where none is bad
pub shared_first : (d : Rows) (r c : ℕ) → NowhereInRows d (bad_box d) → IsFirstAt (IsSharedAt (outlines d)) r c → IsFirstFrom d 4 kind.BadBox r c
shared_first d r c whole shared =
    from_here d kind.BadBox r c (second_first (PassesInRows d (bad_box d)) (IsSharedAt (outlines d)) r c (none_found d (bad_box d) whole) shared)

pub mark_first : (d : Rows) (r c : ℕ) → IsFirstAt (PassesInRows d (has_fault BadMark (layout_of d))) r c → IsFirstFrom d 5 kind.BadMark r c
mark_first d r c first = from_here d kind.BadMark r c first

pub crossing_first : (d : Rows) (r c : ℕ) → NowhereInRows d (has_fault BadMark (layout_of d)) → IsFirstAt (PassesInRows d (has_fault Crossing (layout_of d))) r c → IsFirstFrom d 5 kind.Crossing r c
crossing_first d r c marks first =
    from_before d kind.BadMark kind.Crossing r c (none_found d (has_fault BadMark (layout_of d)) marks) (from_here d kind.Crossing r c first)

pub source_first : (d : Rows) (r c : ℕ) → NowhereInRows d (has_fault BadMark (layout_of d)) → NowhereInRows d (has_fault Crossing (layout_of d))
    → IsFirstAt (PassesInRows d (has_fault NoSource (layout_of d))) r c → IsFirstFrom d 5 kind.NoSource r c
source_first d r c marks crossings first =
    from_before d kind.BadMark kind.NoSource r c (none_found d (has_fault BadMark (layout_of d)) marks)
    (from_before d kind.Crossing kind.NoSource r c (none_found d (has_fault Crossing (layout_of d)) crossings) (from_here d kind.NoSource r c first))

pub unnamed_first : (d : Rows) (r c : ℕ) → r < length d → ((i : ℕ) → i < r → IsFalse (list_any (name_missing (layout_of d) i) (things (layout_of d) i)))
    → IsFirstColumn (IsSpanAt (things (layout_of d) r) (name_missing (layout_of d) r)) c → IsFirstFrom d 8 kind.NameMissing r c
unnamed_first d r c inside above here =
    from_here d kind.NameMissing r c (row_first (IsUnnamedAt d) r c (λ i j h w. no_span (name_missing (layout_of d) i) (things (layout_of d) i) (above i h) j w.1)
    (record { such = (inside, here.such); first = λ e w. here.first e w.1 }))

pub word_first : (d : Rows) (r c : ℕ) → r < length d → ((i : ℕ) → i < r → IsFalse (list_any (stray_name (layout_of d) i) (words (layout_of d) i)))
    → IsFirstColumn (IsSpanAt (words (layout_of d) r) (stray_name (layout_of d) r)) c → IsFirstAt (IsStrayWordAt d) r c
word_first d r c inside above here =
    row_first (IsStrayWordAt d) r c (λ i j h w. no_span (stray_name (layout_of d) i) (words (layout_of d) i) (above i h) j w.1)
    (record { such = (inside, here.such); first = λ e w. here.first e w.1 })

-- a stray word, or an earlier stray operand
pub stray_first : (d : Rows) (p : Place) (o : Option Place) → IsFirstAt (IsStrayWordAt d) p.row p.column → IsFirstOf (IsStrayOperandAt (outlines d)) o
    → IsFirstFrom d 9 kind.StrayName (or_earlier p o).row (or_earlier p o).column
stray_first d p o word operand =
    from_here d kind.StrayName (or_earlier p o).row (or_earlier p o).column (either_first (IsStrayWordAt d) (IsStrayOperandAt (outlines d)) p o word operand)

-- a stray operand, where no word is stray
pub operand_first : (d : Rows) (r c : ℕ) → IsNone (IsStrayWordAt d) → IsFirstAt (IsStrayOperandAt (outlines d)) r c → IsFirstFrom d 9 kind.StrayName r c
operand_first d r c words operand =
    from_here d kind.StrayName r c (second_first (IsStrayWordAt d) (IsStrayOperandAt (outlines d)) r c words operand)

-- a text that is well drawn has no fault
pub faultless_of : AreBoxesWhole → (d : Rows) → IsWellDrawn d → HasNoDrawFault d
faultless_of shape d well kind.NotAscii r c w = none_found d (not_ascii d) well.ascii r c w
faultless_of shape d well kind.TooLarge r c w = let low = well.low_enough in none_large d (omega arith) well.narrow_enough r c w
faultless_of shape d well kind.NoLeftRail r c w = none_off_rail d well.drawn well.left_rail r c w
faultless_of shape d well kind.BadBox r c w = none_box shape d well.boxes_whole well.boxes_apart r c w
faultless_of shape d well kind.BadMark r c w = none_found d (has_fault BadMark (layout_of d)) (well.places BadMark) r c w
faultless_of shape d well kind.Crossing r c w = none_found d (has_fault Crossing (layout_of d)) (well.places Crossing) r c w
faultless_of shape d well kind.NoSource r c w = none_found d (has_fault NoSource (layout_of d)) (well.places NoSource) r c w
faultless_of shape d well kind.NameMissing r c w = none_unnamed d well.named.things_named r c w
faultless_of shape d well kind.StrayName r c w = none_stray d well.named.no_stray_name well.operands_good r c w
faultless_of shape d well kind.Memory r c w = w

-- the same of rows that are the same: with their boxes, with their marks, and with their words
pub of_boxed : AreBoxesWhole → (d s : Rows) (k : DrawFaultKind) (r c : ℕ) → s ≡ d → NowhereInRows s (bad_box s) → IsTrue (boxes_apart (layout_of s)) → IsFirstFrom s 5 k r c → IsFirstFrom d 4 k r c
of_boxed shape d s k r c e whole apart first = subst (λ (x : Rows). IsFirstFrom x 4 k r c) e (behind_boxes shape s k r c whole apart first)

pub of_words : (p w : Rows) (k : DrawFaultKind) (r c : ℕ) → w ≡ p → ((f : PlaceFault) → NowhereInRows p (has_fault f (layout_of p))) → IsFirstFrom w 8 k r c → IsFirstFrom p 5 k r c
of_words p w k r c e places first = behind_places p k r c places (subst (λ (x : Rows). IsFirstFrom x 8 k r c) e first)
