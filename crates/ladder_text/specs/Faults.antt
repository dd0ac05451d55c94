-- The faults, each as a test of a place, and when a drawing is well drawn.
use Rattle.std.specs.Prelude.{ℕ, false, ◌+◌, ◌-◌, ◌≤◌, ◌<◌, IsTrue, IsFalse, List, ◌==◌, if◌then◌else◌, Bool, ◌&&◌, ◌||◌, not, nat_lt, Option, Some, None, is_some}
use Rattle.std.specs.List.{list_all, list_any, range_with_len, count_by}
use Rattle.ladder_rows.specs.declared.span.Span.{Span}
use Rattle.drawings.specs.declared.drawn_box.Operand.{Operand}
use Rattle.drawings.specs.declared.drawn_box.Side.TheVariants as side
use Rattle.ladder_text.specs.declared.places.place_fault.PlaceFault.{PlaceFault}
use Rattle.ladder_text.specs.declared.places.place_fault.PlaceFault.TheVariants.{BadMark, Crossing, NoSource}
use Rattle.ladder_rows.specs.declared.boxes.outline.Outline.{Outline}
use Rattle.ladder_rows.specs.Rows.{Rows, char_at, height, width, run, is_rail_char}
use Rattle.words.specs.Chars.{is_word_char, is_name, is_plain_name, is_operand}
use Rattle.ladder_rows.specs.BoxTests.{share_place, blind_right_of, blind_left_of, some_takes_word}
use Rattle.ladder_rows.specs.Faults.{not_ascii, no_left_rail, bad_box, NowhereInRows, InNoRow}
use Rattle.ladder_text.specs.Places.{Layout, contact_at, coil_at, is_taken, mark, is_wire, is_join, is_upright, is_vertical, is_line, is_box_part, gives, layout_of}
use Rattle.ladder_text.specs.Names.{overlap, words, symbols, tops, things, word_text}

-- two boxes are the same one
abbrev pub same_corner : Outline → Outline → Bool
same_corner a b = a.top == b.top && a.left == b.left

-- a box shares no place with another one
abbrev pub is_apart : List Outline → Outline → Bool
is_apart bs a = list_all (λ b. same_corner a b || not (share_place a b)) bs

-- no two boxes share a place
abbrev pub boxes_apart : Layout → Bool
boxes_apart p = list_all (is_apart p.boxes) p.boxes

-- a blank, a line's character, a rail's, or one of a word
abbrev pub has_meaning : ℕ → Bool
has_meaning c = c == 32 || c == 45 || is_rail_char c || is_word_char c

-- the same for some box on the right
abbrev pub blind_right : Layout → ℕ → ℕ → Bool
blind_right p r c = list_any (blind_right_of r c) p.boxes

-- the same for some box on the left
abbrev pub blind_left : Layout → ℕ → ℕ → Bool
blind_left p r c = list_any (blind_left_of r c) p.boxes

-- a contact or coil begins at (r, c)
abbrev pub is_first_of_symbol : Layout → ℕ → ℕ → Bool
is_first_of_symbol p r c = is_some (contact_at p r c) || is_some (coil_at p r c)

-- the last place of the line that begins at (r, c): a symbol has three, a Wire or Join one
abbrev pub line_end : Layout → ℕ → ℕ → ℕ
line_end p r c = if is_first_of_symbol p r c then c + 2 else c

-- a Wire or a Join, or the first place of a symbol, beside a box where there is no pin
abbrev pub is_blind : Layout → ℕ → ℕ → Bool
is_blind p r c =
    (is_wire (mark p r c) || is_join (mark p r c) || is_first_of_symbol p r c)
    && (blind_left p r c || blind_right p r (line_end p r c))

-- a character without a meaning, or a line that meets a box where there is no pin
abbrev pub bad_mark : Layout → ℕ → ℕ → Bool
bad_mark p r c = (not (is_taken p r c) && not (has_meaning (char_at p.rows r c))) || is_blind p r c

-- a line or a box is at (r, c)
abbrev pub touches : Layout → ℕ → ℕ → Bool
touches p r c = let m = mark p r c in is_line m || is_box_part m

-- an Upright place beside a line or a box, or at the end of its upright
abbrev pub crossing : Layout → ℕ → ℕ → Bool
crossing p r c =
    is_upright (mark p r c)
    && (touches p r (c - 1) || touches p r (c + 1)
    || not (is_vertical (mark p (r - 1) c)) || not (is_vertical (mark p (r + 1) c)))

-- how far the upright at (r, c) goes down
abbrev pub upright_len : Layout → ℕ → ℕ → ℕ
upright_len p r c = run (λ k. is_vertical (mark p k c)) r (height p.rows)

-- a Join that state enters from its left
abbrev pub is_fed : Layout → ℕ → ℕ → Bool
is_fed p c k = is_join (mark p k c) && gives p k (c - 1)

-- some Join of the upright at (r, c) is entered from its left
abbrev pub has_fed_join : Layout → ℕ → ℕ → Bool
has_fed_join p r c = list_any (is_fed p c) (range_with_len r (upright_len p r c))

-- a Wire or a symbol that state does not enter, or the topmost place of an upright without a fed Join
abbrev pub no_source : Layout → ℕ → ℕ → Bool
no_source p r c =
    ((is_wire (mark p r c) || is_first_of_symbol p r c) && not (gives p r (c - 1)))
    || (is_vertical (mark p r c) && not (is_vertical (mark p (r - 1) c)) && not (has_fed_join p r c))

-- a symbol or box without a word above it
unfoldable pub name_missing : Layout → ℕ → Span → Bool
name_missing p r s = not (list_any (overlap s) (words p (r - 1)))

-- some word before w overlaps s
abbrev pub has_earlier : Span → List Span → Span → Bool
has_earlier w ws s = list_any (λ v. overlap v s && nat_lt v.first w.first) ws

-- a word before w names one of the things that w overlaps
abbrev pub is_second : Span → List Span → List Span → Bool
is_second w ws things = list_any (λ s. overlap w s && has_earlier w ws s) things

-- a word that names nothing, two things or a thing that has a name before it, or isn't of the form wanted
unfoldable pub stray_name : Layout → ℕ → Span → Bool
stray_name p r w =
    not (count_by (overlap w) (things p (r + 1)) == 1)
    || is_second w (words p r) (things p (r + 1))
    || (list_any (overlap w) (symbols p (r + 1)) && not (is_name (word_text p r w)))
    || (list_any (overlap w) (tops p (r + 1)) && not (is_plain_name (word_text p r w)))

-- a symbol or box of the row r has no word above it
abbrev pub has_unnamed : Layout → ℕ → Bool
has_unnamed p r = list_any (name_missing p r) (things p r)

-- a word of the row r is stray
abbrev pub has_stray_word : Layout → ℕ → Bool
has_stray_word p r = list_any (stray_name p r) (words p r)

-- an operand that isn't of the form wanted, or belongs to two pins: a left one and a right one
abbrev pub is_stray_operand : List Outline → ℕ → Option Operand → Bool
is_stray_operand bs r None = false
is_stray_operand bs r (Some o) =
    not (is_operand o.text)
    || (some_takes_word bs side.Left r o.column && some_takes_word bs side.Right r o.column)

-- a box has a pin with a stray operand
abbrev pub has_stray_pin : List Outline → Outline → Bool
has_stray_pin bs b = list_any (λ q. is_stray_operand bs q.row q.operand) b.pins

-- some box has a pin with a stray operand
unfoldable pub has_stray_operand : Layout → Bool
has_stray_operand p = list_any (has_stray_pin p.boxes) p.boxes

-- the faults of single places
abbrev pub has_fault : PlaceFault → Layout → ℕ → ℕ → Bool
has_fault BadMark p = bad_mark p
has_fault Crossing p = crossing p
has_fault NoSource p = no_source p

-- every symbol and box has a word above it, and no word is stray
pub record IsNamed (d : Rows) : Type 0 where
  pub things_named : InNoRow d (has_unnamed (layout_of d))
  pub no_stray_name : InNoRow d (has_stray_word (layout_of d))

-- none of the faults holds anywhere
pub record IsWellDrawn (d : Rows) : Type 0 where
  pub ascii : NowhereInRows d (not_ascii d)
  pub low_enough : height d ≤ 2000
  pub narrow_enough : width d ≤ 240
  pub drawn : 0 < width d
  pub left_rail : InNoRow d (no_left_rail d)
  pub boxes_whole : NowhereInRows d (bad_box d)
  pub boxes_apart : IsTrue (boxes_apart (layout_of d))
  pub places : (fault : PlaceFault) → NowhereInRows d (has_fault fault (layout_of d))
  pub named : IsNamed d
  pub operands_good : IsFalse (has_stray_operand (layout_of d))

-- a text that isn't well drawn
abbrev pub IsIllDrawn : Rows → Type 0
IsIllDrawn d = IsWellDrawn d → ⊥
