-- How a place of a text is shown.
use Rattle.std.specs.Prelude.{ℕ, ◌+◌, ◌-◌, ◌==◌, ◌&&◌, ◌++◌, Bool, nat_lt, if◌then◌else◌, List, [], max, min, codes, drop, length, map, slice_get, take, unwrap_or}
use Rattle.std.specs.List.{repeat, slice_split}
use Rattle.std.specs.Str.{chars, trim_start, trim_end}
use Rattle.std.specs.Str.Lines.{lines}
use Rattle.words.specs.Lines.{without_last}

-- a sign that is shown as it is
abbrev pub is_printed : ℕ → Bool
is_printed c = nat_lt 31 c && nat_lt c 127

-- a tab is shown as a blank, and what isn't printable ASCII as a question mark
abbrev pub shown_sign : ℕ → ℕ
shown_sign c = if is_printed c then c else (if c == 9 then 32 else 63)

-- how many signs of a line aren't shown in front of this place: all but 60 of those before a place past the first 100
abbrev pub hidden_before : ℕ → ℕ
hidden_before at = if nat_lt at 100 then 0 else at - 60

-- at most 100 signs of a line, behind those that aren't shown
abbrev pub shown_part : ℕ → List ℕ → List ℕ
shown_part hidden line = map shown_sign (take 100 (drop hidden (chars line)))

-- two dots stand where signs of the line aren't shown
abbrev pub left_of : ℕ → List ℕ
left_of hidden = if hidden == 0 then codes "  " else codes "  .. "

abbrev pub right_of : ℕ → List ℕ → List ℕ
right_of hidden line = if nat_lt (hidden + 100) (length (chars line)) then codes " .." else []

-- how many signs are marked of those from a place on: at least one, and none past what is shown
abbrev pub marked_at : ℕ → ℕ → ℕ
marked_at before signs = max (min signs (100 - before)) 1

-- the line; and below it marks under so many signs, of which the first stands behind so many that are shown
abbrev pub excerpt_behind : ℕ → List ℕ → ℕ → ℕ → List ℕ
excerpt_behind hidden line before signs =
    left_of hidden ++ shown_part hidden line ++ right_of hidden line ++ codes "\n"
    ++ repeat (length (left_of hidden) + before) (codes " ") ++ repeat (marked_at before signs) (codes "^") ++ codes "\n"

-- a line, of which so many signs from a place on are marked
abbrev pub excerpt_of : List ℕ → ℕ → ℕ → List ℕ
excerpt_of line at signs = excerpt_behind (hidden_before at) line (at - hidden_before at) signs

-- of some lines the one with this number, of which the first has 1; empty where there is none
abbrev pub line_among : List (List ℕ) → ℕ → List ℕ
line_among rows number = unwrap_or (slice_get rows (number - 1)) []

abbrev pub line_in : List ℕ → ℕ → List ℕ
line_in text number = line_among (lines text) number

-- the lines of a text between its line feeds, each without a carriage return at its end
abbrev pub ended_lines : List ℕ → List (List ℕ)
ended_lines text = map (without_last 13) (slice_split (λ b. b == 10) text)

-- of some lines the one with this number, with a mark below this column, of which the first has 1
abbrev pub column_among : List (List ℕ) → ℕ → ℕ → List ℕ
column_among rows number column = excerpt_of (line_among rows number) (column - 1) 1

-- the line of a text with a mark below this column
abbrev pub marked_column : List ℕ → ℕ → ℕ → List ℕ
marked_column text number column = column_among (ended_lines text) number column

-- how many blanks a line begins with
abbrev pub indented : List ℕ → ℕ
indented line = length (chars line) - length (chars (trim_start line))

-- a line with marks below all of it but the blanks at both ends
abbrev pub whole_marked : List ℕ → List ℕ
whole_marked line = excerpt_of line (indented line) (length (chars (trim_end (trim_start line))))

-- of some lines the one with this number, marked so
abbrev pub whole_among : List (List ℕ) → ℕ → List ℕ
whole_among rows number = whole_marked (line_among rows number)

-- the line of a text, marked so
abbrev pub marked_line : List ℕ → ℕ → List ℕ
marked_line text number = whole_among (ended_lines text) number
