-- What `plc eval --show` writes behind the line of a scan: the drawing with what has power in it.
use Rattle.std.specs.Prelude.{ℕ, ◌-◌, ◌++◌, if◌then◌else◌, List, [], ◌∷◌, Bool, codes, encode_utf8, map, slice_index_or, slice_set}
use Rattle.std.specs.List.{flat_map}
use Rattle.std.specs.Str.{chars}
use Rattle.words.specs.Lines.{lines_of}
use Rattle.drawings.specs.declared.place.Place.{Place}
use Rattle.network.specs.declared.element.Element.{Element}
use Rattle.network.specs.declared.element.Element.TheVariants.{Wire, Join, Upright, Contact, Coil, Box}
use Rattle.network.specs.Links.{Diagram}
use Rattle.text_commands.specs.declared.live_drawing.Sign.{Sign}
use Rattle.text_commands.specs.declared.live_drawing.Sign.TheVariants.{Drawn, LiveWire, LiveUpright}

-- the characters of a line, each as it stands there
abbrev pub drawn_line : List ℕ → List Sign
drawn_line line = map (λ c. Drawn c) (chars line)

-- the lines of a text as they stand there
abbrev pub drawn_lines : List ℕ → List (List Sign)
drawn_lines text = map drawn_line (lines_of text)

-- these lines with another sign at a place; rows and columns count from 1
abbrev pub with_sign : Place → Sign → List (List Sign) → List (List Sign)
with_sign p sign lines =
    slice_set lines (p.row - 1) (slice_set (slice_index_or lines (p.row - 1) []) (p.column - 1) sign)

-- these lines with an element that has power: a wire, a join or a place of an upright; symbols and boxes stay as they are
abbrev pub with_element : Element → List (List Sign) → List (List Sign)
with_element (Wire at) lines = with_sign at LiveWire lines
with_element (Join at) lines = with_sign at LiveUpright lines
with_element (Upright at) lines = with_sign at LiveUpright lines
with_element (Contact c) lines = lines
with_element (Coil c) lines = lines
with_element (Box b) lines = lines

-- these lines with those of the elements that are shown to have power
abbrev pub with_power : List Element → List Bool → List (List Sign) → List (List Sign)
with_power [] shown lines = lines
with_power (e ∷ elements) [] lines = lines
with_power (e ∷ elements) (on ∷ shown) lines =
    with_power elements shown (if on then with_element e lines else lines)

-- the lines of a drawing with the elements of its networks that are shown to have power
abbrev pub live_lines : List ℕ → List Diagram → List Bool → List (List Sign)
live_lines drawing networks shown = with_power (flat_map (λ d. d.elements) networks) shown (drawn_lines drawing)

-- what has power, in bold green if it is colored
abbrev pub live_text : Bool → List ℕ → List ℕ
live_text color sign = if color then codes "\u{1b}[1;32m" ++ sign ++ codes "\u{1b}[0m" else sign

-- how a sign is written: a wire that has power is `=`, a join or a place of an upright that has power is `#`
abbrev pub sign_text : Bool → Sign → List ℕ
sign_text color (Drawn c) = encode_utf8 c
sign_text color LiveWire = live_text color (codes "=")
sign_text color LiveUpright = live_text color (codes "#")

-- a line, and a line feed
abbrev pub line_text : Bool → List Sign → List ℕ
line_text color line = flat_map (sign_text color) line ++ codes "\n"

-- the drawing line by line as it stands in its text, with what is shown to have power
abbrev pub live_drawing : Bool → List ℕ → List Diagram → List Bool → List ℕ
live_drawing color drawing networks shown = flat_map (line_text color) (live_lines drawing networks shown)
