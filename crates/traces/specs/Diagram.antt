-- A timing diagram, as an SVG document: a row for each variable, a scale in ms above them.
use Rattle.std.specs.Prelude.{ℕ, zero, suc, ◌+◌, ◌-◌, ◌*◌, ◌/◌, ◌%◌, ◌==◌, ◌++◌, if◌then◌else◌, List, [], true, false, codes, fold, length, max, min, nat_le, slice_get}
use Rattle.std.specs.List.{flat_map}
use Rattle.std.specs.Option.{option_map_or}
use Rattle.std.specs.Fmt.{decimal}
use Rattle.std_blocks.specs.declared.value.Value.{Value}
use Rattle.std_blocks.specs.declared.value.Value.TheVariants.{Bool as BoolValue, Int as IntValue, Time as TimeValue}
use Rattle.text_lines.specs.LineParts.{value_text}
use Rattle.traces.specs.declared.scale.Scale.{Scale}
use Rattle.traces.specs.declared.segments.Segment.{Segment}
use Rattle.traces.specs.Tracks.{ScopeValue, TrackValue}
use Rattle.traces.specs.Segments.{segments_of}
use Rattle.traces.specs.Escaped.{escaped}

-- the name of a variable; in a plant behind those of its resource and its program
abbrev pub label_of : TrackValue → List ℕ
label_of t = option_map_or (λ (s : ScopeValue). s.resource ++ codes "." ++ s.program ++ codes ".") t.scope [] ++ t.name

abbrev pub label_length : TrackValue → ℕ
label_length t = length (label_of t)

abbrev pub longest_label : List TrackValue → ℕ
longest_label tracks = fold (λ most t. max most (label_length t)) 0 tracks

-- how wide a moment is drawn: all together 1,600 wide, but one from 2 to 60
abbrev pub unit_of : ℕ → ℕ
unit_of moments = max 2 (min 60 (1600 / max 1 moments))

-- the diagram begins behind the names
abbrev pub scale_of : List TrackValue → ℕ → Scale
scale_of tracks moments = record { left = 8 * min 255 (longest_label tracks) + 24; unit = unit_of moments }

-- where a moment begins, from the left
abbrev pub x_of : Scale → ℕ → ℕ
x_of scale k = scale.left + scale.unit * k

-- where a row begins, from above
abbrev pub y_of : ℕ → ℕ
y_of row = 30 + 26 * row

-- a mark stands at each so many moments
abbrev pub mark_every : Scale → ℕ
mark_every scale =
    if nat_le 60 scale.unit then 2 else
    (if nat_le 24 scale.unit then 5 else (if nat_le 12 scale.unit then 10 else (if nat_le 6 scale.unit then 20 else 100)))

unfoldable pub svg_text : List ℕ
svg_text = codes "<svg xmlns='http://www.w3.org/2000/svg'"

abbrev pub extent_text : ℕ → ℕ → List ℕ
extent_text width height = codes " width='" ++ decimal width ++ codes "' height='" ++ decimal height ++ codes "'>\n<title>"

-- the document begins: its size, its title, what signs look like
abbrev pub size_text : ℕ → ℕ → List ℕ
size_text width height = svg_text ++ extent_text width height

unfoldable pub style_text : List ℕ
style_text =
    codes "</title>\n<style>text{font:12px monospace}path{fill:none;stroke:#2a7d2a}.h{fill:#cfe8cf}.b{fill:#e3ebf8;stroke:#3b5f9e}.g{stroke:#dcdcdc}.s{fill:#707070}</style>\n<rect width='100%' height='100%' fill='#fff'/>\n"

abbrev pub head_text : ℕ → ℕ → List ℕ → List ℕ
head_text width height title = size_text width height ++ escaped title ++ style_text

-- a mark of the scale: a line through all rows, and the time
abbrev pub mark_line : ℕ → ℕ → List ℕ
mark_line x bottom = codes "<path class='g' d='M" ++ decimal x ++ codes " 22V" ++ decimal bottom ++ codes "'/>"

abbrev pub mark_place : ℕ → List ℕ
mark_place x = codes "<text class='s' x='" ++ decimal x ++ codes "'"

abbrev pub mark_label : ℕ → List ℕ
mark_label time = codes " y='16'>" ++ decimal time ++ codes " ms</text>\n"

abbrev pub mark_time : ℕ → ℕ → List ℕ
mark_time x time = mark_place x ++ mark_label time

abbrev pub mark_text : ℕ → ℕ → ℕ → List ℕ
mark_text x bottom time = mark_line x bottom ++ mark_time x time

abbrev pub mark_at : Scale → ℕ → (ℕ → ℕ) → ℕ → List ℕ
mark_at scale bottom time k =
    if k % mark_every scale == 0 then mark_text (x_of scale k) bottom (time k) else []

-- the marks of the first so many moments
abbrev pub marks : Scale → ℕ → (ℕ → ℕ) → ℕ → List ℕ
marks scale bottom time zero = []
marks scale bottom time (suc k) = marks scale bottom time k ++ mark_at scale bottom time k

-- a path begins here; it goes up, right and down
abbrev pub corner : ℕ → ℕ → List ℕ
corner x y = codes "M" ++ decimal x ++ codes " " ++ decimal y

abbrev pub sides : ℕ → ℕ → ℕ → List ℕ
sides high to low = codes "V" ++ decimal high ++ codes "H" ++ decimal to ++ codes "V" ++ decimal low

-- a BOOL that is on, from one x to another one: a block in a row that begins at y
abbrev pub high_text : ℕ → ℕ → ℕ → List ℕ
high_text from to y =
    codes "<path class='h' d='" ++ corner from (y + 22) ++ sides (y + 4) to (y + 22) ++ codes "'/>\n"

-- a BOOL that is off: a line below
abbrev pub low_text : ℕ → ℕ → ℕ → List ℕ
low_text from to y =
    codes "<path d='M" ++ decimal from ++ codes " " ++ decimal (y + 22) ++ codes "H" ++ decimal to ++ codes "'/>\n"

-- the sides of a band: up and right, down and left
abbrev pub upper_side : ℕ → ℕ → List ℕ
upper_side slant to = codes "l" ++ decimal slant ++ codes " -9H" ++ decimal to

abbrev pub lower_side : ℕ → ℕ → List ℕ
lower_side slant from = codes "l" ++ decimal slant ++ codes " 9l-" ++ decimal slant ++ codes " 9H" ++ decimal from

abbrev pub title_text : List ℕ → List ℕ
title_text shown = codes "Z'><title>" ++ shown ++ codes "</title></path>\n"

-- a number or time: a band, which tells its value
abbrev pub band_text : ℕ → ℕ → ℕ → ℕ → List ℕ → List ℕ
band_text slant from to y shown =
    codes "<path class='b' d='" ++ corner from (y + 13) ++ upper_side slant (to - slant) ++ lower_side slant (from + slant)
    ++ title_text shown

-- the value stands in the band too, where it has room
abbrev pub shown_text : ℕ → ℕ → ℕ → List ℕ → List ℕ
shown_text from to y shown =
    if nat_le (length shown) ((to - (from + 12)) / 7)
    then codes "<text x='" ++ decimal (from + 6) ++ codes "' y='" ++ decimal (y + 17) ++ codes "'>" ++ shown ++ codes "</text>\n"
    else []

abbrev pub slant_of : Scale → ℕ
slant_of scale = min 3 (scale.unit / 2)

abbrev pub value_band : Scale → ℕ → ℕ → ℕ → Value → List ℕ
value_band scale from to y value =
    band_text (slant_of scale) from to y (value_text value) ++ shown_text from to y (value_text value)

abbrev pub drawn_value : Scale → ℕ → ℕ → ℕ → Value → List ℕ
drawn_value scale from to y (BoolValue true) = high_text from to y
drawn_value scale from to y (BoolValue false) = low_text from to y
drawn_value scale from to y (IntValue n) = value_band scale from to y (IntValue n)
drawn_value scale from to y (TimeValue t) = value_band scale from to y (TimeValue t)

abbrev pub segment_text : Scale → ℕ → Segment → List ℕ
segment_text scale row s = drawn_value scale (x_of scale s.from) (x_of scale s.to) (y_of row) s.value

-- the name of a row's variable, as its title and in front of it
abbrev pub row_title : List ℕ → List ℕ
row_title label = codes "<g><title>" ++ escaped label ++ codes "</title>\n"

abbrev pub row_name : ℕ → List ℕ → List ℕ
row_name base label = codes "<text x='8' y='" ++ decimal base ++ codes "'>" ++ escaped label ++ codes "</text>\n"

abbrev pub row_head : ℕ → List ℕ → List ℕ
row_head base label = row_title label ++ row_name base label

-- a row: the name of its variable, and where it keeps which value
abbrev pub row_text : Scale → ℕ → TrackValue → List ℕ
row_text scale row t =
    row_head (y_of row + 17) (label_of t) ++ flat_map (segment_text scale row) (segments_of t.values) ++ codes "</g>\n"

-- the rows of the first so many variables
abbrev pub rows_of : Scale → List TrackValue → ℕ → List ℕ
rows_of scale tracks zero = []
rows_of scale tracks (suc row) = rows_of scale tracks row ++ option_map_or (row_text scale row) (slice_get tracks row) []

-- The diagram of variables over so many moments that begin at these times, under a title. Each is as wide as the others.
abbrev pub diagram_of : List ℕ → (ℕ → ℕ) → ℕ → List TrackValue → List ℕ
diagram_of title time moments tracks =
    head_text (x_of (scale_of tracks moments) moments + 100) (y_of (length tracks) + 10) title
    ++ marks (scale_of tracks moments) (y_of (length tracks)) time moments
    ++ rows_of (scale_of tracks moments) tracks (length tracks) ++ codes "</svg>\n"
