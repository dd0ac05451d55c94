-- What a program that shows waves reads of a value change dump of IEEE 1364.
use Rattle.std.specs.Prelude.{ℕ, ◌-◌, ◌==◌, ◌&&◌, ◌++◌, if◌then◌else◌, List, [], ◌∷◌, Bool, false, true, not, Option, Some, None, bytes_eq, codes, drop, filter, fold, length, nat_le, slice_index, slice_index_or, take}
use Rattle.std.specs.Char.{is_ascii_whitespace}
use Rattle.std.specs.List.{after_first, before_first, concat, list_any, slice_split}
use Rattle.std.specs.Option.{option_map_or}
use Rattle.std.specs.Str.Parse.{digits_value}

-- white space parts the words of a text
abbrev pub words_of : List ℕ → List (List ℕ)
words_of text = filter (λ w. not (length w == 0)) (slice_split is_ascii_whitespace text)

-- the head goes up to `$enddefinitions`
abbrev pub ends_head : List ℕ → Bool
ends_head w = bytes_eq w (codes "$enddefinitions")

-- the head is commands, each up to its `$end`
abbrev pub commands_of : List ℕ → List (List (List ℕ))
commands_of dump = slice_split (λ w. bytes_eq w (codes "$end")) (before_first ends_head (words_of dump))

-- a variable: the scopes around it, the outermost first; its name; its bits; the code that stands for it in changes
pub record Variable : Type 0 where
  pub path : List (List ℕ)
  pub name : List ℕ
  pub width : ℕ
  pub code : List ℕ

-- what commands declared: the unit of time, the scopes that are entered and not left, the variables
pub record Head : Type 0 where
  pub unit : List ℕ
  pub path : List (List ℕ)
  pub variables : List Variable

-- a word of a command, by its place
abbrev pub word : List (List ℕ) → ℕ → List ℕ
word command k = slice_index_or command k []

-- `$var` KIND WIDTH CODE NAME
abbrev pub variable : List (List ℕ) → List (List ℕ) → Variable
variable path c = record { path = path; name = word c 4; width = digits_value 10 (word c 2); code = word c 3 }

-- `$timescale` UNIT; `$scope` KIND NAME enters a scope, `$upscope` leaves it; `$var` declares a variable there
abbrev pub declare : Head → List (List ℕ) → Head
declare h c =
    if bytes_eq (word c 0) (codes "$timescale") then record h { unit = concat (drop 1 c) } else
    (if bytes_eq (word c 0) (codes "$scope") then record h { path = h.path ++ word c 2 ∷ [] } else
    (if bytes_eq (word c 0) (codes "$upscope") then record h { path = take (length h.path - 1) h.path } else
    (if bytes_eq (word c 0) (codes "$var") then record h { variables = h.variables ++ variable h.path c ∷ [] } else h)))

-- what the head of a dump declares
abbrev pub head_of : List ℕ → Head
head_of dump = fold declare (record { unit = []; path = []; variables = [] }) (commands_of dump)

-- What is known behind some word of the rest, where one variable is looked at up to one time: the time; whether no time was
-- below the one before it; whether a comment goes on; digits whose code comes next; the digits of the variable.
pub record Shown : Type 0 where
  pub time : ℕ
  pub in_order : Bool
  pub comment : Bool
  pub pending : Option (List ℕ)
  pub digits : Option (List ℕ)

-- the time goes on to another one
abbrev pub pass : Shown → ℕ → Shown
pass s time = record s { time = time; in_order = s.in_order && nat_le s.time time }

-- The variable with a code has other digits. They are kept where it is the one looked at, and the time isn't past the one
-- looked at.
abbrev pub change : List ℕ → ℕ → Shown → List ℕ → List ℕ → Shown
change looked at s code digits =
    record s { pending = None; digits = if bytes_eq code looked && nat_le s.time at then Some digits else s.digits }

-- whether a word begins with one of these characters
abbrev pub begins : List ℕ → List ℕ → Bool
begins chars w = list_any (λ c. c == slice_index w 0) chars

-- `#TIME` is a time; `bDIGITS CODE` changes a vector (`rNUMBER CODE` a real), `0CODE` a scalar, to 1, x or z alike; `$comment`
-- goes on up to `$end`; other words tell nothing
abbrev pub show : List ℕ → ℕ → Shown → List ℕ → Shown
show looked at s w =
    if s.comment then record s { comment = not (bytes_eq w (codes "$end")) } else
    option_map_or (λ digits. change looked at s w digits) s.pending
    (if begins (codes "#") w then pass s (digits_value 10 (drop 1 w)) else
    (if begins (codes "bBrR") w then record s { pending = Some (drop 1 w) } else
    (if begins (codes "01xXzZ") w then change looked at s (drop 1 w) (take 1 w) else
    record s { comment = bytes_eq w (codes "$comment") })))

-- what is known behind the whole dump
abbrev pub shown_of : List ℕ → List ℕ → ℕ → Shown
shown_of dump looked at =
    fold (show looked at) (record { time = 0; in_order = true; comment = false; pending = None; digits = None })
    (after_first ends_head (words_of dump))

-- the digits that a variable has at a time: those of its last change up to then
abbrev pub digits_at : List ℕ → List ℕ → ℕ → Option (List ℕ)
digits_at dump looked at = (shown_of dump looked at).digits

-- the last time of a dump
abbrev pub end_of : List ℕ → ℕ
end_of dump = (shown_of dump [] 0).time

-- whether no time of a dump is below the one before it
abbrev pub is_in_order : List ℕ → Bool
is_in_order dump = (shown_of dump [] 0).in_order
