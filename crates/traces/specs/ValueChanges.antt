-- A value change dump of IEEE 1364: what programs that show waves read.
use Rattle.std.specs.Prelude.{ℕ, zero, suc, ◌-◌, ◌==◌, ◌++◌, if◌then◌else◌, List, [], ◌∷◌, false, Option, None, Some, codes, length, slice_get}
use Rattle.std.specs.Option.{option_map_or}
use Rattle.std.specs.Fmt.{decimal, digits}
use Rattle.std.specs.Int.{w16, cast_unsigned}
use Rattle.std_blocks.specs.declared.value.Value.{Value}
use Rattle.std_blocks.specs.declared.value.Value.TheVariants.{Bool as BoolValue, Int as IntValue, Time as TimeValue}
use Rattle.traces.specs.Tracks.{ScopeValue, TrackValue, is_same, is_same_scope, value_at, value_before}

-- how many bits a value has
abbrev pub width_of : Option Value → ℕ
width_of None = 1
width_of (Some (BoolValue on)) = 1
width_of (Some (IntValue n)) = 16
width_of (Some (TimeValue t)) = 32

-- the declaration of the variable with the number j: its bits, what stands for it below, and its name
abbrev pub variable_line : ℕ → TrackValue → List ℕ
variable_line j t =
    codes "$var wire " ++ decimal (width_of (value_at t 0)) ++ codes " v" ++ decimal j ++ codes " " ++ t.name
    ++ codes " $end\n"

-- a scope of this name is entered
abbrev pub scope_line : List ℕ → List ℕ
scope_line name = codes "$scope module " ++ name ++ codes " $end\n"

-- a resource and a program in it are entered; they are left
abbrev pub enter_lines : Option ScopeValue → List ℕ
enter_lines None = []
enter_lines (Some s) = scope_line s.resource ++ scope_line s.program

abbrev pub leave_lines : Option ScopeValue → List ℕ
leave_lines None = []
leave_lines (Some s) = codes "$upscope $end\n$upscope $end\n"

-- from one program to another
abbrev pub scope_lines : Option ScopeValue → Option ScopeValue → List ℕ
scope_lines before scope = if is_same_scope before scope then [] else leave_lines before ++ enter_lines scope

-- where the variable before the one with the number j stands
abbrev pub scope_before : List TrackValue → ℕ → Option ScopeValue
scope_before tracks j =
    if j == 0 then None else option_map_or (λ (t : TrackValue). t.scope) (slice_get tracks (j - 1)) None

abbrev pub declared_lines_of : List TrackValue → ℕ → List ℕ
declared_lines_of tracks j =
    option_map_or (λ (t : TrackValue). scope_lines (scope_before tracks j) t.scope ++ variable_line j t)
    (slice_get tracks j) []

-- the declarations of the first so many variables, each in its program
abbrev pub declared_lines : List TrackValue → ℕ → List ℕ
declared_lines tracks zero = []
declared_lines tracks (suc j) = declared_lines tracks j ++ declared_lines_of tracks j

-- all times are in ms
unfoldable pub timescale_line : List ℕ
timescale_line = codes "$timescale 1 ms $end\n"

unfoldable pub end_of_definitions : List ℕ
end_of_definitions = codes "$enddefinitions $end\n"

-- all declarations
abbrev pub head_lines : List TrackValue → List ℕ
head_lines tracks =
    timescale_line ++ declared_lines tracks (length tracks) ++ leave_lines (scope_before tracks (length tracks))
    ++ end_of_definitions

-- A value of the variable with the number j: a BOOL is one digit, an INT its 16 bits in two's complement, a TIME its
-- milliseconds in binary, without zeros in front.
abbrev pub value_line : ℕ → Value → List ℕ
value_line j (BoolValue on) = (if on then codes "1v" else codes "0v") ++ decimal j ++ codes "\n"
value_line j (IntValue n) = codes "b" ++ digits 2 false (cast_unsigned w16 n) ++ codes " v" ++ decimal j ++ codes "\n"
value_line j (TimeValue t) = codes "b" ++ digits 2 false t ++ codes " v" ++ decimal j ++ codes "\n"

-- a value is written where it is another one than before, and at first
abbrev pub change_line : ℕ → Option Value → Option Value → List ℕ
change_line j before None = []
change_line j None (Some value) = value_line j value
change_line j (Some before) (Some value) = if is_same before value then [] else value_line j value

abbrev pub change_of : ℕ → List TrackValue → ℕ → List ℕ
change_of k tracks j = option_map_or (λ (t : TrackValue). change_line j (value_before t k) (value_at t k)) (slice_get tracks j) []

-- the changes of the first so many variables at a moment
abbrev pub change_lines : ℕ → List TrackValue → ℕ → List ℕ
change_lines k tracks zero = []
change_lines k tracks (suc j) = change_lines k tracks j ++ change_of k tracks j

-- the time of a moment
abbrev pub time_line : ℕ → List ℕ
time_line time = codes "#" ++ decimal time ++ codes "\n"

-- what changes at a time, if anything does; behind the time, unless that was told last
abbrev pub timed : ℕ → ℕ → List ℕ → List ℕ
timed told time [] = []
timed told time (c ∷ changes) = (if time == told then [] else time_line time) ++ (c ∷ changes)

-- the time that was told last behind that
abbrev pub told_behind : ℕ → ℕ → List ℕ → ℕ
told_behind told time [] = told
told_behind told time (c ∷ changes) = time

unfoldable pub begin_of_values : List ℕ
begin_of_values = codes "#0\n$dumpvars\n"

unfoldable pub end_of_values : List ℕ
end_of_values = codes "$end\n"

-- all variables at the first moment
abbrev pub first_lines : List TrackValue → List ℕ
first_lines tracks = begin_of_values ++ change_lines 0 tracks (length tracks) ++ end_of_values

-- what changes at each further one, of this time
abbrev pub moment_lines : ℕ → ℕ → List TrackValue → ℕ → List ℕ
moment_lines told time tracks k =
    if k == 0 then first_lines tracks else timed told time (change_lines k tracks (length tracks))

abbrev pub told_at : ℕ → ℕ → List TrackValue → ℕ → ℕ
told_at told time tracks k =
    if k == 0 then 0 else told_behind told time (change_lines k tracks (length tracks))

-- which time the first so many moments tell last
abbrev pub last_told : (ℕ → ℕ) → List TrackValue → ℕ → ℕ
last_told time tracks zero = 0
last_told time tracks (suc k) = told_at (last_told time tracks k) (time k) tracks k

-- the first so many moments
abbrev pub moments_lines : (ℕ → ℕ) → List TrackValue → ℕ → List ℕ
moments_lines time tracks zero = []
moments_lines time tracks (suc k) =
    moments_lines time tracks k ++ moment_lines (last_told time tracks k) (time k) tracks k

-- The dump of variables over so many moments that begin at these times. The last line is the end of the last one.
abbrev pub dump_of : (ℕ → ℕ) → ℕ → List TrackValue → List ℕ
dump_of time moments tracks =
    head_lines tracks ++ moments_lines time tracks moments ++ time_line (time moments)
