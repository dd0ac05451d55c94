-- What a reader gets of a value change dump.
use Rattle.std.specs.Prelude.{◌≡◌, ◌≢◌, ℕ, ◌+◌, ◌*◌, ◌^◌, ◌<◌, ◌≤◌, if◌then◌else◌, List, [], ◌∷◌, true, All, IsTrue, Option, Some, None, IfSome, IsSomeAnd, codes, length, slice_index}
use Rattle.std.specs.List.{AllZip}
use Rattle.std.specs.Int.{w16, cast_unsigned}
use Rattle.std.specs.Str.Parse.{IsNumeral, digits_value}
use Rattle.std_blocks.specs.declared.value.Value.{Value}
use Rattle.std_blocks.specs.declared.value.Value.TheVariants.{Bool as BoolValue, Int as IntValue, Time as TimeValue}
use Rattle.words.specs.Chars.{is_name}
use Rattle.task_codes.specs.declared.due.Due.{Due}
use Rattle.task_codes.specs.declared.timing.Timing.{Timing}
use Rattle.task_codes.specs.Plan.{IsPlanOf}
use Rattle.traces.specs.Reader.{Variable, digits_at, end_of, head_of, is_in_order}
use Rattle.traces.specs.Times.{AreTimes, each, planned}
use Rattle.traces.specs.Tracks.{ScopeValue, TrackValue, value_at}
use Rattle.traces.specs.ValueChanges.{dump_of, width_of}

-- one word that begins without `$`
pub record IsPlainWord (w : List ℕ) : Type 0 where
  pub some : 0 < length w
  pub plain : slice_index w 0 ≢ 36
  pub one : All (λ c. 32 < c) w

-- Each name of a program is such a word.
abbrev pub NamesAreWords : Type 0
NamesAreWords = (w : List ℕ) → IsTrue (is_name w) → IsPlainWord w

-- a value by its bits, as a number; an INT is in two's complement
abbrev pub bits_of : Value → ℕ
bits_of (BoolValue on) = if on then 1 else 0
bits_of (IntValue n) = cast_unsigned w16 n
bits_of (TimeValue t) = t

-- a variable that a dump can show: its names are words, and each value has no more bits than the kind of the first one
pub record IsDumpable (t : TrackValue) : Type 0 where
  pub name : IsPlainWord t.name
  pub scope : IfSome t.scope (λ s. IsPlainWord s.resource × IsPlainWord s.program)
  pub values : All (λ v. bits_of v < 2 ^ width_of (value_at t 0)) t.values

-- the resource, and the program in it
abbrev pub path_of : Option ScopeValue → List (List ℕ)
path_of None = []
path_of (Some s) = s.resource ∷ s.program ∷ []

-- digits 0 and 1 alone, no more than the bits of a variable, that mean this number; those that are missing in front are 0
abbrev pub AreDigitsOf : ℕ → ℕ → List ℕ → Type 0
AreDigitsOf width n digits = IsNumeral 2 digits × (length digits ≤ width) × (digits_value 2 digits ≡ n)

-- A reader finds a variable: its scopes, its name, its bits, and its value at each moment for as long as this lasts.
pub record IsFound (time : ℕ → ℕ) (moments : ℕ) (dump : List ℕ) (x : Variable) (t : TrackValue) : Type 0 where
  pub path : x.path ≡ path_of t.scope
  pub name : x.name ≡ t.name
  pub width : x.width ≡ width_of (value_at t 0)
  pub values : (k at : ℕ) (v : Value) → k < moments → value_at t k ≡ Some v
      → time k ≤ at → at < time (k + 1) → IsSomeAnd (digits_at dump x.code at) (AreDigitsOf x.width (bits_of v))

-- Times are in ms and in order, the last one is the end of the last moment; all scopes are left; a reader finds just these
-- variables, one after the other
pub record IsReadBack (time : ℕ → ℕ) (moments : ℕ) (tracks : List TrackValue) (dump : List ℕ) : Type 0 where
  pub unit : (head_of dump).unit ≡ codes "1ms"
  pub path : (head_of dump).path ≡ []
  pub end : end_of dump ≡ time moments
  pub order : is_in_order dump ≡ true
  pub variables : AllZip (IsFound time moments dump) (head_of dump).variables tracks

-- A reader of the dump of variables that a dump can show finds them and their values, whatever the times of the moments, which
-- may be of one time. The number of variables is below 2 ^ 64.
abbrev pub DumpReadsBack : Type 0
DumpReadsBack =
    (time : ℕ → ℕ) (moments : ℕ) (tracks : List TrackValue) → AreTimes time moments → length tracks < 2 ^ 64
    → All (λ t. IsDumpable t) tracks → IsReadBack time moments tracks (dump_of time moments tracks)

-- Equally long moments begin so.
abbrev pub EachTimes : Type 0
EachTimes = (step moments : ℕ) → step * moments < 2 ^ 64 → AreTimes (each step) moments

-- The moments of a plan begin so, with the one before it.
abbrev pub PlannedTimes : Type 0
PlannedTimes =
    (resources : List (List Timing)) (until : ℕ) (dues : List Due) → IsPlanOf resources until dues → until + 1 < 2 ^ 64
    → AreTimes (planned dues until) (length dues + 1)
