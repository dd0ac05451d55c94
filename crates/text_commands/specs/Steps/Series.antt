-- How items and series show themselves.
use Rattle.std.specs.Prelude.{◌≡◌, ℕ, ◌+◌, ◌<◌, ◌≤◌, List, [], ◌∷◌, length, map, take, slice_index}
use Rattle.declared_names.specs.declared.declarations.Kind.{Kind}
use Rattle.declared_names.specs.declared.declarations.Kind.TheVariants as kind
use Rattle.text_commands.specs.declared.word_fault.WordFaultKind.{WordFaultKind}
use Rattle.text_commands.specs.declared.word_fault.WordFaultKind.TheVariants.{BadDigits, BadNumbers, BadDurations}
use Rattle.std_blocks.specs.declared.value.Value.{Value}
use Rattle.text_commands.specs.declared.once.Once.{Once}
use Rattle.text_commands.specs.declared.once.Once.TheVariants.{Bits, One}
use Rattle.text_commands.specs.Series.{ItemValue, SeriesValue, bit_of, given_by}

abbrev pub once_values : Once → List Value
once_values (Bits digits) = map bit_of digits.now
once_values (One value) = value ∷ []

abbrev pub item_value : List Value → ℕ → ItemValue
item_value once times = record { once = once; times = times }

abbrev pub series_value : ℕ → List ItemValue → SeriesValue
series_value place items = record { place = place; values = given_by items }

-- 1 to 1,000 values
abbrev pub IsShort : List Value → Type 0
IsShort once = (0 < length once) × (length once ≤ 1000)

-- 1 to 1,000,000 times
abbrev pub IsOften : ℕ → Type 0
IsOften times = (0 < times) × (times ≤ 1000000)

-- what an item's parts keep to
abbrev pub IsBounded : ItemValue → Type 0
IsBounded item = IsShort item.once × IsOften item.times

-- how many values items give up to the end of each: at most 1,000,000 in all
pub record AreEnds (items : List ItemValue) (ends : List ℕ) : Type 0 where
  pub long : length ends ≡ length items
  pub each : (i : ℕ) → i < length items → slice_index ends i ≡ length (given_by (take (i + 1) items))
  pub few : length (given_by items) ≤ 1000000

-- how values of a kind are refused
abbrev pub bad_values : Kind → WordFaultKind
bad_values kind.Bool = BadDigits
bad_values kind.Int = BadNumbers
bad_values kind.Time = BadDurations
