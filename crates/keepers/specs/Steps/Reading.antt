-- A text of retained variables that is read line by line.
use Rattle.std.specs.Prelude.{◌≡◌, ◌≢◌, ℕ, ◌==◌, ◌<◌, ◌≤◌, true, negsuc, List, Option, Some, None, MatchOption, ◌++◌, length, map, take}
use Rattle.std.specs.List.{AllByRecursion, position}
use Rattle.std_blocks.specs.declared.value.Value.{Value}
use Rattle.std_blocks.specs.declared.value.Value.TheVariants.{Bool as BoolValue, Int as IntValue, Time as TimeValue}
use Rattle.declared_names.specs.declared.declarations.Kind.{Kind}
use Rattle.declared_names.specs.declared.declarations.Kind.TheVariants as kind
use Rattle.declared_names.specs.Kinds.{kind_of}
use Rattle.text_lines.specs.LineParts.{value_text}
use Rattle.text_lines.specs.ReadParts.{IsInRange}
use Rattle.task_codes.specs.declared.retained_variable.RetainedVariable.{RetainedVariable}
use Rattle.task_codes.specs.CodeValue.{CodeValue, retained_kinds}
use Rattle.evaluation.specs.Retained.{Suits}
use Rattle.keepers.specs.declared.retained_text.ReadFault.{ReadFault}
use Rattle.keepers.specs.declared.retained_text.ReadFault.TheVariants.{Departs, Memory}
use Rattle.keepers.specs.KeptRetained.{retained_text, BeginsWith, DepartsAt}

-- where the first line feed of a text stands
abbrev pub line_end : List ℕ → Option ℕ
line_end text = position (λ c. c == 10) text

-- the value of a kind that a word is the text of, if it is one
abbrev pub IsValueOf : Kind → List ℕ → Option Value → Type 0
IsValueOf kind word found =
    MatchOption found ((value : Value) → kind_of value ≡ kind → IsInRange value → word ≢ value_text value)
    (λ value. (kind_of value ≡ kind) × IsInRange value × (word ≡ value_text value))

-- no value of a kind has a longer text
abbrev pub longest : Kind → Value
longest kind.Bool = BoolValue true
longest kind.Int = IntValue (negsuc 32767)
longest kind.Time = TimeValue 4294967295

-- the longest values of retained variables
abbrev pub longest_of : List RetainedVariable → List Value
longest_of vs = map (λ (v : RetainedVariable). longest v.kind) vs

-- all texts of values of this code are shorter
abbrev pub IsLonger : CodeValue → ℕ → Type 0
IsLonger code most = (values : List Value) → Suits code values → AllByRecursion IsInRange values → length (retained_text code values) < most

-- the value in the line with which a text begins, if it is that of this variable, and what stands behind the line
abbrev pub IsLineRead : CodeValue → RetainedVariable → List ℕ → Option (Value × List ℕ) → Type 0
IsLineRead code v text None = (value : Value) (rest : List ℕ) → BeginsWith code v text value rest → ⊥
IsLineRead code v text (Some l) = BeginsWith code v text l.0 l.1

-- the values of so many retained variables were read, and this stands behind them
pub record AreRead (code : CodeValue) (text : List ℕ) (many : ℕ) (values : List Value) (rest : List ℕ) : Type 0 where
  pub kinds_are : map kind_of values ≡ take many (retained_kinds code)
  pub in_range : AllByRecursion IsInRange values
  pub text_is : text ≡ retained_text code values ++ rest

-- why no values are read
abbrev pub IsReadFault : CodeValue → List ℕ → ReadFault → Type 0
IsReadFault code text (Departs place) = DepartsAt code text place
IsReadFault code text Memory = Unit {0}

-- a line that departs is one of a code's retained variables, or stands behind them
abbrev pub IsWithin : CodeValue → ReadFault → Type 0
IsWithin code (Departs place) = place ≤ length code.retained
IsWithin code Memory = Unit {0}
