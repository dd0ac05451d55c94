-- The texts of field inputs: words such as `%IX0=1` and `%IW2=-7`, parted by blanks or tabs.
use Rattle.std.specs.Prelude.{◌≡◌, ℕ, ◌+◌, ◌==◌, ◌||◌, Bool, false, not, if◌then◌else◌, List, [], ◌∷◌, map, take, drop, length, slice_get, position, Option, Some, None, ℤ, pos, ◌-ℤ◌}
use Rattle.std.specs.List.{slice_split, filter}
use Rattle.std.specs.Option.{option_map, option_and_then}
use Rattle.words.specs.Numbers.{number_up_to}
use Rattle.words.specs.declared.address.Space.{Space}
use Rattle.words.specs.declared.address.Space.TheVariants.{Bit as BitSpace, Word as WordSpace}
use Rattle.words.specs.declared.address.Address.{Address}
use Rattle.words.specs.Addresses.{address}
use Rattle.evaluation.specs.declared.field_input.FieldInput.{FieldInput}
use Rattle.evaluation.specs.declared.field_input.FieldInput.TheVariants.{Bit, Word}
use Rattle.evaluation.specs.declared.input_fault.InputFault.{InputFault}
use Rattle.evaluation.specs.declared.input_fault.InputFault.TheVariants.{Syntax, Twice, Memory}
use Rattle.evaluation.specs.Inputs.{address_of}

-- the words of a text, parted by blanks or tabs
abbrev pub words_of : List ℕ → List (List ℕ)
words_of text = filter (λ w. not (length w == 0)) (slice_split (λ c. c == 32 || c == 9) text)

-- a bit's value is the number 0 or 1
unfoldable pub bit_value : List ℕ → Option Bool
bit_value w = option_map (λ n. n == 1) (number_up_to 1 w)

-- a sign stands before it
abbrev pub is_below_zero : List ℕ → Bool
is_below_zero [] = false
is_below_zero (c ∷ more) = c == 45

-- a number up to 32768 behind a sign
abbrev pub value_below : List ℕ → Option ℤ
value_below w = option_map (λ n. pos 0 -ℤ pos n) (number_up_to 32768 w)

-- a number up to 32767
abbrev pub value_above : List ℕ → Option ℤ
value_above w = option_map (λ n. pos n) (number_up_to 32767 w)

-- a word's value is a number up to 32767, or `-` and right behind it a number up to 32768
unfoldable pub word_value : List ℕ → Option ℤ
word_value w = if is_below_zero w then value_below (drop 1 w) else value_above w

-- the value for an address
abbrev pub input_at : Address → List ℕ → Option FieldInput
input_at a w = of_space a.space where
  of_space : Space → Option FieldInput
  of_space BitSpace = option_map (λ v. Bit a.number v) (bit_value w)
  of_space WordSpace = option_map (λ v. Word a.number v) (word_value w)

-- where the first `=` stands
abbrev pub sign_of : List ℕ → Option ℕ
sign_of w = position (λ c. c == 61) w

-- an address before the first `=`, and its value behind it
unfoldable pub input_of : List ℕ → Option FieldInput
input_of w = option_and_then (λ k. option_and_then (λ a. input_at a (drop (k + 1) w)) (address (take k w))) (sign_of w)

-- no address comes twice
abbrev pub AreApart : List FieldInput → Type 0
AreApart inputs = (j k : ℕ) (a b : FieldInput) → slice_get inputs j ≡ Some a → slice_get inputs k ≡ Some b
    → address_of a ≡ address_of b → j ≡ k

-- each word is the input in its place, and no address comes twice
pub record AreInputs (words : List (List ℕ)) (inputs : List FieldInput) : Type 0 where
  pub words_are : map input_of words ≡ map (λ i. Some i) inputs
  pub apart : AreApart inputs

-- some word is no input
pub record HasBadWord (words : List (List ℕ)) : Type 0 where
  pub number : ℕ
  pub word : List ℕ
  pub word_is : slice_get words number ≡ Some word
  pub bad : input_of word ≡ None

-- each word is an input, and two of them have one address
pub record HasAddressTwice (words : List (List ℕ)) : Type 0 where
  pub inputs : List FieldInput
  pub words_are : map input_of words ≡ map (λ i. Some i) inputs
  pub twice : AreApart inputs → ⊥

-- what each refusal of words means
abbrev pub IsFaultOfWords : List (List ℕ) → InputFault → Type 0
IsFaultOfWords words Syntax = HasBadWord words
IsFaultOfWords words Twice = HasAddressTwice words
IsFaultOfWords words Memory = Unit {0}

-- the words of the text are these inputs
abbrev pub IsRead : List ℕ → List FieldInput → Type 0
IsRead text inputs = AreInputs (words_of text) inputs

-- what each refusal of a text means
abbrev pub IsFaultOf : List ℕ → InputFault → Type 0
IsFaultOf text fault = IsFaultOfWords (words_of text) fault
