-- How the words of inputs are read one by one, and how an address that stands twice is found.
use Rattle.std.specs.Prelude.{ℕ, ◌+◌, ◌*◌, List}
use Rattle.evaluation.specs.declared.field_input.FieldInput.{FieldInput}
use Rattle.evaluation.specs.declared.field_input.FieldInput.TheVariants.{Bit, Word}
use Rattle.evaluation.specs.declared.input_fault.InputFault.{InputFault}
use Rattle.evaluation.specs.declared.input_fault.InputFault.TheVariants.{Syntax, Twice, Memory}
use Rattle.evaluation.specs.InputTexts.{HasBadWord}

-- what a refusal means while the words are read one by one
abbrev pub IsWordFault : List (List ℕ) → InputFault → Type 0
IsWordFault words Syntax = HasBadWord words
IsWordFault words Twice = ⊥
IsWordFault words Memory = Unit {0}

-- a number for each address
abbrev pub key_of : FieldInput → ℕ
key_of (Bit n v) = 2 * n
key_of (Word n v) = 2 * n + 1
