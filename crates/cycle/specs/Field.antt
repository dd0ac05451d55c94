-- What the field is, as its lines tell it.
use Rattle.std.specs.Prelude.{ℕ, ◌++◌, List, [], ◌∷◌, Option, Some, None, set, position, drop}
use Rattle.words.specs.Lines.{without_last}
use Rattle.words.specs.declared.address.Address.{Address}
use Rattle.evaluation.specs.Inputs.{address_of, same_address}
use Rattle.evaluation.specs.InputTexts.{words_of}
use Rattle.evaluation.specs.declared.field_input.FieldInput.{FieldInput}

-- where the input of an address stands
abbrev pub place_of : Address → List FieldInput → Option ℕ
place_of a listed = position (λ i. same_address (address_of i) a) listed

-- an input at its place, or behind all
abbrev pub put_at : Option ℕ → List FieldInput → FieldInput → List FieldInput
put_at None listed input = listed ++ input ∷ []
put_at (Some place) listed input = set listed place input

-- an input stands in the place of the one of its address; where there is none, behind all
abbrev pub put : List FieldInput → FieldInput → List FieldInput
put listed input = put_at (place_of (address_of input) listed) listed input

-- What is told over what was told before: an address that isn't told stays as it was.
abbrev pub told_over : List FieldInput → List FieldInput → List FieldInput
told_over listed [] = listed
told_over listed (input ∷ more) = told_over (put listed input) more

-- the words behind the first word of a line, each of which tells an address and its value
abbrev pub words_behind : List ℕ → List (List ℕ)
words_behind line = drop 1 (words_of (without_last 13 line))
