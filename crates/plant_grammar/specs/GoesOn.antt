-- Words from which a plant's text goes on, and the first from which it doesn't.
use Rattle.std.specs.Prelude.{◌≡◌, ◌++◌, true, false, List, [], ◌∷◌}
use Rattle.plant_text.specs.declared.token.Token.{Token}
use Rattle.plant_text.specs.Places.{is_body_due, may_be_due}
use Rattle.plant_grammar.specs.Grammar.{Tree, words_of}
use Rattle.plant_grammar.specs.NameFaults.{GoesOnSound}
use Rattle.plant_grammar.specs.WellFormed.{IsTreeWellFormed}

-- Some plant, as the grammar has it, begins with these words.
abbrev pub GoesOn : List Token → Type 0
GoesOn words = (tree : Tree) × (more : List Token) × (words_of tree ≡ words ++ more) × IsTreeWellFormed tree

-- A plant goes on from these words but for the last, none of which has a fault, and none from all of them. Where a body is
-- due, the last is none, and begins no block of variables.
pub record IsLastMisplaced (words : List Token) : Type 0 where
  pub before : List Token
  pub word : Token
  pub parts : words ≡ before ++ word ∷ []
  pub goes_on : GoesOnSound before
  pub misplaced : GoesOn words → ⊥
  pub misfit : is_body_due before ≡ true → may_be_due word ≡ false
