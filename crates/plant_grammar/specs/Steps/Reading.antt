-- What is known of a plant's text once its words are read, its bodies not yet drawn and its sources not yet resolved.
use Rattle.std.specs.Prelude.{◌≡◌, ℕ, List, ◌++◌, map, take, All}
use Rattle.std.specs.List.{flat_map}
use Rattle.plant_grammar.specs.declared.grammar.tree.Program.{Program}
use Rattle.plant_grammar.specs.declared.grammar.tree.Resource.{Resource}
use Rattle.plant_text.specs.declared.token.Token.{Token}
use Rattle.plant_grammar.specs.Grammar.{Tree, TextValue, program_words, words_of}
use Rattle.plant_grammar.specs.Lawful.{IsTreeLawful}
use Rattle.plant_grammar.specs.Parts.{program_parts}
use Rattle.plant_grammar.specs.WellFormed.{IsProgramWellFormed}
use Rattle.plant_grammar.specs.Steps.Lines.{ReaderValue}

-- the program types as they are written
abbrev pub programs_of : List TextValue → List Program
programs_of texts = map (λ (t : TextValue). t.program) texts

-- the lines that their bodies begin on
abbrev pub lines_of : List TextValue → List ℕ
lines_of texts = map (λ (t : TextValue). t.first_line) texts

-- the words of these programs, and the rest behind them
abbrev pub all_words : List TextValue → List Token → List Token
all_words texts rest = flat_map program_words (programs_of texts) ++ rest

-- the lines that their bodies begin on, and more behind them
abbrev pub all_lines : List TextValue → List ℕ → List ℕ
all_lines texts more = lines_of texts ++ more

-- the words of the one programs and those behind them are the words of the others and the rest
abbrev pub AreSameWords : List TextValue → List Token → List TextValue → List Token → Type 0
AreSameWords some words others rest = all_words some words ≡ all_words others rest

-- the lines of the bodies of the one programs and those behind them are those of the others and more
abbrev pub AreSameLines : List TextValue → List ℕ → List TextValue → List ℕ → Type 0
AreSameLines some lines others more = all_lines some lines ≡ all_lines others more

-- the words of the one programs and those behind them begin with the words of the others
abbrev pub BeginWithWordsOf : List TextValue → List Token → List TextValue → Type 0
BeginWithWordsOf some words others = (rest : List Token) × AreSameWords some words others rest

-- the lines of the bodies of the one programs and those behind them begin with those of the others
abbrev pub BeginWithLinesOf : List TextValue → List ℕ → List TextValue → Type 0
BeginWithLinesOf some lines others = (more : List ℕ) × AreSameLines some lines others more

-- what is written, under the configuration's name
abbrev pub tree_written : List ℕ → List TextValue → List Resource → Tree
tree_written name texts resources = record { programs = programs_of texts; name = name; resources = resources }

-- The words begin with those of a lawful tree of these programs and resources, and the rest is left.
pub record IsTreeOf (words : List Token) (texts : List TextValue) (resources : List Resource)
    (rest : List Token) : Type 0 where
  pub name : List ℕ
  pub written : words ≡ words_of (tree_written name texts resources) ++ rest
  pub lawful : IsTreeLawful (tree_written name texts resources)

-- The words begin with those of these programs, and the lines of bodies with theirs.
pub record BeginWithTexts (r : ReaderValue) (texts : List TextValue) : Type 0 where
  pub rest : List Token
  pub more : List ℕ
  pub written : r.words ≡ all_words texts rest
  pub lines : r.bodies ≡ all_lines texts more

-- Of the programs that begin the words none is missing: such programs, as the grammar has them, are the first of these.
abbrev pub AreAllPrograms : List Token → List Program → Type 0
AreAllPrograms words programs =
    (ps : List Program) (more : List Token) → All IsProgramWellFormed ps → words ≡ flat_map program_words ps ++ more
    → (n : ℕ) × (map program_parts ps ≡ map program_parts (take n programs))
