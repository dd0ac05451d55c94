-- The plant that a text is.
use Rattle.std.specs.Prelude.{◌≡◌, ◌≢◌, ◌⊎◌, ◌≤◌, ◌++◌, ℕ, List, [], ◌∷◌, true, false, length, map, All}
use Rattle.std.specs.List.{flat_map, list_all}
use Rattle.words.specs.Lines.{without_last}
use Rattle.plant_text.specs.declared.token.Token.{Token}
use Rattle.plant_text.specs.declared.token.Token.TheVariants as token
use Rattle.plant_grammar.specs.declared.grammar_fault.GrammarFaultKind.{GrammarFaultKind}
use Rattle.plant_grammar.specs.declared.grammar.tree.Program.{Program}
use Rattle.plant_grammar.specs.NameFaults.{GoesOnSound, IsLastRefused}
use Rattle.plant.specs.Faults.{kind_of_word}
use Rattle.plant.specs.declared.plant_fault.PlantFault.{PlantFault}
use Rattle.plant_grammar.specs.Grammar.{TextValue, Tree, program_words, words_of}
use Rattle.plant_grammar.specs.Lawful.{all_uses, AreProgramsDeclared, IsTreeLawful}
use Rattle.plant_grammar.specs.SourceLines.{AreSourcesOn}
use Rattle.plant_grammar.specs.WellFormed.{is_plain, IsProgramWellFormed, IsTreeWellFormed}
use Rattle.plant_grammar.specs.Parts.{IsSameTree}
use Rattle.plant.specs.Ladders.{HasLadder}
use Rattle.plant.specs.BodyFaults.{IsFirstBodyFault}
use Rattle.plant_text.specs.Places.{is_body_due}
use Rattle.plant_text.specs.Spelling.{Spells}
use Rattle.plant_text.specs.Lines.{WordValue, last_line, body_lines, BeginsWithWords, BeginsWithWordsThen, HasNoWordBehind}
use Rattle.plant_grammar.specs.GoesOn.{GoesOn}
use Rattle.plant.specs.Faultless.{AreBindsFed, IsTreeFaultless}
use Rattle.plant.specs.SourceFaults.{HasFirstSourceFault}
use Rattle.plant.specs.PlantValue.{PlantValue}
use Rattle.plant.specs.StandsFor.{IsPlantOf}

-- The text, but for a carriage return at its end, spells a tree without fault, and the plant stands for it.
pub record IsPlantText (text : List ℕ) (plant : PlantValue) : Type 0 where
  pub tree : Tree
  pub spelled : Spells (without_last 13 text) (words_of tree)
  pub faultless : IsTreeFaultless tree
  pub stands : IsPlantOf tree plant

-- The text, but for a carriage return at its end, spells no tree without fault.
abbrev pub IsNoPlant : List ℕ → Type 0
IsNoPlant text = (tree : Tree) → Spells (without_last 13 text) (words_of tree) → IsTreeFaultless tree → ⊥

-- the words of the tree are those of one without fault
abbrev pub HasFaultlessWords : Tree → Type 0
HasFaultlessWords tree = (t : Tree) × (words_of t ≡ words_of tree) × IsTreeFaultless t

-- The text, but for a carriage return at its end, spells no tree as the grammar has it, whatever its names, of at most 65
-- program types.
abbrev pub SpellsNoTree : List ℕ → Type 0
SpellsNoTree text =
    (tree : Tree) → length tree.programs ≤ 65 → IsTreeWellFormed tree → Spells (without_last 13 text) (words_of tree) → ⊥

-- Where it spells such a tree and then further words, no body among these, the tree is without fault.
abbrev pub IsFaultlessBeforeMore : List ℕ → Type 0
IsFaultlessBeforeMore text =
    (tree : Tree) (more : List Token) → length tree.programs ≤ 65 → IsTreeWellFormed tree → list_all is_plain more ≡ true
    → Spells (without_last 13 text) (words_of tree ++ more) → HasFaultlessWords tree

-- Programs, as the grammar has them, that begin these words have bodies with ladders.
abbrev pub AreBodiesDrawn : List Token → Type 0
AreBodiesDrawn words =
    (programs : List Program) (more : List Token) → All IsProgramWellFormed programs
    → words ≡ flat_map program_words programs ++ more → All HasLadder programs

-- The text, but for a carriage return at its end, begins with these words, each on its line. A plant, as the grammar has it,
-- goes on from those before the last, which have no fault, and none from all of them; the line is that of the last. No body
-- is due there, and the last is none. The bodies of the programs before it have ladders.
pub record IsMisplacedIn (text : List ℕ) (line : ℕ) : Type 0 where
  pub before : List WordValue
  pub word : WordValue
  pub begun : BeginsWithWords (without_last 13 text) (before ++ word ∷ [])
  pub known : word.token ≢ token.Unknown
  pub elsewhere : is_body_due (map (λ (w : WordValue). w.token) before) ≡ false
  pub plain : is_plain word.token ≡ true
  pub goes_on : GoesOnSound (map (λ (w : WordValue). w.token) before)
  pub misplaced : GoesOn (map (λ (w : WordValue). w.token) (before ++ word ∷ [])) → ⊥
  pub drawn : AreBodiesDrawn (map (λ (w : WordValue). w.token) before)
  pub line_is : line ≡ word.line

-- The text begins with words without a fault from which a plant goes on, each on its line, and then with no word, which is
-- told on this line. The bodies of the programs before it have ladders.
pub record IsUnknownIn (text : List ℕ) (line : ℕ) : Type 0 where
  pub before : List WordValue
  pub goes_on : GoesOnSound (map (λ (w : WordValue). w.token) before)
  pub stopped : BeginsWithWordsThen (λ n rest. HasNoWordBehind (last_line text) before n rest line) (without_last 13 text) before
  pub drawn : AreBodiesDrawn (map (λ (w : WordValue). w.token) before)

-- The text spells words without a fault from which a plant goes on, and the bodies of the programs there have ladders. The
-- line is the last of the text.
abbrev pub EndsEarly : List ℕ → ℕ → Type 0
EndsEarly text line =
    (line ≡ last_line text) × (words : List Token) × Spells (without_last 13 text) words × GoesOnSound words × AreBodiesDrawn words

-- The text isn't as the grammar has it: a plant goes on from its words up to one, on this line, which can't stand there; or
-- up to what is no word; or from all of them.
pub record IsSyntaxIn (text : List ℕ) (fault : PlantFault) : Type 0 where
  pub no_tree : SpellsNoTree text
  pub faultless : IsFaultlessBeforeMore text
  pub first : IsMisplacedIn text fault.line ⊎ (IsUnknownIn text fault.line ⊎ EndsEarly text fault.line)

-- Trees of at most 64 program types that a text, but for a carriage return at its end, spells say the same.
abbrev pub OneTree : Type 0
OneTree =
    (text : List ℕ) (t u : Tree) → length t.programs ≤ 64 → length u.programs ≤ 64
    → Spells (without_last 13 text) (words_of t) → Spells (without_last 13 text) (words_of u) → IsSameTree t u

-- A tree whose words are lawful stands for one plant, and so do trees that say the same.
abbrev pub OnePlantOfTree : Type 0
OnePlantOfTree =
    (t u : Tree) (p q : PlantValue) → IsTreeLawful t → IsSameTree t u → IsPlantOf t p → IsPlantOf u q → p ≡ q

-- A text is one plant at most.
abbrev pub OnePlant : Type 0
OnePlant = (text : List ℕ) (p q : PlantValue) → IsPlantText text p → IsPlantText text q → p ≡ q

-- The text begins with the words of these programs, each on its line and their bodies on their first lines. Their words
-- have no fault, and the fault is that of the first of them whose body is refused.
pub record IsBodyFaultIn (text : List ℕ) (fault : PlantFault) : Type 0 where
  pub texts : List TextValue
  pub words : List WordValue
  pub begun : BeginsWithWords (without_last 13 text) words
  pub written : map (λ (w : WordValue). w.token) words
      ≡ flat_map program_words (map (λ (t : TextValue). t.program) texts)
  pub lines : body_lines words ≡ map (λ (t : TextValue). t.first_line) texts
  pub declared : AreProgramsDeclared (map (λ (t : TextValue). t.program) texts)
  pub first : IsFirstBodyFault texts fault

-- The text begins with these words, each on its line, of which the last is the first refused, as the kind tells. The fault is
-- on the line of that word, and the bodies of the programs before it have ladders.
pub record IsWordFaultIn (text : List ℕ) (fault : PlantFault) : Type 0 where
  pub kind : GrammarFaultKind
  pub kind_is : fault.kind ≡ kind_of_word kind
  pub before : List WordValue
  pub word : WordValue
  pub begun : BeginsWithWords (without_last 13 text) (before ++ word ∷ [])
  pub refused : IsLastRefused kind (map (λ (w : WordValue). w.token) (before ++ word ∷ []))
  pub drawn : AreBodiesDrawn (map (λ (w : WordValue). w.token) before)
  pub line_is : fault.line ≡ word.line

-- The text begins with a tree whose words are lawful, and whose bodies have ladders. In the order of the text, the first
-- bind of it that isn't fed has no source, or one of another kind, as the kind of the fault tells. The tree keeps the lines
-- of the words that name sources, and the fault is on that of the first name that isn't found, or of the output's.
pub record IsSourceFaultIn (text : List ℕ) (fault : PlantFault) : Type 0 where
  pub kind : GrammarFaultKind
  pub kind_is : fault.kind ≡ kind_of_word kind
  pub tree : Tree
  pub words : List WordValue
  pub begun : BeginsWithWords (without_last 13 text) words
  pub written : map (λ (w : WordValue). w.token) words ≡ words_of tree
  pub lawful : IsTreeLawful tree
  pub drawn : All HasLadder tree.programs
  pub refused : All (AreBindsFed tree) (all_uses tree) → ⊥
  pub lined : AreSourcesOn (map (λ (w : WordValue). w.line) words) tree.resources []
  pub wrong : HasFirstSourceFault tree kind fault.line

-- a word of the text is at fault, or the source of a bind
abbrev pub IsNameFaultIn : List ℕ → PlantFault → Type 0
IsNameFaultIn text fault = IsWordFaultIn text fault ⊎ IsSourceFaultIn text fault
