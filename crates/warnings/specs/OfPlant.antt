-- The warnings of a plant.
use Rattle.std.specs.Prelude.{◌≡◌, ◌⊎◌, ◌++◌, ℕ, if◌then◌else◌, true, List, [], ◌∷◌, map, max, min}
use Rattle.std.specs.Option.{option_map_or}
use Rattle.words.specs.Lines.{without_last}
use Rattle.plant_text.specs.declared.token.Token.{Token}
use Rattle.plant_text.specs.Lines.{WordValue, IsSpelledBy, IsBegunBy, body_lines}
use Rattle.network.specs.GraphValue.{GraphValue}
use Rattle.plant_grammar.specs.Grammar.{TextValue, Tree, words_of}
use Rattle.plant_grammar.specs.Lawful.{variables, IsTreeLawful}
use Rattle.plant_grammar.specs.Names.{is_named}
use Rattle.plant_grammar.specs.declared.grammar.tree.Resource.{Resource}
use Rattle.warnings.specs.declared.of_plant.PlantWarnings.{PlantWarnings}
use Rattle.warnings.specs.declared.scan_time.ScanTime.{ScanTime}
use Rattle.warnings.specs.declared.warning.Warning.{Warning}
use Rattle.warnings.specs.NeverRead.{AreProgramWarnings}
use Rattle.warnings.specs.OfText.{AreNetworksOf, HasNoNetworks}
use Rattle.warnings.specs.Unbound.{names_in, all_unbound}
use Rattle.warnings.specs.Far.{address_in, all_far}

-- the number of the first line of a program's drawing, from 1 to the greatest on which a drawing may begin
abbrev pub drawing_line : TextValue → ℕ
drawing_line t = max 1 (min t.first_line 9223372036854775807)

-- a program has no drawing, or one whose networks have a fault
abbrev pub HasNoDrawing : TextValue → Type 0
HasNoDrawing t = HasNoNetworks (drawing_line t) t.program.body

-- one of these programs has none
pub record HasNoDrawingIn (texts : List TextValue) : Type 0 where
  pub before : List TextValue
  pub faulty : TextValue
  pub behind : List TextValue
  pub parts : texts ≡ before ++ faulty ∷ behind
  pub refused : HasNoDrawing faulty

-- the time between evaluations by which the timers of the program type of a name are judged: it is given for all, or for the one
-- of its name; 0 where there is none
abbrev pub time_in : ScanTime → List ℕ → ℕ
time_in time name = if option_map_or (λ program. is_named program.now name) time.program true then time.dt else 0

-- these are the warnings of a program's drawing
pub record IsBodyWarned (time : ScanTime) (t : TextValue) (warnings : List Warning) : Type 0 where
  pub graph : GraphValue
  pub networks : AreNetworksOf (drawing_line t) t.program.body graph
  pub warned : AreProgramWarnings (time_in time t.program.name) graph (variables t.program) warnings

-- these are the warnings of the drawings of programs, one after the other
abbrev pub AreBodiesWarned : ScanTime → List TextValue → List Warning → Type 0
AreBodiesWarned time [] warnings = warnings ≡ []
AreBodiesWarned time (t ∷ texts) warnings =
    (here more : List Warning) × IsBodyWarned time t here × AreBodiesWarned time texts more × (warnings ≡ here ++ more)

-- these are the warnings of programs and resources
pub record AreWarningsOfTree (time : ScanTime) (texts : List TextValue) (resources : List Resource) (told : PlantWarnings) : Type 0 where
  pub bodies : AreBodiesWarned time texts told.bodies.items
  pub unbound : map names_in told.unbound.items ≡ all_unbound texts resources
  pub far : map address_in told.far.items ≡ all_far resources

-- the words of a text
abbrev pub tokens_of : List WordValue → List Token
tokens_of words = map (λ (w : WordValue). w.token) words

-- a plant of these programs and resources, whose configuration has this name
abbrev pub tree_of : List ℕ → List TextValue → List Resource → Tree
tree_of name texts resources =
    record { programs = map (λ (t : TextValue). t.program) texts; name = name; resources = resources }

-- Words, each on its line, begin with those of a lawful plant of these programs and resources; the lines of its bodies are
-- those of the programs.
pub record BeginWithPlant (words : List WordValue) (texts : List TextValue) (resources : List Resource) : Type 0 where
  pub name : List ℕ
  pub rest : List Token
  pub more : List ℕ
  pub written : tokens_of words ≡ words_of (tree_of name texts resources) ++ rest
  pub lawful : IsTreeLawful (tree_of name texts resources)
  pub lines : body_lines words ≡ map (λ (t : TextValue). t.first_line) texts ++ more

-- These are the words of a text, each on its line, but for a carriage return at its end: all, or those before what is no word.
pub record AreWordsOf (text : List ℕ) (words : List WordValue) : Type 0 where
  pub spelled : IsSpelledBy (without_last 13 text) words
  pub begun : IsBegunBy (without_last 13 text) words

-- A text begins with the words of a plant's programs and resources, and these are their warnings.
pub record AreWarningsOfPlant (time : ScanTime) (text : List ℕ) (told : PlantWarnings) : Type 0 where
  pub words : List WordValue
  pub texts : List TextValue
  pub resources : List Resource
  pub written : AreWordsOf text words
  pub begun : BeginWithPlant words texts resources
  pub warned : AreWarningsOfTree time texts resources told

-- no lawful plant begins these words
abbrev pub BeginNoPlant : List Token → Type 0
BeginNoPlant words = (tree : Tree) (rest : List Token) → words ≡ words_of tree ++ rest → IsTreeLawful tree → ⊥

-- these words begin with a plant's, of which a program has no drawing
pub record HasFaultyBody (words : List WordValue) : Type 0 where
  pub texts : List TextValue
  pub resources : List Resource
  pub begun : BeginWithPlant words texts resources
  pub faulty : HasNoDrawingIn texts

-- a text doesn't begin with the words of a plant, or one of its programs has no drawing
pub record IsNoPlant (text : List ℕ) : Type 0 where
  pub words : List WordValue
  pub written : AreWordsOf text words
  pub refused : BeginNoPlant (tokens_of words) ⊎ HasFaultyBody words
