-- What a fault tells of the word that it is of.
use Rattle.std.specs.Prelude.{◌≡◌, ◌≢◌, ◌⊎◌, ◌+◌, ◌≤◌, ℕ, List, ◌∷◌, ◌++◌, length, None}
use Rattle.std.specs.List.{flat_map}
use Rattle.std_blocks.specs.declared.block_type.BlockType.{BlockType}
use Rattle.declared_names.specs.declared.declarations.Declaration.{Declaration}
use Rattle.declared_names.specs.declared.declarations.Kind.{Kind}
use Rattle.declared_names.specs.Names.{IsDeclared}
use Rattle.plant_grammar.specs.declared.grammar_fault.GrammarFault.{GrammarFault}
use Rattle.plant_grammar.specs.declared.grammar_fault.GrammarFaultKind.{GrammarFaultKind}
use Rattle.words.specs.declared.address.Address.{Address}
use Rattle.plant_text.specs.declared.token.Token.{Token}
use Rattle.plant_text.specs.declared.token.Token.TheVariants as token
use Rattle.plant_grammar.specs.declared.grammar.tree.Section.{Section}
use Rattle.plant_grammar.specs.declared.grammar.tree.TypeName.TheVariants.{Block}
use Rattle.plant_grammar.specs.declared.grammar.tree.Program.{Program}
use Rattle.plant_grammar.specs.declared.grammar.tree.TaskLine.{TaskLine}
use Rattle.plant_grammar.specs.declared.grammar.tree.Bind.{Bind}
use Rattle.plant_grammar.specs.declared.grammar.tree.Use.{Use}
use Rattle.plant_grammar.specs.declared.grammar.tree.Item.{Item}
use Rattle.plant_grammar.specs.declared.grammar.tree.Resource.{Resource}
use Rattle.plant_text.specs.declared.token.Punctuation.TheVariants.{Open}
use Rattle.plant_grammar.specs.Grammar.{mark_word, program_words, TextValue}
use Rattle.plant_grammar.specs.Kinds.{input_kind_of}
use Rattle.declared_names.specs.Kinds.{kind_of_space}
use Rattle.plant_grammar.specs.Lawful.{IsTypeLawful, task_of, use_of}
use Rattle.plant_grammar.specs.Steps.NamesRead.{IsOfName, Tells, TellsOfName, TellsOfSoughtName, IsNameTaken, IsAfter, IsAfterAll, RefusesProgram, RefusesTask, RefusesBind, RefusesInstance, RefusesItems, RefusesResource, RefusesResources, RefusesBehind}
use Rattle.plant_grammar.specs.Steps.Lines.{ReaderValue, HasLinesOf, next_line}
use Rattle.plant_grammar.specs.Steps.ReadParts.{TallyValue}
use Rattle.plant_grammar.specs.NameFaults.{IsLastRefused}
use Rattle.plant_grammar.specs.Steps.Reading.{programs_of, AreAllPrograms}
use Rattle.plant_grammar.specs.Steps.SoundWords.{Fits}

-- the next word is a name, and one of these has the same
abbrev pub RepeatsName : {A : Type 0} → (A → List ℕ) → List A → List Token → Type 0
RepeatsName name_of xs words =
    (name : List ℕ) × (rest : List Token) × (words ≡ token.Name name ∷ rest) × IsNameTaken name_of xs name

-- the next word is a name
abbrev pub IsNameNext : List Token → Type 0
IsNameNext words = (name : List ℕ) × (rest : List Token) × (words ≡ token.Name name ∷ rest)

-- The next word is a name. The fault is NameTwice only where one of these programs has it, and TooMany only where
-- none does and they are 64.
abbrev pub TellsOfType : List TextValue → List Token → GrammarFault → Type 0
TellsOfType before words fault =
    TellsOfName fault.kind (RepeatsName (λ (p : Program). p.name) (programs_of before) words)
    (IsNameNext words × (64 ≤ length before))

-- The next word is a name. The fault is NameTwice only where one of these variables or an earlier name of the list is
-- the same, and TooMany only where none is and all these are 1,000.
abbrev pub TellsOfVariable : List Declaration → List (List ℕ) → List Token → GrammarFault → Type 0
TellsOfVariable variables names words fault =
    TellsOfName fault.kind
    (RepeatsName (λ (v : Declaration). v.name) variables words ⊎ RepeatsName (λ (n : List ℕ). n) names words)
    (IsNameNext words × (1000 ≤ length variables + length names))

-- The next word is a name. The fault is NameTwice only where a task of these lines has it, and TooMany only where
-- none does and their tasks are 16.
abbrev pub TellsOfTask : List Item → List Token → GrammarFault → Type 0
TellsOfTask before words fault =
    TellsOfName fault.kind (RepeatsName (λ (t : TaskLine). t.name) (flat_map task_of before) words)
    (IsNameNext words × (16 ≤ length (flat_map task_of before)))

-- The next word is a name. The fault is NameTwice only where an instance of these lines has it, and TooMany only
-- where none does and the plant has 64 instances.
abbrev pub TellsOfInstance : List Item → ℕ → List Token → GrammarFault → Type 0
TellsOfInstance before instances words fault =
    TellsOfName fault.kind (RepeatsName (λ (u : Use). u.instance) (flat_map use_of before) words)
    (IsNameNext words × (64 ≤ instances))

-- the next word is a name, and none of these has the same
abbrev pub MissesName : {A : Type 0} → (A → List ℕ) → List A → List Token → Type 0
MissesName name_of xs words =
    (name : List ℕ) × (rest : List Token) × (words ≡ token.Name name ∷ rest) × (IsNameTaken name_of xs name → ⊥)

-- the fault is of these kinds UnknownName alone, and only where the next word is the name of none of these
abbrev pub TellsOfMissing : {A : Type 0} → (A → List ℕ) → List A → List Token → GrammarFault → Type 0
TellsOfMissing name_of xs words fault = Tells fault.kind ⊥ (MissesName name_of xs words) ⊥ ⊥ ⊥

-- the next word is a name, but none of an input
abbrev pub MissesInput : List Declaration → List Token → Type 0
MissesInput ds words =
    (name : List ℕ) × (rest : List Token) × (words ≡ token.Name name ∷ rest) × (input_kind_of ds name ≡ None)

-- The next word is a name. The fault is UnknownName only where it is none of an input, InputBoundTwice only where one
-- of these binds has it, and TooMany only where neither is so and the plant has 4,096 binds.
abbrev pub TellsOfInput : ℕ → List Declaration → List Bind → List Token → GrammarFault → Type 0
TellsOfInput binds ds before words fault =
    TellsOfSoughtName fault.kind (MissesInput ds words) (RepeatsName (λ (b : Bind). b.input) before words)
    (IsNameNext words × (4096 ≤ binds))

-- the fault is of these kinds WrongKind alone, and only where the next word is an address of another kind
abbrev pub TellsOfAddress : Kind → List Token → GrammarFault → Type 0
TellsOfAddress kind words fault =
    Tells fault.kind ⊥ ⊥
    ((a : Address) × (rest : List Token) × (words ≡ token.Address a ∷ rest) × (kind_of_space a.space ≢ kind)) ⊥ ⊥

-- the fault is of these kinds WrongKind alone, and only where the next word is the type of a block, which the section
-- doesn't have
abbrev pub TellsOfBlock : Section → List Token → GrammarFault → Type 0
TellsOfBlock s words fault =
    Tells fault.kind ⊥ ⊥
    ((b : BlockType) × (rest : List Token) × (words ≡ token.Block b ∷ rest) × (IsTypeLawful s (Block b) → ⊥)) ⊥ ⊥

-- The next word is a name. The fault is NameTwice only where one of these resources has it, and TooMany only where
-- none does and they are 16.
abbrev pub TellsOfResource : List Resource → List Token → GrammarFault → Type 0
TellsOfResource before words fault =
    TellsOfName fault.kind (RepeatsName (λ (r : Resource). r.name) before words)
    (IsNameNext words × (16 ≤ length before))

-- The fault is NameTwice only where one of these variables or of the names that are to be declared next is the same,
-- and TooMany only where none is and all these are 1,000.
abbrev pub TellsOfChecked : List Declaration → List (List ℕ) → List ℕ → GrammarFault → Type 0
TellsOfChecked variables more name fault =
    TellsOfName fault.kind (IsDeclared variables name ⊎ IsNameTaken (λ (n : List ℕ). n) more name)
    (1000 ≤ length variables + length more)

-- The fault is NameTwice only where one of these variables has the name, and TooMany only where they are 1,000.
abbrev pub TellsOfAdded : List Declaration → List ℕ → GrammarFault → Type 0
TellsOfAdded variables name fault = Tells fault.kind (IsDeclared variables name) ⊥ ⊥ ⊥ (1000 ≤ length variables)

-- This is the line of the word before the rest, where all words begin on these lines.
pub record IsLineBefore (all : List ℕ) (line : ℕ) (rest : List Token) : Type 0 where
  pub before : List ℕ
  pub behind : List ℕ
  pub parts : all ≡ before ++ line ∷ behind
  pub each : length behind ≡ length rest

-- the words begin with words of which this holds, and of the rest holds that
pub record BeginWith (R : List Token → Type 0) (P : List Token → Type 0) (words : List Token) : Type 0 where
  pub front : List Token
  pub rest : List Token
  pub parts : words ≡ front ++ rest
  pub holds : P front
  pub behind : R rest

-- If the fault is of a name, these words, of which the last are left, begin with words up to one that is refused so, and
-- the fault is on its line.
abbrev pub BeginRefusedBehind : (GrammarFaultKind → List Token → Type 0) → ReaderValue → List Token → GrammarFault → Type 0
BeginRefusedBehind Refuses left words fault =
    (all : List ℕ) → HasLinesOf all left → IsOfName fault.kind
    → BeginWith (IsLineBefore all fault.line) (Refuses fault.kind) words

-- so it is with the words that are left
abbrev pub BeginRefused : (GrammarFaultKind → List Token → Type 0) → ReaderValue → GrammarFault → Type 0
BeginRefused Refuses left fault = BeginRefusedBehind Refuses left left.words fault

-- if the fault is of a name, it is on the line of the next word
abbrev pub IsAtNext : ReaderValue → GrammarFault → Type 0
IsAtNext left fault = IsOfName fault.kind → fault.line ≡ next_line left

-- a line of a resource up to a word refused, behind so many instances and binds of the plant
abbrev pub RefusesItem : TallyValue → List Program → List Item → GrammarFaultKind → List Token → Type 0
RefusesItem t programs before k words =
    RefusesTask k before words ⊎ RefusesInstance k t.instances t.binds programs before words

-- an instance up to a word refused, behind so many instances and binds of the plant
abbrev pub RefusesFurtherInstance : TallyValue → List Program → List Item → GrammarFaultKind → List Token → Type 0
RefusesFurtherInstance t programs before k words = RefusesInstance k t.instances t.binds programs before words

-- the lines of a resource up to a word refused, behind so many instances and binds of the plant
abbrev pub RefusesFurtherItems : TallyValue → List Program → GrammarFaultKind → List Token → Type 0
RefusesFurtherItems t programs k words = RefusesItems k t.instances t.binds programs words

-- a resource up to a word refused, behind so many instances and binds of the plant
abbrev pub RefusesFurtherResource : TallyValue → List Program → List Resource → GrammarFaultKind → List Token → Type 0
RefusesFurtherResource t programs before k words = RefusesResource k t.instances t.binds programs before words

-- resources up to a word refused, behind so many instances and binds of the plant
abbrev pub RefusesFurtherResources : TallyValue → List Program → GrammarFaultKind → List Token → Type 0
RefusesFurtherResources t programs k words = RefusesResources k t.instances t.binds programs words

-- binds in parentheses up to the word refused, behind so many binds of the plant
abbrev pub RefusesInParentheses : ℕ → List Declaration → GrammarFaultKind → List Token → Type 0
RefusesInParentheses binds ds k words = IsAfter (mark_word Open) (RefusesBind k binds ds) words

-- these programs, and a further one up to a word refused
abbrev pub RefusesFurtherProgram : List Program → GrammarFaultKind → List Token → Type 0
RefusesFurtherProgram programs k words = IsAfterAll (flat_map program_words programs) (RefusesProgram k programs) words

-- these programs, and words of a plant behind them up to a word refused
abbrev pub RefusesPlantWords : List Program → GrammarFaultKind → List Token → Type 0
RefusesPlantWords programs k words = IsAfterAll (flat_map program_words programs) (RefusesBehind k programs) words

-- If these words fit into memory, the last is the first refused, and the programs that begin them are the first of these.
abbrev pub RefusesFirst : List Program → GrammarFaultKind → List Token → Type 0
RefusesFirst programs k words = Fits words → IsLastRefused k words × AreAllPrograms words programs
