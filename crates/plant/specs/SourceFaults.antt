-- What is wrong with the source of a bind.
use Rattle.std.specs.Prelude.{◌≡◌, ◌≢◌, ◌⊎◌, ℕ, IsTrue, Some, List, ◌∷◌, ◌++◌, length, slice_index_or, All, Any}
use Rattle.declared_names.specs.declared.declarations.Kind.{Kind}
use Rattle.plant_grammar.specs.declared.grammar_fault.GrammarFaultKind.{GrammarFaultKind}
use Rattle.plant_grammar.specs.declared.grammar_fault.GrammarFaultKind.TheVariants as kind
use Rattle.plant_grammar.specs.declared.grammar.tree.Program.{Program}
use Rattle.plant_grammar.specs.declared.grammar.tree.SourceName.{SourceName}
use Rattle.plant_grammar.specs.declared.grammar.tree.SourceName.TheVariants as source
use Rattle.plant_grammar.specs.declared.grammar.tree.SourceLines.{SourceLines}
use Rattle.plant_grammar.specs.declared.grammar.tree.Bind.{Bind}
use Rattle.plant_grammar.specs.declared.grammar.tree.Use.{Use}
use Rattle.plant_grammar.specs.Grammar.{Tree}
use Rattle.plant_grammar.specs.Kinds.{input_kind_of}
use Rattle.plant_grammar.specs.Names.{is_named}
use Rattle.plant_grammar.specs.Lawful.{variables, uses_of, binds_of, all_uses}
use Rattle.plant.specs.Faultless.{RunsType, HasSource, IsFed, AreBindsFed}

-- the names of a bind's source name nothing that gives values
abbrev pub HasNoSource : Tree → Bind → Type 0
HasNoSource tree b = (kind : Kind) → HasSource tree b.source kind → ⊥

-- a bind's source gives values of another kind than the input of the type that it names
abbrev pub HasOtherSource : Tree → Program → Bind → Type 0
HasOtherSource tree p b =
    (its given : Kind) × (input_kind_of (variables p) b.input ≡ Some its) × HasSource tree b.source given × (given ≢ its)

-- a resource of the tree has this name
abbrev pub HasResource : Tree → List ℕ → Type 0
HasResource tree resource = Any (λ r. IsTrue (is_named resource r.name)) tree.resources

-- a resource of the tree has the first name, and an instance in it the second
abbrev pub HasInstance : Tree → List ℕ → List ℕ → Type 0
HasInstance tree resource instance =
    Any (λ r. IsTrue (is_named resource r.name) × Any (λ u. IsTrue (is_named instance u.instance)) (uses_of r))
    tree.resources

-- where a source isn't found, this is the line of the first of its names that isn't
abbrev pub IsFirstMissing : Tree → SourceName → SourceLines → ℕ → Type 0
IsFirstMissing tree (source.Field a) lines line = ⊥
IsFirstMissing tree (source.Output resource instance output) lines line =
    ((HasResource tree resource → ⊥) × (line ≡ lines.resource))
    ⊎ ((HasResource tree resource × (HasInstance tree resource instance → ⊥) × (line ≡ lines.instance))
    ⊎ (HasInstance tree resource instance × (line ≡ lines.output)))

-- the line of an address, or of the output that a source names
abbrev pub value_line : SourceName → SourceLines → ℕ
value_line (source.Field a) lines = lines.resource
value_line (source.Output resource instance output) lines = lines.output

-- A bind has the fault of this kind on this line: its source is unknown, which is told at the first name that isn't found,
-- or of another kind than its input, which is told at the output's name.
abbrev pub IsBindFault : Tree → GrammarFaultKind → ℕ → Program → Bind → SourceLines → Type 0
IsBindFault tree kind.Syntax line p b lines = ⊥
IsBindFault tree kind.NameTwice line p b lines = ⊥
IsBindFault tree kind.UnknownName line p b lines = HasNoSource tree b × IsFirstMissing tree b.source lines line
IsBindFault tree kind.WrongKind line p b lines = HasOtherSource tree p b × (line ≡ value_line b.source lines)
IsBindFault tree kind.InputBoundTwice line p b lines = ⊥
IsBindFault tree kind.TooMany line p b lines = ⊥
IsBindFault tree kind.Memory line p b lines = ⊥

-- the lines of the source of a bind, by its place; 0 where none are kept
abbrev pub lines_at : List SourceLines → ℕ → SourceLines
lines_at lines place = slice_index_or lines place (record { resource = 0; instance = 0; output = 0 })

-- up to one item of a list all pass, and that one fails at its place
pub record FailsFirst {A : Type 0} (Passes : A → Type 0) (Fails : ℕ → A → Type 0) (xs : List A) : Type 0 where
  pub before : List A
  pub first : A
  pub behind : List A
  pub parts : xs ≡ before ++ first ∷ behind
  pub pass : All Passes before
  pub fails : Fails (length before) first

-- the first bind of an instance that isn't fed has this fault on this line
abbrev pub HasFirstBindFault : Tree → GrammarFaultKind → ℕ → Use → Type 0
HasFirstBindFault tree k line u =
    RunsType tree
    (λ p. FailsFirst (IsFed tree p) (λ n b. IsBindFault tree k line p b (lines_at u.lines.items n)) (binds_of u)) u

-- In the order of the text, the first bind of a plant that isn't fed has this fault on this line.
abbrev pub HasFirstSourceFault : Tree → GrammarFaultKind → ℕ → Type 0
HasFirstSourceFault tree k line = FailsFirst (AreBindsFed tree) (λ n u. HasFirstBindFault tree k line u) (all_uses tree)
