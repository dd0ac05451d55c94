-- When a plant that is written without a mistake in grammar has no fault either.
use Rattle.std.specs.Prelude.{◌≡◌, ℕ, IsTrue, List, Some, All, Any}
use Rattle.declared_names.specs.declared.declarations.Kind.{Kind}
use Rattle.declared_names.specs.declared.declarations.Declared.TheVariants.{Output}
use Rattle.plant_grammar.specs.declared.grammar.tree.Program.{Program}
use Rattle.plant_grammar.specs.declared.grammar.tree.SourceName.{SourceName}
use Rattle.plant_grammar.specs.declared.grammar.tree.SourceName.TheVariants as source
use Rattle.plant_grammar.specs.declared.grammar.tree.Bind.{Bind}
use Rattle.plant_grammar.specs.declared.grammar.tree.Use.{Use}
use Rattle.plant_grammar.specs.declared.grammar.tree.Resource.{Resource}
use Rattle.plant_grammar.specs.Grammar.{Tree}
use Rattle.plant_grammar.specs.Names.{is_named}
use Rattle.plant_grammar.specs.Kinds.{input_kind_of}
use Rattle.declared_names.specs.Kinds.{kind_of_space}
use Rattle.plant_grammar.specs.Lawful.{variables, uses_of, binds_of, all_uses, IsTreeLawful}
use Rattle.plant.specs.Ladders.{HasLadder}

-- the program declares an output of this name and kind
abbrev pub DeclaresOutput : List ℕ → Kind → Program → Type 0
DeclaresOutput output kind p = Any (λ v. IsTrue (is_named output v.name) × (v.declared ≡ Output kind)) (variables p)

-- the type that an instance runs is one of which this holds
abbrev pub RunsType : Tree → (Program → Type 0) → Use → Type 0
RunsType tree P u = Any (λ p. IsTrue (is_named u.program p.name) × P p) tree.programs

-- the resource has an instance of this name, whose type declares an output of this name and kind
abbrev pub GivesOutput : Tree → List ℕ → List ℕ → Kind → Resource → Type 0
GivesOutput tree instance output kind r =
    Any (λ u. IsTrue (is_named instance u.instance) × RunsType tree (DeclaresOutput output kind) u) (uses_of r)

-- A source gives values of this kind: it is an address of that kind, or names a resource, an instance of it and an
-- output of the instance's type.
abbrev pub HasSource : Tree → SourceName → Kind → Type 0
HasSource tree (source.Field a) kind = kind_of_space a.space ≡ kind
HasSource tree (source.Output resource instance output) kind =
    Any (λ r. IsTrue (is_named resource r.name) × GivesOutput tree instance output kind r) tree.resources

-- a bind names an input of the type, and its source gives values of the input's kind
abbrev pub IsFed : Tree → Program → Bind → Type 0
IsFed tree p b = (kind : Kind) × (input_kind_of (variables p) b.input ≡ Some kind) × HasSource tree b.source kind

-- so does each bind of an instance
abbrev pub AreBindsFed : Tree → Use → Type 0
AreBindsFed tree u = RunsType tree (λ p. All (IsFed tree p) (binds_of u)) u

-- A tree without a fault: its words are lawful, the body of each program has a ladder, and each bind of an instance
-- names an input and has a source of its kind.
pub record IsTreeFaultless (tree : Tree) : Type 0 where
  pub lawful : IsTreeLawful tree
  pub drawn : All HasLadder tree.programs
  pub sources : All (AreBindsFed tree) (all_uses tree)
