-- The kinds of inputs, and of their sources.
use Rattle.std.specs.Prelude.{◌≡◌, ℕ, List, Option, Some}
use Rattle.std.specs.Option.{option_and_then}
use Rattle.declared_names.specs.declared.declarations.Kind.{Kind}
use Rattle.declared_names.specs.declared.declarations.Declaration.{Declaration}
use Rattle.declared_names.specs.Kinds.{kind_of_space, input_kind_at}
use Rattle.declared_names.specs.Names.{place_of}
use Rattle.plant_grammar.specs.declared.grammar.tree.SourceName.{SourceName}
use Rattle.plant_grammar.specs.declared.grammar.tree.SourceName.TheVariants as source
use Rattle.plant_grammar.specs.declared.grammar.tree.Bind.{Bind}

-- the kind of the input of this name
abbrev pub input_kind_of : List Declaration → List ℕ → Option Kind
input_kind_of ds name = option_and_then (input_kind_at ds) (place_of ds name)

-- an address has the kind; what a named output gives is known only when the source is resolved
abbrev pub HasFieldKind : Kind → SourceName → Type 0
HasFieldKind k (source.Field a) = kind_of_space a.space ≡ k
HasFieldKind k (source.Output resource instance output) = Unit {0}

-- the bind's input is one of these, and has the kind of its source, if that is an address
abbrev pub IsOfInputKind : List Declaration → Bind → Type 0
IsOfInputKind ds b = (k : Kind) × (input_kind_of ds b.input ≡ Some k) × HasFieldKind k b.source
