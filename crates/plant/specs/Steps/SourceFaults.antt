-- What is found wrong with a source while it is resolved.
use Rattle.std.specs.Prelude.{◌≡◌, ◌≢◌, ◌⊎◌, ℕ, List, Some, None}
use Rattle.std.specs.List.{find}
use Rattle.declared_names.specs.declared.declarations.Kind.{Kind}
use Rattle.declared_names.specs.declared.declarations.Declaration.{Declaration}
use Rattle.plant_grammar.specs.declared.grammar_fault.GrammarFault.{GrammarFault}
use Rattle.plant_grammar.specs.declared.grammar_fault.GrammarFaultKind.TheVariants as kind
use Rattle.plant_grammar.specs.declared.grammar.tree.SourceName.{SourceName}
use Rattle.plant_grammar.specs.declared.grammar.tree.SourceName.TheVariants as source
use Rattle.plant_grammar.specs.declared.grammar.tree.SourceLines.{SourceLines}
use Rattle.plant_grammar.specs.declared.grammar.tree.Bind.{Bind}
use Rattle.plant_grammar.specs.declared.grammar.tree.Use.{Use}
use Rattle.plant_grammar.specs.Kinds.{input_kind_of}
use Rattle.plant_grammar.specs.Names.{is_named, IsAt}
use Rattle.plant_grammar.specs.Lawful.{binds_of}
use Rattle.plant.specs.ProgramTypes.{TypeValue}
use Rattle.plant.specs.declared.sources.feed.Origin.{Origin}
use Rattle.plant.specs.declared.sources.source_fault.SourceFault.{SourceFault}
use Rattle.plant.specs.declared.sources.source_fault.SourceFault.TheVariants as fault
use Rattle.plant.specs.PlantValue.{ResourceValue, PlantValue}
use Rattle.plant.specs.SourceFaults.{value_line, lines_at, FailsFirst}
use Rattle.plant.specs.Steps.Drafts.{IsInstanceAt, IsOriginOf, HasNoOrigin, HasFeed, IsUseResolved}

-- the fault of a source, as one of a word of the text
abbrev pub word_fault : SourceFault → GrammarFault
word_fault (fault.Unknown line) = record { kind = kind.UnknownName; line = line }
word_fault (fault.WrongKind line) = record { kind = kind.WrongKind; line = line }
word_fault fault.Memory = record { kind = kind.Memory; line = 0 }

-- the source gives values of another kind than the input's
abbrev pub GivesOther : PlantValue → List Declaration → Bind → Type 0
GivesOther plant ds b =
    (its given : Kind) × (o : Origin) × (input_kind_of ds b.input ≡ Some its) × IsOriginOf plant b.source o given
    × (given ≢ its)

-- where the names mean no value, this is the line of the first of them that isn't found
abbrev pub IsValueMissing : PlantValue → List ℕ → List ℕ → SourceLines → ℕ → Type 0
IsValueMissing plant resource instance lines line =
    (((k : ℕ) (r : ResourceValue) → IsAt (λ (r : ResourceValue). r.name) plant.resources resource k r → ⊥)
    × (line ≡ lines.resource))
    ⊎ (((k : ℕ) × (r : ResourceValue) × IsAt (λ (r : ResourceValue). r.name) plant.resources resource k r
    × ((m n : ℕ) → IsInstanceAt r.codes instance m n → ⊥) × (line ≡ lines.instance))
    ⊎ ((k : ℕ) × (r : ResourceValue) × IsAt (λ (r : ResourceValue). r.name) plant.resources resource k r
    × (m : ℕ) × (n : ℕ) × IsInstanceAt r.codes instance m n × (line ≡ lines.output)))

-- so it is with a source; an address is no name
abbrev pub IsOriginMissing : PlantValue → SourceName → SourceLines → ℕ → Type 0
IsOriginMissing plant (source.Field a) lines line = ⊥
IsOriginMissing plant (source.Output r i o) lines line = IsValueMissing plant r i lines line

-- a name is unknown on a line of which this holds
abbrev pub IsUnknownOn : (ℕ → Type 0) → SourceFault → Type 0
IsUnknownOn On (fault.Unknown line) = On line
IsUnknownOn On (fault.WrongKind line) = ⊥
IsUnknownOn On fault.Memory = ⊥

-- the name is no input's, or the source gives no values, which is told on this line
abbrev pub IsMissingOn : PlantValue → List Declaration → Bind → SourceLines → ℕ → Type 0
IsMissingOn plant ds b lines line =
    (input_kind_of ds b.input ≡ None) ⊎ (HasNoOrigin plant b.source × IsOriginMissing plant b.source lines line)

-- what a fault tells of a bind
abbrev pub TellsOfBind : PlantValue → List Declaration → SourceFault → Bind → SourceLines → Type 0
TellsOfBind plant ds (fault.Unknown line) b lines = IsMissingOn plant ds b lines line
TellsOfBind plant ds (fault.WrongKind line) b lines = GivesOther plant ds b × (line ≡ value_line b.source lines)
TellsOfBind plant ds fault.Memory b lines = ⊥

-- what it tells of the first of these binds that has no feed
abbrev pub TellsOfBinds : PlantValue → List Declaration → List Bind → List SourceLines → SourceFault → Type 0
TellsOfBinds plant ds bs ls e = FailsFirst (HasFeed plant ds) (λ n b. TellsOfBind plant ds e b (lines_at ls n)) bs

-- what it tells of an instance: what it tells of its binds, by the variables of its type
abbrev pub TellsOfUse : PlantValue → List TypeValue → Use → SourceFault → Type 0
TellsOfUse plant types u e =
    (type : TypeValue) × (find (λ (t : TypeValue). is_named u.program t.program.name) types ≡ Some type)
    × TellsOfBinds plant type.ladder.declarations (binds_of u) u.lines.items e

-- what it tells of the first of these instances whose binds aren't resolved
abbrev pub TellsOfUses : PlantValue → List TypeValue → List Use → SourceFault → Type 0
TellsOfUses plant types us e = FailsFirst (IsUseResolved plant types) (λ n u. TellsOfUse plant types u e) us
