-- What a fault of a plant's text is, as a value.
use Rattle.std.specs.Prelude.{◌≡◌, ◌≢◌, ◌⊎◌, ℕ, Option, None, Some}
use Rattle.plant_grammar.specs.declared.grammar_fault.GrammarFault.{GrammarFault}
use Rattle.plant_grammar.specs.declared.grammar_fault.GrammarFaultKind.{GrammarFaultKind}
use Rattle.plant_grammar.specs.declared.grammar_fault.GrammarFaultKind.TheVariants as word
use Rattle.ladder_text.specs.declared.draw_fault.DrawFault.{DrawFault}
use Rattle.ladder_text.specs.declared.draw_fault.DrawFaultKind.TheVariants as draw
use Rattle.network.specs.declared.fault.GraphFault.{GraphFault}
use Rattle.network.specs.declared.fault.GraphFaultKind.TheVariants as graph
use Rattle.name_faults.specs.declared.bind_fault.BindFault.{BindFault}
use Rattle.name_faults.specs.declared.bind_fault.BindKind.TheVariants as bind
use Rattle.plant.specs.declared.plant_fault.BodyFault.{BodyFault}
use Rattle.plant.specs.declared.plant_fault.BodyFault.TheVariants as body
use Rattle.plant.specs.declared.plant_fault.PlantFault.{PlantFault}
use Rattle.plant.specs.declared.plant_fault.PlantFaultKind.{PlantFaultKind}
use Rattle.plant.specs.declared.plant_fault.PlantFaultKind.TheVariants as kind

-- the inner kind is one of drawings, and not want of memory
abbrev pub IsOfDrawing : Option BodyFault → Type 0
IsOfDrawing None = ⊥
IsOfDrawing (Some (body.Drawing k)) = k ≢ draw.Memory
IsOfDrawing (Some (body.Graph k)) = ⊥
IsOfDrawing (Some (body.Bind k)) = ⊥

-- the inner kind is one of networks, and not want of memory
abbrev pub IsOfNetworks : Option BodyFault → Type 0
IsOfNetworks None = ⊥
IsOfNetworks (Some (body.Drawing k)) = ⊥
IsOfNetworks (Some (body.Graph k)) = k ≢ graph.Memory
IsOfNetworks (Some (body.Bind k)) = ⊥

-- the inner kind is one of names, and not want of memory
abbrev pub IsOfNames : Option BodyFault → Type 0
IsOfNames None = ⊥
IsOfNames (Some (body.Drawing k)) = ⊥
IsOfNames (Some (body.Graph k)) = ⊥
IsOfNames (Some (body.Bind k)) = k ≢ bind.Memory

-- A drawing's fault, one of its networks and one of its names have a kind of that layer inside, all others none.
-- Want of memory has line 0.
abbrev pub IsOfKind : PlantFaultKind → ℕ → Option BodyFault → Type 0
IsOfKind kind.Syntax line inner = inner ≡ None
IsOfKind kind.Drawing line inner = IsOfDrawing inner
IsOfKind kind.Graph line inner = IsOfNetworks inner
IsOfKind kind.Bind line inner = IsOfNames inner
IsOfKind kind.NameTwice line inner = inner ≡ None
IsOfKind kind.UnknownName line inner = inner ≡ None
IsOfKind kind.WrongKind line inner = inner ≡ None
IsOfKind kind.InputBoundTwice line inner = inner ≡ None
IsOfKind kind.TooMany line inner = inner ≡ None
IsOfKind kind.Memory line inner = (inner ≡ None) × (line ≡ 0)

-- a fault with what belongs to its kind
abbrev pub IsPlantFault : PlantFault → Type 0
IsPlantFault fault = IsOfKind fault.kind fault.line fault.inner

-- The fault of a layer below is handed on: want of memory as such, another one with its layer's kind, its line, and
-- what it is.
abbrev pub IsHandedOn : Type 0 → PlantFaultKind → ℕ → BodyFault → PlantFault → Type 0
IsHandedOn IsMemory k line why fault =
    (IsMemory → fault.kind ≡ kind.Memory)
    × ((IsMemory → ⊥) → fault ≡ record { kind = k; line = line; inner = Some why })
    × IsPlantFault fault

-- the fault of a drawing is handed on
abbrev pub HandsOnDrawing : DrawFault → PlantFault → Type 0
HandsOnDrawing found fault =
    IsHandedOn (found.kind ≡ draw.Memory) kind.Drawing found.line (body.Drawing found.kind) fault

-- the fault of networks is handed on
abbrev pub HandsOnNetworks : GraphFault → PlantFault → Type 0
HandsOnNetworks found fault =
    IsHandedOn (found.kind ≡ graph.Memory) kind.Graph found.line (body.Graph found.kind) fault

-- the fault of names is handed on
abbrev pub HandsOnNames : BindFault → PlantFault → Type 0
HandsOnNames found fault =
    IsHandedOn (found.kind ≡ bind.Memory) kind.Bind found.line (body.Bind found.kind) fault

-- one of the kinds of faults that the body of a program has
abbrev pub IsOfBody : PlantFaultKind → Type 0
IsOfBody k = (k ≡ kind.Drawing) ⊎ ((k ≡ kind.Graph) ⊎ (k ≡ kind.Bind))

-- one of the kinds of faults of a word that stands where the grammar has one like it: of a name that is declared already
-- or isn't, of an input that is bound already, of another kind, or of one too many
abbrev pub IsOfDeclaredName : PlantFaultKind → Type 0
IsOfDeclaredName kind.Syntax = ⊥
IsOfDeclaredName kind.Drawing = ⊥
IsOfDeclaredName kind.Graph = ⊥
IsOfDeclaredName kind.Bind = ⊥
IsOfDeclaredName kind.NameTwice = Unit {0}
IsOfDeclaredName kind.UnknownName = Unit {0}
IsOfDeclaredName kind.WrongKind = Unit {0}
IsOfDeclaredName kind.InputBoundTwice = Unit {0}
IsOfDeclaredName kind.TooMany = Unit {0}
IsOfDeclaredName kind.Memory = ⊥

-- the kind of a word's fault, as one of a plant's text
abbrev pub kind_of_word : GrammarFaultKind → PlantFaultKind
kind_of_word word.Syntax = kind.Syntax
kind_of_word word.NameTwice = kind.NameTwice
kind_of_word word.UnknownName = kind.UnknownName
kind_of_word word.WrongKind = kind.WrongKind
kind_of_word word.InputBoundTwice = kind.InputBoundTwice
kind_of_word word.TooMany = kind.TooMany
kind_of_word word.Memory = kind.Memory

-- the fault of a word, as one of a plant's text
abbrev pub fault_of_word : GrammarFault → PlantFault
fault_of_word fault = record { kind = kind_of_word fault.kind; line = fault.line; inner = None }
