-- How a second drawing is read.
use Rattle.std.specs.Prelude.{◌≡◌, ◌≢◌, ◌-◌, ◌++◌, ℕ, List, Some, length, slice_get, string_bytes}
use Rattle.drawings.specs.declared.place.Place.{Place}
use Rattle.drawings.specs.declared.drawn_box.DrawnBox.{DrawnBox}
use Rattle.network.specs.GraphValue.{graph_value}
use Rattle.network.specs.Links.{place}
use Rattle.name_faults.specs.Binding.{CanBind}
use Rattle.power_flow.specs.LadderValue.{LadderValue, diagrams}
use Rattle.needed_networks.specs.Needs.{IsClosed}
use Rattle.declared_names.specs.declared.declarations.Declaration.{Declaration}
use Rattle.text_commands.specs.SecondDrawing.{IsDrawnAs, IsFaultBeside, IsFaultOfOther, IsReadAs, IsTwice, RefusesBoth, fault_below, marks}
use Rattle.text_commands.specs.declared.second_drawing.drawn_graph.DrawnGraph.{DrawnGraph}
use Rattle.text_commands.specs.declared.text_command_fault.TextCommandFault.{TextCommandFault}
use Rattle.text_commands.specs.declared.text_command_fault.TextCommandFault.TheVariants.{Text, Word, Write, Memory}
use Rattle.text_commands.specs.declared.text_fault.TextFault.TheVariants.{Draw, Graph, Bind, Plant, TooLong, Second}

-- what was read of a drawing: the text that is read, its picture and its networks
abbrev pub IsReadGraph : List ℕ → DrawnGraph → Type 0
IsReadGraph drawing d = IsReadAs drawing (string_bytes d.text) × IsDrawnAs (string_bytes d.text) d.drawing d.graph

-- no ladder of both was made: a text is refused, or memory
abbrev pub RefusesLadders : List ℕ → List ℕ → TextCommandFault → Type 0
RefusesLadders first other (Text fault) = RefusesBoth first other fault
RefusesLadders first other (Word fault) = ⊥
RefusesLadders first other Write = ⊥
RefusesLadders first other Memory = Unit {0}

-- a fault of the second drawing's text is told by its own lines
abbrev pub told_below : ℕ → TextCommandFault → TextCommandFault
told_below rows (Text fault) = Text (fault_below rows fault)
told_below rows (Word fault) = Word fault
told_below rows Write = Write
told_below rows Memory = Memory

-- the second drawing wasn't read: it has a fault of its own, or memory
abbrev pub RefusesOther : List ℕ → List ℕ → TextCommandFault → Type 0
RefusesOther first other (Text (Second fault)) = IsFaultOfOther first other fault
RefusesOther first other (Text (Draw fault)) = ⊥
RefusesOther first other (Text (Graph fault)) = ⊥
RefusesOther first other (Text (Bind fault)) = ⊥
RefusesOther first other (Text (Plant fault)) = ⊥
RefusesOther first other (Text TooLong) = ⊥
RefusesOther first other (Word fault) = ⊥
RefusesOther first other Write = ⊥
RefusesOther first other Memory = Unit {0}

-- the second drawing has a fault beside the first, or memory
abbrev pub RefusesBeside : ℕ → DrawnGraph → List Declaration → DrawnGraph → List Declaration → TextCommandFault → Type 0
RefusesBeside rows one ones two others (Text (Second fault)) =
    IsFaultBeside rows one.graph ones two.drawing two.graph others fault
RefusesBeside rows one ones two others (Text (Draw fault)) = ⊥
RefusesBeside rows one ones two others (Text (Graph fault)) = ⊥
RefusesBeside rows one ones two others (Text (Bind fault)) = ⊥
RefusesBeside rows one ones two others (Text (Plant fault)) = ⊥
RefusesBeside rows one ones two others (Text TooLong) = ⊥
RefusesBeside rows one ones two others (Word fault) = ⊥
RefusesBeside rows one ones two others Write = ⊥
RefusesBeside rows one ones two others Memory = Unit {0}

-- the left rail begins here, in another column than the other one
abbrev pub IsAsideOf : List Place → List Place → Place → Type 0
IsAsideOf rails others q = (p : Place) × (slice_get rails 0 ≡ Some p) × (slice_get others 0 ≡ Some q) × (p.column ≢ q.column)

-- it begins in the same column
abbrev pub IsBelowOf : List Place → List Place → Type 0
IsBelowOf rails others = (q : Place) → IsAsideOf rails others q → ⊥

-- the corner of the first box that has the name of one of the first drawing
abbrev pub IsTwiceAt : List Declaration → List DrawnBox → Place → Type 0
IsTwiceAt names boxes at = (b : DrawnBox) × IsTwice names boxes b × (at ≡ place b.top b.left)

-- a ladder of the networks of both, and of these names
abbrev pub IsJoined : DrawnGraph → DrawnGraph → List Declaration → LadderValue → Type 0
IsJoined one two names l = (l.declarations ≡ names)
    × (l.networks ≡ diagrams (graph_value 1 (one.graph.rails ++ two.graph.rails) (one.graph.networks ++ two.graph.networks)))
    × CanBind l.declarations l.networks

-- the networks behind so many change no name before so many
abbrev pub IsApart : ℕ → ℕ → ℕ → LadderValue → Type 0
IsApart names networks others l = IsClosed l.declarations (marks names (length l.declarations - names)) (marks networks others) l.networks
