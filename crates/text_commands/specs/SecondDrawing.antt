-- A second drawing, whose rungs stand behind those of a first one.
use Rattle.std.specs.Prelude.{◌≡◌, ◌≢◌, ◌⊎◌, ◌-◌, max, ℕ, ◌++◌, ◌∷◌, [], ◌==◌, if◌then◌else◌, List, Bool, true, false, Option, Some, None, All, codes, length, map, filter, fold, replicate, take, slice_get}
use Rattle.std.specs.Option.{is_some, option_map}
use Rattle.words.specs.Lines.{without_last}
use Rattle.std_blocks.specs.declared.block_type.BlockType.{BlockType}
use Rattle.drawings.specs.Lines.{line_of_row}
use Rattle.drawings.specs.Picture.{Picture}
use Rattle.drawings.specs.declared.place.Place.{Place}
use Rattle.drawings.specs.declared.drawn_box.DrawnBox.{DrawnBox}
use Rattle.ladder_rows.specs.Rows.{rows_of}
use Rattle.ladder_text.specs.Faults.{IsWellDrawn, IsIllDrawn}
use Rattle.ladder_text.specs.declared.draw_fault.DrawFault.{DrawFault}
use Rattle.ladder_text.specs.declared.draw_fault.DrawFaultKind.TheVariants.{NoLeftRail}
use Rattle.network.specs.Links.{Diagram}
use Rattle.network.specs.GraphValue.{GraphValue, graph_value}
use Rattle.network.specs.Networks.{AreNetworks, HasFaultlessNetworks}
use Rattle.network.specs.declared.fault.GraphFault.{GraphFault}
use Rattle.network.specs.declared.fault.GraphFaultKind.TheVariants.{InstanceTwice}
use Rattle.declared_names.specs.Names.{place_of}
use Rattle.declared_names.specs.declared.declarations.Declaration.{Declaration}
use Rattle.declared_names.specs.declared.declarations.Declared.{Declared}
use Rattle.declared_names.specs.declared.declarations.Declared.TheVariants.{Input, Output, Local, Instance}
use Rattle.name_faults.specs.Guess.{AreGuessed}
use Rattle.name_faults.specs.Binding.{CanBind}
use Rattle.name_faults.specs.Findings.{IsFirstBindFault}
use Rattle.name_faults.specs.declared.bind_fault.BindFault.{BindFault}
use Rattle.needed_networks.specs.Needs.{IsClosed}
use Rattle.power_flow.specs.LadderValue.{diagrams}
use Rattle.text_commands.specs.Comments.{without_comments}
use Rattle.text_commands.specs.EvalText.{IsPictureOf, RefusesDrawing}
use Rattle.text_commands.specs.declared.second_fault.SecondFault.{SecondFault}
use Rattle.text_commands.specs.declared.second_fault.SecondFault.TheVariants as second
use Rattle.text_commands.specs.declared.text_fault.TextFault.{TextFault}
use Rattle.text_commands.specs.declared.text_fault.TextFault.TheVariants.{Draw, Graph, Bind, Plant, TooLong, Second}

-- a drawing is read as this text: as it stands; or, where that is ill drawn, with its comments emptied
abbrev pub IsReadAs : List ℕ → List ℕ → Type 0
IsReadAs drawing text =
    (IsWellDrawn (rows_of drawing) × (text ≡ drawing)) ⊎ (IsIllDrawn (rows_of drawing) × (text ≡ without_comments drawing))

-- a text is this picture, with these networks, none of which has a fault
pub record IsDrawnAs (text : List ℕ) (picture : Picture) (graph : GraphValue) : Type 0 where
  pub drawn : IsPictureOf text picture
  pub built : AreNetworks picture graph
  pub faultless : HasFaultlessNetworks picture

-- the networks of the first drawing, and its names, declared by their use
pub record IsFirstDrawing (first : List ℕ) (graph : GraphValue) (names : List Declaration) : Type 0 where
  pub text : List ℕ
  pub read : IsReadAs first text
  pub picture : Picture
  pub drawn : IsDrawnAs text picture graph
  pub guessed : AreGuessed graph names
  pub bound : CanBind names (diagrams graph)

-- the text of the first drawing and an empty row
abbrev pub above : List ℕ → List ℕ
above first = without_last 10 first ++ codes "\n\n"

-- the first drawing, an empty row, and the second one
abbrev pub one_below_other : List ℕ → List ℕ → List ℕ
one_below_other first other = above first ++ other

-- as many empty rows as the first drawing has rows, and one more
abbrev pub empty_rows : List ℕ → List ℕ
empty_rows first = filter (λ c. c == 10) (above first)

-- the second drawing, where it stands below the first
abbrev pub lowered : List ℕ → List ℕ → List ℕ
lowered first other = empty_rows first ++ other

-- the networks of the second drawing, below the first; and its names, declared by their use
pub record IsSecondDrawing (first other : List ℕ) (picture : Picture) (graph : GraphValue) (names : List Declaration) : Type 0 where
  pub text : List ℕ
  pub read : IsReadAs (lowered first other) text
  pub drawn : IsDrawnAs text picture graph
  pub guessed : AreGuessed graph names

-- names and behind them one more, if it isn't among them
abbrev pub with_name : List Declaration → Declaration → List Declaration
with_name names d = if is_some (place_of names d.name) then names else names ++ d ∷ []

-- names and behind them those of others that aren't among them
abbrev pub joined_names : List Declaration → List Declaration → List Declaration
joined_names names others = fold with_name names others

-- so many without a mark, and behind them so many with one
abbrev pub marks : ℕ → ℕ → List Bool
marks without with_one = replicate without false ++ replicate with_one true

-- The ladder of both: its names are those of the first and behind them further ones of the second, its networks those of
-- the first and behind them those of the second. What the first's networks read and change are names of the first; nothing
-- that the second's change is.
pub record IsLadderOfBoth (first other : List ℕ) (names : List Declaration) (networks : List Diagram) : Type 0 where
  pub one : GraphValue
  pub ones : List Declaration
  pub is_first : IsFirstDrawing first one ones
  pub picture : Picture
  pub two : GraphValue
  pub others : List Declaration
  pub is_second : IsSecondDrawing first other picture two others
  pub declarations : names ≡ joined_names ones others
  pub networks_are : networks ≡ diagrams (graph_value 1 (one.rails ++ two.rails) (one.networks ++ two.networks))
  pub bound : CanBind names networks
  pub unchanged : IsClosed names (marks (length ones) (length names - length ones))
      (marks (length one.networks) (length two.networks)) networks

-- what a name of the first drawing is to the second: a variable is an input
abbrev pub as_input : Declared → Declared
as_input (Input k) = Input k
as_input (Output k) = Input k
as_input (Local k) = Input k
as_input (Instance block) = Instance block

-- the names of the first drawing, as the second sees them
abbrev pub seen_names : List Declaration → List Declaration
seen_names names = map (λ (d : Declaration). record { name = d.name; declared = as_input d.declared }) names

-- the line of the second drawing's text that stands on this one, where so many empty rows stand above it; its first, where
-- this one stands above it
abbrev pub own_line : ℕ → ℕ → ℕ
own_line rows line = max (line - rows) 1

-- faults of the second drawing, told by the lines of its own text
abbrev pub draw_fault_below : ℕ → DrawFault → DrawFault
draw_fault_below rows fault = record { kind = fault.kind; line = own_line rows fault.line; column = fault.column }

abbrev pub graph_fault_below : ℕ → GraphFault → GraphFault
graph_fault_below rows fault = record { kind = fault.kind; line = own_line rows fault.line; column = fault.column }

abbrev pub bind_fault_below : ℕ → BindFault → BindFault
bind_fault_below rows fault = record { kind = fault.kind; line = own_line rows fault.line; column = fault.column }

-- so a fault of its text is told
abbrev pub fault_below : ℕ → TextFault → TextFault
fault_below rows (Draw fault) = Second (second.Draw (draw_fault_below rows fault))
fault_below rows (Graph fault) = Second (second.Graph (graph_fault_below rows fault))
fault_below rows (Bind fault) = Second (second.Bind (bind_fault_below rows fault))
fault_below rows (Plant fault) = Plant fault
fault_below rows TooLong = TooLong
fault_below rows (Second fault) = Second fault

-- the second drawing's left rail begins here, in another column than that of the first
abbrev pub IsAsideAt : GraphValue → GraphValue → Place → Type 0
IsAsideAt one two q = (p : Place) × (slice_get one.rails 0 ≡ Some p) × (slice_get two.rails 0 ≡ Some q) × (p.column ≢ q.column)

-- it stands in the same column
abbrev pub IsBelow : GraphValue → GraphValue → Type 0
IsBelow one two = (q : Place) → IsAsideAt one two q → ⊥

-- the name is that of a box
abbrev pub IsBoxName : List Declaration → List ℕ → Type 0
IsBoxName names name = (k : ℕ) × (block : BlockType) × (place_of names name ≡ Some k)
    × (option_map (λ (d : Declaration). d.declared) (slice_get names k) ≡ Some (Instance block))

-- a box, the first by row and column of which the first drawing has the name for a box
pub record IsTwice (names : List Declaration) (boxes : List DrawnBox) (b : DrawnBox) : Type 0 where
  pub number : ℕ
  pub at : slice_get boxes number ≡ Some b
  pub named : IsBoxName names b.instance
  pub before : All (λ a. IsBoxName names a.instance → ⊥) (take number boxes)

-- no box has such a name
abbrev pub IsNoneTwice : List Declaration → List DrawnBox → Type 0
IsNoneTwice names boxes = All (λ b. IsBoxName names b.instance → ⊥) boxes

-- where something stands in the second drawing, by row and column below the first
abbrev pub line_below : ℕ → ℕ → ℕ
line_below rows row = own_line rows (line_of_row 1 row)

-- What the second drawing has wrong beside the first: its left rail stands in another column; else a box has the name of one
-- of the first; else a name is refused, where the first's variables are inputs.
abbrev pub IsFaultBeside : ℕ → GraphValue → List Declaration → Picture → GraphValue → List Declaration → SecondFault → Type 0
IsFaultBeside rows one ones picture two others (second.Draw fault) = (q : Place) × IsAsideAt one two q
    × (fault ≡ record { kind = NoLeftRail; line = line_below rows q.row; column = q.column })
IsFaultBeside rows one ones picture two others (second.Graph fault) = IsBelow one two × (b : DrawnBox)
    × IsTwice ones picture.boxes b
    × (fault ≡ record { kind = InstanceTwice; line = line_below rows b.top; column = b.left })
IsFaultBeside rows one ones picture two others (second.Bind fault) = IsBelow one two × IsNoneTwice ones picture.boxes
    × (found : BindFault) × IsFirstBindFault (joined_names (seen_names ones) others) two found
    × (fault ≡ bind_fault_below rows found)

-- the second drawing has a fault of its own
abbrev pub IsFaultOfOther : List ℕ → List ℕ → SecondFault → Type 0
IsFaultOfOther first other fault = (found : TextFault) × RefusesDrawing (lowered first other) found
    × (fault_below (length (empty_rows first)) found ≡ Second fault)

-- it has one beside the first
pub record IsRefusedBeside (first other : List ℕ) (one : GraphValue) (ones : List Declaration) (fault : SecondFault) : Type 0 where
  pub picture : Picture
  pub two : GraphValue
  pub others : List Declaration
  pub is_second : IsSecondDrawing first other picture two others
  pub beside : IsFaultBeside (length (empty_rows first)) one ones picture two others fault

-- the first drawing has none, and the second has this one
pub record RefusesSecond (first other : List ℕ) (fault : SecondFault) : Type 0 where
  pub one : GraphValue
  pub ones : List Declaration
  pub is_first : IsFirstDrawing first one ones
  pub refused : IsFaultOfOther first other fault ⊎ IsRefusedBeside first other one ones fault

-- what holds after a refusal by the texts of both: the first's own fault, or else the second's
abbrev pub RefusesBoth : List ℕ → List ℕ → TextFault → Type 0
RefusesBoth first other (Draw fault) = RefusesDrawing first (Draw fault)
RefusesBoth first other (Graph fault) = RefusesDrawing first (Graph fault)
RefusesBoth first other (Bind fault) = RefusesDrawing first (Bind fault)
RefusesBoth first other (Plant fault) = ⊥
RefusesBoth first other TooLong = ⊥
RefusesBoth first other (Second fault) = RefusesSecond first other fault
