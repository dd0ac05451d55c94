-- What `plc eval` writes.
use Rattle.std.specs.Prelude.{◌≡◌, ◌≢◌, ℕ, ◌⊎◌, List, Option, length}
use Rattle.std.specs.List.{flat_map}
use Rattle.std.specs.Io.KnownBytes.{Appends, Keeps}
use Rattle.ladder_rows.specs.Rows.{rows_of}
use Rattle.ladder_text.specs.Places.{layout_of}
use Rattle.drawings.specs.Picture.{Picture}
use Rattle.ladder_text.specs.Picture.{picture_of}
use Rattle.ladder_text.specs.Faults.{IsWellDrawn, IsIllDrawn}
use Rattle.ladder_text.specs.FirstFault.{TellsFirstFault}
use Rattle.drawings.specs.declared.place.Place.{Place}
use Rattle.ladder_text.specs.declared.draw_fault.DrawFaultKind.TheVariants as draw
use Rattle.network.specs.Links.{Diagram}
use Rattle.network.specs.GraphValue.{GraphValue}
use Rattle.network.specs.Networks.{AreNetworks, HasFaultlessNetworks, IsFirstGraphFaultAt, GraphFaultLiesAt}
use Rattle.network.specs.declared.fault.GraphFault.{GraphFault}
use Rattle.declared_names.specs.declared.declarations.Declaration.{Declaration}
use Rattle.name_faults.specs.Guess.{AreGuessed}
use Rattle.name_faults.specs.Binding.{CanBind}
use Rattle.power_flow.specs.LadderValue.{diagrams as diagrams_of}
use Rattle.name_faults.specs.Findings.{IsFirstBindFault}
use Rattle.name_faults.specs.declared.bind_fault.BindFault.{BindFault}
use Rattle.text_commands.specs.declared.word_fault.WordFault.{WordFault}
use Rattle.text_commands.specs.declared.text_command_fault.TextCommandFault.{TextCommandFault}
use Rattle.text_commands.specs.declared.text_command_fault.TextCommandFault.TheVariants.{Text, Word, Write, Memory}
use Rattle.text_commands.specs.declared.text_fault.TextFault.{TextFault}
use Rattle.text_commands.specs.declared.text_fault.TextFault.TheVariants.{Draw, Graph, Bind, Plant, TooLong, Second}
use Rattle.text_commands.specs.Series.{SeriesValue, SpellSettings, SpellNoSettings, IsFirstRefusedSetting, scans_of}
use Rattle.text_commands.specs.Restarts.{GivenValue, without_restarts}
use Rattle.text_commands.specs.Trace.{SomeTrace}
use Rattle.text_commands.specs.Lines.{line_of}
use Rattle.text_commands.specs.Comments.{without_comments}
use Rattle.text_lines.specs.Sending.{Stops}
use Rattle.text_lines.specs.declared.send_fault.SendFault.{SendFault}
use Rattle.text_lines.specs.declared.send_fault.SendFault.TheVariants as sending

-- the text of a drawing is read as this picture
pub record IsPictureOf (text : List ℕ) (drawn : Picture) : Type 0 where
  pub well_drawn : IsWellDrawn (rows_of text)
  pub picture : drawn ≡ picture_of 1 (layout_of (rows_of text))

-- The ladder of a text: its networks in order, and its names, declared by their use. Each network meets the left
-- rail and has at most 200 rows, no two boxes have one name, and the names can be bound.
pub record IsLadderOfText (text : List ℕ) (ds : List Declaration) (networks : List Diagram) : Type 0 where
  pub picture : Picture
  pub graph : GraphValue
  pub drawn : IsPictureOf text picture
  pub built : AreNetworks picture graph
  pub faultless : HasFaultlessNetworks picture
  pub guessed : AreGuessed graph ds
  pub diagrams : networks ≡ diagrams_of graph
  pub bound : CanBind ds networks

-- The ladder of a drawing: of its text as it stands; or, where that is ill drawn, with its comments emptied.
abbrev pub IsLadderOfDrawing : List ℕ → List Declaration → List Diagram → Type 0
IsLadderOfDrawing drawing ds networks =
    IsLadderOfText drawing ds networks
    ⊎ (IsIllDrawn (rows_of drawing) × IsLadderOfText (without_comments drawing) ds networks)

-- so many scans were made, and a line of the variables was written after each
pub record WritesScans (ds : List Declaration) (networks : List Diagram) (dt : ℕ) (given : GivenValue) (scans : ℕ)
    (old new : Option (List ℕ)) : Type 0 where
  pub made : SomeTrace ds networks dt given scans
  pub all : length made.states ≡ scans
  pub appended : Appends old new (flat_map (line_of ds) made.states)

-- the lines of some scans didn't go out whole
pub record StopsScans (ds : List Declaration) (networks : List Diagram) (dt : ℕ) (given : GivenValue) (scans : ℕ)
    (fault : SendFault) (old new : Option (List ℕ)) : Type 0 where
  pub made : SomeTrace ds networks dt given scans
  pub stopped : Stops fault (flat_map (line_of ds) made.states) old new

-- the ladder of the drawing, and the variables that the words set before its scans
pub record Asked (drawing : List ℕ) (words : List (List ℕ)) : Type 0 where
  pub declarations : List Declaration
  pub networks : List Diagram
  pub ladder : IsLadderOfDrawing drawing declarations networks
  pub rows : List SeriesValue
  pub read : SpellSettings declarations words rows

-- the text of all scans of the drawing was written
abbrev pub WritesAll : List ℕ → List (List ℕ) → ℕ → Option (List ℕ) → Option (List ℕ) → Type 0
WritesAll drawing words dt old new =
    (asked : Asked drawing words)
    × WritesScans asked.declarations asked.networks dt (without_restarts asked.rows) (scans_of asked.rows) old new

-- the text of some of its scans didn't go out whole
abbrev pub StopsSome : SendFault → List ℕ → List (List ℕ) → ℕ → Option (List ℕ) → Option (List ℕ) → Type 0
StopsSome fault drawing words dt old new =
    (asked : Asked drawing words)
    × StopsScans asked.declarations asked.networks dt (without_restarts asked.rows) (scans_of asked.rows) fault old new

-- the words set nothing that the drawing's ladder has, and this is the first fault
pub record RefusesSettings (drawing : List ℕ) (words : List (List ℕ)) (fault : WordFault) : Type 0 where
  pub declarations : List Declaration
  pub networks : List Diagram
  pub ladder : IsLadderOfDrawing drawing declarations networks
  pub refused : SpellNoSettings declarations words
  pub first : IsFirstRefusedSetting declarations words fault

-- the drawing's networks have no fault, and their names can't be bound; this is the first fault
pub record RefusesNamesOf (drawing : List ℕ) (fault : BindFault) : Type 0 where
  pub picture : Picture
  pub graph : GraphValue
  pub declarations : List Declaration
  pub drawn : IsPictureOf drawing picture
  pub built : AreNetworks picture graph
  pub faultless : HasFaultlessNetworks picture
  pub guessed : AreGuessed graph declarations
  pub refused : CanBind declarations (diagrams_of graph) → ⊥
  pub first : IsFirstBindFault declarations graph fault

-- the networks of the drawing have this fault at some place, the first by its kind, row and column
pub record RefusesNetworksOf (drawing : List ℕ) (fault : GraphFault) : Type 0 where
  pub picture : Picture
  pub drawn : IsPictureOf drawing picture
  pub place : Place
  pub first : IsFirstGraphFaultAt picture fault.kind place
  pub found : GraphFaultLiesAt picture.first_line place fault

-- what holds after a refusal by a text: the fault is the first one
abbrev pub RefusesText : List ℕ → TextFault → Type 0
RefusesText text (Draw fault) =
    IsIllDrawn (rows_of text) × (fault.kind ≢ draw.Memory) × TellsFirstFault text 1 fault
RefusesText text (Graph fault) = RefusesNetworksOf text fault
RefusesText text (Bind fault) = RefusesNamesOf text fault
RefusesText text (Plant fault) = ⊥
RefusesText text TooLong = ⊥
RefusesText text (Second fault) = ⊥

-- What holds after a refusal by a drawing: of its text as it stands, if it is well drawn; else with its comments
-- emptied.
abbrev pub RefusesDrawing : List ℕ → TextFault → Type 0
RefusesDrawing drawing fault =
    (IsWellDrawn (rows_of drawing) × RefusesText drawing fault)
    ⊎ (IsIllDrawn (rows_of drawing) × RefusesText (without_comments drawing) fault)

-- why there was a fault, and what was written before: nothing before a fault of the text or of the words
abbrev pub Explains : List ℕ → List (List ℕ) → ℕ → Option (List ℕ) → Option (List ℕ) → TextCommandFault → Type 0
Explains drawing words dt old new (Text fault) = RefusesDrawing drawing fault × Keeps old new
Explains drawing words dt old new (Word fault) = RefusesSettings drawing words fault × Keeps old new
Explains drawing words dt old new Write = StopsSome sending.Write drawing words dt old new
Explains drawing words dt old new Memory = Keeps old new ⊎ StopsSome sending.Memory drawing words dt old new
