-- The ladder of a program.
use Rattle.std.specs.Prelude.{◌≡◌, ℕ}
use Rattle.ladder_rows.specs.Rows.{rows_of}
use Rattle.ladder_text.specs.Places.{layout_of}
use Rattle.ladder_text.specs.Picture.{picture_of}
use Rattle.ladder_text.specs.Faults.{IsWellDrawn}
use Rattle.network.specs.GraphValue.{GraphValue}
use Rattle.network.specs.Networks.{AreNetworks, HasFaultlessNetworks}
use Rattle.name_faults.specs.Binding.{CanBind}
use Rattle.power_flow.specs.LadderValue.{LadderValue, diagrams}
use Rattle.power_flow.specs.Waiting.{HasJustRoom}
use Rattle.plant_grammar.specs.declared.grammar.tree.Program.{Program}
use Rattle.plant_grammar.specs.Lawful.{variables}

-- The ladder of a program: its body is well drawn, and its networks are those of the drawing. Each of these meets
-- the left rail and has at most 200 rows, no two boxes have one name, and the names are bound to the program's
-- variables. It has just as many waiting places as its networks need.
pub record IsLadderOf (p : Program) (l : LadderValue) : Type 0 where
  pub first_line : ℕ
  pub graph : GraphValue
  pub well_drawn : IsWellDrawn (rows_of p.body)
  pub built : AreNetworks (picture_of first_line (layout_of (rows_of p.body))) graph
  pub networks_faultless : HasFaultlessNetworks (picture_of first_line (layout_of (rows_of p.body)))
  pub declared : l.declarations ≡ variables p
  pub networks_are : l.networks ≡ diagrams graph
  pub bound : CanBind (variables p) (diagrams graph)
  pub room : HasJustRoom l

-- the body of the program has a ladder
abbrev pub HasLadder : Program → Type 0
HasLadder p = (ladder : LadderValue) × IsLadderOf p ladder

-- a program has one ladder
abbrev pub OneLadder : Type 0
OneLadder = (p : Program) (l m : LadderValue) → IsLadderOf p l → IsLadderOf p m → l ≡ m
