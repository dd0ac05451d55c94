-- The fault of a program's body.
use Rattle.std.specs.Prelude.{◌≡◌, ℕ, List, ◌∷◌, ◌++◌, All, min, max, Some}
use Rattle.drawings.specs.declared.place.Place.{Place}
use Rattle.ladder_rows.specs.Rows.{rows_of}
use Rattle.ladder_text.specs.Places.{layout_of}
use Rattle.drawings.specs.Picture.{Picture}
use Rattle.ladder_text.specs.Picture.{picture_of}
use Rattle.ladder_text.specs.Faults.{IsWellDrawn, IsIllDrawn}
use Rattle.ladder_text.specs.FirstFault.{TellsFirstFault}
use Rattle.network.specs.GraphValue.{GraphValue}
use Rattle.network.specs.Networks.{AreNetworks, IsFirstGraphFaultAt, GraphFaultLiesAt, HasFaultlessNetworks}
use Rattle.power_flow.specs.LadderValue.{diagrams}
use Rattle.name_faults.specs.Binding.{CanBind}
use Rattle.name_faults.specs.Findings.{IsFirstBindFault}
use Rattle.name_faults.specs.declared.bind_fault.BindFault.{BindFault}
use Rattle.plant.specs.declared.plant_fault.BodyFault.{BodyFault}
use Rattle.plant.specs.declared.plant_fault.BodyFault.TheVariants as body
use Rattle.plant.specs.declared.plant_fault.PlantFault.{PlantFault}
use Rattle.plant.specs.declared.plant_fault.PlantFaultKind.{PlantFaultKind}
use Rattle.plant.specs.declared.plant_fault.PlantFaultKind.TheVariants as kind
use Rattle.plant_grammar.specs.Grammar.{TextValue}
use Rattle.plant_grammar.specs.Lawful.{variables}
use Rattle.plant.specs.Ladders.{HasLadder}

-- the number of a body's first line, from 1 to the greatest on which a drawing may begin
abbrev pub drawing_line : TextValue → ℕ
drawing_line t = max 1 (min t.first_line 9223372036854775807)

-- what is drawn in a body
abbrev pub picture_in : TextValue → Picture
picture_in t = picture_of (drawing_line t) (layout_of (rows_of t.program.body))

-- a program's networks have no fault, and their names can't be bound to its variables; this is the first fault
pub record RefusesNames (t : TextValue) (fault : BindFault) : Type 0 where
  pub graph : GraphValue
  pub built : AreNetworks (picture_in t) graph
  pub networks_faultless : HasFaultlessNetworks (picture_in t)
  pub refused : CanBind (variables t.program) (diagrams graph) → ⊥
  pub first : IsFirstBindFault (variables t.program) graph fault

-- The body isn't well drawn, its networks have a fault, or its names do; the first of these faults is this one,
-- and on this line. Lines are counted on from the body's first.
abbrev pub RefusesBody : TextValue → BodyFault → ℕ → Type 0
RefusesBody t (body.Drawing k) line =
    IsIllDrawn (rows_of t.program.body)
    × ((column : ℕ)
    × TellsFirstFault t.program.body (drawing_line t) (record { kind = k; line = line; column = column }))
RefusesBody t (body.Graph k) line =
    IsWellDrawn (rows_of t.program.body)
    × ((place : Place) × IsFirstGraphFaultAt (picture_in t) k place
    × GraphFaultLiesAt (drawing_line t) place (record { kind = k; line = line; column = place.column }))
RefusesBody t (body.Bind k) line =
    IsWellDrawn (rows_of t.program.body)
    × ((column : ℕ) × RefusesNames t (record { kind = k; line = line; column = column }))

-- the kind of a plant's fault that a body's fault is
abbrev pub kind_of_body : BodyFault → PlantFaultKind
kind_of_body (body.Drawing k) = kind.Drawing
kind_of_body (body.Graph k) = kind.Graph
kind_of_body (body.Bind k) = kind.Bind

-- the body of the program is refused, and the fault tells why and on which line
pub record IsBodyFault (t : TextValue) (fault : PlantFault) : Type 0 where
  pub why : BodyFault
  pub inner_is : fault.inner ≡ Some why
  pub kind_is : fault.kind ≡ kind_of_body why
  pub refused : RefusesBody t why fault.line

-- the fault is that of the first program whose body is refused
pub record IsFirstBodyFault (texts : List TextValue) (fault : PlantFault) : Type 0 where
  pub before : List TextValue
  pub faulty : TextValue
  pub behind : List TextValue
  pub parts : texts ≡ before ++ faulty ∷ behind
  pub drawn : All (λ t. HasLadder t.program) before
  pub fault_is : IsBodyFault faulty fault
