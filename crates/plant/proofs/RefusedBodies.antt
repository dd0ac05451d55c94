-- Why the body of a program is refused, from why a layer below refused it.
use Rattle.std.proofs.Common.{◌≢◌, ℕ, Result, Ok, Err, IfErr, refl, ap, sym, subst}
use Rattle.std.specs.Result.{IsErrAnd}
use Rattle.drawings.specs.declared.place.Place.{Place}
use Rattle.ladder_rows.specs.Rows.{rows_of}
use Rattle.ladder_text.specs.Picture as pictures
use Rattle.ladder_text.specs.FirstFault.{TellsFirstFault}
use Rattle.ladder_text.specs.Faults.{IsWellDrawn, IsIllDrawn}
use Rattle.ladder_text.specs.declared.draw_fault.DrawFault.{DrawFault}
use Rattle.ladder_text.specs.declared.draw_fault.DrawFaultKind.TheVariants as draw
use Rattle.network.specs.declared.fault.GraphFault.{GraphFault}
use Rattle.network.specs.declared.fault.GraphFaultKind.TheVariants as graph
use Rattle.network.specs.Networks.{IsFirstGraphFaultAt, GraphFaultLiesAt}
use Rattle.name_faults.specs.declared.bind_fault.BindFault.{BindFault}
use Rattle.name_faults.specs.declared.bind_fault.BindKind.TheVariants as bind
use Rattle.plant.specs.declared.plant_fault.BodyFault.{BodyFault}
use Rattle.plant.specs.declared.plant_fault.BodyFault.TheVariants as body
use Rattle.plant.specs.declared.plant_fault.PlantFault.{PlantFault}
use Rattle.plant.specs.declared.plant_fault.PlantFaultKind.TheVariants as kind
use Rattle.plant.specs.Faults.{IsHandedOn, HandsOnDrawing, HandsOnNetworks, HandsOnNames}
use Rattle.plant_grammar.specs.Grammar.{TextValue}
use Rattle.plant.specs.BodyFaults.{drawing_line, picture_in, RefusesBody, RefusesNames, IsBodyFault, kind_of_body}

-- a refusal that is handed on is the body's
pub body_refused : {T IsMemory : Type 0} (t : TextValue) (line : ℕ) (why : BodyFault) (r : Result T PlantFault)
    → IsErrAnd r (IsHandedOn IsMemory (kind_of_body why) line why) → ((IsMemory → ⊥) → RefusesBody t why line) → IfErr r (λ fault. fault.kind ≢ kind.Memory → IsBodyFault t fault)
body_refused t line why (Ok x) given refused = tt
body_refused t line why (Err fault) given refused = λ other.
    let is = given.1 (λ memory. other (given.0 memory)) in
    record {
      why = why;
      inner_is = ap (λ (f : PlantFault). f.inner) is;
      kind_is = ap (λ (f : PlantFault). f.kind) is;
      refused = subst (λ (n : ℕ). RefusesBody t why n) (sym (ap (λ (f : PlantFault). f.line) is)) (refused (λ memory. other (given.0 memory)));
    }

-- a drawing that is refused
pub drawing_refused : {T : Type 0} (t : TextValue) (found : DrawFault) (r : Result T PlantFault)
    → IsErrAnd r (HandsOnDrawing found)
    → (found.kind ≢ draw.Memory → IsIllDrawn (rows_of t.program.body)) → TellsFirstFault t.program.body (drawing_line t) found
    → IfErr r (λ fault. fault.kind ≢ kind.Memory → IsBodyFault t fault)
drawing_refused t found r given ill first = body_refused t found.line (body.Drawing found.kind) r given (λ other. (ill other, (found.column, first)))

-- networks that are refused
pub networks_refused : {T : Type 0} (t : TextValue) (found : GraphFault) (r : Result T PlantFault) → IsWellDrawn (rows_of t.program.body)
    → IsErrAnd r (HandsOnNetworks found)
    → (found.kind ≢ graph.Memory → (place : Place) × IsFirstGraphFaultAt (picture_in t) found.kind place × GraphFaultLiesAt (picture_in t).first_line place found)
    → IfErr r (λ fault. fault.kind ≢ kind.Memory → IsBodyFault t fault)
unfolding pictures.picture_of
networks_refused t found r drawn given at = body_refused t found.line (body.Graph found.kind) r given (λ other. let is = at other in (drawn, (is.0, is.1, record { line = is.2.line; column = refl })))

-- names that are refused
pub names_refused : {T : Type 0} (t : TextValue) (found : BindFault) (r : Result T PlantFault) → IsWellDrawn (rows_of t.program.body)
    → IsErrAnd r (HandsOnNames found)
    → (found.kind ≢ bind.Memory → RefusesNames t found)
    → IfErr r (λ fault. fault.kind ≢ kind.Memory → IsBodyFault t fault)
names_refused t found r drawn given names = body_refused t found.line (body.Bind found.kind) r given (λ other. (drawn, (found.column, names other)))
