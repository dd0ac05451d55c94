use Rattle.std.proofs.Common.{◌≡◌, ◌∙◌, ap, ℕ}
use Rattle.std.specs.Prelude.{min, max}
use Rattle.plant_grammar.specs.declared.grammar.tree.Program.{Program}
use Rattle.plant_grammar.specs.Lawful.{variables}
use Rattle.plant.specs.BodyFaults.{drawing_line, picture_in}
use Rattle.plant.proofs.RefusedBodies.{drawing_refused, networks_refused, names_refused}
use Rattle.plant.proofs.drawn.draw.Goals as goal

pub returns-in_err-drawing-clause-fault : goal.returns-in_err-drawing-clause-fault
returns-in_err-drawing-clause-fault c =
    let body : c.as_str.result.now ≡ c.args.text.program.body = c.as_str.ensures ∙ ap (λ (p : Program). p.body) c.into_parts-program.ensures.program in
    let first : c.clamp-first_line.result ≡ drawing_line c.args.text = c.clamp-first_line.ensures ∙ ap (λ (n : ℕ). max 1 (min n 9223372036854775807)) c.into_parts-program.ensures.line in
    drawing_refused c.args.text c.in_err-drawing.field-0.0 c.from_residual.result c.from_residual.ensures.1 (rw body at c.in_err-drawing.ensures.refused) (rw (body, first) at c.in_err-drawing.ensures.first)

pub returns-in_err-graph-clause-fault : goal.returns-in_err-graph-clause-fault
returns-in_err-graph-clause-fault c =
    let body : c.as_str.result.now ≡ c.args.text.program.body = c.as_str.ensures ∙ ap (λ (p : Program). p.body) c.into_parts-program.ensures.program in
    let first : c.clamp-first_line.result ≡ drawing_line c.args.text = c.clamp-first_line.ensures ∙ ap (λ (n : ℕ). max 1 (min n 9223372036854775807)) c.into_parts-program.ensures.line in
    let well = rw body at c.in_ok-drawing.ensures.well_drawn in
    let drawing : c.in_ok-drawing.drawing ≡ picture_in c.args.text = rw (body, first) at c.in_ok-drawing.ensures.drawing in
    networks_refused c.args.text c.in_err-graph.field-0.0 c.from_residual-in_err-graph.result well c.from_residual-in_err-graph.ensures.1 (rw drawing at c.in_err-graph.ensures.fault)

pub returns-in_err-ladder-clause-fault : goal.returns-in_err-ladder-clause-fault
returns-in_err-ladder-clause-fault c =
    let body : c.as_str.result.now ≡ c.args.text.program.body = c.as_str.ensures ∙ ap (λ (p : Program). p.body) c.into_parts-program.ensures.program in
    let first : c.clamp-first_line.result ≡ drawing_line c.args.text = c.clamp-first_line.ensures ∙ ap (λ (n : ℕ). max 1 (min n 9223372036854775807)) c.into_parts-program.ensures.line in
    let well = rw body at c.in_ok-drawing.ensures.well_drawn in
    let drawing : c.in_ok-drawing.drawing ≡ picture_in c.args.text = rw (body, first) at c.in_ok-drawing.ensures.drawing in
    let declared : c.into_parts-program.result.2 ≡ variables c.args.text.program = c.into_parts-program.ensures.declared in
    names_refused c.args.text c.in_err-ladder.field-0.0 c.from_residual-in_err-ladder.result well c.from_residual-in_err-ladder.ensures.1
    (λ other. record {
      graph = c.in_ok-graph.graph;
      built = rw drawing at c.in_ok-graph.ensures.ok.0;
      networks_faultless = rw drawing at c.in_ok-graph.ensures.ok.1;
      refused = rw declared at c.in_err-ladder.ensures.only other;
      first = rw declared at c.in_err-ladder.ensures.first other;
    })
