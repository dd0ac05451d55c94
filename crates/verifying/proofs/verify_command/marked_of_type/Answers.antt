use Rattle.std.proofs.Common.{◌≡◌, List, ℕ, ap, ◌∙◌, refl, subst}
use Rattle.drawings.specs.Picture.{Picture}
use Rattle.ladder_rows.specs.Rows.{rows_of}
use Rattle.ladder_text.specs.Places.{layout_of}
use Rattle.ladder_text.specs.Picture.{picture_of}
use Rattle.ladder_text.specs.Faults.{IsWellDrawn}
use Rattle.network.specs.Networks.{AreNetworks, HasFaultlessNetworks}
use Rattle.name_faults.specs.Binding.{CanBind}
use Rattle.declared_names.specs.declared.declarations.Declaration.{Declaration}
use Rattle.power_flow.specs.LadderValue.{LadderValue, diagrams}
use Rattle.plant_grammar.specs.declared.grammar.tree.Program.{Program}
use Rattle.plant_grammar.specs.Lawful.{variables}
use Rattle.plant.specs.Ladders.{IsLadderOf}
use Rattle.verifying.proofs.Wholes.{marked_ladder}
use Rattle.verifying.proofs.verify_command.marked_of_type.Goals as goal

pub returns-clause-ladder : goal.returns-clause-ladder
returns-clause-ladder c =
    let p = c.args.found.now.program in
    let graph = c.in-Ok-build.graph in
    let drawn = c.ladder.ensures.drawn in
    let body : c.as_str-body.result.now ≡ p.body = c.as_str-body.ensures ∙ ap (λ (q : Program). q.body) c.program.ensures in
    let picture : c.in-Ok.drawing ≡ picture_of 1 (layout_of (rows_of p.body)) = c.in-Ok.ensures.drawing ∙ ap (λ (text : List ℕ). picture_of 1 (layout_of (rows_of text))) body in
    let names : c.in_ok-declarations.declarations ≡ variables p
    = c.in_ok-declarations.ensures ∙ c.declarations.ensures.list ∙ ap (λ (l : LadderValue). l.declarations) (c.deref.ensures ∙ c.ladder.ensures.ladder) ∙ drawn.declared in
    let bound = c.in-Ok-bind.ensures.ok in
    let again : IsLadderOf p c.in-Ok-bind.ladder = record {
      first_line = 1;
      graph = graph;
      well_drawn = subst (λ (text : List ℕ). IsWellDrawn (rows_of text)) body c.in-Ok.ensures.well_drawn;
      built = subst (λ (it : Picture). AreNetworks it graph) picture c.in-Ok-build.ensures.ok.0;
      networks_faultless = subst (λ (it : Picture). HasFaultlessNetworks it) picture c.in-Ok-build.ensures.ok.1;
      declared = bound.0 ∙ names;
      networks_are = bound.1;
      bound = subst (λ (ds : List Declaration). CanBind ds (diagrams graph)) names bound.2;
      room = c.in-Ok-bind.ensures.room;
    } in
    c.program_has_one_ladder.ensures p c.in-Ok-bind.ladder c.args.found.now.ladder again drawn

pub returns-clause-marked : goal.returns-clause-marked
returns-clause-marked c =
    let known = c.in_ok-known.ensures in
    marked_ladder c.in_ok-declarations.declarations c.in-Ok-build.graph _ _ c.in-Ok-bind.ensures.ok refl known.marks known.rails known.count
