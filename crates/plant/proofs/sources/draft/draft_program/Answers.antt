use Rattle.plant.proofs.Members.{type_found}
use Rattle.std.proofs.Common.{None}
use Rattle.std.proofs.Common.{rules, ◌≡◌, ◌∙◌, ap, Some}
use Rattle.std.specs.List.{find}
use Rattle.plant_grammar.specs.Names.{is_named}
use Rattle.plant.specs.ProgramTypes.{TypeValue}
use Rattle.task_codes.specs.CodeValue.{ProgramValue}
use Rattle.plant.proofs.Drafting.{program_made}
use Rattle.plant.proofs.sources.draft.draft_program.Goals as goal

pub returns : goal.returns
returns c =
    let found : find (λ (t : TypeValue). is_named c.args.run.now.program t.program.name) c.args.types.now ≡ Some c.in-Some.found.now = search rules in
    let kept : c.new.result.ladder ≡ c.in-Some.found.now.ladder = ap (λ (p : ProgramValue). p.ladder) c.new.ensures ∙ c.in_ok-ladder.ensures ∙ c.ladder.ensures.ladder in
    program_made c.args.types.now c.args.run.now c.in-Some.found.now c.new.result found c.ladder.ensures.drawn (ap (λ (p : ProgramValue). p.name) c.new.ensures ∙ c.in_ok-name.ensures) kept
    (ap (λ (p : ProgramValue). p.retained) c.new.ensures ∙ rw c.program.ensures at c.in_ok-retained.ensures)

pub unreachable-requires : goal.unreachable-requires
unreachable-requires c =
    let none : find (λ (t : TypeValue). is_named c.args.run.now.program t.program.name) c.args.types.now ≡ None = search rules in
    type_found c.args.types.now c.args.run.now c.requires none
