use Rattle.std.proofs.Common.{None, Some, sym, subst}
use Rattle.power_flow.specs.LadderValue.{LadderValue}
use Rattle.text_commands.specs.Sources.{AreRetainedFrom, IsLadderFrom, SourceValue}
use Rattle.text_commands.specs.Steps.Sources.{found_ladder}
use Rattle.verifying.proofs.Wholes.{found_retained}
use Rattle.verifying.proofs.verify_command.marked_of_program.Goals as goal

pub returns-in_ok-marked_of_type-in-Some-clause-ladder : goal.returns-in_ok-marked_of_type-in-Some-clause-ladder
returns-in_ok-marked_of_type-in-Some-clause-ladder c =
    let s : SourceValue = record { text = c.args.text.now; program = Some c.args.name.now; second = None } in
    let found = rw c.in-Some.is at c.in_ok-found.ensures.ok in
    subst (λ (l : LadderValue). IsLadderFrom s l.declarations l.networks) (sym c.in_ok-marked_of_type-in-Some.ensures.ladder) (found_ladder c.args.text.now c.args.name.now c.in-Some.found found)

pub returns-in_ok-marked_of_type-in-Some-clause-retained : goal.returns-in_ok-marked_of_type-in-Some-clause-retained
returns-in_ok-marked_of_type-in-Some-clause-retained c =
    let s : SourceValue = record { text = c.args.text.now; program = Some c.args.name.now; second = None } in
    let found = rw c.in-Some.is at c.in_ok-found.ensures.ok in
    subst (AreRetainedFrom s) (sym c.in_ok-marked_of_type-in-Some.ensures.retained) (found_retained c.args.text.now c.args.name.now c.in-Some.found found)
