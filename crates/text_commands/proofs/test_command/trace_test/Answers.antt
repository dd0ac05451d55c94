use Rattle.text_commands.proofs.TestAnswers.{test_traced}
use Rattle.text_commands.proofs.test_command.trace_test.Goals as goal

pub first_difference-requires : goal.first_difference-requires
first_difference-requires c = rw c.declarations.ensures.list c.requires.expected

pub returns : goal.returns
returns c =
    let outcome = rw (c.declarations.ensures.list, c.deref.ensures.value) at c.in_ok-found.ensures in
    test_traced _ _ _ _ _ c.args.given.now c.args.expected.now c.test_scan_count-scans.result _ _ _ c.test_scan_count-scans.ensures c.in_ok-states.ensures outcome
