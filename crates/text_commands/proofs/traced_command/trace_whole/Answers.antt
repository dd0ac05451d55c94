use Rattle.text_commands.proofs.TracedAnswers.{traced_whole}
use Rattle.text_commands.proofs.traced_command.trace_whole.Goals as goal

pub first_difference-requires : goal.first_difference-requires
first_difference-requires c = rw c.declarations.ensures.list c.requires.expected

pub returns : goal.returns
returns c =
    let outcome = rw (c.declarations.ensures.list, c.deref.ensures.value) at c.in_ok-difference.ensures in
    let texts = rw (c.declarations-2.ensures.list, c.deref-2.ensures.value) at c.in_ok-texts.ensures in
    traced_whole _ _ _ _ _ _ c.args.given.now c.args.expected.now c.test_scan_count-scans.result _ _ _ c.test_scan_count-scans.ensures c.in_ok-states.ensures outcome texts
