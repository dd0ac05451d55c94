-- Another keyword.
use Rattle.std.proofs.Common.{get_or}
use Rattle.world.proofs.ScheduleReading.{no_word}
use Rattle.live_node.proofs.LinesRead.{hello_word, hello_small, not_both}
use Rattle.live_node.proofs.reading.read_hello.Goals as goal

pub returns-then-not-eq_ignore_ascii_case : goal.returns-then-not-eq_ignore_ascii_case
returns-then-not-eq_ignore_ascii_case c =
    λ h spelled.
    let is = hello_word c.args.plant.now h.0 h.1 c.args.words.now spelled in
    not_both c.eq_ignore_ascii_case.result (c.eq_ignore_ascii_case.ensures.test.1 (hello_small (get_or c.args.words.now 0 no_word).now is)) c.if-not-eq_ignore_ascii_case.true
