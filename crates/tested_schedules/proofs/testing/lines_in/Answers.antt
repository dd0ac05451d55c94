use Rattle.std.proofs.lemmas.Str.Pattern.{strip_suffix_char}
use Rattle.std.proofs.Common.{Some, None, arith}
use Rattle.world.proofs.Ending.{with_feed, no_feed}
use Rattle.tested_schedules.proofs.testing.lines_in.Goals as goal

pub returns-in-Some : goal.returns-in-Some
returns-in-Some c = with_feed c.args.schedule.now c.in-Some.front.now (strip_suffix_char 10 c.args.schedule.now (Some c.in-Some.front) c.in-Some.ensures.cases (omega arith))

pub returns-in-None : goal.returns-in-None
returns-in-None c = no_feed c.args.schedule.now (strip_suffix_char 10 c.args.schedule.now None c.in-None.ensures.cases (omega arith))
