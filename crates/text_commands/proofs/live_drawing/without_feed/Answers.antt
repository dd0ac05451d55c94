use Rattle.std.proofs.Common.{Some, None, take, length, ◌-◌, arith}
use Rattle.std.proofs.lemmas.Str.Pattern.{strip_suffix_char}
use Rattle.text_commands.proofs.DrawnText.{feed_off, no_feed_off}
use Rattle.text_commands.proofs.live_drawing.without_feed.Goals as goal

pub returns-in-Some : goal.returns-in-Some
returns-in-Some c =
    feed_off c.args.text.now c.in-Some.front.now (strip_suffix_char 10 c.args.text.now (Some c.in-Some.front) c.in-Some.ensures.cases (omega arith))

pub returns-in-None : goal.returns-in-None
returns-in-None c =
    no_feed_off c.args.text.now (strip_suffix_char 10 c.args.text.now None c.in-None.ensures.cases (omega arith) (take (length c.args.text.now - 1) c.args.text.now))
