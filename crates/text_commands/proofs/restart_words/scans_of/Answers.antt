use Rattle.std.proofs.Common.{◌+◌, take, sym, subst}
use Rattle.std.specs.List.{AllZip}
use Rattle.text_commands.specs.Rows.{texts}
use Rattle.text_commands.specs.Series.{IsCount}
use Rattle.text_commands.proofs.SeriesWords.{no_part, one_part}
use Rattle.text_commands.proofs.restart_words.scans_of.Goals as goal

pub returns-in_default : goal.returns-in_default
returns-in_default c = no_part IsCount c.args.parts.now c.loop-part.part-index _ c.loop-part-test.true (rw c.as_bytes.ensures.value at c.in_default.ensures.read)

pub loop-part-preserved : goal.loop-part-preserved
loop-part-preserved c =
    subst (AllZip IsCount (take (c.loop-part.part-index + 1) (texts c.args.parts.now))) (sym c.in_ok-push.ensures.items)
    (one_part IsCount c.args.parts.now c.loop-part.part-index _ _ _ c.loop-part-test.true c.loop-part.invariant (rw c.as_bytes.ensures.value at c.in-Some.ensures.read))
