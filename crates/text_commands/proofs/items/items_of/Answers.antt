use Rattle.std.proofs.Common.{◌+◌, take, sym, subst}
use Rattle.std.specs.List.{AllZip}
use Rattle.text_commands.specs.Rows.{texts}
use Rattle.text_commands.specs.Series.{IsItem}
use Rattle.text_commands.proofs.SeriesWords.{no_part, one_part}
use Rattle.text_commands.proofs.items.items_of.Goals as goal

pub returns-in_default : goal.returns-in_default
returns-in_default c = no_part (IsItem c.args.kind) c.args.parts.now c.loop-part.part-index _ c.loop-part-test.true c.in_default.ensures

pub loop-part-preserved : goal.loop-part-preserved
loop-part-preserved c =
    subst (AllZip (IsItem c.args.kind) (take (c.loop-part.part-index + 1) (texts c.args.parts.now))) (sym c.in_ok-push.ensures.items)
    (one_part (IsItem c.args.kind) c.args.parts.now c.loop-part.part-index _ _ _ c.loop-part-test.true c.loop-part.invariant c.in-Some.ensures)
