-- One more variable.
use Rattle.std.proofs.Common.{rules, arith, string_bytes}
use Rattle.live_node.proofs.KeptLines.{kept_more, kept_all}
use Rattle.live_node.proofs.journal_lines.push_task_kept.Goals as goal

pub loop-k-preserved : goal.loop-k-preserved
loop-k-preserved c = search (rules, kept_more)

pub returns : goal.returns
returns c =
    kept_all c.args.code.now (string_bytes c.args.text.now) (string_bytes c.loop-k.text) c.args.variables.now c.args.values.now c.loop-k.k (omega (arith, c.loop-k-test.false, c.min-k-end.ensures)) c.loop-k.invariant
