use Rattle.std.proofs.Common.{arith, length-drop}
use Rattle.std.proofs.KnownBytes.{Appends-trans}
use Rattle.std.proofs.Math.Seq.{take-add}
use Rattle.text_lines.proofs.text_output.write_text.Goals as goal

pub loop-done-preserved : goal.loop-done-preserved
loop-done-preserved g c =
    let bytes = c.as_bytes-bytes.result.now in
    let joined = Appends-trans _ _ _ _ _ c.loop-done.invariant.1 c.in-Ok.ensures.bytes in (
      omega (arith, c.in-Ok.ensures.bound, length-drop c.loop-done.done bytes, c.loop-done.invariant.0),
      rw (take-add c.loop-done.done c.in-Ok.n bytes, ← c.split_at.ensures.back) joined,
    )
