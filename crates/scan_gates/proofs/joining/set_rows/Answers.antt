use Rattle.std.proofs.Common.{◌<◌, ◌≢◌, inl, inr, length, length-set, arith, ◌∙◌}
use Rattle.scan_gates.proofs.Bits.{set_more, bit_set_other}
use Rattle.scan_gates.proofs.joining.set_rows.Goals as goal

pub loop-row-preserved : goal.loop-row-preserved
loop-row-preserved c =
    let rows = c.loop-row.rows in
    let row = c.loop-row.row in
    let test = c.loop-row-test.true in
    let long = c.loop-row.invariant.long in
    let more : row < length rows = omega arith in
    record {
      long = length-set rows row c.args.on ∙ long;
      within = λ v. set_more v rows c.args.first row c.args.on more (c.loop-row.invariant.within v);
      bound = inl (omega arith);
      outside = λ v k out.
          let ge = c.loop-row.auto.row in
          let ne : k ≢ row = elim out [ inl before ↦ omega arith | inr behind ↦ omega arith ] in
          bit_set_other v rows row k c.args.on ne ∙ c.loop-row.invariant.outside v k (elim out [ inl before ↦ inl before | inr behind ↦ inr (omega arith) ]);
    }
