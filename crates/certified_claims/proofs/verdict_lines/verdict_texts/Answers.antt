use Rattle.std.proofs.Common.{◌<◌, length, string_bytes, arith}
use Rattle.certified_claims.proofs.Telling.{texts_none, texts_more}
use Rattle.certified_claims.proofs.verdict_lines.verdict_texts.Goals as goal

pub loop-k-init : goal.loop-k-init
loop-k-init c =
    let told = c.args.told.now in
    texts_none told.setup.now told.file.now told.scope (string_bytes c.new-text.result) c.new-text.ensures.bytes

pub loop-k-preserved : goal.loop-k-preserved
loop-k-preserved c =
    let told = c.args.told.now in
    let items = c.args.verdicts.now in
    let k = c.loop-k.k in
    let also : k < length items = c.loop-k-test.true in
    let inside : k < length c.args.names.now = let long = c.requires.long in omega arith in
    texts_more told.setup.now told.file.now told.scope c.args.names.now items k _ c.index-verdicts-k.result (string_bytes c.loop-k.text) (string_bytes c.push_verdict.new.text)
    inside also c.loop-k.invariant (rw c.index-verdicts-k.is at c.in_ok-push_verdict.ensures)
