use Rattle.std.proofs.Common.{◌<◌, length, map, string_bytes, arith}
use Rattle.certified_claims.proofs.Telling.{certificates_more}
use Rattle.certified_claims.proofs.certificate_lines.certificates_text.Goals as goal

pub loop-k-preserved : goal.loop-k-preserved
loop-k-preserved c =
    let items = c.args.verdicts.now in
    let k = c.loop-k.k in
    let also : k < length items = c.loop-k-test.true in
    let inside : k < length c.args.claims.now = let long = c.requires in omega arith in
    certificates_more (map (λ n. string_bytes n) c.in_ok-names.names.items) c.args.claims.now items k _ c.index-verdicts-k.result (string_bytes c.loop-k.text) (string_bytes c.push_certificate.new.text)
    inside c.requires c.loop-k.invariant (rw (c.index-verdicts-k.is, c.deref.ensures.value) at c.in_ok-push_certificate.ensures)
