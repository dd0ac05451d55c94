use Rattle.std.proofs.Common.{subst}
use Rattle.text_lines.specs.Steps.Bytes.{TakesByte}
use Rattle.text_lines.proofs.Sending.{on_err}
use Rattle.text_lines.proofs.ByteReading.{takes_more}
use Rattle.text_lines.proofs.lines.next_line.Goals as goal

pub returns-in_err-push-in-Some-clause-fault : goal.returns-in_err-push-in-Some-clause-fault
returns-in_err-push-in-Some-clause-fault g c =
    let inv = c.loop.invariant in
    let now = g.R.Read.remaining c.loop.reader in
    let next = g.R.Read.remaining c.next_byte.new.reader in
    let taken = subst (TakesByte now next) c.in-Some.is c.in_ok-next_byte.ensures.ok in
    on_err c.from_residual-in_err-push-in-Some.result
    (takes_more _ now next c.loop.line.items c.in-Some.byte inv.0 c.in-Some.byte-test.1 inv.2 taken)
