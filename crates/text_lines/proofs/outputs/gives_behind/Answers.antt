-- The values are those with which the text ends.
use Rattle.std.proofs.Common.{Some, None}
use Rattle.text_lines.proofs.Messages.{gives_read}
use Rattle.text_lines.proofs.outputs.gives_behind.Goals as goal

pub returns-in-Some-2-clause-read : goal.returns-in-Some-2-clause-read
returns-in-Some-2-clause-read c =
    gives_read c.args.code.now c.args.text.now c.in-Some.rest.now (Some (c.in-Some-2.values.items, c.in-Some-2.field-0-1.now)) c.in-Some.ensures (rw c.in-Some-2.is at c.in_ok-values.ensures.read)

pub returns-in-None-clause-read : goal.returns-in-None-clause-read
returns-in-None-clause-read c =
    gives_read c.args.code.now c.args.text.now c.in-Some.rest.now None c.in-Some.ensures (rw c.in-None.is at c.in_ok-values.ensures.read)
