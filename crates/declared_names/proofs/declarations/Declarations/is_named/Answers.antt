use Rattle.declared_names.proofs.Places.{named_at, slice_get_none}
use Rattle.declared_names.proofs.declarations.Declarations.is_named.Goals as goal

pub returns-in-Some : goal.returns-in-Some
returns-in-Some c =
    named_at c.args.self.now c.args.i (record { name = c.in-Some.entry.now; declared = c.in-Some.field-0-1 }) c.args.name.now c.eq_ignore_ascii_case.result
    c.in-Some.ensures (rw c.as_bytes.ensures.value at c.eq_ignore_ascii_case.ensures.test)

pub returns-in-None : goal.returns-in-None
returns-in-None c = absurd (slice_get_none c.args.self.now c.args.i c.requires c.in-None.ensures)
