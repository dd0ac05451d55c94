use Rattle.std.proofs.Common.{◌<◌, sym, rules}
use Rattle.std.proofs.lemmas.List.{append-nil}
use Rattle.ladder_rows.specs.Rows.{width}
use Rattle.ladder_text.specs.Places.{layout_of}
use Rattle.ladder_text.proofs.Words.SpanRows.{contact_beside, coil_beside}
use Rattle.ladder_text.proofs.symbols.Symbols.push.Goals as goal

pub returns-then-last-column-clause-contacts : goal.returns-then-last-column-clause-contacts
unfolding layout_of
returns-then-last-column-clause-contacts c =
    let p = layout_of c.args.worded.now in
    let beside : width p.rows < c.args.column = search rules in
    rw (contact_beside p c.args.row c.args.column beside) (sym (append-nil c.args.self.now.contacts.items))

pub returns-then-last-column-clause-coils : goal.returns-then-last-column-clause-coils
unfolding layout_of
returns-then-last-column-clause-coils c =
    let p = layout_of c.args.worded.now in
    let beside : width p.rows < c.args.column = search rules in
    rw (coil_beside p c.args.row c.args.column beside) (sym (append-nil c.args.self.now.coils.items))
