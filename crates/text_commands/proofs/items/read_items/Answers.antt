use Rattle.text_commands.specs.Rows.{texts}
use Rattle.text_commands.proofs.SeriesWords.{too_many}
use Rattle.text_commands.proofs.items.read_items.Goals as goal

pub returns-in_default-2 : goal.returns-in_default-2
returns-in_default-2 c = λ others are.
    let read = rw c.deref.ensures.value at c.in_ok-items.ensures in
    let mine = rw c.in-Some.is at read in
    let many = rw c.in_default-2.is at (rw c.deref-2.ensures.value at c.in_ok-ends.ensures) in
    too_many c.args.kind c.args.text.now (texts c.in_ok-parts.parts.items) c.in-Some.items.items others c.in_ok-parts.ensures mine many are
