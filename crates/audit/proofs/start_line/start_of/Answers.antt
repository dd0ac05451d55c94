-- What wasn't read, or wasn't written so, is no START.
use Rattle.std.proofs.Common.{◌∙◌, List, IsTrue, sym, subst}
use Rattle.std_blocks.specs.declared.value.Value.{Value}
use Rattle.audit.specs.JournalLines.{IsStart}
use Rattle.audit.proofs.Starts.{no_start_read, another_start}
use Rattle.audit.proofs.start_line.start_of.Goals as goal

pub returns-in_default : goal.returns-in_default
returns-in_default c = no_start_read c.args.plant.now c.args.resource c.args.line.now (rw c.in_default.is at c.in_ok-incarnation.ensures)

pub returns-else-branch : goal.returns-else-branch
returns-else-branch c =
    another_start c.args.plant.now c.args.resource c.in-Some.incarnation c.in-Some.kept.items c.args.line.now (rw c.in-Some.is at c.in_ok-incarnation.ensures)
    (λ is.
    let written : IsTrue c.in_ok-is_start.field-0 = c.in_ok-is_start.ensures.1 (subst (λ (kept : List (List Value)). IsStart c.args.plant.now c.args.resource c.in-Some.incarnation kept c.args.line.now) (sym c.as_slice.ensures.value) is) in
    let both = sym written ∙ c.if-branch.false in
    cc)
