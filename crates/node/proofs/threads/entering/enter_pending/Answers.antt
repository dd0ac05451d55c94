-- What the evaluation left was handed to the keeper.
use Rattle.std.proofs.Common.{◌∙◌, sym, subst}
use Rattle.evaluation.specs.Meaning.{Evaluated}
use Rattle.node_reports.specs.declared.step.Step.TheVariants.{Made}
use Rattle.node_reports.specs.Journals.{with_step}
use Rattle.node.specs.Steps.Keeping.{Keeps, KeepsMade}
use Rattle.node.proofs.Kept.{keeps_made}
use Rattle.node.proofs.threads.entering.enter_pending.Goals as goal

pub returns-in-Ok-clause-keeps : goal.returns-in-Ok-clause-keeps
returns-in-Ok-clause-keeps g c = λ kept.
    let before = g.K.Keeper.kept_gives c.args.keeper.now in
    let now = g.K.Keeper.kept_gives c.keep_or_note.new.keeper in
    let old = c.args.noted.now in
    let new = c.keep_or_note.new.noted in
    let plant = c.args.pending.core.plant in
    let j = c.args.pending.journal in
    let x = c.args.pending.made in
    subst (Keeps (g.K.Keeper.last c.keep_or_note.new.keeper) now plant new) (sym c.in-Ok.ensures.noted.noted)
    (subst (λ n. Keeps n now plant new (with_step j (Made x))) (sym c.keep_or_note.ensures.last)
    (keeps_made (g.K.Keeper.last c.args.keeper.now) before now plant old new j x c.frame.ensures.of_plant c.frame.ensures.own
    (subst (λ (y : Evaluated). KeepsMade before now old new y) (c.evaluation.ensures ∙ c.frame-2.ensures.value) c.keep_or_note.ensures.made) kept))
