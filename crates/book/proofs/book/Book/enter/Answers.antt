-- The entry's resource exists, so the ledger has its present incarnation.
use Rattle.std.proofs.Common.{◌≡◌, ◌∙◌, ◌++◌, ◌∷◌, [], false, Result, Ok, Err, OnOk, ap, sym, subst, arith, length, reverse}
use Rattle.std.specs.Prelude.{is_err}
use Rattle.std.proofs.lemmas.Bool.{false≢true}
use Rattle.book.specs.Fits.{Fits}
use Rattle.book.specs.Steps.Ledger.{TellsOneMore}
use Rattle.evaluation.specs.Meaning.{Evaluated}
use Rattle.book.specs.Book.{BookValue}
use Rattle.book.proofs.Ledgered.{present-long, newest-long, book-more}
use Rattle.book.proofs.Misfits.{memory-wanting}
use Rattle.book.proofs.book.Book.enter.Goals as goal

pub enter-requires-clause-present : goal.enter-requires-clause-present
enter-requires-clause-present c =
    let exists = c.in_default.ensures.numbered.exists in
    let one = ap (λ (x : Evaluated). x.name.task.resource) (c.evaluation-2.ensures ∙ sym c.evaluation.ensures) in
    let same = ap (λ (b : BookValue). length b.first) c.self.view_is in
    let long = present-long c.self.inside.first.items c.self.inside.entries.items c.self.inside.ledger c.self.invariant in
    omega (arith, exists, one, same, long)

pub enter-requires-clause-newest : goal.enter-requires-clause-newest
enter-requires-clause-newest c =
    let exists = c.in_default.ensures.numbered.exists in
    let one = ap (λ (x : Evaluated). x.name.task.resource) (c.evaluation-2.ensures ∙ sym c.evaluation.ensures) in
    let same = ap (λ (b : BookValue). length b.first) c.self.view_is in
    let long = newest-long c.self.inside.first.items c.self.inside.entries.items c.self.inside.ledger c.self.invariant in
    omega (arith, exists, one, same, long)

-- what holds of an Ok answer
ok-of : {T E : Type 0} (r : Result T E) (P : Type 0) → is_err r ≡ false → OnOk r P → P
ok-of (Ok x) P e p = p
ok-of (Err x) P e p = absurd (false≢true (sym e))

pub invariant_of-self-2 : goal.invariant_of-self-2
invariant_of-self-2 c =
    let items = c.in-Ok.ensures.items ∙ ap (λ es. es ++ c.args.frame ∷ []) c.reserve.ensures.items in
    let same : c.evaluation.result.now ≡ c.args.frame = c.evaluation.ensures in
    let again : c.evaluation-2.result.now ≡ c.args.frame = c.evaluation-2.ensures in
    let now : Fits c.self.inside.first.items (reverse c.self.inside.entries.items) c.args.frame =
    subst (λ (b : BookValue). Fits b.first (reverse b.entries) c.args.frame) (sym c.self.view_is) (subst (Fits c.args.self.now.first (reverse c.args.self.now.entries)) same c.in_default.ensures) in
    let told = ok-of c.enter.result (TellsOneMore c.self.inside.ledger c.enter.new.self c.evaluation-2.result.now c.len-index.result) (sym c.is_err-2.ensures.value ∙ c.if-is_err-2.false) c.enter.ensures.ok in
    book-more c.self.inside.first.items c.self.inside.entries.items c.push.new.self.items c.self.inside.ledger c.enter.new.self c.args.frame c.len-index.result items
    (let long = ap length c.reserve.ensures.items in let len = c.len-index.ensures in omega (arith, len, long, c.reserve.new.self.ok.0))
    c.self.invariant now (subst (λ x. TellsOneMore c.self.inside.ledger c.enter.new.self x c.len-index.result) again told)

-- what fits is refused for want of memory
pub returns-then-is_err-clause-misfit : goal.returns-then-is_err-clause-misfit
returns-then-is_err-clause-misfit c =
    memory-wanting c.args.self.now.first (reverse c.args.self.now.entries) c.args.frame
    (subst (Fits c.args.self.now.first (reverse c.args.self.now.entries)) c.evaluation.ensures c.in_default.ensures)

pub returns-then-is_err-2-clause-misfit : goal.returns-then-is_err-2-clause-misfit
returns-then-is_err-2-clause-misfit c =
    memory-wanting c.args.self.now.first (reverse c.args.self.now.entries) c.args.frame
    (subst (Fits c.args.self.now.first (reverse c.args.self.now.entries)) c.evaluation.ensures c.in_default.ensures)
