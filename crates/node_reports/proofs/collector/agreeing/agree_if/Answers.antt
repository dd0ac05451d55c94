-- They agree exactly where the checks pass.
use Rattle.std.proofs.Common.{ℕ, List, sym, subst, arith}
use Rattle.std.proofs.lemmas.Bool.{false≢true}
use Rattle.node_reports.specs.Steps.Collecting.{AllBegin}
use Rattle.node_reports.proofs.Reporting.{agree_of, begin_of}
use Rattle.node_reports.proofs.collector.agreeing.agree_if.Goals as goal

pub returns-then-journals-resources : goal.returns-then-journals-resources
returns-then-journals-resources c = (λ yes. absurd (false≢true yes), λ agree. (let many = agree.many in absurd (omega arith)))

pub returns-then-not-all_begin : goal.returns-then-not-all_begin
returns-then-not-all_begin c = (
  λ yes. absurd (false≢true yes),
  λ agree. absurd (false≢true (c.if-not-all_begin.ensures.1 (subst (λ (first : List ℕ). AllBegin first c.args.journals.now) (sym c.first.ensures) (begin_of c.args.plant.now c.args.book.now c.args.journals.now agree)))),
)

pub returns : goal.returns
returns c =
    let begin : AllBegin c.args.book.now.first c.args.journals.now = subst (λ (first : List ℕ). AllBegin first c.args.journals.now) c.first.ensures (c.all_begin.ensures.0 c.if-not-all_begin.false) in (
      λ yes. agree_of c.args.plant.now c.args.book.now c.args.journals.now (omega arith) begin (c.requires.0 yes),
      λ agree. c.requires.1 agree.in_book,
    )
