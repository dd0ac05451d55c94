use Rattle.std.proofs.Common.{rules, ◌≡◌, ◌∙◌, ◌+◌, sym, get_or}
use Rattle.std.proofs.lemmas.List.Sorted.{answers_always}
use Rattle.warnings.specs.declared.warning.Warning.{Warning}
use Rattle.warnings.proofs.WarningOrder.{lt_is_before}
use Rattle.warnings.proofs.of_drawing.sort_warnings.Goals as goal

pub returns-clause-sorted : goal.returns-clause-sorted
returns-clause-sorted c = λ k d lo hi.
    let xs = c.sort_by_key.new.self.items in
    sym (lt_is_before (get_or xs (k + 1) d) (get_or xs k d))
    ∙ c.in_ok-sort_by_key.ensures.sorted (λ (v : Warning). (v.line, v.column)) (answers_always _ (λ a r. r ≡ (a.0.now.line, a.0.now.column)) _ (λ f a r f' q. search rules)) k d lo hi
