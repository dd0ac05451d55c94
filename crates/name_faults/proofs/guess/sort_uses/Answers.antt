use Rattle.std.proofs.Common.{rules, ◌≡◌, ◌∙◌, ◌+◌, sym, get_or}
use Rattle.std.specs.List.Sorted.{ties}
use Rattle.std.proofs.lemmas.List.Elements.{filter_agree}
use Rattle.std.proofs.lemmas.List.Sorted.{answers_always}
use Rattle.name_faults.specs.declared.name_use.NameUse.{NameUse}
use Rattle.name_faults.specs.Guess.{is_before}
use Rattle.name_faults.proofs.GuessedNames.{key_before, lt_is_before, ties_are}
use Rattle.name_faults.proofs.guess.sort_uses.Goals as goal

pub returns-clause-sorted : goal.returns-clause-sorted
returns-clause-sorted c = λ k d lo hi.
    let xs = c.sort_by_key.new.self.items in
    sym (lt_is_before (get_or xs (k + 1) d) (get_or xs k d))
    ∙ c.in_ok-sort_by_key.ensures.sorted (λ (u : NameUse). (u.row, u.column)) (answers_always _ (λ a r. r ≡ (a.0.now.row, a.0.now.column)) _ (λ f a r f' q. search rules)) k d lo hi

pub returns-clause-stable : goal.returns-clause-stable
returns-clause-stable c = λ x.
    let same = λ (y : NameUse). ties_are x y in
    filter_agree (ties is_before x) (ties key_before x) same c.sort_by_key.new.self.items
    ∙ c.in_ok-sort_by_key.ensures.stable (λ (u : NameUse). (u.row, u.column)) (answers_always _ (λ a r. r ≡ (a.0.now.row, a.0.now.column)) _ (λ f a r f' q. search rules)) x
    ∙ sym (filter_agree (ties is_before x) (ties key_before x) same c.args.uses.now.items)
