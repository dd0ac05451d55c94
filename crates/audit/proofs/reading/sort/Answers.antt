-- The runs are sorted by their incarnations.
use Rattle.std.proofs.Common.{◌≡◌, rules, tests}
use Rattle.std.proofs.lemmas.List.Sorted.{IsNonDecreasingBy-from_sort_by_key, answers_always}
use Rattle.audit.specs.declared.run.Run.{Run}
use Rattle.audit.proofs.reading.sort.Goals as goal

pub returns : goal.returns
returns c = record {
  rising = IsNonDecreasingBy-from_sort_by_key (λ (r : Run). r.incarnation) c.sort_by_key.new.self.items c.in_ok-sort_by_key.ensures.sorted (λ a r f k. search (rules, tests));
  stable = c.in_ok-sort_by_key.ensures.stable (λ (r : Run). r.incarnation) (answers_always _ (λ a r. r ≡ a.0.now.incarnation) _ (λ f a r g k. search (rules, tests)));
}
