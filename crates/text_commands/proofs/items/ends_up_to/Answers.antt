use Rattle.std.proofs.Common.{ℕ, arith, rules, tests, leb}
use Rattle.std.proofs.lemmas.Bool.{leb-true, leb-false}
use Rattle.std.proofs.lemmas.List.Sorted.{IsPartitionPoint-from_clause, IsPartitionedBy-leb}
use Rattle.text_commands.proofs.items.ends_up_to.Goals as goal

pub returns-clause-before : goal.returns-clause-before
returns-clause-before c =
    let ends = c.args.ends.now in
    let found = IsPartitionPoint-from_clause (λ (end : ℕ). leb end c.args.place) ends c.partition_point.result c.partition_point.ensures.partitioned
    (IsPartitionedBy-leb (λ (end : ℕ). end) ends c.args.place c.requires) (λ a r f k. search (rules, tests)) in
    λ k h. leb-true _ _ (found.0 k 0 (omega arith) h)

pub returns-clause-behind : goal.returns-clause-behind
returns-clause-behind c =
    let ends = c.args.ends.now in
    let found = IsPartitionPoint-from_clause (λ (end : ℕ). leb end c.args.place) ends c.partition_point.result c.partition_point.ensures.partitioned
    (IsPartitionedBy-leb (λ (end : ℕ). end) ends c.args.place c.requires) (λ a r f k. search (rules, tests)) in
    λ k h l. leb-false _ _ (found.1 k 0 h l)
