use Rattle.std.proofs.Common.{arith, rules, tests, leb}
use Rattle.std.proofs.lemmas.Bool.{leb-true, leb-false}
use Rattle.std.proofs.lemmas.List.Sorted.{IsPartitionPoint-from_clause, IsPartitionedBy-leb}
use Rattle.drawings.specs.declared.drawn_box.DrawnPin.{DrawnPin}
use Rattle.ladder_rows.specs.Steps.RowBoxes.{row_of_pin}
use Rattle.ladder_rows.proofs.boxes.outline.count_to.Goals as goal

pub returns-clause-above : goal.returns-clause-above
returns-clause-above c =
    let pins = c.args.pins.now in
    let found = IsPartitionPoint-from_clause (λ (q : DrawnPin). leb q.row c.args.row) pins c.partition_point.result c.partition_point.ensures.partitioned
    (IsPartitionedBy-leb row_of_pin pins c.args.row c.requires) (λ a r f k. search (rules, tests)) in
    λ k d h. leb-true _ _ (found.0 k d (omega arith) h)

pub returns-clause-behind : goal.returns-clause-behind
returns-clause-behind c =
    let pins = c.args.pins.now in
    let found = IsPartitionPoint-from_clause (λ (q : DrawnPin). leb q.row c.args.row) pins c.partition_point.result c.partition_point.ensures.partitioned
    (IsPartitionedBy-leb row_of_pin pins c.args.row c.requires) (λ a r f k. search (rules, tests)) in
    λ k d h l. leb-false _ _ (found.1 k d h l)
