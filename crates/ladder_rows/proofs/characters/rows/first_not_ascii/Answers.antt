use Rattle.std.proofs.Common.{ℕ, IsFalse, arith, below_more}
use Rattle.ladder_rows.specs.Faults.{not_ascii}
use Rattle.ladder_rows.proofs.Rows.TextRows.{not_ascii-in_row}
use Rattle.ladder_rows.proofs.Rows.Widths.{not_ascii_found}
use Rattle.ladder_rows.proofs.Rows.FirstPlaces.{found_first}
use Rattle.ladder_rows.proofs.characters.rows.first_not_ascii.Goals as goal

pub loop-row-preserved : goal.loop-row-preserved
loop-row-preserved c =
    let d = c.args.rows.now in
    let here : (k : ℕ) → IsFalse (not_ascii d c.loop-row.row k) =
    λ k. not_ascii-in_row d c.loop-row.row k c.index-rows-row.result c.index-rows-row.is (omega arith) (c.in_default.ensures.none k) in
    λ r k h. below_more (λ (r : ℕ). (k : ℕ) → IsFalse (not_ascii d r k)) c.loop-row.row (λ r h k. c.loop-row.invariant r k h) here r h k

pub returns-in-Some-clause-some : goal.returns-in-Some-clause-some
returns-in-Some-clause-some c =
    not_ascii_found c.args.rows.now c.loop-row.row c.in-Some.column c.index-rows-row.result c.index-rows-row.is (omega arith) c.in-Some.ensures.inside c.in-Some.ensures.some

pub returns-in-Some-clause-first : goal.returns-in-Some-clause-first
returns-in-Some-clause-first c =
    let d = c.args.rows.now in
    found_first d (not_ascii d) c.loop-row.row c.in-Some.column (λ i j h k. c.loop-row.invariant i j h)
    (λ k h. not_ascii-in_row d c.loop-row.row k c.index-rows-row.result c.index-rows-row.is (omega arith) (c.in-Some.ensures.before k h))
    (not_ascii_found d c.loop-row.row c.in-Some.column c.index-rows-row.result c.index-rows-row.is (omega arith) c.in-Some.ensures.inside c.in-Some.ensures.some)
