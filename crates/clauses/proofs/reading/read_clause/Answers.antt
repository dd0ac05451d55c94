use Rattle.std.proofs.Common.{false, refl}
use Rattle.clauses.specs.declared.literal.Literal.{Literal}
use Rattle.clauses.proofs.LiteralsOn.{false_more, unit_more}
use Rattle.clauses.proofs.reading.read_clause.Goals as goal
use Rattle.clauses.proofs.reading.read_clause.Goals.{then-not-is_false+in-Conflict, else-not-is_false}

pub loop-literal-preserved : goal.loop-literal-preserved
loop-literal-preserved c =
    let here : Literal = record { variable = 0; is_negated = false } in
    elim c.if-not-is_false.branch [
      | then-not-is_false+in-Conflict w ↦ rw w.reading-is (unit_more c.args.known.now c.args.clause.now c.loop-literal.literal-index _ c.loop-literal.reading c.loop-literal-test.true w.in-Conflict.is c.loop-literal.invariant)
      | else-not-is_false w ↦ rw w.reading-is (false_more c.args.known.now c.args.clause.now c.loop-literal.literal-index _ c.loop-literal.reading c.loop-literal-test.true (w.if-not-is_false.ensures.0 refl) c.loop-literal.invariant)
    ]
