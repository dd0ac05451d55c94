use Rattle.std.proofs.Common.{◌≡◌, ◌+◌, length, ap, ◌∙◌, arith}
use Rattle.std.proofs.lemmas.List.{length_push, take_all}
use Rattle.gates.specs.Signals.{signal_value}
use Rattle.scan_gates.specs.Encoded.{bits_at}
use Rattle.ladder_systems.proofs.Pushing.{cleared_more}
use Rattle.ladder_systems.proofs.restarting.cleared_memories.Goals as goal

pub loop-memory-preserved : goal.loop-memory-preserved
loop-memory-preserved c = record {
  built = λ v agrees.
      let and = c.in_ok-kept.ensures v agrees in
      let was = c.loop-memory.invariant.built v and.0 in (
        was.0,
        ap (bits_at v) c.in_ok-push.ensures.items
            ∙ cleared_more v (signal_value v c.args.condition) (signal_value v c.negated.result) c.args.memories.now c.loop-memory.cleared.items c.loop-memory.memory-index _ c.in_ok-kept.kept
            c.loop-memory-test.true was.1 and.1 (c.negated.ensures v),
      );
  long = ap length c.in_ok-push.ensures.items ∙ length_push c.loop-memory.cleared.items c.in_ok-kept.kept ∙ ap (λ n. n + 1) c.loop-memory.invariant.long;
}

pub returns-clause-cleared : goal.returns-clause-cleared
returns-clause-cleared c =
    let same : c.loop-memory.memory-index ≡ length c.args.memories.now = omega (arith, c.loop-memory.auto.memory-index-end, c.loop-memory-test.false) in
    rw (take_all c.loop-memory.memory-index c.args.memories.now c.loop-memory-test.false, same) at c.loop-memory.invariant.built
