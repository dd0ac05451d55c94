use Rattle.std.proofs.Common.{◌+◌, length, sym, ap, ◌∙◌}
use Rattle.std.proofs.lemmas.List.{length_push, take_all}
use Rattle.ladder_systems.proofs.Pushing.{append_nil, marked_more, quiet_more}
use Rattle.ladder_systems.proofs.state_bits.memory_signals.Goals as goal

pub loop-mark-init : goal.loop-mark-init
loop-mark-init c = record {
  quiet = λ v agrees. (agrees, rw c.new-memories.ensures.items tt);
  bits = sym (append_nil c.args.bits.now.items);
  long = ap length c.new-memories.ensures.items;
}

pub loop-mark-preserved : goal.loop-mark-preserved
loop-mark-preserved c =
    let marks = c.args.marks.now in
    let i = c.loop-mark.mark-index in
    let lt = c.loop-mark-test.true in
    record {
      quiet = λ v agrees.
          let here = c.in_ok-signal.ensures.quiet v agrees in
          let was = c.loop-mark.invariant.quiet v here.0 in
          (was.0, quiet_more v marks i _ c.loop-mark.memories.items _ c.in_ok-signal.signal lt was.1 here.1 c.in_ok-push_signal.ensures);
      bits = marked_more marks i _ c.args.bits.now.items c.loop-mark.bits.items _ c.loop-mark.memories.items _ c.in_ok-signal.signal lt c.loop-mark.invariant.long c.loop-mark.invariant.bits
          c.in_ok-signal.ensures.bits c.in_ok-push_signal.ensures;
      long = ap length c.in_ok-push_signal.ensures ∙ length_push c.loop-mark.memories.items c.in_ok-signal.signal ∙ ap (λ n. n + 1) c.loop-mark.invariant.long;
    }

pub returns-clause-quiet : goal.returns-clause-quiet
returns-clause-quiet c = rw (take_all c.loop-mark.mark-index c.args.marks.now c.loop-mark-test.false) at c.loop-mark.invariant.quiet

pub returns-clause-bits : goal.returns-clause-bits
returns-clause-bits c = rw (take_all c.loop-mark.mark-index c.args.marks.now c.loop-mark-test.false) at c.loop-mark.invariant.bits
