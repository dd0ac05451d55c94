use Rattle.std.proofs.Common.{◌++◌, length, ap, sym, ◌∙◌}
use Rattle.gates.specs.Signals.{signal_value}
use Rattle.scan_gates.specs.Encoded.{bits_at}
use Rattle.scan_gates.specs.States.{slot_signals, width_of}
use Rattle.scan_gates.proofs.StateBits.{like_many, slot_chosen, so_many}
use Rattle.scan_gates.proofs.states.chosen.Goals as goal

pub chosen_signals-requires : goal.chosen_signals-requires
chosen_signals-requires c =
    let first = c.args.first.now in
    let second = c.args.second.now in
    let one = c.as_slice-of_first.ensures.value ∙ c.in_ok-push_signals.ensures ∙ ap (λ l. l ++ slot_signals first) c.new-one.ensures.items in
    let other = c.as_slice-of_second.ensures.value ∙ c.in_ok-push_signals-2.ensures
    ∙ ap (λ l. l ++ slot_signals second) c.new-other.ensures.items in
    ap length one ∙ like_many first second c.requires ∙ sym (ap length other)

pub of_signals-new-requires : goal.of_signals-new-requires
of_signals-new-requires c =
    let first = c.args.first.now in
    let one = c.as_slice-of_first.ensures.value ∙ c.in_ok-push_signals.ensures ∙ ap (λ l. l ++ slot_signals first) c.new-one.ensures.items in
    ap length c.as_slice-signals.ensures.value ∙ c.in_ok-all.ensures.long ∙ ap length one ∙ so_many first
    ∙ ap width_of (sym c.shape.ensures)

pub returns-clause-built : goal.returns-clause-built
returns-clause-built c = λ v agrees.
    let first = c.args.first.now in
    let second = c.args.second.now in
    let chosen = c.in_ok-all.ensures.built v agrees in
    let one = c.as_slice-of_first.ensures.value ∙ c.in_ok-push_signals.ensures ∙ ap (λ l. l ++ slot_signals first) c.new-one.ensures.items in
    let other = c.as_slice-of_second.ensures.value ∙ c.in_ok-push_signals-2.ensures
    ∙ ap (λ l. l ++ slot_signals second) c.new-other.ensures.items in (
      chosen.0,
      slot_chosen v (signal_value v c.args.condition) first second c.of_signals-new.result c.as_slice-of_first.result.now
          c.as_slice-of_second.result.now c.as_slice-signals.result.now c.requires (sym c.shape.ensures ∙ sym c.of_signals-new.ensures.shape)
          c.of_signals-new.ensures.signals one other (ap (bits_at v) c.as_slice-signals.ensures.value ∙ chosen.1),
    )
