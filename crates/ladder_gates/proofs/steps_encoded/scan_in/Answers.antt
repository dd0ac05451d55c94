use Rattle.std.proofs.Common.{refl, ap, ◌∙◌}
use Rattle.scan_gates.specs.Encoded.{bits_at, pass_at}
use Rattle.power_flow.specs.Steps.BoxStores.{kinds_stored}
use Rattle.power_flow.specs.Steps.CoilStores.{bound_stores}
use Rattle.ladder_gates.proofs.Bits.{bits_long, instances_long}
use Rattle.ladder_gates.proofs.steps_encoded.scan_in.Goals as goal

pub pass_signals-requires-clause-steps : goal.pass_signals-requires-clause-steps
pass_signals-requires-clause-steps c = rw c.requires.links c.requires.steps

pub returns : goal.returns
returns c = λ v agrees.
    let coils = c.in_ok-store_coils.ensures v agrees in
    let passed = c.in_ok-pass_signals.ensures v coils.0 in
    let stores = bound_stores c.args.coils.now 0 (bits_at v c.pass_signals.new.links) (bits_at v c.pass_signals.new.memories) in (
      passed.0,
      record {
        first = pass_at v c.args.rows.now c.args.memories.now c.args.links.now c.args.results.now;
        last = pass_at v c.pass_signals.new.rows c.pass_signals.new.memories c.pass_signals.new.links c.pass_signals.new.results;
        passed = passed.1;
        memories_are = refl;
        rows_long = bits_long v c.args.rows.now;
        links_long = bits_long v c.args.links.now ∙ c.requires.links;
        results_long = instances_long v c.args.results.now ∙ c.requires.results;
        stored = coils.1.0 ∙ ap (λ s. kinds_stored s stores) (c.store_boxes.ensures v coils.0);
        kept = coils.1.1;
      },
    )
