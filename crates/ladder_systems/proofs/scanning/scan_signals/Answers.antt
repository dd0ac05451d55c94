use Rattle.std.proofs.Common.{◌≡◌, length, sum_by, ap, ◌∙◌, arith}
use Rattle.std.proofs.lemmas.List.{length-replicate}
use Rattle.network.specs.Links.{Diagram}
use Rattle.power_flow.specs.Meaning.{moment}
use Rattle.scan_gates.specs.Encoded.{bits_at, slots_at}
use Rattle.ladder_systems.specs.Steps.States.{none}
use Rattle.ladder_systems.proofs.Pushing.{written}
use Rattle.ladder_systems.proofs.Results.{on_ok}
use Rattle.ladder_systems.proofs.Scanned.{scan_declared, scan_made}
use Rattle.ladder_systems.proofs.Shapes.{of_any}
use Rattle.ladder_systems.proofs.scanning.scan_signals.Goals as goal

pub encode_scan-requires : goal.encode_scan-requires
encode_scan-requires c =
    rw (c.deref_mut-2.ensures.value, c.ladder-2.ensures) (c.in_ok-open.ensures.state.many
    ∙ length-replicate (sum_by (λ (d : Diagram). length d.elements) c.args.setup.now.ladder.networks) _)

pub returns-clause-scan : goal.returns-clause-scan
returns-clause-scan c = on_ok _ _ c.encode_scan.result (rw (c.deref_mut.ensures.value, c.deref_mut-2.ensures.value, c.ladder-2.ensures) at c.encode_scan.ensures) (λ built v agrees.
    let u = c.args.setup.now in
    let ds = u.ladder.declarations in
    let found = c.open.new.slots in
    let kept = c.open.new.memories in
    let scan = built v agrees in
    let opened = c.in_ok-open.ensures.found v scan.0 in
    let of = of_any c.kinds_are_shapes.ensures c.declared_are_like.ensures none v ds found.items c.in_ok-open.ensures.state.of in
    let meant = scan.1 of in
    let circuits = rw c.ladder.ensures at c.circuits-circuits.ensures in
    let slots_long : length c.encode_scan.new.slots ≡ found.len = omega (arith, c.encode_scan.auto.slots, ap length c.deref_mut.ensures.value, found.ok.0) in
    let memories_long : length c.encode_scan.new.memories ≡ kept.len = omega (arith, c.encode_scan.auto.memories, ap length c.deref_mut-2.ensures.value, kept.ok.0) in
    let left = scan_declared c.kinds_are_kept.ensures ds _ circuits.rails c.circuits-circuits.result.now (slots_at v found.items) (slots_at v c.encode_scan.new.slots)
    (bits_at v kept.items) (bits_at v c.encode_scan.new.memories) circuits.made (rw circuits.networks at meant) of in (
      opened.0,
      rw (written found.len c.encode_scan.new.slots found.items slots_long, written kept.len c.encode_scan.new.memories kept.items memories_long) (
        left,
        scan_made v u _ c.args.row.now (moment (slots_at v c.args.slots.now.items) (bits_at v c.args.memories.now.items)) found.items kept.items
            (moment (slots_at v c.encode_scan.new.slots) (bits_at v c.encode_scan.new.memories)) (c.in_ok-dt.ensures v scan.0 ∙ c.dt.ensures) c.requires.row opened.1.0 opened.1.1 meant,
      ),
    ))

pub returns-clause-memories : goal.returns-clause-memories
returns-clause-memories c =
    let kept = c.open.new.memories in
    let memories_long : length c.encode_scan.new.memories ≡ kept.len = omega (arith, c.encode_scan.auto.memories, ap length c.deref_mut-2.ensures.value, kept.ok.0) in
    let same : length c.encode_scan.new.memories ≡ length c.args.memories.now.items = omega (arith, memories_long, kept.ok.0, c.in_ok-open.ensures.state.many, c.requires.state.many) in
    on_ok _ _ c.encode_scan.result c.encode_scan.ensures (λ built. rw (written kept.len c.encode_scan.new.memories kept.items memories_long) same)
