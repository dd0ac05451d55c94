use Rattle.std.proofs.Common.{◌<◌, length, sym, ◌∙◌, arith}
use Rattle.std.proofs.lemmas.List.{at_drop_all}
use Rattle.scan_gates.specs.Encoded.{bits_at, slots_at}
use Rattle.power_flow.specs.Steps.BoxStores.{kinds_stored}
use Rattle.power_flow.specs.Steps.CoilStores.{bound_stores, bound_memories}
use Rattle.ladder_gates.proofs.Bits.{bit_there}
use Rattle.ladder_gates.proofs.Storing.{coils_more_by}
use Rattle.ladder_gates.proofs.coil_stores.store_coils.Goals as goal

pub loop-k-preserved : goal.loop-k-preserved
loop-k-preserved c =
    let k = c.loop-k.k in
    let more = c.loop-k-test.true in
    let many = c.requires.links in
    let less : k < length c.args.links.now = omega arith in
    record {
      long = c.store_coil.auto.memories ∙ c.loop-k.invariant.long;
      built = λ v agrees.
          let stored = c.in_ok-store_coil.ensures v agrees in
          let was = c.loop-k.invariant.built v stored.0 in
          let next = coils_more_by c.args.coils.now k _ _ (bits_at v c.args.links.now) (bits_at v c.loop-k.memories) (bits_at v c.store_coil.new.memories)
          (slots_at v c.loop-k.slots) (slots_at v c.store_coil.new.slots) more (bit_there v c.args.links.now k _ less) stored.1.0 stored.1.1 in
          (was.0, next.0 ∙ was.1, next.1 ∙ was.2);
    }

pub returns : goal.returns
returns c = λ v agrees.
    let was = c.loop-k.invariant.built v agrees in
    let k = c.loop-k.k in
    let coils = c.args.coils.now in
    let links = bits_at v c.args.links.now in
    let memories = bits_at v c.loop-k.memories in
    let end = c.loop-k-test.false in (
      was.0,
      (
        sym (at_drop_all (λ l. kinds_stored (slots_at v c.loop-k.slots) (bound_stores l k links memories)) coils k end) ∙ was.1,
        sym (at_drop_all (λ l. bound_memories l k links memories) coils k end) ∙ was.2,
      ),
    )
