-- A network that is kept, from other slots that agree where it matters.
use Rattle.std.proofs.Common.{◌≡◌, ℕ, inl, inr, List, [], ◌∷◌, Bool, length, slice_get, set, refl, sym, ◌∙◌, subst}
use Rattle.network.specs.declared.element.Element.TheVariants.{Box}
use Rattle.network.specs.Links.{Diagram}
use Rattle.std_blocks.specs.declared.value.Value.{Value}
use Rattle.declared_names.specs.declared.declarations.Declaration.{Declaration}
use Rattle.scan_steps.specs.declared.slot.Slot.{Slot}
use Rattle.scan_steps.specs.declared.slot.Slot.TheVariants.{Variable}
use Rattle.power_flow.specs.Meaning.{Moment, moment, AreLinks, BlocksStep, NetworkMeaning, stored, stores, first_place}
use Rattle.needed_networks.specs.Needs.{IsIdle, IsInside}
use Rattle.needed_networks.specs.Slices.{AreAgreed}
use Rattle.needed_networks.proofs.Values.{ReadsAlike, ShowsAlike, reads_alike, shows_alike, reads_back, shows_back, memories_same, stores_same}
use Rattle.needed_networks.proofs.Power.{power_from, inputs_from}
use Rattle.needed_networks.proofs.Merging.{merged, length_merged, merged_idle, merged_busy, idle_cases, busy, not_idle_from, set_agreed}

-- stores in both lists, one after the other
pub stored_agreed : (idle : List Bool) (xs ys : List Slot) (all : List (ℕ × Value)) → AreAgreed idle xs ys → AreAgreed idle (stored xs all) (stored ys all)
stored_agreed idle xs ys [] agreed = agreed
stored_agreed idle xs ys (s ∷ all) agreed = stored_agreed idle (set xs s.0 (Variable s.1)) (set ys s.0 (Variable s.1)) all (set_agreed idle xs ys s.0 (Variable s.1) agreed)

-- the network reads the same
reads_agreed : (ds : List Declaration) (idle : List Bool) (d : Diagram) (xs ys : List Slot) → IsInside ds idle d → AreAgreed idle xs ys → ReadsAlike ds d xs ys
reads_agreed ds idle d xs ys inside agreed = reads_alike ds d xs ys (record { same = λ e k in' reads. agreed.same k (inside e k in' (inl reads)) })

-- its blocks make the same steps
steps_merged : (ds : List Declaration) (idle : List Bool) (d : Diagram) (between ys : List Slot) → IsInside ds idle d → length between ≡ length ys
    → ShowsAlike ds d between (merged idle between ys)
steps_merged ds idle d between ys inside long = shows_alike ds d between (merged idle between ys) (record {
  same = λ b k in' at. sym (merged_busy idle between ys k (busy idle k (inside (Box b) k in' (inr (inl at)))) long);
})

blocks_merged : (ds : List Declaration) (idle : List Bool) (d : Diagram) (dt : ℕ) (xs ys between : List Slot) (ms : List Bool) → IsInside ds idle d → AreAgreed idle xs ys
    → BlocksStep ds d dt (moment xs ms) between → BlocksStep ds d dt (moment ys ms) (merged idle between ys)
blocks_merged ds idle d dt xs ys between ms inside agreed step = record {
  same_length = length_merged idle between ys;
  stepped = λ b k i in' at was.
      let matters : IsIdle idle k → ⊥ = inside (Box b) k in' (inr (inl at)) in
      let s = step.stepped b k i in' at (agreed.same k matters ∙ was) in
      (s.0, inputs_from ds d xs ys between (merged idle between ys) ms b i.state.block s.0 reads steps in' s.1, merged_busy idle between ys k (busy idle k matters) long ∙ s.2);
  others = λ k none. elim (idle_cases idle k) [
    | inl on ↦ merged_idle idle between ys k on
    | inr off ↦
        let agree : slice_get xs k ≡ slice_get ys k = agreed.same k (not_idle_from idle k off) in
        merged_busy idle between ys k off long ∙ step.others k (λ b i in' at was. none b i in' at (sym agree ∙ was)) ∙ agree
  ];
}
  where
    long : length between ≡ length ys
    long = step.same_length ∙ sym agreed.long

    reads : ReadsAlike ds d xs ys
    reads = reads_agreed ds idle d xs ys inside agreed

    steps : ShowsAlike ds d between (merged idle between ys)
    steps = steps_merged ds idle d between ys inside long

pub merged_agreed : (idle : List Bool) (between ys : List Slot) → length between ≡ length ys → AreAgreed idle between (merged idle between ys)
merged_agreed idle between ys long = record {
  long = length_merged idle between ys ∙ sym long;
  same = λ k matters. sym (merged_busy idle between ys k (busy idle k matters) long);
}

-- the network's meaning, from the other slots
pub record Keeps (ds : List Declaration) (idle : List Bool) (d : Diagram) (dt : ℕ) (ys : List Slot) (ms : List Bool) (new : Moment) : Type 0 where
  pub others : List Slot
  pub meaning : NetworkMeaning ds d dt (moment ys ms) (moment others new.memories)
  pub agreed : AreAgreed idle new.slots others

links_merged : (ds : List Declaration) (idle : List Bool) (d : Diagram) (xs ys between : List Slot) (ms links : List Bool) → IsInside ds idle d → AreAgreed idle xs ys → length between ≡ length ys
    → AreLinks ds d (moment xs ms) between links → AreLinks ds d (moment ys ms) (merged idle between ys) links
links_merged ds idle d xs ys between ms links inside agreed long power =
    let reads = reads_agreed ds idle d xs ys inside agreed in
    let steps = steps_merged ds idle d between ys inside long in
    record {
      same_length = power.same_length;
      power = λ k e at.
          let was = power.power k e at in (
            (λ on. power_from ds d xs ys between (merged idle between ys) ms reads steps (first_place e) (was.0 on)),
            (λ p. was.1 (power_from ds d ys xs (merged idle between ys) between ms (reads_back ds d xs ys reads) (shows_back ds d between (merged idle between ys) steps) (first_place e) p)),
          );
    }

pub keeps : (ds : List Declaration) (idle : List Bool) (d : Diagram) (dt : ℕ) (xs ys : List Slot) (ms : List Bool) (new : Moment) → IsInside ds idle d → AreAgreed idle xs ys
    → NetworkMeaning ds d dt (moment xs ms) new → Keeps ds idle d dt ys ms new
keeps ds idle d dt xs ys ms new inside agreed m =
    let long : length m.between ≡ length ys = m.blocks.same_length ∙ sym agreed.long in
    let steps = steps_merged ds idle d m.between ys inside long in
    let reads = reads_agreed ds idle d xs ys inside agreed in
    record {
      others = stored (merged idle m.between ys) (stores ds d (moment ys ms) (merged idle m.between ys) m.links);
      meaning = record {
        between = merged idle m.between ys;
        blocks = blocks_merged ds idle d dt xs ys m.between ms inside agreed m.blocks;
        links = m.links;
        power = links_merged ds idle d xs ys m.between ms m.links inside agreed long m.power;
        memories = m.memories ∙ memories_same ds xs ys ms m.links 0 d.elements reads.contacts;
        slots = refl;
      };
      agreed = subst (λ s. AreAgreed idle s (stored (merged idle m.between ys) (stores ds d (moment ys ms) (merged idle m.between ys) m.links))) (sym m.slots)
          (subst (λ all. AreAgreed idle (stored m.between (stores ds d (moment xs ms) m.between m.links)) (stored (merged idle m.between ys) all))
          (stores_same ds d xs ys m.between (merged idle m.between ys) ms m.links steps)
          (stored_agreed idle m.between (merged idle m.between ys) (stores ds d (moment xs ms) m.between m.links) (merged_agreed idle m.between ys long)));
    }
