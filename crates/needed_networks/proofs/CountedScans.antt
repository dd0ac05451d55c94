-- A scan of the networks that are kept, from slots with other counts beyond their limits.
use Rattle.std.proofs.Common.{◌≡◌, ℕ, suc, inl, inr, List, [], ◌∷◌, Bool, true, false, Some, length, take, drop, slice_get, refl, sym, ap, ◌∙◌, subst}
use Rattle.std.specs.Prelude.{slice_index_or}
use Rattle.std.specs.Option.{option_map}
use Rattle.network.specs.Links.{Diagram}
use Rattle.declared_names.specs.declared.declarations.Declaration.{Declaration}
use Rattle.scan_steps.specs.declared.slot.Slot.{Slot}
use Rattle.power_flow.specs.Meaning.{moment}
use Rattle.power_flow.specs.Scan.{ScanMeaning}
use Rattle.needed_networks.specs.declared.count_limit.CountLimit.{CountLimit}
use Rattle.needed_networks.specs.Counts.{AreCounters, HidesCounts, limit_at, limited_slot}
use Rattle.needed_networks.specs.Slices.{AreAgreedWithin, CountsFollow, kept_memories, kept_networks}
use Rattle.needed_networks.proofs.Counted.{counts}
use Rattle.needed_networks.proofs.Keeping.{merged_agreed}
use Rattle.needed_networks.proofs.Merging.{merged, length_merged, merged_idle, merged_busy, idle_cases, not_idle_from}
use Rattle.needed_networks.proofs.Near.{AreNear}
use Rattle.needed_networks.proofs.Scanning.{slices_follow}

-- each network hides counts
abbrev AllHide : List Declaration → List CountLimit → List Diagram → Type 0
AllHide ds limits [] = Unit {0}
AllHide ds limits (d ∷ networks) = HidesCounts ds limits d × AllHide ds limits networks

hidden_kept : (ds : List Declaration) (limits : List CountLimit) (omitted : List Bool) (networks : List Diagram)
    → ((k : ℕ) (d : Diagram) → slice_get networks k ≡ Some d → slice_index_or omitted k false ≡ false → HidesCounts ds limits d) → AllHide ds limits (kept_networks omitted networks)
hidden_kept ds limits omitted [] hidden = tt
hidden_kept ds limits [] (d ∷ networks) hidden = (hidden 0 d refl refl, hidden_kept ds limits [] networks (λ k e at off. hidden (suc k) e at off))
hidden_kept ds limits (false ∷ omitted) (d ∷ networks) hidden = (hidden 0 d refl refl, hidden_kept ds limits omitted networks (λ k e at off. hidden (suc k) e at off))
hidden_kept ds limits (true ∷ omitted) (d ∷ networks) hidden = hidden_kept ds limits omitted networks (λ k e at off. hidden (suc k) e at off)

-- a scan of networks that all hide counts
scans_near : (ds : List Declaration) (dt : ℕ) (limits : List CountLimit) (networks : List Diagram) (slots : List Slot) (ms : List Bool) (slots' : List Slot) (ms' : List Bool) (others : List Slot)
    → AllHide ds limits networks → AreNear limits slots others → AreCounters limits slots → ScanMeaning ds dt networks slots ms slots' ms'
    → (others' : List Slot) × ScanMeaning ds dt networks others ms others' ms' × AreNear limits slots' others'
scans_near ds dt limits [] slots ms slots' ms' others hide near counters scan = (others, (refl, scan.1), subst (λ s. AreNear limits s others) (sym scan.0) near)
scans_near ds dt limits (d ∷ networks) slots ms slots' ms' others hide near counters scan =
    let n = length d.elements in
    let one = counts ds limits d dt slots others (take n ms) (moment scan.0 (take n ms')) hide.0 near counters scan.1 in
    let rest = scans_near ds dt limits networks scan.0 (drop n ms) slots' (drop n ms') one.others hide.1 one.near one.counters scan.2 in
    (rest.0, (one.others, one.meaning, rest.1), rest.2)

-- the slots where they matter, and the others where they don't
module _ (idle : List Bool) (limits : List CountLimit) (slots others : List Slot) (alike : AreAgreedWithin idle limits slots others) where
  mixed_near : AreNear limits (merged idle slots others) others
  mixed_near = record {
    long = sym (length_merged idle slots others);
    same = λ k. elim (idle_cases idle k) [
      | inl on ↦ ap (option_map (limited_slot (limit_at limits k))) (merged_idle idle slots others k on)
      | inr off ↦ ap (option_map (limited_slot (limit_at limits k))) (merged_busy idle slots others k off (sym alike.long)) ∙ alike.same k (not_idle_from idle k off)
    ];
  }

  mixed_counters : AreCounters limits slots → AreCounters limits others → AreCounters limits (merged idle slots others)
  mixed_counters counters counters' k i at = elim (idle_cases idle k) [
    | inl on ↦ counters' k i (sym (merged_idle idle slots others k on) ∙ at)
    | inr off ↦ counters k i (sym (merged_busy idle slots others k off (sym alike.long)) ∙ at)
  ]

pub counts_follow : CountsFollow
counts_follow ds dt idle omitted limits networks slots ms slots' ms' others closed limited counters counters' many alike scan =
    let mid = merged idle slots others in
    let one = slices_follow ds dt idle omitted networks slots ms slots' ms' mid closed many (merged_agreed idle slots others (sym alike.long)) scan in
    let two = scans_near ds dt limits (kept_networks omitted networks) mid (kept_memories omitted networks ms) one.others' (kept_memories omitted networks ms') others
    (hidden_kept ds limits omitted networks limited.hidden) (mixed_near idle limits slots others alike) (mixed_counters idle limits slots others alike counters counters') one.scan in
    record {
      others' = two.0;
      scan = two.1;
      agreed = record {
        long = two.2.long ∙ one.agreed.long;
        same = λ k matters. ap (option_map (limited_slot (limit_at limits k))) (one.agreed.same k matters) ∙ two.2.same k;
      };
    }
