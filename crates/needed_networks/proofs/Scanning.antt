-- A scan of the networks that are kept.
use Rattle.std.proofs.Common.{◌≡◌, ℕ, suc, ◌+◌, List, [], ◌∷◌, ◌++◌, Bool, true, false, length, take, drop, length-take, length-drop, refl, sym, ap, ◌∙◌, subst, arith}
use Rattle.std.specs.List.{enumerate_from}
use Rattle.std.proofs.lemmas.List.{length-map}
use Rattle.std.proofs.lemmas.List.Sums.{sum_by-cons}
use Rattle.std.proofs.Math.Seq.{take-append_seam, drop-append_seam}
use Rattle.network.specs.declared.element.Element.{Element}
use Rattle.network.specs.Links.{Diagram}
use Rattle.declared_names.specs.declared.declarations.Declaration.{Declaration}
use Rattle.scan_steps.specs.declared.slot.Slot.{Slot}
use Rattle.power_flow.specs.Meaning.{Moment, moment, NetworkMeaning, next_memory}
use Rattle.power_flow.specs.Scan.{ScanMeaning}
use Rattle.needed_networks.specs.Slices.{AreAgreed, Follows, SlicesFollow, kept_memories, kept_networks, memory_count}
use Rattle.needed_networks.proofs.Keeping.{Keeps, keeps}
use Rattle.needed_networks.proofs.Leaving.{leaves}

length_enumerated : (n : ℕ) (es : List Element) → length (enumerate_from n es) ≡ length es
length_enumerated n [] = refl
length_enumerated n (e ∷ es) = ap suc (length_enumerated (n + 1) es)

-- a network has a memory for each element
length_memories : (ds : List Declaration) (d : Diagram) (dt : ℕ) (old new : Moment) → NetworkMeaning ds d dt old new → length new.memories ≡ length d.elements
length_memories ds d dt old new m =
    ap length m.memories ∙ length-map (enumerate_from 0 d.elements) (λ e. next_memory ds old m.links e.0 e.1) ∙ length_enumerated 0 d.elements

memory_count-cons : (d : Diagram) (networks : List Diagram) → memory_count (d ∷ networks) ≡ length d.elements + memory_count networks
memory_count-cons d networks = sum_by-cons (λ (d : Diagram). length d.elements) d networks

front_of : (n : ℕ) (a b : List Bool) → length a ≡ n → take n (a ++ b) ≡ a
front_of n a b long = ap (λ k. take k (a ++ b)) (sym long) ∙ take-append_seam a b

back_of : (n : ℕ) (a b : List Bool) → length a ≡ n → drop n (a ++ b) ≡ b
back_of n a b long = ap (λ k. drop k (a ++ b)) (sym long) ∙ drop-append_seam a b

-- the memories of the first network, and of those behind it
first_many : (n rest : ℕ) (ms : List Bool) → length ms ≡ n + rest → length (take n ms) ≡ n
first_many n rest ms many = let t = length-take n ms in omega arith

later_many : (n rest : ℕ) (ms : List Bool) → length ms ≡ n + rest → length (drop n ms) ≡ rest
later_many n rest ms many = let t = length-drop n ms in omega arith

both_many : (n rest : ℕ) (ms : List Bool) → length (take n ms) ≡ n → length (drop n ms) ≡ rest → length ms ≡ n + rest
both_many n rest ms front back = let t = length-take n ms in let u = length-drop n ms in omega arith

-- a network, and the scan of those behind it
join_scan : (ds : List Declaration) (dt : ℕ) (d : Diagram) (networks : List Diagram) (ys mid others : List Slot) (a b a' b' : List Bool)
    → length a ≡ length d.elements → length a' ≡ length d.elements → NetworkMeaning ds d dt (moment ys a) (moment mid a') → ScanMeaning ds dt networks mid b others b'
    → ScanMeaning ds dt (d ∷ networks) ys (a ++ b) others (a' ++ b')
join_scan ds dt d networks ys mid others a b a' b' long long' here later = (
  mid,
  subst (λ m. NetworkMeaning ds d dt (moment ys m) (moment mid (take (length d.elements) (a' ++ b')))) (sym (front_of (length d.elements) a b long))
      (subst (λ m. NetworkMeaning ds d dt (moment ys a) (moment mid m)) (sym (front_of (length d.elements) a' b' long')) here),
  subst (λ m. ScanMeaning ds dt networks mid m others (drop (length d.elements) (a' ++ b'))) (sym (back_of (length d.elements) a b long))
      (subst (λ m. ScanMeaning ds dt networks mid b others m) (sym (back_of (length d.elements) a' b' long')) later),
)

-- one more network that is kept
kept_more : (ds : List Declaration) (dt : ℕ) (idle omitted behind : List Bool) (d : Diagram) (networks : List Diagram) (ms : List Bool) (slots' : List Slot) (ms' : List Bool) (xs ys mid : List Slot)
    → kept_networks omitted (d ∷ networks) ≡ d ∷ kept_networks behind networks
    → ((m : List Bool) → kept_memories omitted (d ∷ networks) m ≡ take (length d.elements) m ++ kept_memories behind networks (drop (length d.elements) m))
    → length ms ≡ memory_count (d ∷ networks)
    → NetworkMeaning ds d dt (moment xs (take (length d.elements) ms)) (moment mid (take (length d.elements) ms'))
    → (k : Keeps ds idle d dt ys (take (length d.elements) ms) (moment mid (take (length d.elements) ms')))
    → Follows ds dt idle behind networks (drop (length d.elements) ms) slots' (drop (length d.elements) ms') k.others
    → Follows ds dt idle omitted (d ∷ networks) ms slots' ms' ys
kept_more ds dt idle omitted behind d networks ms slots' ms' xs ys mid networks_are memories_are many meaning k rest =
    let front : length (take (length d.elements) ms) ≡ length d.elements = first_many (length d.elements) (memory_count networks) ms (many ∙ memory_count-cons d networks) in
    let front' : length (take (length d.elements) ms') ≡ length d.elements
    = length_memories ds d dt (moment xs (take (length d.elements) ms)) (moment mid (take (length d.elements) ms')) meaning in
    let whole = join_scan ds dt d (kept_networks behind networks) ys k.others rest.others' (take (length d.elements) ms) (kept_memories behind networks (drop (length d.elements) ms))
    (take (length d.elements) ms') (kept_memories behind networks (drop (length d.elements) ms')) front front' k.meaning rest.scan in
    record {
      others' = rest.others';
      scan = subst (λ (all : List Diagram). ScanMeaning ds dt all ys (kept_memories omitted (d ∷ networks) ms) rest.others' (kept_memories omitted (d ∷ networks) ms')) (sym networks_are)
          (subst (λ m. ScanMeaning ds dt (d ∷ kept_networks behind networks) ys m rest.others' (kept_memories omitted (d ∷ networks) ms')) (sym (memories_are ms))
          (subst
          (λ m'. ScanMeaning ds dt (d ∷ kept_networks behind networks) ys (take (length d.elements) ms ++ kept_memories behind networks (drop (length d.elements) ms)) rest.others' m')
          (sym (memories_are ms')) whole));
      agreed = rest.agreed;
      many = both_many (length d.elements) (memory_count networks) ms' front' rest.many ∙ sym (memory_count-cons d networks);
    }

pub slices_follow : SlicesFollow
slices_follow ds dt idle omitted [] slots ms slots' ms' others closed many agreed scan = record {
  others' = others;
  scan = (refl, refl);
  agreed = subst (λ s. AreAgreed idle s others) (sym scan.0) agreed;
  many = ap length scan.1 ∙ many;
}
slices_follow ds dt idle [] (d ∷ networks) slots ms slots' ms' others closed many agreed scan =
    let n = length d.elements in
    let k = keeps ds idle d dt slots others (take n ms) (moment scan.0 (take n ms')) (closed 0 d refl) agreed scan.1 in
    kept_more ds dt idle [] [] d networks ms slots' ms' slots others scan.0 refl (λ m. refl) many scan.1 k
    (slices_follow ds dt idle [] networks scan.0 (drop n ms) slots' (drop n ms') k.others (λ j e at. closed (suc j) e at) (later_many n (memory_count networks) ms (many ∙ memory_count-cons d networks)) k.agreed scan.2)
slices_follow ds dt idle (false ∷ omitted) (d ∷ networks) slots ms slots' ms' others closed many agreed scan =
    let n = length d.elements in
    let k = keeps ds idle d dt slots others (take n ms) (moment scan.0 (take n ms')) (closed 0 d refl) agreed scan.1 in
    kept_more ds dt idle (false ∷ omitted) omitted d networks ms slots' ms' slots others scan.0 refl (λ m. refl) many scan.1 k
    (slices_follow ds dt idle omitted networks scan.0 (drop n ms) slots' (drop n ms') k.others (λ j e at. closed (suc j) e at) (later_many n (memory_count networks) ms (many ∙ memory_count-cons d networks)) k.agreed scan.2)
slices_follow ds dt idle (true ∷ omitted) (d ∷ networks) slots ms slots' ms' others closed many agreed scan =
    let n = length d.elements in
    let left = leaves ds idle d dt (moment slots (take n ms)) (moment scan.0 (take n ms')) others (closed 0 d refl) agreed scan.1 in
    let rest = slices_follow ds dt idle omitted networks scan.0 (drop n ms) slots' (drop n ms') others (λ j e at. closed (suc j) e at) (later_many n (memory_count networks) ms (many ∙ memory_count-cons d networks)) left scan.2 in
    record {
      others' = rest.others';
      scan = rest.scan;
      agreed = rest.agreed;
      many = both_many n (memory_count networks) ms' (length_memories ds d dt (moment slots (take n ms)) (moment scan.0 (take n ms')) scan.1) rest.many ∙ sym (memory_count-cons d networks);
    }
