-- What networks leave, by their steps, one network after the other. What is known of a network by its steps, and that it
-- keeps kinds, is handed in: `power_flow` promises both.
use Rattle.std.proofs.Common.{◌≡◌, ℕ, ◌+◌, List, [], ◌∷◌, ◌++◌, Bool, length, map, sum_by, take, drop, refl, sym, ap, ◌∙◌, subst}
use Rattle.std.specs.List.{AllByRecursion}
use Rattle.std.proofs.lemmas.List.{drop-map, map-append, take-map}
use Rattle.std.proofs.lemmas.List.Sums.{sum_by-cons}
use Rattle.std.proofs.Math.Seq.{take-append_seam, drop-append_seam}
use Rattle.drawings.specs.declared.place.Place.{Place}
use Rattle.network.specs.Links.{Diagram}
use Rattle.declared_names.specs.declared.declarations.Declaration.{Declaration}
use Rattle.scan_steps.specs.declared.slot.Slot.{Slot}
use Rattle.scan_steps.specs.Slots.{AreSlotsOf}
use Rattle.scan_steps.specs.Steps.Passing.{Pass, ArePassed}
use Rattle.power_flow.specs.declared.steps.circuit.Circuit.{Circuit}
use Rattle.power_flow.specs.Meaning.{Moment, NetworkMeaning, moment}
use Rattle.power_flow.specs.Scan.{ScanMeaning}
use Rattle.power_flow.specs.Steps.BoxStores.{boxes_stored, kinds_stored}
use Rattle.power_flow.specs.Steps.Circuit.{IsCircuit, AreCircuits, HasRoom, HasShape, circuit_diagram}
use Rattle.power_flow.specs.Steps.CoilStores.{bound_memories, bound_stores}
use Rattle.gates.specs.declared.signal.Signal.{Signal}
use Rattle.gates.specs.Signals.{signal_value}
use Rattle.scan_gates.specs.Encoded.{bits_at}
use Rattle.ladder_gates.specs.Steps.StepsScanned.{AreScanned}
use Rattle.ladder_gates.proofs.Bits.{bits_long}

-- where the steps of a circuit are passed, and then boxes and coils store, its network has its meaning
abbrev pub StepsAreMeant : Type 0
StepsAreMeant = (ds : List Declaration) (d : Diagram) (circuit : Circuit) (dt : ℕ) (slots after : List Slot) (old new : List Bool) (a b : Pass)
    → IsCircuit ds d circuit → AreSlotsOf ds slots → ArePassed circuit.boxes.items slots dt circuit.steps.items a b
    → a.memories ≡ old → length old ≡ length circuit.elements.items → length a.rows ≡ circuit.rows → length a.links ≡ length circuit.coils.items → length a.results ≡ length circuit.boxes.items
    → after ≡ kinds_stored (boxes_stored circuit.boxes.items b.results slots) (bound_stores circuit.coils.items 0 b.links b.memories)
    → new ≡ bound_memories circuit.coils.items 0 b.links b.memories
    → NetworkMeaning ds d dt (moment slots old) (moment after new)

-- a network leaves variables of the kinds, and blocks of the types, that are declared
abbrev pub KindsAreKept : Type 0
KindsAreKept = (ds : List Declaration) (d : Diagram) (circuit : Circuit) (dt : ℕ) (old new : Moment) → IsCircuit ds d circuit → NetworkMeaning ds d dt old new → AreSlotsOf ds old.slots
    → AreSlotsOf ds new.slots

pub network_meant : StepsAreMeant → (ds : List Declaration) (d : Diagram) (circuit : Circuit) (dt : ℕ) (slots after : List Slot) (old new : List Bool)
    → IsCircuit ds d circuit → AreSlotsOf ds slots → length old ≡ length circuit.elements.items
    → AreScanned circuit.boxes.items circuit.coils.items circuit.steps.items circuit.rows dt slots old after new
    → NetworkMeaning ds d dt (moment slots old) (moment after new)
network_meant meant ds d circuit dt slots after old new is fits long scanned =
    meant ds d circuit dt slots after old new scanned.first scanned.last is fits scanned.passed scanned.memories_are long scanned.rows_long scanned.links_long scanned.results_long scanned.stored
    scanned.kept

-- the first network, and then the others
pub scan_more : KindsAreKept → (ds : List Declaration) (rails : List Place) (dt : ℕ) (first : Circuit) (rest circuits : List Circuit) (slots mid after : List Slot) (ms here later : List Bool) (n : ℕ)
    → circuits ≡ first ∷ rest → n ≡ length first.elements.items → length here ≡ n
    → (IsCircuit ds (circuit_diagram rails first) first → AreSlotsOf ds slots → NetworkMeaning ds (circuit_diagram rails first) dt (moment slots (take n ms)) (moment mid here))
    → (AreCircuits ds rails rest → AreSlotsOf ds mid → ScanMeaning ds dt (map (circuit_diagram rails) rest) mid (drop n ms) after later)
    → AreCircuits ds rails circuits → AreSlotsOf ds slots → ScanMeaning ds dt (map (circuit_diagram rails) circuits) slots ms after (here ++ later)
scan_more kept ds rails dt first rest circuits slots mid after ms here later n is count long one others are fits =
    let all : AreCircuits ds rails (first ∷ rest) = rw is at are in
    let k = length first.elements.items in
    let same : length here ≡ k = long ∙ count in
    let front : take k (here ++ later) ≡ here = ap (λ j. take j (here ++ later)) (sym same) ∙ take-append_seam here later in
    let back : drop k (here ++ later) ≡ later = ap (λ j. drop j (here ++ later)) (sym same) ∙ drop-append_seam here later in
    let meaning = one all.0 fits in
    let network : NetworkMeaning ds (circuit_diagram rails first) dt (moment slots (take k ms)) (moment mid here) = rw (← count) meaning in
    let scan : ScanMeaning ds dt (map (circuit_diagram rails) rest) mid (drop k ms) after later =
    rw (← count) (others all.1 (kept ds (circuit_diagram rails first) first dt (moment slots (take n ms)) (moment mid here) all.0 meaning fits)) in
    rw is (mid, rw front network, rw back scan)

-- the same by signals
pub scan_encoded : KindsAreKept → (v : ℕ → Bool) (ds : List Declaration) (rails : List Place) (dt : ℕ) (first : Circuit) (rest circuits : List Circuit) (slots mid after : List Slot)
    (memories here later front back : List Signal) (n : ℕ) → circuits ≡ first ∷ rest → n ≡ length first.elements.items → length here ≡ n → front ≡ take n memories → back ≡ drop n memories
    → (IsCircuit ds (circuit_diagram rails first) first → AreSlotsOf ds slots → NetworkMeaning ds (circuit_diagram rails first) dt (moment slots (bits_at v front)) (moment mid (bits_at v here)))
    → (AreCircuits ds rails rest → AreSlotsOf ds mid → ScanMeaning ds dt (map (circuit_diagram rails) rest) mid (bits_at v back) after (bits_at v later))
    → AreCircuits ds rails circuits → AreSlotsOf ds slots → ScanMeaning ds dt (map (circuit_diagram rails) circuits) slots (bits_at v memories) after (bits_at v (here ++ later))
scan_encoded kept v ds rails dt first rest circuits slots mid after memories here later front back n is count long front_is back_is one others are fits =
    let One : List Bool → Type 0 = λ m.
    IsCircuit ds (circuit_diagram rails first) first → AreSlotsOf ds slots → NetworkMeaning ds (circuit_diagram rails first) dt (moment slots m) (moment mid (bits_at v here)) in
    let Others : List Bool → Type 0 = λ m.
    AreCircuits ds rails rest → AreSlotsOf ds mid → ScanMeaning ds dt (map (circuit_diagram rails) rest) mid m after (bits_at v later) in
    let Whole : List Bool → Type 0 = λ m. ScanMeaning ds dt (map (circuit_diagram rails) circuits) slots (bits_at v memories) after m in
    subst Whole (sym (map-append (signal_value v) here later))
    (scan_more kept ds rails dt first rest circuits slots mid after (bits_at v memories) (bits_at v here) (bits_at v later) n is count (bits_long v here ∙ long)
    (subst One (ap (bits_at v) front_is ∙ sym (take-map (signal_value v) n memories)) one)
    (subst Others (ap (bits_at v) back_is ∙ sym (drop-map (signal_value v) n memories)) others) are fits)

-- a circuit has the elements of its diagram
pub elements_counted : (rails : List Place) (circuits : List Circuit)
    → sum_by (λ (d : Diagram). length d.elements) (map (circuit_diagram rails) circuits) ≡ sum_by (λ (c : Circuit). length c.elements.items) circuits
elements_counted rails [] = refl
elements_counted rails (c ∷ circuits) =
    sum_by-cons (λ (d : Diagram). length d.elements) (circuit_diagram rails c) (map (circuit_diagram rails) circuits)
    ∙ ap (λ n. length c.elements.items + n) (elements_counted rails circuits) ∙ sym (sum_by-cons (λ (c : Circuit). length c.elements.items) c circuits)

-- where there is room for each circuit the lists of each fit each other
pub shapes : (rows links results : ℕ) (circuits : List Circuit) → AllByRecursion (HasRoom rows links results) circuits → AllByRecursion HasShape circuits
shapes rows links results [] all = tt
shapes rows links results (c ∷ circuits) all = (all.0.shape, shapes rows links results circuits all.1)
