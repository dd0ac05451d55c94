-- A scan of several networks, one after the other.
use Rattle.std.proofs.Common.{◌≡◌, ℕ, List, ◌∷◌, ◌++◌, Bool, length, map, take, drop, sym, ap, ◌∙◌}
use Rattle.std.proofs.Math.Seq.{take-append_seam, drop-append_seam}
use Rattle.drawings.specs.declared.place.Place.{Place}
use Rattle.declared_names.specs.declared.declarations.Declaration.{Declaration}
use Rattle.scan_steps.specs.declared.slot.Slot.{Slot}
use Rattle.power_flow.specs.declared.steps.circuit.Circuit.{Circuit}
use Rattle.power_flow.specs.Meaning.{NetworkMeaning, moment}
use Rattle.power_flow.specs.Steps.Circuit.{IsCircuit, AreCircuits, circuit_diagram}
use Rattle.power_flow.specs.Scan.{ScanMeaning, AreWide, AllAreWide}
use Rattle.scan_steps.specs.Slots.{AreSlotsOf}
use Rattle.power_flow.proofs.Boxes.KeptSlots.{meaning_keeps}

-- the first network, and then the others
pub scan_more : (ds : List Declaration) (rails : List Place) (dt : ℕ) (first : Circuit) (rest circuits : List Circuit) (slots mid after : List Slot) (ms here later : List Bool) (n : ℕ)
    → circuits ≡ first ∷ rest → n ≡ length first.elements.items → length here ≡ n
    → (IsCircuit ds (circuit_diagram rails first) first → AreWide (circuit_diagram rails first) → AreSlotsOf ds slots → NetworkMeaning ds (circuit_diagram rails first) dt (moment slots (take n ms)) (moment mid here))
    → (AreCircuits ds rails rest → AllAreWide (map (circuit_diagram rails) rest) → AreSlotsOf ds mid → ScanMeaning ds dt (map (circuit_diagram rails) rest) mid (drop n ms) after later)
    → AreCircuits ds rails circuits → AllAreWide (map (circuit_diagram rails) circuits) → AreSlotsOf ds slots → ScanMeaning ds dt (map (circuit_diagram rails) circuits) slots ms after (here ++ later)
scan_more ds rails dt first rest circuits slots mid after ms here later n is count long one others are wide fits =
    let all : AreCircuits ds rails (first ∷ rest) = rw is at are in
    let widths : AllAreWide (map (circuit_diagram rails) (first ∷ rest)) = rw is at wide in
    let k = length first.elements.items in
    let same : length here ≡ k = long ∙ count in
    let front : take k (here ++ later) ≡ here = ap (λ j. take j (here ++ later)) (sym same) ∙ take-append_seam here later in
    let back : drop k (here ++ later) ≡ later = ap (λ j. drop j (here ++ later)) (sym same) ∙ drop-append_seam here later in
    let network : NetworkMeaning ds (circuit_diagram rails first) dt (moment slots (take k ms)) (moment mid here) = rw (← count) (one all.0 widths.0 fits) in
    let scan : ScanMeaning ds dt (map (circuit_diagram rails) rest) mid (drop k ms) after later = rw (← count) (others all.1 widths.1 (meaning_keeps ds (circuit_diagram rails first) dt (moment slots (take n ms)) (moment mid here) all.0.named (one all.0 widths.0 fits) fits)) in
    rw is (mid, rw front network, rw back scan)
