-- What is shown of several networks, one after the other.
use Rattle.std.proofs.Common.{◌≡◌, ℕ, List, ◌∷◌, ◌++◌, Bool, length, map, take, drop, sym, ap, ◌∙◌}
use Rattle.std.proofs.Math.Seq.{take-append_seam, drop-append_seam}
use Rattle.drawings.specs.declared.place.Place.{Place}
use Rattle.declared_names.specs.declared.declarations.Declaration.{Declaration}
use Rattle.scan_steps.specs.declared.slot.Slot.{Slot}
use Rattle.power_flow.specs.declared.steps.circuit.Circuit.{Circuit}
use Rattle.power_flow.specs.Meaning.{moment}
use Rattle.power_flow.specs.Shown.{ShowsNetwork, ShowsPower}
use Rattle.power_flow.specs.Steps.Circuit.{circuit_diagram}

-- the first network, and then the others
pub shown_more : (ds : List Declaration) (rails : List Place) (dt : ℕ) (first : Circuit) (rest circuits : List Circuit) (slots mid after : List Slot) (ms here later power told : List Bool) (n : ℕ)
    → circuits ≡ first ∷ rest → n ≡ length first.elements.items → length here ≡ n
    → ShowsNetwork ds (circuit_diagram rails first) dt (moment slots (take n ms)) (moment mid here) power
    → ShowsPower ds dt (map (circuit_diagram rails) rest) mid (drop n ms) after later told
    → ShowsPower ds dt (map (circuit_diagram rails) circuits) slots ms after (here ++ later) (power ++ told)
shown_more ds rails dt first rest circuits slots mid after ms here later power told n is count long network others =
    let k = length first.elements.items in
    let own = network.power in
    let same : length here ≡ k = long ∙ count in
    let front : take k (here ++ later) ≡ here = ap (λ j. take j (here ++ later)) (sym same) ∙ take-append_seam here later in
    let back : drop k (here ++ later) ≡ later = ap (λ j. drop j (here ++ later)) (sym same) ∙ drop-append_seam here later in
    let front' : take k (power ++ told) ≡ power = ap (λ j. take j (power ++ told)) (sym own.same_length) ∙ take-append_seam power told in
    let back' : drop k (power ++ told) ≡ told = ap (λ j. drop j (power ++ told)) (sym own.same_length) ∙ drop-append_seam power told in
    let network' : ShowsNetwork ds (circuit_diagram rails first) dt (moment slots (take k ms)) (moment mid here) power = rw (← count) network in
    let others' : ShowsPower ds dt (map (circuit_diagram rails) rest) mid (drop k ms) after later told = rw (← count) others in
    rw is (mid, rw (front, front') network', rw (back, back') others')
