-- A scan of a setup, by the signals of what it finds.
use Rattle.std.proofs.Common.{◌≡◌, ℕ, List, [], ◌∷◌, Bool, length, map, take, drop, sym, ◌∙◌, subst}
use Rattle.std.proofs.lemmas.List.{length-map}
use Rattle.gates.specs.declared.signal.Signal.{Signal}
use Rattle.gates.specs.Signals.{signal_value}
use Rattle.scan_steps.specs.declared.slot.Slot.{Slot}
use Rattle.drawings.specs.declared.place.Place.{Place}
use Rattle.network.specs.Links.{Diagram}
use Rattle.declared_names.specs.declared.declarations.Declaration.{Declaration}
use Rattle.scan_steps.specs.Slots.{AreSlotsOf}
use Rattle.power_flow.specs.declared.steps.circuit.Circuit.{Circuit}
use Rattle.power_flow.specs.Meaning.{Moment, NetworkMeaning, moment}
use Rattle.power_flow.specs.Steps.Circuit.{AreCircuits, IsCircuit, circuit_diagram}
use Rattle.power_flow.specs.Scan.{ScanMeaning}
use Rattle.scan_gates.specs.declared.encoded.EncodedSlot.{EncodedSlot}
use Rattle.scan_gates.specs.Encoded.{bits_at, slots_at}
use Rattle.verifying.specs.Runs.{SetupValue, ScansWith, before_scan, opened, width}

-- a scan leaves what is declared
pub scan_declared : (kept : (ds : List Declaration) (d : Diagram) (circuit : Circuit) (dt : ℕ) (old new : Moment) → IsCircuit ds d circuit → NetworkMeaning ds d dt old new
    → AreSlotsOf ds old.slots → AreSlotsOf ds new.slots) (ds : List Declaration) (dt : ℕ) (rails : List Place) (circuits : List Circuit) (slots slots' : List Slot) (ms ms' : List Bool)
    → AreCircuits ds rails circuits → ScanMeaning ds dt (map (circuit_diagram rails) circuits) slots ms slots' ms' → AreSlotsOf ds slots → AreSlotsOf ds slots'
scan_declared kept ds dt rails [] slots slots' ms ms' circuits (same, others) of =
    let Of : List Slot → Type 0 = λ s. AreSlotsOf ds s in subst Of (sym same) of
scan_declared kept ds dt rails (c ∷ circuits) slots slots' ms ms' (here, there) (mid, meant, rest) of =
    let n = length c.elements.items in
    let between : AreSlotsOf ds mid = kept ds (circuit_diagram rails c) c dt (moment slots (take n ms)) (moment mid (take n ms')) here meant of in
    scan_declared kept ds dt rails circuits mid slots' (drop n ms) (drop n ms') there rest between

-- the scan of what is found is one with the row
pub scan_made : (v : ℕ → Bool) (u : SetupValue) (dt : ℕ) (row : List Signal) (old : Moment) (found : List EncodedSlot) (kept : List Signal) (new : Moment) → dt ≡ u.dt
    → length row ≡ width u
    → slots_at v found ≡ before_scan u (bits_at v row) (opened u (bits_at v row) old).slots → bits_at v kept ≡ (opened u (bits_at v row) old).memories
    → ScanMeaning u.ladder.declarations dt u.ladder.networks (slots_at v found) (bits_at v kept) new.slots new.memories → ScansWith u (bits_at v row) old new
scan_made v u dt row old found kept new same long slots memories scan =
    let For : ℕ → Type 0 = λ d. ScanMeaning u.ladder.declarations d u.ladder.networks (slots_at v found) (bits_at v kept) new.slots new.memories in
    let FromSlots : List Slot → Type 0 = λ s. ScanMeaning u.ladder.declarations u.dt u.ladder.networks s (bits_at v kept) new.slots new.memories in
    let From : List Bool → Type 0 = λ m.
    ScanMeaning u.ladder.declarations u.dt u.ladder.networks (before_scan u (bits_at v row) (opened u (bits_at v row) old).slots) m new.slots new.memories in
    record { whole = length-map row (signal_value v) ∙ long; scan = subst From memories (subst FromSlots slots (subst For same scan)) }
