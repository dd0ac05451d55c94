-- Memories that are all OFF, and that they stay so in a scan without edges.
use Rattle.std.proofs.Common.{◌≡◌, ℕ, zero, suc, ◌+◌, List, [], ◌∷◌, ◌++◌, Bool, false, map, length, take, drop, take-append-drop, refl, sym, ap, ◌∙◌, subst}
use Rattle.std.specs.List.{enumerate_from}
use Rattle.std.proofs.lemmas.List.Elements.{All-nil, All-cons, All-head, All-tail, All-take, All-drop, All-append, All-replicate}
use Rattle.drawings.specs.declared.place.Place.{Place}
use Rattle.drawings.specs.declared.contact.ContactKind.{ContactKind}
use Rattle.drawings.specs.declared.contact.ContactKind.TheVariants as contact
use Rattle.drawings.specs.declared.coil.CoilKind.{CoilKind}
use Rattle.drawings.specs.declared.coil.CoilKind.TheVariants as coil
use Rattle.network.specs.declared.element.Element.{Element}
use Rattle.network.specs.declared.element.Element.TheVariants.{Wire, Join, Upright, Contact, Coil, Box}
use Rattle.network.specs.Links.{Diagram}
use Rattle.declared_names.specs.declared.declarations.Declaration.{Declaration}
use Rattle.scan_steps.specs.declared.slot.Slot.{Slot}
use Rattle.scan_steps.specs.Conducting.{bit_at, contact_memory}
use Rattle.power_flow.specs.declared.steps.circuit.Circuit.{Circuit}
use Rattle.power_flow.specs.Meaning.{Moment, NetworkMeaning, moment, coil_memory, next_memory}
use Rattle.power_flow.specs.Scan.{ScanMeaning}
use Rattle.power_flow.specs.Steps.Circuit.{circuit_diagram}
use Rattle.power_flow.specs.Steps.Edges.{is_edge, is_edge_contact, is_edge_coil, AreEdgeless, AreEdgelessCircuits, AreOff}
use Rattle.power_flow.specs.Steps.Snapshots.{number_if, numbers_on, memories_on}

abbrev pub IsOff : Bool → Type 0
IsOff m = m ≡ false

-- none of them has a number
pub none_on : (k : ℕ) (ms : List Bool) → AreOff ms → numbers_on k ms ≡ []
none_on k [] off = refl
none_on k (m ∷ ms) off = ap (λ b. number_if b k ++ numbers_on (k + 1) ms) (All-head IsOff m ms off) ∙ none_on (k + 1) ms (All-tail IsOff m ms off)

-- where no number is turned on, all are OFF
pub none_turned : (count : ℕ) (numbers : List ℕ) → numbers ≡ [] → AreOff (memories_on count numbers)
none_turned count numbers none = rw none (All-replicate IsOff count false refl)

off_at : (ms : List Bool) (k : ℕ) → AreOff ms → bit_at ms k ≡ false
off_at [] k off = refl
off_at (m ∷ ms) zero off = All-head IsOff m ms off
off_at (m ∷ ms) (suc k) off = off_at ms k (All-tail IsOff m ms off)

contact_off : (kind : ContactKind) (on memory : Bool) → is_edge_contact kind ≡ false → memory ≡ false → contact_memory kind on memory ≡ false
contact_off contact.Plain on memory plain off = off
contact_off contact.Negated on memory plain off = off
contact_off contact.Rise on memory plain off = absurd cc
contact_off contact.Fall on memory plain off = absurd cc

coil_off : (kind : CoilKind) (link memory : Bool) → is_edge_coil kind ≡ false → memory ≡ false → coil_memory kind link memory ≡ false
coil_off coil.Plain link memory plain off = off
coil_off coil.Negated link memory plain off = off
coil_off coil.Set link memory plain off = off
coil_off coil.Reset link memory plain off = off
coil_off coil.Rise link memory plain off = absurd cc
coil_off coil.Fall link memory plain off = absurd cc

next_off : (ds : List Declaration) (old : Moment) (links : List Bool) (k : ℕ) (e : Element) → AreOff old.memories → is_edge e ≡ false → next_memory ds old links k e ≡ false
next_off ds old links k (Wire at) off plain = off_at old.memories k off
next_off ds old links k (Join at) off plain = off_at old.memories k off
next_off ds old links k (Upright at) off plain = off_at old.memories k off
next_off ds old links k (Contact c) off plain = contact_off c.kind _ (bit_at old.memories k) plain (off_at old.memories k off)
next_off ds old links k (Coil c) off plain = coil_off c.kind (bit_at links k) (bit_at old.memories k) plain (off_at old.memories k off)
next_off ds old links k (Box b) off plain = off_at old.memories k off

all_next_off : (ds : List Declaration) (old : Moment) (links : List Bool) (n : ℕ) (es : List Element) → AreOff old.memories → AreEdgeless es
    → AreOff (map (λ e. next_memory ds old links e.0 e.1) (enumerate_from n es))
all_next_off ds old links n [] off plain = All-nil IsOff
all_next_off ds old links n (e ∷ es) off plain =
    All-cons IsOff (next_memory ds old links n e) (map (λ e. next_memory ds old links e.0 e.1) (enumerate_from (n + 1) es))
    (next_off ds old links n e off (All-head (λ x. is_edge x ≡ false) e es plain))
    (all_next_off ds old links (n + 1) es off (All-tail (λ x. is_edge x ≡ false) e es plain))

network_off : (ds : List Declaration) (d : Diagram) (dt : ℕ) (old new : Moment) → NetworkMeaning ds d dt old new → AreEdgeless d.elements → AreOff old.memories → AreOff new.memories
network_off ds d dt old new m plain off = subst AreOff (sym m.memories) (all_next_off ds old m.links 0 d.elements off plain)

-- a scan without edges leaves all memories OFF
pub scan_off : (ds : List Declaration) (dt : ℕ) (rails : List Place) (circuits : List Circuit) (slots slots' : List Slot) (ms ms' : List Bool) → AreEdgelessCircuits circuits
    → ScanMeaning ds dt (map (circuit_diagram rails) circuits) slots ms slots' ms' → AreOff ms → AreOff ms'
scan_off ds dt rails [] slots slots' ms ms' plain m off = subst AreOff (sym m.1) off
scan_off ds dt rails (c ∷ circuits) slots slots' ms ms' plain m off =
    let n = length c.elements.items in
    let here : AreEdgeless c.elements.items = All-head (λ (x : Circuit). AreEdgeless x.elements.items) c circuits plain in
    let others : AreEdgelessCircuits circuits = All-tail (λ (x : Circuit). AreEdgeless x.elements.items) c circuits plain in
    let front : AreOff (take n ms') = network_off ds (circuit_diagram rails c) dt (moment slots (take n ms)) (moment m.0 (take n ms')) m.1 here (All-take IsOff n ms off) in
    let back : AreOff (drop n ms') = scan_off ds dt rails circuits m.0 slots' (drop n ms) (drop n ms') others m.2 (All-drop IsOff n ms off) in
    subst AreOff (take-append-drop n ms') (All-append IsOff (take n ms') (drop n ms') front back)
