-- A scan has one result.
use Rattle.std.proofs.Common.{◌≡◌, ℕ, zero, suc, ◌<◌, ◌≤◌, ◌⊎◌, ◌↔◌, inl, inr, List, [], ◌∷◌, ◌++◌, take, drop, take-append-drop, Bool, Option, Some, None, IsTrue, Contains, MatchOption, ℤ, length, slice_get, arith, refl, sym, ap, ◌∙◌, subst, map}
use Rattle.std.specs.Option.{option_and_then}
use Rattle.std.specs.List.{enumerate_from}
use Rattle.scan_steps.specs.Conducting.{bit_at}
use Rattle.std.proofs.lemmas.Bool.{cases_eq}
use Rattle.lists.proofs.Places.{same_by_slice_get}
use Rattle.lists.proofs.Members.{cons_later, cons_cases, cons_first}
use Rattle.drawings.specs.declared.place.Place.{Place}
use Rattle.drawings.specs.declared.drawn_box.DrawnBox.{DrawnBox}
use Rattle.drawings.specs.declared.drawn_box.DrawnPin.{DrawnPin}
use Rattle.drawings.specs.declared.drawn_box.Operand.{Operand}
use Rattle.network.specs.declared.element.Element.{Element}
use Rattle.network.specs.declared.element.Element.TheVariants.{Wire, Join, Upright, Contact, Coil, Box}
use Rattle.network.specs.Links.{Diagram}
use Rattle.std_blocks.specs.declared.block_type.BlockType.{BlockType}
use Rattle.std_blocks.specs.declared.pins.PinsIn.{PinsIn}
use Rattle.std_blocks.specs.declared.pin.Field.TheVariants.{Bit}
use Rattle.std_blocks.specs.Blocks.{bit, after, outputs_after}
use Rattle.declared_names.specs.declared.declarations.Declaration.{Declaration}
use Rattle.scan_steps.specs.declared.slot.Instance.{Instance}
use Rattle.scan_steps.specs.declared.slot.Slot.{Slot}
use Rattle.scan_steps.specs.declared.slot.Slot.TheVariants.{Variable, Block}
use Rattle.declared_names.specs.Names.{place_of}
use Rattle.power_flow.specs.Values.{value_at, value_of, slot_value}
use Rattle.scan_steps.specs.Values.{is_true}
use Rattle.power_flow.specs.Meaning.{Moment, moment, HasPower, IsSource, IsOutputOn, AreInputs, IsInputBit, IsDrawn, BlocksStep, conducts, AreLinks, NetworkMeaning, next_memory, stored, stores}
use Rattle.power_flow.specs.Scan.{AreWide, AllAreWide, ScanMeaning}
use Rattle.power_flow.proofs.Walks.PowerWalks.{on_sources}
use Rattle.power_flow.proofs.Ladders.EqualBits.{same_bit, same_bits, stable_bit, stable_number, stable_integer}

-- the slots x and y agree at the instances of the boxes that end at column c or before
pub Agrees : List Declaration → Diagram → List Slot → List Slot → ℕ → Type 0
Agrees ds d x y c = (b : DrawnBox) (k : ℕ) → Contains d.elements (Box b) → b.right ≤ c → place_of ds b.instance ≡ Some k → slice_get x k ≡ slice_get y k

agrees_back : (ds : List Declaration) (d : Diagram) (x y : List Slot) (c : ℕ) → Agrees ds d x y c → Agrees ds d y x c
unfolding Agrees
agrees_back ds d x y c h = λ b k in' le at. sym (h b k in' le at)

value_same : (ds : List Declaration) (d : Diagram) (x y : List Slot) (c : ℕ) → Agrees ds d x y c → (b : DrawnBox) → Contains d.elements (Box b) → b.right ≤ c
    → (pin : List ℕ) → value_at ds x b.instance pin ≡ value_at ds y b.instance pin
unfolding Agrees
value_same ds d x y c h b in' le pin = go (place_of ds b.instance) refl
  where
    go : (o : Option ℕ) → place_of ds b.instance ≡ o
        → option_and_then (λ k. option_and_then (λ s. slot_value s pin) (slice_get x k)) o ≡ option_and_then (λ k. option_and_then (λ s. slot_value s pin) (slice_get y k)) o
    go None e = refl
    go (Some k) e = ap (option_and_then (λ s. slot_value s pin)) (h b k in' le e)

source_same : (ds : List Declaration) (d : Diagram) (x y : List Slot) (c : ℕ) → Agrees ds d x y c → (p : Place) → p.column ≤ c → IsSource ds d x p → IsSource ds d y p
source_same ds d x y c h p le (inl rail) = inl rail
source_same ds d x y c h p le (inr found) = inr (found.0, found.1, found.2, found.3, output_same found.1 (found.0, found.2, found.3) found.4)
  where
    output_same : (e : Element) → Contains d.elements e → IsOutputOn ds x e p → IsOutputOn ds y e p
    output_same (Wire at) in' out = out
    output_same (Join at) in' out = out
    output_same (Upright at) in' out = out
    output_same (Contact at) in' out = out
    output_same (Coil at) in' out = out
    output_same (Box b) in' out =
        let column = out.0 in
        let pin = out.1 in
        let on = pin.4 in
        (out.0, (pin.0, pin.1, pin.2, pin.3, (on.0, on.1, ap is_true (sym (value_same ds d x y c h b in' (omega arith) (pin.1).name)) ∙ on.2)))

power_same : (ds : List Declaration) (d : Diagram) (old : Moment) (x y : List Slot) (c : ℕ) → Agrees ds d x y c → (p : Place) → p.column ≤ c
    → HasPower ds d old x p → HasPower ds d old y p
power_same ds d old x y c h p le on = on_sources d (conducts ds d old) (IsSource ds d x) (IsSource ds d y) p (λ q back s. source_same ds d x y c h q (omega arith) s) on

abbrev pins : List Bool → ℤ → ℕ → PinsIn
pins bits int time = record { bits = bits; int = int; time = time }

-- inputs are equal where the outputs on their left are
inputs_same : (ds : List Declaration) (d : Diagram) (old : Moment) (x y : List Slot) (b : DrawnBox) (block : BlockType) (p q : PinsIn) → Agrees ds d x y b.left
    → AreInputs ds d old x b block p → AreInputs ds d old y b block q → p ≡ q
inputs_same ds d old x y b block p q h i j =
    let bits = same_bits p.bits q.bits 4 i.four j.four each in
    let int = stable_integer p.int q.int (λ ne. i.no_int (λ pin drawn. ne (i.int pin drawn ∙ sym (j.int pin drawn))) ∙ sym (j.no_int (λ pin drawn. ne (i.int pin drawn ∙ sym (j.int pin drawn))))) in
    let time = stable_number p.time q.time (λ ne. i.no_time (λ pin drawn. ne (i.time pin drawn ∙ sym (j.time pin drawn))) ∙ sym (j.no_time (λ pin drawn. ne (i.time pin drawn ∙ sym (j.time pin drawn))))) in
    ap (λ v. pins v p.int p.time) bits ∙ ap (λ v. pins q.bits v p.time) int ∙ ap (λ v. pins q.bits q.int v) time
  where
    drawn_same : (k : ℕ) (pin : DrawnPin) → IsInputBit ds d old x b pin (bit p k) → IsInputBit ds d old y b pin (bit q k) → bit p k ≡ bit q k
    drawn_same k pin f g = go pin.operand f g
      where
        go : (o : Option Operand) → MatchOption o (IsTrue (bit p k) ↔ HasPower ds d old x (record { row = pin.row; column = b.left })) (λ w. bit p k ≡ is_true (value_of ds old.slots w.text))
            → MatchOption o (IsTrue (bit q k) ↔ HasPower ds d old y (record { row = pin.row; column = b.left })) (λ w. bit q k ≡ is_true (value_of ds old.slots w.text)) → bit p k ≡ bit q k
        go None f' g' =
            let there = power_same ds d old x y b.left h (record { row = pin.row; column = b.left }) (omega arith) in
            let back = power_same ds d old y x b.left (agrees_back ds d x y b.left h) (record { row = pin.row; column = b.left }) (omega arith) in
            same_bit (bit p k) (bit q k) f' (λ e. back (g'.0 e), λ on. g'.1 (there on))
        go (Some w) f' g' = f' ∙ sym g'

    each : (k : ℕ) → k < 4 → bit p k ≡ bit q k
    each k lt = stable_bit (bit p k) (bit q k) (λ ne.
        let undrawn : (pin : DrawnPin) → IsDrawn b block (Bit k) pin → ⊥ = λ pin drawn. ne (drawn_same k pin (i.bits k pin lt drawn) (j.bits k pin lt drawn)) in
        i.no_bit k lt undrawn ∙ sym (j.no_bit k lt undrawn))

-- a slot holds a block or none
block_cases : (slots : List Slot) (k : ℕ) → ((i : Instance) × (slice_get slots k ≡ Some (Block i))) ⊎ ((i : Instance) → slice_get slots k ≡ Some (Block i) → ⊥)
block_cases slots k = go (slice_get slots k) refl
  where
    go : (o : Option Slot) → slice_get slots k ≡ o → ((i : Instance) × (slice_get slots k ≡ Some (Block i))) ⊎ ((i : Instance) → slice_get slots k ≡ Some (Block i) → ⊥)
    go None e = inr (λ i f. cc)
    go (Some (Variable v)) e = inr (λ i f. cc)
    go (Some (Block i)) e = inl (i, e)

-- one more column: blocks that end there read inputs on their left, which are equal
agrees_more : (ds : List Declaration) (d : Diagram) (dt : ℕ) (old : Moment) (x y : List Slot) (c : ℕ) → AreWide d → BlocksStep ds d dt old x → BlocksStep ds d dt old y
    → Agrees ds d x y c → Agrees ds d x y (suc c)
unfolding Agrees
agrees_more ds d dt old x y c wide f g h = λ b k in' le at. go b k in' le at (block_cases old.slots k)
  where
    go : (b : DrawnBox) (k : ℕ) → Contains d.elements (Box b) → b.right ≤ suc c → place_of ds b.instance ≡ Some k
        → ((i : Instance) × (slice_get old.slots k ≡ Some (Block i))) ⊎ ((i : Instance) → slice_get old.slots k ≡ Some (Block i) → ⊥) → slice_get x k ≡ slice_get y k
    go b k in' le at (inr none) = f.others k (λ b' i in'' at' e. none i e) ∙ sym (g.others k (λ b' i in'' at' e. none i e))
    go b k in' le at (inl held) =
        let i = held.0 in
        let narrow = wide b in' in
        let s = f.stepped b k i in' at held.1 in
        let t = g.stepped b k i in' at held.1 in
        let left : Agrees ds d x y b.left = λ b' k' in'' le' at'. h b' k' in'' (omega arith) at' in
        let same = inputs_same ds d old x y b i.state.block s.0 t.0 left s.1 t.1 in
        s.2 ∙ ap (λ pins. Some (Block (record { state = after i.state pins dt; outputs = outputs_after i.state pins dt }))) same ∙ sym t.2

-- so they agree at every column
pub agrees_all : (ds : List Declaration) (d : Diagram) (dt : ℕ) (old : Moment) (x y : List Slot) → AreWide d → BlocksStep ds d dt old x → BlocksStep ds d dt old y
    → (c : ℕ) → Agrees ds d x y c
unfolding Agrees
agrees_all ds d dt old x y wide f g zero = λ b k in' le at. let narrow = wide b in' in absurd (omega arith)
agrees_all ds d dt old x y wide f g (suc c) = agrees_more ds d dt old x y c wide f g (agrees_all ds d dt old x y wide f g c)

-- a place is that of some box, or of none
InstanceAt : List Declaration → List Element → ℕ → Type 0
InstanceAt ds es k = (b : DrawnBox) × Contains es (Box b) × (place_of ds b.instance ≡ Some k)

NoneAt : List Declaration → List Element → ℕ → Type 0
NoneAt ds es k = (b : DrawnBox) → Contains es (Box b) → place_of ds b.instance ≡ Some k → ⊥

same_place : (o : Option ℕ) (k : ℕ) → (o ≡ Some k) ⊎ (o ≡ Some k → ⊥)
same_place None k = inr (λ e. cc)
same_place (Some j) k = elim (cases_eq j k) [ inl e ↦ inl (ap Some e) | inr ne ↦ inr (λ e. ne cc) ]

abbrev instance_of : Element → List ℕ
instance_of (Box b) = b.instance
instance_of (Wire p) = []
instance_of (Join p) = []
instance_of (Upright p) = []
instance_of (Contact p) = []
instance_of (Coil p) = []

instance_cases : (ds : List Declaration) (es : List Element) (k : ℕ) → InstanceAt ds es k ⊎ NoneAt ds es k
unfolding InstanceAt NoneAt
instance_cases ds [] k = inr (λ b in' at. let lt = in'.1 in absurd (omega arith))
instance_cases ds (e ∷ es) k = go e (instance_cases ds es k)
  where
    none_more : (f : Element) → ((b : DrawnBox) → f ≡ Box b → place_of ds b.instance ≡ Some k → ⊥) → NoneAt ds es k → (b : DrawnBox) → Contains (f ∷ es) (Box b) → place_of ds b.instance ≡ Some k → ⊥
    none_more f first rest b in' at = elim (cons_cases f es (Box b) in') [ inl e' ↦ first b e' at | inr later ↦ rest b later at ]

    go : (f : Element) → InstanceAt ds es k ⊎ NoneAt ds es k → InstanceAt ds (f ∷ es) k ⊎ NoneAt ds (f ∷ es) k
    go f (inl h) = inl (h.0, cons_later f es (Box h.0) h.1, h.2)
    go (Wire p) (inr none) = inr (none_more (Wire p) (λ b e' at. cc) none)
    go (Join p) (inr none) = inr (none_more (Join p) (λ b e' at. cc) none)
    go (Upright p) (inr none) = inr (none_more (Upright p) (λ b e' at. cc) none)
    go (Contact p) (inr none) = inr (none_more (Contact p) (λ b e' at. cc) none)
    go (Coil p) (inr none) = inr (none_more (Coil p) (λ b e' at. cc) none)
    go (Box b) (inr none) = elim (same_place (place_of ds b.instance) k) [
      | inl at ↦ inl (b, cons_first (Box b) es, at)
      | inr not_at ↦ inr (none_more (Box b) (λ b' e' at. not_at (ap (λ n. place_of ds n) (ap instance_of e') ∙ at)) none)
    ]

-- at a place stands the block of some box, or of none
pub box_cases : (ds : List Declaration) (es : List Element) (slots : List Slot) (k : ℕ)
    → ((b : DrawnBox) × (i : Instance) × Contains es (Box b) × (place_of ds b.instance ≡ Some k) × (slice_get slots k ≡ Some (Block i)))
    ⊎ ((b : DrawnBox) (i : Instance) → Contains es (Box b) → place_of ds b.instance ≡ Some k → slice_get slots k ≡ Some (Block i) → ⊥)
unfolding InstanceAt NoneAt
box_cases ds es slots k = elim (instance_cases ds es k) [
  | inl h ↦ elim (block_cases slots k) [ inl held ↦ inl (h.0, held.0, h.1, h.2, held.1) | inr none ↦ inr (λ b i in' at was. none i was) ]
  | inr none ↦ inr (λ b i in' at was. none b in' at)
]

-- the block results of a network are determined
pub between_same : (ds : List Declaration) (d : Diagram) (dt : ℕ) (old : Moment) (x y : List Slot) → AreWide d → BlocksStep ds d dt old x → BlocksStep ds d dt old y → x ≡ y
unfolding Agrees InstanceAt NoneAt
between_same ds d dt old x y wide f g = same_by_slice_get x y at
  where
    at : (k : ℕ) → slice_get x k ≡ slice_get y k
    at k = elim (instance_cases ds d.elements k) [
      | inl h ↦ agrees_all ds d dt old x y wide f g (h.0).right h.0 k h.1 (omega arith) h.2
      | inr none ↦ f.others k (λ b i in' e was. none b in' e) ∙ sym (g.others k (λ b i in' e was. none b in' e))
    ]

-- so are the links
links_same : (ds : List Declaration) (d : Diagram) (old : Moment) (between : List Slot) (l m : List Bool) → AreLinks ds d old between l → AreLinks ds d old between m → l ≡ m
links_same ds d old between l m f g = same_bits l m (length d.elements) f.same_length g.same_length (λ k lt.
    let found = element_at d.elements k lt in
    same_bit (bit_at l k) (bit_at m k) (f.power k found.0 found.1) (g.power k found.0 found.1))
  where
    element_at : (es : List Element) (k : ℕ) → k < length es → (e : Element) × (slice_get es k ≡ Some e)
    element_at [] k lt = absurd (omega arith)
    element_at (e ∷ es) zero lt = (e, refl)
    element_at (e ∷ es) (suc k) lt = let short : suc k < suc (length es) = lt in element_at es k (omega arith)

-- The same network, read at the same moment, leaves one moment.
pub meaning_same : (ds : List Declaration) (d : Diagram) (dt : ℕ) (old a b : Moment) → AreWide d → NetworkMeaning ds d dt old a → NetworkMeaning ds d dt old b → a ≡ b
meaning_same ds d dt old a b wide f g =
    let between = between_same ds d dt old f.between g.between wide f.blocks g.blocks in
    let P : List Slot → Type 0 = λ s. AreLinks ds d old s f.links in
    let links = links_same ds d old g.between f.links g.links (subst P between f.power) g.power in
    let memories : a.memories ≡ b.memories = f.memories ∙ ap (λ l. map (λ e. next_memory ds old l e.0 e.1) (enumerate_from 0 d.elements)) links ∙ sym g.memories in
    let slots : a.slots ≡ b.slots = f.slots ∙ ap (λ s. stored s (stores ds d old s f.links)) between ∙ ap (λ l. stored g.between (stores ds d old g.between l)) links ∙ sym g.slots in
    ap (λ s. moment s a.memories) slots ∙ ap (λ m. moment b.slots m) memories

-- The same scan, from the same slots and memories, leaves the same.
pub scan_same : (ds : List Declaration) (dt : ℕ) (networks : List Diagram) (slots : List Slot) (ms : List Bool) (a b : List Slot) (one two : List Bool)
    → AllAreWide networks → ScanMeaning ds dt networks slots ms a one → ScanMeaning ds dt networks slots ms b two → (a ≡ b) × (one ≡ two)
scan_same ds dt [] slots ms a b one two wide f g = (f.0 ∙ sym g.0, f.1 ∙ sym g.1)
scan_same ds dt (d ∷ networks) slots ms a b one two wide f g =
    let n = length d.elements in
    let here = meaning_same ds d dt (moment slots (take n ms)) (moment f.0 (take n one)) (moment g.0 (take n two)) wide.0 f.1 g.1 in
    let slot : f.0 ≡ g.0 = ap (λ (w : Moment). w.slots) here in
    let front : take n one ≡ take n two = ap (λ (w : Moment). w.memories) here in
    let P : List Slot → Type 0 = λ s. ScanMeaning ds dt networks s (drop n ms) a (drop n one) in
    let rest = scan_same ds dt networks g.0 (drop n ms) a b (drop n one) (drop n two) wide.1 (subst P slot f.2) g.2 in
    (rest.0, sym (take-append-drop n one) ∙ ap (λ l. l ++ drop n one) front ∙ ap (λ l. take n two ++ l) rest.1 ∙ take-append-drop n two)
