-- What a pass and the stores after it leave is the meaning of the network.
use Rattle.std.proofs.Common.{◌≡◌, ◌≢◌, ℕ, zero, suc, ◌+◌, ◌-◌, ◌<◌, ◌≤◌, ◌↔◌, inl, inr, List, [], ◌∷◌, ◌++◌, map, Bool, true, false, Option, Some, None, IsTrue, All, Contains, MatchOption, length, set, length-set, slice_get, get_or, take, arith, refl, sym, ap, ◌∙◌, subst}
use Rattle.std.specs.List.{AllZip, flat_map, enumerate_from, filter_map, cons_option}
use Rattle.std.specs.Option.{option_and_then, option_map_or, option_map}
use Rattle.std.proofs.lemmas.List.{get_or-set_same, get_or-set_other}
use Rattle.std.proofs.lemmas.Option.{slice_get-get_or, slice_get_within}
use Rattle.lists.proofs.Places.{some_same}
use Rattle.lists.proofs.Zips.{zip_length, zip_at, zip_back}
use Rattle.lists.proofs.Members.{at_contains, contains_at, any_at, any_found}
use Rattle.drawings.specs.declared.place.Place.{Place}
use Rattle.drawings.specs.Symbols.{Contact as DrawnContact}
use Rattle.drawings.specs.Symbols.{Coil as DrawnCoil}
use Rattle.drawings.specs.declared.drawn_box.DrawnBox.{DrawnBox}
use Rattle.drawings.specs.declared.drawn_box.DrawnPin.{DrawnPin}
use Rattle.drawings.specs.declared.drawn_box.Operand.{Operand}
use Rattle.drawings.specs.declared.drawn_box.Side.{Side}
use Rattle.drawings.specs.declared.drawn_box.Side.TheVariants.{Left, Right}
use Rattle.network.specs.declared.element.Element.{Element}
use Rattle.network.specs.declared.element.Element.TheVariants.{Wire, Join, Upright, Contact, Coil, Box}
use Rattle.network.specs.Links.{Diagram, place, Gives}
use Rattle.network.specs.Apart.{first_place, Has}
use Rattle.power_flow.specs.Steps.Columns.{IsStop}
use Rattle.std_blocks.specs.declared.block_type.BlockType.{BlockType}
use Rattle.std_blocks.specs.declared.block_state.BlockState.{BlockState}
use Rattle.std_blocks.specs.declared.pins.PinsIn.{PinsIn}
use Rattle.std_blocks.specs.declared.pins.PinsOut.{PinsOut}
use Rattle.std_blocks.specs.declared.value.Value.{Value}
use Rattle.std_blocks.specs.declared.value.Value.TheVariants.{Bool as BoolValue}
use Rattle.std_blocks.specs.declared.pin.Field.{Field}
use Rattle.std_blocks.specs.Pins.{field_value, pin_of, output}
use Rattle.std_blocks.specs.Blocks.{bit, after, outputs_after}
use Rattle.declared_names.specs.declared.declarations.Declaration.{Declaration}
use Rattle.power_flow.specs.declared.steps.circuit.Circuit.{Circuit}
use Rattle.scan_steps.specs.declared.slot.Instance.{Instance}
use Rattle.scan_steps.specs.declared.slot.Slot.{Slot}
use Rattle.scan_steps.specs.declared.slot.Slot.TheVariants.{Block}
use Rattle.scan_steps.specs.declared.bound_box.BoundBox.{BoundBox}
use Rattle.scan_steps.specs.declared.bound_box.BoundOutput.{BoundOutput}
use Rattle.scan_steps.specs.declared.step.Step.{Step}
use Rattle.scan_steps.specs.declared.step.BoundCoil.{BoundCoil}
use Rattle.scan_steps.specs.declared.source.Source.TheVariants as source
use Rattle.declared_names.specs.Names.{place_of}
use Rattle.power_flow.specs.Values.{value_at, value_of, slot_value}
use Rattle.scan_steps.specs.Values.{is_true, int_or_zero, time_or_zero}
use Rattle.scan_steps.specs.Steps.Sources.{source_value, source_bit}
use Rattle.power_flow.specs.Steps.NameSources.{name_source}
use Rattle.power_flow.specs.Meaning.{Moment, moment, conducts, element_conducts, coil_value, coil_memory, IsOutputOn, IsSource, HasPower, IsInputBit, AreInputs, BlocksStep, NetworkMeaning, next_memory, stored, stores, store, side_stores, result_stores, coil_stores}
use Rattle.scan_steps.specs.Conducting.{bit_at, contact_conducts, contact_memory}
use Rattle.scan_steps.specs.Steps.BoxSteps.{bit_source, box_inputs, box_result, state_in, IsMarked}
use Rattle.power_flow.specs.Steps.BoxStores.{pin_store, pin_stores, output_stores}
use Rattle.scan_steps.specs.Slots.{AreSlotsOf}
use Rattle.power_flow.specs.Steps.BoxTable.{IsBitSource, IsBoundOutput, IsBoundBox, AreBoundBoxes, right_pin, right_pins, boxes_of}
use Rattle.power_flow.specs.Steps.Circuit.{IsCircuit, bound_coil, bound_coils}
use Rattle.scan_steps.specs.Steps.Passing.{Pass, ArePassed}
use Rattle.power_flow.specs.Steps.CoilStores.{bound_stores, bound_memories}
use Rattle.power_flow.specs.Waiting.{box_of, coils_of}
use Rattle.power_flow.proofs.Ladders.EqualBits.{same_bit}
use Rattle.power_flow.proofs.Ladders.Stepping.{stored-append}
use Rattle.power_flow.proofs.Networks.Fusing.{fewer_passed}
use Rattle.power_flow.proofs.Boxes.BoxesSources.{box_in, right_pin_in, right_pin_at, pin_value, block_at, name_bit, name_value, pin_source_value, block_kept}
use Rattle.power_flow.proofs.Walks.Sweeping as sweeping
use Rattle.power_flow.proofs.Networks.ColumnSteps as steps
use Rattle.power_flow.proofs.Networks.ColumnSteps.{number_at}

-- the block results are those of the boxes alone
only_boxes : (ds : List Declaration) (between : List Slot) (es : List Element)
    → flat_map (result_stores ds between) es ≡ flat_map (λ b. flat_map (λ pin. side_stores ds between b pin pin.side) b.pins) (boxes_of es)
only_boxes ds between [] = refl
only_boxes ds between (Wire p ∷ es) = only_boxes ds between es
only_boxes ds between (Join p ∷ es) = only_boxes ds between es
only_boxes ds between (Upright p ∷ es) = only_boxes ds between es
only_boxes ds between (Contact p ∷ es) = only_boxes ds between es
only_boxes ds between (Coil p ∷ es) = only_boxes ds between es
only_boxes ds between (Box b ∷ es) = ap (λ rest. flat_map (λ pin. side_stores ds between b pin pin.side) b.pins ++ rest) (only_boxes ds between es)

-- what the pins of a box store is what its output pins store
pins_same : (ds : List Declaration) (top : ℕ) (between : List Slot) (b : DrawnBox) (block : BlockType) (values : PinsOut)
    → ((name : List ℕ) (field : Field) → pin_of block name ≡ Some (output field) → value_at ds between b.instance name ≡ Some (field_value values field))
    → (pins : List DrawnPin) (outputs : List BoundOutput) → AllZip (IsBoundOutput ds top block) (right_pins pins) outputs
    → flat_map (λ pin. side_stores ds between b pin pin.side) pins ≡ pin_stores values outputs
pins_same ds top between b block values value [] [] z = refl
pins_same ds top between b block values value [] (o ∷ outputs) z = absurd z
pins_same ds top between b block values value (pin ∷ pins) outputs z = go (pins_same ds top between b block values value pins) pin.side outputs z
  where
    stored_by : (o : BoundOutput) (found : Option Value) → found ≡ Some (field_value values o.field) → (w : Option Operand) → o.store ≡ option_and_then (λ t. place_of ds t.text) w
        → option_map_or (λ t. store (place_of ds t.text) found) w [] ≡ pin_store values o o.store
    stored_by o found is None nothing = ap (pin_store values o) (sym nothing)
    stored_by o found is (Some t) place = ap (λ v. store (place_of ds t.text) v) is ∙ store_is o (place_of ds t.text) ∙ ap (pin_store values o) (sym place)
      where
        store_is : (o : BoundOutput) (k : Option ℕ) → store k (Some (field_value values o.field)) ≡ pin_store values o k
        store_is o None = refl
        store_is o (Some k) = refl

    go : ((outs : List BoundOutput) → AllZip (IsBoundOutput ds top block) (right_pins pins) outs → flat_map (λ p. side_stores ds between b p p.side) pins ≡ pin_stores values outs)
        → (s : Side) (outs : List BoundOutput) → AllZip (IsBoundOutput ds top block) (cons_option (right_pin pin s) (right_pins pins)) outs
        → side_stores ds between b pin s ++ flat_map (λ p. side_stores ds between b p p.side) pins ≡ pin_stores values outs
    go later Left outs z' = later outs z'
    go later Right [] z' = absurd z'
    go later Right (o ∷ outs) z' =
        let here = stored_by o (value_at ds between b.instance pin.name) (value pin.name o.field (z'.0).named) pin.operand (z'.0).store in
        ap (λ l. l ++ flat_map (λ p. side_stores ds between b p p.side) pins) here ∙ ap (λ l. pin_store values o o.store ++ l) (later outs z'.1)

-- stores that agree at each box agree
boxes_same : (F : DrawnBox → List (ℕ × Value)) (bs : List DrawnBox) (es : List BoundBox) (rs : List Instance) → length bs ≡ length es → length rs ≡ length es
    → ((j : ℕ) (b : DrawnBox) (e : BoundBox) (i : Instance) → slice_get bs j ≡ Some b → slice_get es j ≡ Some e → slice_get rs j ≡ Some i → F b ≡ pin_stores i.outputs e.outputs.items)
    → flat_map F bs ≡ output_stores es rs
boxes_same F [] [] rs l m h = refl
boxes_same F [] (e ∷ es) rs l m h = cc
boxes_same F (b ∷ bs) [] rs l m h = cc
boxes_same F (b ∷ bs) (e ∷ es) [] l m h = cc
boxes_same F (b ∷ bs) (e ∷ es) (i ∷ rs) l m h =
    let one : suc (length bs) ≡ suc (length es) = l in
    let two : suc (length rs) ≡ suc (length es) = m in
    let rest = boxes_same F bs es rs (omega arith) (omega arith) (λ j. h (suc j)) in
    ap (λ l'. l' ++ flat_map F bs) (h 0 b e i refl refl refl) ∙ ap (λ l'. pin_stores i.outputs e.outputs.items ++ l') rest

-- a list of bits that has F of each element is the map of F
bits_map : (es : List Element) (bits : List Bool) (n : ℕ) (F : ℕ → Element → Bool) → length bits ≡ length es
    → ((k : ℕ) (e : Element) → slice_get es k ≡ Some e → bit_at bits k ≡ F (n + k) e) → bits ≡ map (λ e. F e.0 e.1) (enumerate_from n es)
bits_map [] [] n F l h = refl
bits_map [] (b ∷ bs) n F l h = cc
bits_map (e ∷ es) [] n F l h = cc
bits_map (e ∷ es) (b ∷ bs) n F l h =
    let here : n + 0 ≡ n = omega arith in
    let first : b ≡ F n e = rw here at (h 0 e refl) in
    let short : length bs ≡ length es = (let long : suc (length bs) ≡ suc (length es) = l in omega arith) in
    let rest = bits_map es bs (n + 1) F short (λ k e' at. let along : n + suc k ≡ n + 1 + k = omega arith in rw along at (h (suc k) e' at)) in
    cc

-- the box with the number j among the boxes stands at some k among the elements
box_element : (es : List Element) (j : ℕ) (b : DrawnBox) → slice_get (boxes_of es) j ≡ Some b → (k : ℕ) × (slice_get es k ≡ Some (Box b)) × (length (boxes_of (take k es)) ≡ j)
box_element [] j b at = absurd cc
box_element (Wire p ∷ es) j b at = let h = box_element es j b at in (suc h.0, h.1, h.2)
box_element (Join p ∷ es) j b at = let h = box_element es j b at in (suc h.0, h.1, h.2)
box_element (Upright p ∷ es) j b at = let h = box_element es j b at in (suc h.0, h.1, h.2)
box_element (Contact p ∷ es) j b at = let h = box_element es j b at in (suc h.0, h.1, h.2)
box_element (Coil p ∷ es) j b at = let h = box_element es j b at in (suc h.0, h.1, h.2)
box_element (Box a ∷ es) zero b at = (zero, ap Some (ap Box (some_same at)), refl)
box_element (Box a ∷ es) (suc j) b at = let h = box_element es j b at in (suc h.0, h.1, ap suc h.2)

-- the memory of a coil once it is stored, and of any other element as it was
abbrev stored_memory : (ℕ → Bool) → List Bool → ℕ → Element → Bool
stored_memory left memories k (Wire p) = bit_at memories k
stored_memory left memories k (Join p) = bit_at memories k
stored_memory left memories k (Upright p) = bit_at memories k
stored_memory left memories k (Contact c) = bit_at memories k
stored_memory left memories k (Coil c) = coil_memory c.kind (left k) (bit_at memories k)
stored_memory left memories k (Box b) = bit_at memories k

abbrev pub coils_from : List Declaration → ℕ → List Element → List BoundCoil
coils_from ds n es = filter_map (λ e. bound_coil ds e.0 e.1) (enumerate_from n es)

-- coils after n leave the memories before it
earlier_memories : (ds : List Declaration) (es : List Element) (n i : ℕ) (links memories : List Bool) (k : ℕ) → k < n → bit_at (bound_memories (coils_from ds n es) i links memories) k ≡ bit_at memories k
earlier_memories ds [] n i links memories k lt = refl
earlier_memories ds (Wire p ∷ es) n i links memories k lt = earlier_memories ds es (n + 1) i links memories k (omega arith)
earlier_memories ds (Join p ∷ es) n i links memories k lt = earlier_memories ds es (n + 1) i links memories k (omega arith)
earlier_memories ds (Upright p ∷ es) n i links memories k lt = earlier_memories ds es (n + 1) i links memories k (omega arith)
earlier_memories ds (Contact p ∷ es) n i links memories k lt = earlier_memories ds es (n + 1) i links memories k (omega arith)
earlier_memories ds (Box p ∷ es) n i links memories k lt = earlier_memories ds es (n + 1) i links memories k (omega arith)
earlier_memories ds (Coil c ∷ es) n i links memories k lt =
    let v = coil_memory c.kind (bit_at links i) (bit_at memories n) in
    earlier_memories ds es (n + 1) (i + 1) links (set memories n v) k (omega arith) ∙ get_or-set_other memories n k v false (λ e. omega arith)

long_memories : (ds : List Declaration) (es : List Element) (n i : ℕ) (links memories : List Bool) → length (bound_memories (coils_from ds n es) i links memories) ≡ length memories
long_memories ds [] n i links memories = refl
long_memories ds (Wire p ∷ es) n i links memories = long_memories ds es (n + 1) i links memories
long_memories ds (Join p ∷ es) n i links memories = long_memories ds es (n + 1) i links memories
long_memories ds (Upright p ∷ es) n i links memories = long_memories ds es (n + 1) i links memories
long_memories ds (Contact p ∷ es) n i links memories = long_memories ds es (n + 1) i links memories
long_memories ds (Box p ∷ es) n i links memories = long_memories ds es (n + 1) i links memories
long_memories ds (Coil c ∷ es) n i links memories =
    let v = coil_memory c.kind (bit_at links i) (bit_at memories n) in
    long_memories ds es (n + 1) (i + 1) links (set memories n v) ∙ length-set memories n v

-- the left link of each coil is the power where it begins
abbrev AreLeft : (ℕ → Bool) → List Bool → ℕ → ℕ → List Element → Type 0
AreLeft left links n i es = (k : ℕ) (c : DrawnCoil) → slice_get es k ≡ Some (Coil c) → bit_at links (i + length (coils_of (take k es))) ≡ left (n + k)

left_more : (left : ℕ → Bool) (links : List Bool) (n i : ℕ) (e : Element) (es : List Element) → length (coils_of (e ∷ [])) ≡ 0 → ((k : ℕ) → length (coils_of (take (suc k) (e ∷ es))) ≡ length (coils_of (take k es)))
    → AreLeft left links n i (e ∷ es) → AreLeft left links (n + 1) i es
left_more left links n i e es none same are k c at =
    let along : n + suc k ≡ n + 1 + k = omega arith in
    ap (λ w. bit_at links (i + w)) (sym (same k)) ∙ are (suc k) c at ∙ ap left along

left_coil : (left : ℕ → Bool) (links : List Bool) (n i : ℕ) (x : DrawnCoil) (es : List Element) → AreLeft left links n i (Coil x ∷ es) → AreLeft left links (n + 1) (i + 1) es
left_coil left links n i x es are k c at =
    let along : n + suc k ≡ n + 1 + k = omega arith in
    let m = length (coils_of (take k es)) in
    let count : i + 1 + m ≡ i + suc m = omega arith in
    ap (bit_at links) count ∙ are (suc k) c at ∙ ap left along

memories_are : (ds : List Declaration) (left : ℕ → Bool) (es : List Element) (n i : ℕ) (links memories : List Bool) → AreLeft left links n i es → n + length es ≤ length memories
    → (k : ℕ) (e : Element) → slice_get es k ≡ Some e → bit_at (bound_memories (coils_from ds n es) i links memories) (n + k) ≡ stored_memory left memories (n + k) e
memories_are ds left [] n i links memories are long k e at = absurd cc
memories_are ds left (x ∷ es) n i links memories are long zero e at =
    let here : n + 0 ≡ n = omega arith in
    let P : ℕ → Type 0 = λ w. bit_at (bound_memories (coils_from ds n (x ∷ es)) i links memories) w ≡ stored_memory left memories w e in
    let Q : Element → Type 0 = λ w. bit_at (bound_memories (coils_from ds n (x ∷ es)) i links memories) n ≡ stored_memory left memories n w in
    subst P (sym here) (subst Q (some_same at) (first x are))
  where
    first : (y : Element) → AreLeft left links n i (y ∷ es) → bit_at (bound_memories (coils_from ds n (y ∷ es)) i links memories) n ≡ stored_memory left memories n y
    first (Wire p) a = earlier_memories ds es (n + 1) i links memories n (omega arith)
    first (Join p) a = earlier_memories ds es (n + 1) i links memories n (omega arith)
    first (Upright p) a = earlier_memories ds es (n + 1) i links memories n (omega arith)
    first (Contact p) a = earlier_memories ds es (n + 1) i links memories n (omega arith)
    first (Box p) a = earlier_memories ds es (n + 1) i links memories n (omega arith)
    first (Coil c) a =
        let more : length (x ∷ es) ≡ suc (length es) = refl in
        let v = coil_memory c.kind (bit_at links i) (bit_at memories n) in
        let link : bit_at links i ≡ left n = (let one : i ≡ i + 0 = omega arith in ap (bit_at links) one) ∙ a 0 c refl ∙ (let two : n + 0 ≡ n = omega arith in ap left two) in
        earlier_memories ds es (n + 1) (i + 1) links (set memories n v) n (omega arith) ∙ get_or-set_same memories n v false (omega arith) ∙ ap (λ l. coil_memory c.kind l (bit_at memories n)) link
memories_are ds left (Wire p ∷ es) n i links memories are long (suc k) e at =
    let along : n + suc k ≡ n + 1 + k = omega arith in
    let more : length (Wire p ∷ es) ≡ suc (length es) = refl in
    let P : ℕ → Type 0 = λ w. bit_at (bound_memories (coils_from ds (n + 1) es) i links memories) w ≡ stored_memory left memories w e in
    subst P (sym along) (memories_are ds left es (n + 1) i links memories (left_more left links n i (Wire p) es refl (λ j. refl) are) (omega arith) k e at)
memories_are ds left (Join p ∷ es) n i links memories are long (suc k) e at =
    let along : n + suc k ≡ n + 1 + k = omega arith in
    let more : length (Join p ∷ es) ≡ suc (length es) = refl in
    let P : ℕ → Type 0 = λ w. bit_at (bound_memories (coils_from ds (n + 1) es) i links memories) w ≡ stored_memory left memories w e in
    subst P (sym along) (memories_are ds left es (n + 1) i links memories (left_more left links n i (Join p) es refl (λ j. refl) are) (omega arith) k e at)
memories_are ds left (Upright p ∷ es) n i links memories are long (suc k) e at =
    let along : n + suc k ≡ n + 1 + k = omega arith in
    let more : length (Upright p ∷ es) ≡ suc (length es) = refl in
    let P : ℕ → Type 0 = λ w. bit_at (bound_memories (coils_from ds (n + 1) es) i links memories) w ≡ stored_memory left memories w e in
    subst P (sym along) (memories_are ds left es (n + 1) i links memories (left_more left links n i (Upright p) es refl (λ j. refl) are) (omega arith) k e at)
memories_are ds left (Contact p ∷ es) n i links memories are long (suc k) e at =
    let along : n + suc k ≡ n + 1 + k = omega arith in
    let more : length (Contact p ∷ es) ≡ suc (length es) = refl in
    let P : ℕ → Type 0 = λ w. bit_at (bound_memories (coils_from ds (n + 1) es) i links memories) w ≡ stored_memory left memories w e in
    subst P (sym along) (memories_are ds left es (n + 1) i links memories (left_more left links n i (Contact p) es refl (λ j. refl) are) (omega arith) k e at)
memories_are ds left (Box p ∷ es) n i links memories are long (suc k) e at =
    let along : n + suc k ≡ n + 1 + k = omega arith in
    let more : length (Box p ∷ es) ≡ suc (length es) = refl in
    let P : ℕ → Type 0 = λ w. bit_at (bound_memories (coils_from ds (n + 1) es) i links memories) w ≡ stored_memory left memories w e in
    subst P (sym along) (memories_are ds left es (n + 1) i links memories (left_more left links n i (Box p) es refl (λ j. refl) are) (omega arith) k e at)
memories_are ds left (Coil c ∷ es) n i links memories are long (suc k) e at =
    let along : n + suc k ≡ n + 1 + k = omega arith in
    let more : length (Coil c ∷ es) ≡ suc (length es) = refl in
    let v = coil_memory c.kind (bit_at links i) (bit_at memories n) in
    let long' = length-set memories n v in
    let P : ℕ → Type 0 = λ w. bit_at (bound_memories (coils_from ds (n + 1) es) (i + 1) links (set memories n v)) w ≡ stored_memory left memories w e in
    subst P (sym along) (memories_are ds left es (n + 1) (i + 1) links (set memories n v) (left_coil left links n i c es are) (omega arith) k e at
    ∙ same e (n + 1 + k) (omega arith))
  where
    same : (y : Element) (j : ℕ) → n < j → stored_memory left (set memories n (coil_memory c.kind (bit_at links i) (bit_at memories n))) j y ≡ stored_memory left memories j y
    same (Wire p) j lt = get_or-set_other memories n j (coil_memory c.kind (bit_at links i) (bit_at memories n)) false (λ e'. omega arith)
    same (Join p) j lt = get_or-set_other memories n j (coil_memory c.kind (bit_at links i) (bit_at memories n)) false (λ e'. omega arith)
    same (Upright p) j lt = get_or-set_other memories n j (coil_memory c.kind (bit_at links i) (bit_at memories n)) false (λ e'. omega arith)
    same (Contact p) j lt = get_or-set_other memories n j (coil_memory c.kind (bit_at links i) (bit_at memories n)) false (λ e'. omega arith)
    same (Box p) j lt = get_or-set_other memories n j (coil_memory c.kind (bit_at links i) (bit_at memories n)) false (λ e'. omega arith)
    same (Coil p) j lt = ap (coil_memory p.kind (left j)) (get_or-set_other memories n j (coil_memory c.kind (bit_at links i) (bit_at memories n)) false (λ e'. omega arith))

-- the stores of the coils are those of the network
stores_are : (ds : List Declaration) (old : Moment) (left : List Bool) (es : List Element) (n i : ℕ) (links memories : List Bool) → AreLeft (bit_at left) links n i es
    → ((k : ℕ) (c : DrawnCoil) → slice_get es k ≡ Some (Coil c) → bit_at memories (n + k) ≡ bit_at old.memories (n + k))
    → bound_stores (coils_from ds n es) i links memories ≡ flat_map (λ e. coil_stores ds old left e.0 e.1) (enumerate_from n es)
stores_are ds old left [] n i links memories are kept = refl
stores_are ds old left (Wire p ∷ es) n i links memories are kept = stores_are ds old left es (n + 1) i links memories (left_more (bit_at left) links n i (Wire p) es refl (λ j. refl) are) (λ k c at. let along : n + suc k ≡ n + 1 + k = omega arith in rw along at (kept (suc k) c at))
stores_are ds old left (Join p ∷ es) n i links memories are kept = stores_are ds old left es (n + 1) i links memories (left_more (bit_at left) links n i (Join p) es refl (λ j. refl) are) (λ k c at. let along : n + suc k ≡ n + 1 + k = omega arith in rw along at (kept (suc k) c at))
stores_are ds old left (Upright p ∷ es) n i links memories are kept = stores_are ds old left es (n + 1) i links memories (left_more (bit_at left) links n i (Upright p) es refl (λ j. refl) are) (λ k c at. let along : n + suc k ≡ n + 1 + k = omega arith in rw along at (kept (suc k) c at))
stores_are ds old left (Contact p ∷ es) n i links memories are kept = stores_are ds old left es (n + 1) i links memories (left_more (bit_at left) links n i (Contact p) es refl (λ j. refl) are) (λ k c at. let along : n + suc k ≡ n + 1 + k = omega arith in rw along at (kept (suc k) c at))
stores_are ds old left (Box p ∷ es) n i links memories are kept = stores_are ds old left es (n + 1) i links memories (left_more (bit_at left) links n i (Box p) es refl (λ j. refl) are) (λ k c at. let along : n + suc k ≡ n + 1 + k = omega arith in rw along at (kept (suc k) c at))
stores_are ds old left (Coil x ∷ es) n i links memories are kept =
    let v = coil_memory x.kind (bit_at links i) (bit_at memories n) in
    let zero_i : i ≡ i + 0 = omega arith in
    let zero_n : n + 0 ≡ n = omega arith in
    let link : bit_at links i ≡ bit_at left n = ap (bit_at links) zero_i ∙ are 0 x refl ∙ ap (bit_at left) zero_n in
    let memory : bit_at memories n ≡ bit_at old.memories n = ap (bit_at memories) (sym zero_n) ∙ kept 0 x refl ∙ ap (bit_at old.memories) zero_n in
    let F : Bool → Bool → List (ℕ × Value) = λ l m. store (place_of ds x.name) (option_map BoolValue (coil_value x.kind l m)) in
    let one : F (bit_at links i) (bit_at memories n) ≡ F (bit_at left n) (bit_at old.memories n) = ap (λ l. F l (bit_at memories n)) link ∙ ap (F (bit_at left n)) memory in
    let rest = stores_are ds old left es (n + 1) (i + 1) links (set memories n v) (left_coil (bit_at left) links n i x es are)
    (λ k c at.
    let along : n + suc k ≡ n + 1 + k = omega arith in
    get_or-set_other memories n (n + 1 + k) v false (λ e'. omega arith) ∙ ap (bit_at memories) (sym along) ∙ kept (suc k) c at ∙ ap (bit_at old.memories) along) in
    ap (λ w. w ++ bound_stores (coils_from ds (n + 1) es) (i + 1) links (set memories n v)) one ∙ ap (λ w. F (bit_at left n) (bit_at old.memories n) ++ w) rest

-- bits that each element has make a list
choose_bits : (es : List Element) (P : Place → Type 0) → ((k : ℕ) (e : Element) → slice_get es k ≡ Some e → (b : Bool) × ((b ≡ true) ↔ P (first_place e)))
    → (bits : List Bool) × (length bits ≡ length es) × ((k : ℕ) (e : Element) → slice_get es k ≡ Some e → (bit_at bits k ≡ true) ↔ P (first_place e))
choose_bits [] P decided = ([], refl, λ k e at. absurd cc)
choose_bits (x ∷ es) P decided =
    let here = decided 0 x refl in
    let rest = choose_bits es P (λ k. decided (suc k)) in
    (here.0 ∷ rest.0, ap suc rest.1, each here.0 here.1 rest.0 rest.2)
  where
    each : (b : Bool) → (b ≡ true) ↔ P (first_place x) → (bits : List Bool) → ((k : ℕ) (e : Element) → slice_get es k ≡ Some e → (bit_at bits k ≡ true) ↔ P (first_place e))
        → (k : ℕ) (e : Element) → slice_get (x ∷ es) k ≡ Some e → (bit_at (b ∷ bits) k ≡ true) ↔ P (first_place e)
    each b is bits rest zero e at = let Q : Element → Type 0 = λ w. (b ≡ true) ↔ P (first_place w) in subst Q (some_same at) is
    each b is bits rest (suc k) e at = rest k e at

count_coils : (ds : List Declaration) (es : List Element) (n : ℕ) → length (coils_from ds n es) ≡ length (coils_of es)
count_coils ds [] n = refl
count_coils ds (Wire p ∷ es) n = count_coils ds es (n + 1)
count_coils ds (Join p ∷ es) n = count_coils ds es (n + 1)
count_coils ds (Upright p ∷ es) n = count_coils ds es (n + 1)
count_coils ds (Contact p ∷ es) n = count_coils ds es (n + 1)
count_coils ds (Box p ∷ es) n = count_coils ds es (n + 1)
count_coils ds (Coil p ∷ es) n = ap suc (count_coils ds es (n + 1))

pub coils_same : (ds : List Declaration) (es : List Element) → bound_coils ds es ≡ coils_from ds 0 es
unfolding bound_coils
coils_same ds es = refl

module _ (ds : List Declaration) (d : Diagram) (circuit : Circuit) (dt : ℕ) (slots between : List Slot) (old : List Bool) (a m : Pass)
    (is : IsCircuit ds d circuit) (fits : AreSlotsOf ds slots)
    (passed : ArePassed circuit.boxes.items slots dt circuit.steps.items a m)
    (memories_start : a.memories ≡ old) (memories_long : length old ≡ length d.elements) (rows_long : length a.rows ≡ circuit.rows)
    (links_long : length a.links ≡ length circuit.coils.items) (results_long : length a.results ≡ length circuit.boxes.items)
    (same_length : length between ≡ length slots)
    (placed : (j : ℕ) (e : BoundBox) (i : Instance) → slice_get circuit.boxes.items j ≡ Some e → slice_get m.results j ≡ Some i → slice_get between e.instance ≡ Some (Block i))
    (others : (k : ℕ) → All (λ e. e.instance ≢ k) circuit.boxes.items → slice_get between k ≡ slice_get slots k) where
  abbrev before' : Moment
  before' = moment slots old

  abbrev boxes : List BoundBox
  boxes = circuit.boxes.items

  abbrev Starts : Place → Type 0
  Starts p = IsSource ds d between p

  abbrev lets_through : ℕ → Bool
  lets_through k = conducts ds d before' k

  bound : AreBoundBoxes ds d is.top circuit.boxes.items
  bound = is.boxes

  -- the step of a box leaves a block of its type
  made_block : (b : DrawnBox) (e : BoundBox) (rows : List Bool) → IsBoundBox ds is.top b e → (box_result e slots dt rows).state.block ≡ e.block
  unfolding box_result
  made_block b e rows is' =
      let block = block_at ds slots e.instance e.block fits is'.declared in
      block_kept (state_in e.block (slice_get slots e.instance)) (box_inputs e slots rows) dt
      ∙ ap (λ o. (state_in e.block o).block) block.1
      ∙ block.2

  -- what the slots between hold of a box is its result
  value_between : (j : ℕ) (b : DrawnBox) (e : BoundBox) (i : Instance) → slice_get boxes j ≡ Some e → IsBoundBox ds is.top b e → slice_get m.results j ≡ Some i → (pin : List ℕ)
      → value_at ds between b.instance pin ≡ slot_value (Block i) pin
  value_between j b e i at is' has pin =
      ap (option_and_then (λ k. option_and_then (λ s. slot_value s pin) (slice_get between k))) is'.place
      ∙ ap (option_and_then (λ s. slot_value s pin)) (placed j e i at has)

  has_of : (e : Element) (p : Place) → IsStop e p → Has e p
  has_of e p (inl first) = inl first
  has_of e p (inr (inl takes)) = inr (inr (inl takes))
  has_of e p (inr (inr stands)) = inr (inr (inr stands))

  output_gives : (e : Element) (p : Place) → IsOutputOn ds between e p → (b : DrawnBox) × (e ≡ Box b) × Gives (Box b) p
  output_gives (Wire at) p out = absurd out
  output_gives (Join at) p out = absurd out
  output_gives (Upright at) p out = absurd out
  output_gives (Contact at) p out = absurd out
  output_gives (Coil at) p out = absurd out
  output_gives (Box b) p out =
      let pin = any_found (λ w. (w.side ≡ Right) × (w.row ≡ p.row) × IsTrue (is_true (value_at ds between b.instance w.name))) b.pins out.1 in
      (b, refl, (out.0, any_at (λ w. (w.side ≡ Right) × (w.row ≡ p.row)) b.pins pin.0 pin.1 pin.2 (pin.3.0, pin.3.1)))

  pub no_source : (k : ℕ) (e : Element) (p : Place) → slice_get d.elements k ≡ Some e → IsStop e p → Starts p → ⊥
  no_source k e p at stop (inl rail) = is.sound.apart.rails e p (contains_at d.elements k e at) (has_of e p stop) rail
  no_source k e p at stop (inr any) =
      let found = any_found (λ f. IsOutputOn ds between f p) d.elements any in
      let out = output_gives found.1 p found.3 in
      let at' : slice_get d.elements found.0 ≡ Some (Box out.0) = found.2 ∙ ap Some out.1 in
      let same = is.sound.apart.elements k found.0 e (Box out.0) p at at' (has_of e p stop) (inr (inl out.2)) in
      let box : e ≡ Box out.0 = some_same (sym at ∙ ap (slice_get d.elements) same ∙ at') in
      let P : Element → Type 0 = λ w. IsStop w p in
      let wide = is.sound.wide out.0 (contains_at d.elements found.0 (Box out.0) at') in
      let right = out.2.0 in
      no_stop out.0 wide right (subst P box stop)
    where
      no_stop : (b : DrawnBox) → b.left < b.right → p.column ≡ b.right → IsStop (Box b) p → ⊥
      no_stop b wide right (inl first) = let column = ap (λ (w : Place). w.column) first in omega arith
      no_stop b wide right (inr (inl takes)) = let left = takes.0 in omega arith
      no_stop b wide right (inr (inr stands)) = stands

  pub rail_source : (p : Place) → Contains d.rails p → Starts p
  rail_source p rail = inl rail

  pub reads : (k : ℕ) (c : DrawnContact) → slice_get d.elements k ≡ Some (Contact c) → lets_through k ≡ contact_conducts c.kind (is_true (source_value slots (name_source ds c.name))) (bit_at old k)
  unfolding conducts
  reads k c at =
      ap (λ o. option_map_or (element_conducts ds before' k) o true) at
      ∙ ap (λ v. contact_conducts c.kind (is_true v) (bit_at old k)) (name_value ds slots c.name fits)

  pub lets_coil : (k : ℕ) (c : DrawnCoil) → slice_get d.elements k ≡ Some (Coil c) → lets_through k ≡ true
  unfolding conducts
  lets_coil k c at = ap (λ o. option_map_or (element_conducts ds before' k) o true) at

  abbrev box_number : ℕ → ℕ
  box_number k = length (boxes_of (take k d.elements))

  box_is : (k : ℕ) (b : DrawnBox) (e : BoundBox) → slice_get d.elements k ≡ Some (Box b) → slice_get boxes (box_number k) ≡ Some e → IsBoundBox ds is.top b e
  box_is k b e at at' =
      let found = zip_at (IsBoundBox ds is.top) (boxes_of d.elements) boxes bound.bound (box_number k) b (number_at box_of d.elements k (Box b) b at refl) in
      let P : BoundBox → Type 0 = λ x. IsBoundBox ds is.top b x in
      subst P (some_same (sym found.1 ∙ at')) found.2

  -- the rows right of a box show where walks begin
  pub shown : (k : ℕ) (b : DrawnBox) → slice_get d.elements k ≡ Some (Box b) → (e : BoundBox) (rows : List Bool) → slice_get boxes (box_number k) ≡ Some e → slice_get m.results (box_number k) ≡ Some (box_result e slots dt rows)
      → (q : Place) → Gives (Box b) q → IsMarked e.outputs.items (box_result e slots dt rows).outputs (q.row - is.top) ↔ Starts q
  shown k b at e rows at' has q gives = (there, back)
    where
      is' : IsBoundBox ds is.top b e
      is' = box_is k b e at at'

      value_of_pin : (name : List ℕ) (field : Field) → pin_of e.block name ≡ Some (output field) → value_at ds between b.instance name ≡ Some (field_value (box_result e slots dt rows).outputs field)
      value_of_pin name field named =
          value_between (box_number k) b e (box_result e slots dt rows) at' is' has name
          ∙ pin_value (box_result e slots dt rows) e.block name field (made_block b e rows is') named

      row_in : (x : Place) → Gives (Box b) x → is.top ≤ x.row
      row_in x gives' = (is.rows (Box b) x (contains_at d.elements k (Box b) at) (inr (inl gives'))).0

      there : IsMarked e.outputs.items (box_result e slots dt rows).outputs (q.row - is.top) → Starts q
      there marked =
          let o = any_found (λ w. (w.row ≡ q.row - is.top) × (is_true (Some (field_value (box_result e slots dt rows).outputs w.field)) ≡ true)) e.outputs.items marked in
          let pin = zip_back (IsBoundOutput ds is.top e.block) (right_pins b.pins) e.outputs.items is'.outputs o.0 o.1 o.2 in
          let right = right_pin_in b.pins o.0 pin.0 pin.1 in
          let found = at_contains b.pins pin.0 right.0 in
          let gives' : Gives (Box b) (place pin.0.row b.right) = (refl, any_at (λ w. (w.side ≡ Right) × (w.row ≡ pin.0.row)) b.pins found.0 pin.0 found.1 (right.1, refl)) in
          let ge = row_in (place pin.0.row b.right) gives' in
          let ge' = row_in q gives in
          let one = o.3.0 in
          let two = pin.2.row in
          let row : pin.0.row ≡ q.row = omega arith in
          inr (any_at (λ f. IsOutputOn ds between f q) d.elements k (Box b) at (
            gives.0,
            any_at (λ w. (w.side ≡ Right) × (w.row ≡ q.row) × IsTrue (is_true (value_at ds between b.instance w.name))) b.pins found.0 pin.0 found.1
                (right.1, row, ap is_true (value_of_pin pin.0.name o.1.field pin.2.named) ∙ o.3.1),
          ))

      back : Starts q → IsMarked e.outputs.items (box_result e slots dt rows).outputs (q.row - is.top)
      back (inl rail) = absurd (is.sound.apart.rails (Box b) q (contains_at d.elements k (Box b) at) (inr (inl gives)) rail)
      back (inr any) =
          let found = any_found (λ f. IsOutputOn ds between f q) d.elements any in
          let out = output_gives found.1 q found.3 in
          let at2 : slice_get d.elements found.0 ≡ Some (Box out.0) = found.2 ∙ ap Some out.1 in
          let same = is.sound.apart.elements found.0 k (Box out.0) (Box b) q at2 at (inr (inl out.2)) (inr (inl gives)) in
          let element : found.1 ≡ Box b = some_same (sym found.2 ∙ ap (slice_get d.elements) same ∙ at) in
          let P : Element → Type 0 = λ w. IsOutputOn ds between w q in
          let on = subst P element found.3 in
          let pin = any_found (λ w. (w.side ≡ Right) × (w.row ≡ q.row) × IsTrue (is_true (value_at ds between b.instance w.name))) b.pins on.1 in
          let right = right_pin_at b.pins pin.1 pin.0 pin.2 pin.3.0 in
          let o = zip_at (IsBoundOutput ds is.top e.block) (right_pins b.pins) e.outputs.items is'.outputs right.0 pin.1 right.1 in
          any_at (λ w. (w.row ≡ q.row - is.top) × (is_true (Some (field_value (box_result e slots dt rows).outputs w.field)) ≡ true)) e.outputs.items right.0 o.0 o.1
          (o.2.row ∙ ap (λ r. r - is.top) pin.3.1, sym (ap is_true (value_of_pin pin.1.name o.0.field o.2.named)) ∙ pin.3.2)

  abbrev Seen : ℕ → Pass → Type 0
  Seen n w = steps.Seen ds d is.top circuit.rows circuit.boxes.items slots dt lets_through Starts is.sound is.rows no_source rail_source old n w

  pub start : Seen 0 a
  start = record {
    known = sweeping.nothing_known d is.top circuit.rows lets_through Starts is.sound is.rows no_source rail_source a.rows rows_long;
    memory = λ k e lt at. absurd (omega arith);
    later = λ k le. ap (λ w. bit_at w k) memories_start;
    memory_long = ap (λ w. length w) memories_start ∙ memories_long;
    link = λ k c lt at. absurd (omega arith);
    links_long = links_long ∙ ap (λ w. length w) (is.coils ∙ coils_same ds d.elements) ∙ count_coils ds d.elements 0;
    made = λ k b lt at. absurd (omega arith);
    results_long = results_long;
  }

  all_seen : Seen (length d.elements) m
  all_seen =
      let P : List Step → Type 0 = λ w. ArePassed boxes slots dt w a m in
      steps.swept ds d is.top circuit.rows circuit.boxes.items slots dt lets_through Starts is.sound is.rows no_source rail_source old m.results bound reads lets_coil shown
      is.steps.parts 0 (let long = is.steps.long in omega arith)
      (λ k e part at in'.
      let here : 0 + k ≡ k = omega arith in
      rw here (is.steps.each k e part (rw here at at) in'))
      a m start (subst P is.steps.whole (fewer_passed circuit.boxes.items slots dt circuit.steps.items is.plain a m is.fused passed)) refl

  bit_of : (e : BoundBox) (rows : List Bool) (k : ℕ) → k < 4 → bit (box_inputs e slots rows) k ≡ source_bit slots rows (bit_source e k)
  unfolding box_inputs
  bit_of e rows zero lt = refl
  bit_of e rows (suc zero) lt = refl
  bit_of e rows (suc (suc zero)) lt = refl
  bit_of e rows (suc (suc (suc zero))) lt = refl
  bit_of e rows (suc (suc (suc (suc k)))) lt = absurd (omega arith)

  int_of : (e : BoundBox) (rows : List Bool) → (box_inputs e slots rows).int ≡ int_or_zero (source_value slots e.int)
  unfolding box_inputs
  int_of e rows = refl

  time_of : (e : BoundBox) (rows : List Bool) → (box_inputs e slots rows).time ≡ time_or_zero (source_value slots e.time)
  unfolding box_inputs
  time_of e rows = refl

  four_bits : (e : BoundBox) (rows : List Bool) → length (box_inputs e slots rows).bits ≡ 4
  unfolding box_inputs
  four_bits e rows = refl

  -- the inputs with which a box was stepped are its inputs
  inputs_are : (b : DrawnBox) (e : BoundBox) (rows : List Bool) → IsBoundBox ds is.top b e
      → ((pin : DrawnPin) → Contains b.pins pin → pin.side ≡ Left → pin.operand ≡ None → (bit_at rows (pin.row - is.top) ≡ true) ↔ HasPower ds d before' between (place pin.row b.left))
      → AreInputs ds d before' between b e.block (box_inputs e slots rows)
  inputs_are b e rows is' power = record {
    four = four_bits e rows;
    bits = λ k pin lt drawn. input_bit k pin lt drawn.drawn drawn.side (is'.bits k pin lt drawn);
    no_bit = λ k lt none. bit_of e rows k lt ∙ ap (source_bit slots rows) (is'.no_bit k lt none);
    int = λ pin drawn. int_of e rows ∙ ap (λ s. int_or_zero (source_value slots s)) (is'.int pin drawn) ∙ ap int_or_zero (pin_source_value ds slots pin fits);
    no_int = λ none. int_of e rows ∙ ap (λ s. int_or_zero (source_value slots s)) (is'.no_int none);
    time = λ pin drawn. time_of e rows ∙ ap (λ s. time_or_zero (source_value slots s)) (is'.time pin drawn) ∙ ap time_or_zero (pin_source_value ds slots pin fits);
    no_time = λ none. time_of e rows ∙ ap (λ s. time_or_zero (source_value slots s)) (is'.no_time none);
  }
    where
      input_bit : (k : ℕ) (pin : DrawnPin) → k < 4 → Contains b.pins pin → pin.side ≡ Left → IsBitSource ds is.top pin (bit_source e k) → IsInputBit ds d before' between b pin (bit (box_inputs e slots rows) k)
      input_bit k pin lt in' side is'' = go pin.operand refl is''
        where
          go : (o : Option Operand) → pin.operand ≡ o → MatchOption o (bit_source e k ≡ source.Power (pin.row - is.top)) (λ w. bit_source e k ≡ name_source ds w.text)
              → MatchOption o (IsTrue (bit (box_inputs e slots rows) k) ↔ HasPower ds d before' between (place pin.row b.left)) (λ w. bit (box_inputs e slots rows) k ≡ is_true (value_of ds slots w.text))
          go None none row =
              let same : bit (box_inputs e slots rows) k ≡ bit_at rows (pin.row - is.top) = bit_of e rows k lt ∙ ap (source_bit slots rows) row in
              let whole = power pin in' side none in
              (λ on. whole.0 (sym same ∙ on), λ on. same ∙ whole.1 on)
          go (Some w) some name = bit_of e rows k lt ∙ ap (source_bit slots rows) name ∙ name_bit ds slots rows w.text fits

  result_is : (e : BoundBox) (rows : List Bool) (i : Instance) → slice_get slots e.instance ≡ Some (Block i)
      → box_result e slots dt rows ≡ (record { state = after i.state (box_inputs e slots rows) dt; outputs = outputs_after i.state (box_inputs e slots rows) dt })
  unfolding box_result
  result_is e rows i stands =
      let made : BlockState → Instance = λ s. record { state = after s (box_inputs e slots rows) dt; outputs = outputs_after s (box_inputs e slots rows) dt } in
      ap (λ o. made (state_in e.block o)) stands

  -- the slots with the results put in are a step of the blocks
  pub blocks_step : BlocksStep ds d dt before' between
  blocks_step = record { same_length = same_length; stepped = one; others = none }
    where
      one : (b : DrawnBox) (k : ℕ) (i : Instance) → Contains d.elements (Box b) → place_of ds b.instance ≡ Some k → slice_get slots k ≡ Some (Block i)
          → (pins : PinsIn) × AreInputs ds d before' between b i.state.block pins × (slice_get between k ≡ Some (Block record { state = after i.state pins dt; outputs = outputs_after i.state pins dt }))
      one b k i in' at was =
          let found = at_contains d.elements (Box b) in' in
          let made = all_seen.made found.0 b (slice_get_within d.elements found.0 (Box b) found.1) found.1 in
          let e = made.box in
          let is' = box_is found.0 b e found.1 made.box_at in
          let here : e.instance ≡ k = some_same (sym is'.place ∙ at) in
          let block = block_at ds slots e.instance e.block fits is'.declared in
          let same : Some (Block i) ≡ Some (Block block.0) = sym was ∙ ap (slice_get slots) (sym here) ∙ block.1 in
          let instance : i ≡ block.0 = cc in
          let type : i.state.block ≡ e.block = ap (λ (w : Instance). w.state.block) instance ∙ block.2 in
          let pins = box_inputs e slots made.rows in
          let P : BlockType → Type 0 = λ t. AreInputs ds d before' between b t pins in (
            pins,
            subst P (sym type) (inputs_are b e made.rows is' made.power),
            ap (slice_get between) (sym here) ∙ placed (box_number found.0) e (box_result e slots dt made.rows) made.box_at made.result_at
                ∙ ap (λ w. Some (Block w)) (result_is e made.rows i (ap (slice_get slots) here ∙ was)),
          )

      none : (k : ℕ) → ((b : DrawnBox) (i : Instance) → Contains d.elements (Box b) → place_of ds b.instance ≡ Some k → slice_get slots k ≡ Some (Block i) → ⊥) → slice_get between k ≡ slice_get slots k
      none k unowned = others k (λ j e lt same.
          let b = zip_back (IsBoundBox ds is.top) (boxes_of d.elements) boxes bound.bound j (get_or boxes j e) (slice_get-get_or boxes j e lt) in
          let block = block_at ds slots (get_or boxes j e).instance (get_or boxes j e).block fits b.2.declared in
          unowned b.0 block.0 (box_in d.elements j b.0 b.1) (b.2.place ∙ ap Some same) (sym (ap (slice_get slots) same) ∙ block.1))

  -- the stores of the boxes in the table are the block results
  results_same : flat_map (result_stores ds between) d.elements ≡ output_stores boxes m.results
  results_same =
      only_boxes ds between d.elements
      ∙ boxes_same (λ b. flat_map (λ pin. side_stores ds between b pin pin.side) b.pins) (boxes_of d.elements) boxes m.results (zip_length (IsBoundBox ds is.top) (boxes_of d.elements) boxes bound.bound) all_seen.results_long
      (λ j b e i at at' has.
      let element = box_element d.elements j b at in
      let made = all_seen.made element.0 b (slice_get_within d.elements element.0 (Box b) element.1) element.1 in
      let box : e ≡ made.box = some_same (sym at' ∙ ap (slice_get boxes) (sym element.2) ∙ made.box_at) in
      let is' = box_is element.0 b made.box element.1 made.box_at in
      let P : BoundBox → Type 0 = λ x. IsBoundBox ds is.top b x in
      let here = subst P (sym box) is' in
      let result : i ≡ box_result made.box slots dt made.rows = some_same (sym has ∙ ap (slice_get m.results) (sym element.2) ∙ made.result_at) in
      let type : i.state.block ≡ e.block = ap (λ (w : Instance). w.state.block) result ∙ made_block b made.box made.rows is' ∙ ap (λ (w : BoundBox). w.block) (sym box) in
      pins_same ds is.top between b e.block i.outputs
      (λ name field named. value_between j b e i at' here has name ∙ pin_value i e.block name field type named)
      b.pins e.outputs.items here.outputs)

  pending_none : (p : Place) → sweeping.IsPending d (length d.elements) p → ⊥
  pending_none p pending =
      let from = pending.from in
      let lt = slice_get_within d.elements pending.index pending.element pending.at in
      omega arith

  decided : (k : ℕ) (e : Element) → slice_get d.elements k ≡ Some e → (b : Bool) × ((b ≡ true) ↔ HasPower ds d before' between (first_place e))
  decided k e at = elim (all_seen.known.decided k e (slice_get_within d.elements k e at) at) [
    | inl pending ↦ absurd (pending_none (first_place e) pending)
    | inr found ↦ found
  ]

  left : (bits : List Bool) × (length bits ≡ length d.elements) × ((k : ℕ) (e : Element) → slice_get d.elements k ≡ Some e → (bit_at bits k ≡ true) ↔ HasPower ds d before' between (first_place e))
  left = choose_bits d.elements (λ p. HasPower ds d before' between p) decided

  left_links : AreLeft (bit_at left.0) m.links 0 0 d.elements
  left_links k c at =
      let here : 0 + length (coils_of (take k d.elements)) ≡ length (coils_of (take k d.elements)) = omega arith in
      let there : 0 + k ≡ k = omega arith in
      ap (bit_at m.links) here
      ∙ same_bit (bit_at m.links (length (coils_of (take k d.elements)))) (bit_at left.0 k) (all_seen.link k c (slice_get_within d.elements k (Coil c) at) at) (left.2 k (Coil c) at)
      ∙ ap (bit_at left.0) (sym there)

  coil_kept : (k : ℕ) (c : DrawnCoil) → slice_get d.elements k ≡ Some (Coil c) → bit_at m.memories (0 + k) ≡ bit_at old (0 + k)
  coil_kept k c at = let there : 0 + k ≡ k = omega arith in rw there (all_seen.memory k (Coil c) (slice_get_within d.elements k (Coil c) at) at)

  memory_same : (k : ℕ) (e : Element) → slice_get d.elements k ≡ Some e → stored_memory (bit_at left.0) m.memories k e ≡ next_memory ds before' left.0 k e
  memory_same k (Wire p) at = all_seen.memory k (Wire p) (slice_get_within d.elements k (Wire p) at) at
  memory_same k (Join p) at = all_seen.memory k (Join p) (slice_get_within d.elements k (Join p) at) at
  memory_same k (Upright p) at = all_seen.memory k (Upright p) (slice_get_within d.elements k (Upright p) at) at
  memory_same k (Contact c) at =
      all_seen.memory k (Contact c) (slice_get_within d.elements k (Contact c) at) at
      ∙ ap (λ v. contact_memory c.kind (is_true v) (bit_at old k)) (sym (name_value ds slots c.name fits))
  memory_same k (Coil c) at = ap (coil_memory c.kind (bit_at left.0 k)) (all_seen.memory k (Coil c) (slice_get_within d.elements k (Coil c) at) at)
  memory_same k (Box b) at = all_seen.memory k (Box b) (slice_get_within d.elements k (Box b) at) at

  -- what the scan leaves is the meaning of the network
  pub circuit_meaning : (new : List Bool) (after' : List Slot) → new ≡ bound_memories circuit.coils.items 0 m.links m.memories
      → after' ≡ stored (stored between (output_stores circuit.boxes.items m.results)) (bound_stores circuit.coils.items 0 m.links m.memories)
      → NetworkMeaning ds d dt (moment slots old) (moment after' new)
  unfolding stores
  circuit_meaning new after' new_is changed =
      let coils : circuit.coils.items ≡ coils_from ds 0 d.elements = is.coils ∙ coils_same ds d.elements in
      let memories : new ≡ bound_memories (coils_from ds 0 d.elements) 0 m.links m.memories = new_is ∙ ap (λ w. bound_memories w 0 m.links m.memories) coils in
      let stores' : bound_stores circuit.coils.items 0 m.links m.memories ≡ flat_map (λ e. coil_stores ds before' left.0 e.0 e.1) (enumerate_from 0 d.elements) =
      ap (λ w. bound_stores w 0 m.links m.memories) coils ∙ stores_are ds before' left.0 d.elements 0 0 m.links m.memories left_links coil_kept in
      let seen_long = all_seen.memory_long in
      record {
        between = between;
        blocks = blocks_step;
        links = left.0;
        power = record { same_length = left.1; power = left.2 };
        memories = bits_map d.elements new 0 (next_memory ds before' left.0) (ap (λ w. length w) memories ∙ long_memories ds d.elements 0 0 m.links m.memories ∙ seen_long) (λ k e at.
            let here : 0 + k ≡ k = omega arith in
            let each = memories_are ds (bit_at left.0) d.elements 0 0 m.links m.memories left_links (omega arith) k e at in
            rw here (ap (λ w. bit_at w k) memories ∙ rw here at each ∙ memory_same k e at));
        slots = changed ∙ ap (stored (stored between (output_stores circuit.boxes.items m.results))) stores'
            ∙ sym (stored-append between (output_stores circuit.boxes.items m.results) (flat_map (λ e. coil_stores ds before' left.0 e.0 e.1) (enumerate_from 0 d.elements)))
            ∙ ap (λ l. stored between (l ++ flat_map (λ e. coil_stores ds before' left.0 e.0 e.1) (enumerate_from 0 d.elements))) (sym results_same);
      }
