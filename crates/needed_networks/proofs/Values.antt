-- What is the same of two lists of slots that agree where a network reads.
use Rattle.std.proofs.Common.{◌≡◌, ℕ, ◌+◌, List, [], ◌∷◌, ◌++◌, Bool, Option, Some, None, Contains, MatchOption, slice_get, map, refl, sym, ap, ◌∙◌, subst}
use Rattle.std.specs.Prelude.{true}
use Rattle.std.specs.List.{before_first, after_first, flat_map, enumerate_from}
use Rattle.std.specs.Option.{option_and_then, option_map_or}
use Rattle.lists.proofs.Members.{cons_first, cons_later, contains_at}
use Rattle.drawings.specs.Symbols.{Contact as DrawnContact}
use Rattle.drawings.specs.declared.drawn_box.DrawnBox.{DrawnBox}
use Rattle.drawings.specs.declared.drawn_box.DrawnPin.{DrawnPin}
use Rattle.drawings.specs.declared.drawn_box.Operand.{Operand}
use Rattle.drawings.specs.declared.drawn_box.Side.{Side}
use Rattle.drawings.specs.declared.drawn_box.Side.TheVariants.{Left, Right}
use Rattle.network.specs.declared.element.Element.{Element}
use Rattle.network.specs.declared.element.Element.TheVariants.{Wire, Join, Upright, Contact, Coil, Box}
use Rattle.network.specs.Links.{Diagram}
use Rattle.declared_names.specs.declared.declarations.Declaration.{Declaration}
use Rattle.declared_names.specs.Names.{place_of, is_dot}
use Rattle.name_faults.specs.Literals.{literal_value}
use Rattle.scan_steps.specs.declared.slot.Slot.{Slot}
use Rattle.scan_steps.specs.Values.{is_true}
use Rattle.scan_steps.specs.Conducting.{bit_at, contact_conducts, contact_memory}
use Rattle.power_flow.specs.Values.{value_at, value_of, value_or, text_value, slot_value}
use Rattle.power_flow.specs.Meaning.{moment, conducts, element_conducts, next_memory, side_stores, result_stores, coil_stores, store, stores}
use Rattle.needed_networks.specs.Needs.{IsReadAt, Reads}

-- the slots agree at what the network reads
pub record ReadsSame (ds : List Declaration) (d : Diagram) (xs ys : List Slot) : Type 0 where
  pub same : (e : Element) (k : ℕ) → Contains d.elements e → Reads ds e k → slice_get xs k ≡ slice_get ys k

-- the slots agree at the instances of the network's boxes
pub record StepsSame (ds : List Declaration) (d : Diagram) (xs ys : List Slot) : Type 0 where
  pub same : (b : DrawnBox) (k : ℕ) → Contains d.elements (Box b) → place_of ds b.instance ≡ Some k → slice_get xs k ≡ slice_get ys k

-- what the network reads has the same values
pub record ReadsAlike (ds : List Declaration) (d : Diagram) (xs ys : List Slot) : Type 0 where
  pub contacts : (c : DrawnContact) → Contains d.elements (Contact c) → is_true (value_of ds xs c.name) ≡ is_true (value_of ds ys c.name)
  pub bits : (b : DrawnBox) (pin : DrawnPin) (o : Operand) → Contains d.elements (Box b) → Contains b.pins pin → pin.side ≡ Left → pin.operand ≡ Some o
      → is_true (value_of ds xs o.text) ≡ is_true (value_of ds ys o.text)
  pub texts : (b : DrawnBox) (pin : DrawnPin) (o : Operand) → Contains d.elements (Box b) → Contains b.pins pin → pin.side ≡ Left → pin.operand ≡ Some o
      → text_value ds xs o.text ≡ text_value ds ys o.text

-- its boxes show the same, and store the same
pub record ShowsAlike (ds : List Declaration) (d : Diagram) (xs ys : List Slot) : Type 0 where
  pub lamps : (b : DrawnBox) (name : List ℕ) → Contains d.elements (Box b) → is_true (value_at ds xs b.instance name) ≡ is_true (value_at ds ys b.instance name)
  pub stored : (b : DrawnBox) (pin : DrawnPin) (o : Operand) → Contains d.elements (Box b) → Contains b.pins pin → pin.side ≡ Right → pin.operand ≡ Some o
      → value_at ds xs b.instance pin.name ≡ value_at ds ys b.instance pin.name

pub reads_back : (ds : List Declaration) (d : Diagram) (xs ys : List Slot) → ReadsAlike ds d xs ys → ReadsAlike ds d ys xs
reads_back ds d xs ys h = record {
  contacts = λ c in'. sym (h.contacts c in');
  bits = λ b pin o in' drawn side is. sym (h.bits b pin o in' drawn side is);
  texts = λ b pin o in' drawn side is. sym (h.texts b pin o in' drawn side is);
}

pub shows_back : (ds : List Declaration) (d : Diagram) (xs ys : List Slot) → ShowsAlike ds d xs ys → ShowsAlike ds d ys xs
shows_back ds d xs ys h = record {
  lamps = λ b name in'. sym (h.lamps b name in');
  stored = λ b pin o in' drawn side is. sym (h.stored b pin o in' drawn side is);
}

-- the value at a name depends on the slot at its place
pub name_same : (ds : List Declaration) (xs ys : List Slot) (name pin : List ℕ) → ((k : ℕ) → place_of ds name ≡ Some k → slice_get xs k ≡ slice_get ys k)
    → value_at ds xs name pin ≡ value_at ds ys name pin
name_same ds xs ys name pin same = go (place_of ds name) refl
  where
    go : (o : Option ℕ) → place_of ds name ≡ o
        → option_and_then (λ k. option_and_then (λ s. slot_value s pin) (slice_get xs k)) o ≡ option_and_then (λ k. option_and_then (λ s. slot_value s pin) (slice_get ys k)) o
    go None e = refl
    go (Some k) e = ap (option_and_then (λ s. slot_value s pin)) (same k e)

pub value_same : (ds : List Declaration) (xs ys : List Slot) (name : List ℕ) → ((k : ℕ) → IsReadAt ds name k → slice_get xs k ≡ slice_get ys k)
    → value_of ds xs name ≡ value_of ds ys name
unfolding value_of
value_same ds xs ys name same = name_same ds xs ys (before_first is_dot name) (after_first is_dot name) same

pub text_same : (ds : List Declaration) (xs ys : List Slot) (text : List ℕ) → ((k : ℕ) → IsReadAt ds text k → slice_get xs k ≡ slice_get ys k)
    → text_value ds xs text ≡ text_value ds ys text
unfolding text_value
text_same ds xs ys text same = ap (value_or (literal_value text)) (value_same ds xs ys text same)

-- what the operand of a left pin of a box reads is the same
pub operand_read : (ds : List Declaration) (d : Diagram) (xs ys : List Slot) (b : DrawnBox) (pin : DrawnPin) (o : Operand) → ReadsSame ds d xs ys
    → Contains d.elements (Box b) → Contains b.pins pin → pin.side ≡ Left → pin.operand ≡ Some o
    → (k : ℕ) → IsReadAt ds o.text k → slice_get xs k ≡ slice_get ys k
operand_read ds d xs ys b pin o same in' drawn side is k at =
    let P : Option Operand → Type 0 = λ w. MatchOption w ⊥ (λ q. IsReadAt ds q.text k) in
    same.same (Box b) k in' (drawn.0, pin, drawn.1, drawn.2, (side, subst P (sym is) at))

outputs_same : (ds : List Declaration) (d : Diagram) (xs ys : List Slot) (b : DrawnBox) → StepsSame ds d xs ys → Contains d.elements (Box b)
    → (pin : List ℕ) → value_at ds xs b.instance pin ≡ value_at ds ys b.instance pin
outputs_same ds d xs ys b same in' pin = name_same ds xs ys b.instance pin (λ k at. same.same b k in' at)

-- slots that agree at what the network reads have the same values there
pub reads_alike : (ds : List Declaration) (d : Diagram) (xs ys : List Slot) → ReadsSame ds d xs ys → ReadsAlike ds d xs ys
reads_alike ds d xs ys same = record {
  contacts = λ c in'. ap is_true (value_same ds xs ys c.name (λ k at. same.same (Contact c) k in' at));
  bits = λ b pin o in' drawn side is. ap is_true (value_same ds xs ys o.text (operand_read ds d xs ys b pin o same in' drawn side is));
  texts = λ b pin o in' drawn side is. text_same ds xs ys o.text (operand_read ds d xs ys b pin o same in' drawn side is);
}

-- so do those that agree at the instances of its boxes
pub shows_alike : (ds : List Declaration) (d : Diagram) (xs ys : List Slot) → StepsSame ds d xs ys → ShowsAlike ds d xs ys
shows_alike ds d xs ys same = record {
  lamps = λ b name in'. ap is_true (outputs_same ds d xs ys b same in' name);
  stored = λ b pin o in' drawn side is. outputs_same ds d xs ys b same in' pin.name;
}

-- an element conducts as before
element_same : (ds : List Declaration) (xs ys : List Slot) (ms : List Bool) (k : ℕ) (e : Element) → ((c : DrawnContact) → e ≡ Contact c → is_true (value_of ds xs c.name) ≡ is_true (value_of ds ys c.name))
    → element_conducts ds (moment xs ms) k e ≡ element_conducts ds (moment ys ms) k e
element_same ds xs ys ms k (Wire at) same = refl
element_same ds xs ys ms k (Join at) same = refl
element_same ds xs ys ms k (Upright at) same = refl
element_same ds xs ys ms k (Contact c) same = ap (λ v. contact_conducts c.kind v (bit_at ms k)) (same c refl)
element_same ds xs ys ms k (Coil c) same = refl
element_same ds xs ys ms k (Box b) same = refl

pub conducts_same : (ds : List Declaration) (d : Diagram) (xs ys : List Slot) (ms : List Bool) → ReadsAlike ds d xs ys → (k : ℕ)
    → conducts ds d (moment xs ms) k ≡ conducts ds d (moment ys ms) k
unfolding conducts
conducts_same ds d xs ys ms same k = go (slice_get d.elements k) refl
  where
    go : (o : Option Element) → slice_get d.elements k ≡ o
        → option_map_or (element_conducts ds (moment xs ms) k) o true ≡ option_map_or (element_conducts ds (moment ys ms) k) o true
    go None e = refl
    go (Some e) at = element_same ds xs ys ms k e (λ c is. same.contacts c (subst (λ x. Contains d.elements x) is (contains_at d.elements k e at)))

-- so do its memories become
memory_same : (ds : List Declaration) (xs ys : List Slot) (ms links : List Bool) (k : ℕ) (e : Element) → ((c : DrawnContact) → e ≡ Contact c → is_true (value_of ds xs c.name) ≡ is_true (value_of ds ys c.name))
    → next_memory ds (moment xs ms) links k e ≡ next_memory ds (moment ys ms) links k e
memory_same ds xs ys ms links k (Wire at) same = refl
memory_same ds xs ys ms links k (Join at) same = refl
memory_same ds xs ys ms links k (Upright at) same = refl
memory_same ds xs ys ms links k (Contact c) same = ap (λ v. contact_memory c.kind v (bit_at ms k)) (same c refl)
memory_same ds xs ys ms links k (Coil c) same = refl
memory_same ds xs ys ms links k (Box b) same = refl

pub memories_same : (ds : List Declaration) (xs ys : List Slot) (ms links : List Bool) (n : ℕ) (es : List Element)
    → ((c : DrawnContact) → Contains es (Contact c) → is_true (value_of ds xs c.name) ≡ is_true (value_of ds ys c.name))
    → map (λ e. next_memory ds (moment xs ms) links e.0 e.1) (enumerate_from n es) ≡ map (λ e. next_memory ds (moment ys ms) links e.0 e.1) (enumerate_from n es)
memories_same ds xs ys ms links n [] same = refl
memories_same ds xs ys ms links n (e ∷ es) same =
    let here = memory_same ds xs ys ms links n e (λ c is. same c (subst (λ x. Contains (e ∷ es) x) is (cons_first e es))) in
    let rest = memories_same ds xs ys ms links (n + 1) es (λ c in'. same c (cons_later e es (Contact c) in')) in
    ap (λ m. m ∷ map (λ e. next_memory ds (moment xs ms) links e.0 e.1) (enumerate_from (n + 1) es)) here
    ∙ ap (λ l. next_memory ds (moment ys ms) links n e ∷ l) rest

-- what a box stores
side_same : (ds : List Declaration) (xs ys : List Slot) (b : DrawnBox) (pin : DrawnPin) (side : Side) → pin.side ≡ side
    → ((o : Operand) → pin.side ≡ Right → pin.operand ≡ Some o → value_at ds xs b.instance pin.name ≡ value_at ds ys b.instance pin.name)
    → side_stores ds xs b pin side ≡ side_stores ds ys b pin side
side_same ds xs ys b pin Left is same = refl
side_same ds xs ys b pin Right is same = go pin.operand refl
  where
    go : (o : Option Operand) → pin.operand ≡ o
        → option_map_or (λ w. store (place_of ds w.text) (value_at ds xs b.instance pin.name)) o [] ≡ option_map_or (λ w. store (place_of ds w.text) (value_at ds ys b.instance pin.name)) o []
    go None e = refl
    go (Some w) e = ap (store (place_of ds w.text)) (same w is e)

pins_same : (ds : List Declaration) (xs ys : List Slot) (b : DrawnBox) (pins : List DrawnPin)
    → ((pin : DrawnPin) (o : Operand) → Contains pins pin → pin.side ≡ Right → pin.operand ≡ Some o → value_at ds xs b.instance pin.name ≡ value_at ds ys b.instance pin.name)
    → flat_map (λ pin. side_stores ds xs b pin pin.side) pins ≡ flat_map (λ pin. side_stores ds ys b pin pin.side) pins
pins_same ds xs ys b [] same = refl
pins_same ds xs ys b (pin ∷ pins) same =
    ap (λ l. l ++ flat_map (λ pin. side_stores ds xs b pin pin.side) pins) (side_same ds xs ys b pin pin.side refl (λ o side is. same pin o (cons_first pin pins) side is))
    ∙ ap (λ l. side_stores ds ys b pin pin.side ++ l) (pins_same ds xs ys b pins (λ p o in' side is. same p o (cons_later pin pins p in') side is))

-- what the boxes among some elements store is the same
abbrev StoresSame : List Declaration → List Slot → List Slot → List Element → Type 0
StoresSame ds xs ys es = (b : DrawnBox) (pin : DrawnPin) (o : Operand) → Contains es (Box b) → Contains b.pins pin → pin.side ≡ Right → pin.operand ≡ Some o
    → value_at ds xs b.instance pin.name ≡ value_at ds ys b.instance pin.name

result_same : (ds : List Declaration) (xs ys : List Slot) (e : Element) (es : List Element) → StoresSame ds xs ys (e ∷ es)
    → result_stores ds xs e ≡ result_stores ds ys e
result_same ds xs ys (Wire at) es same = refl
result_same ds xs ys (Join at) es same = refl
result_same ds xs ys (Upright at) es same = refl
result_same ds xs ys (Contact c) es same = refl
result_same ds xs ys (Coil c) es same = refl
result_same ds xs ys (Box b) es same = pins_same ds xs ys b b.pins (λ pin o drawn side is. same b pin o (cons_first (Box b) es) drawn side is)

results_same : (ds : List Declaration) (xs ys : List Slot) (es : List Element) → StoresSame ds xs ys es
    → flat_map (result_stores ds xs) es ≡ flat_map (result_stores ds ys) es
results_same ds xs ys [] same = refl
results_same ds xs ys (e ∷ es) same =
    let here = result_same ds xs ys e es same in
    ap (λ l. l ++ flat_map (result_stores ds xs) es) here
    ∙ ap (λ l. result_stores ds ys e ++ l) (results_same ds xs ys es (λ b pin o in'. same b pin o (cons_later e es (Box b) in')))

-- a coil stores by its link and its memory alone
coil_same : (ds : List Declaration) (xs ys : List Slot) (ms links : List Bool) (k : ℕ) (e : Element) → coil_stores ds (moment xs ms) links k e ≡ coil_stores ds (moment ys ms) links k e
coil_same ds xs ys ms links k (Wire at) = refl
coil_same ds xs ys ms links k (Join at) = refl
coil_same ds xs ys ms links k (Upright at) = refl
coil_same ds xs ys ms links k (Contact c) = refl
coil_same ds xs ys ms links k (Coil c) = refl
coil_same ds xs ys ms links k (Box b) = refl

coils_same : (ds : List Declaration) (xs ys : List Slot) (ms links : List Bool) (n : ℕ) (es : List Element)
    → flat_map (λ e. coil_stores ds (moment xs ms) links e.0 e.1) (enumerate_from n es) ≡ flat_map (λ e. coil_stores ds (moment ys ms) links e.0 e.1) (enumerate_from n es)
coils_same ds xs ys ms links n [] = refl
coils_same ds xs ys ms links n (e ∷ es) =
    ap (λ l. l ++ flat_map (λ e. coil_stores ds (moment xs ms) links e.0 e.1) (enumerate_from (n + 1) es)) (coil_same ds xs ys ms links n e)
    ∙ ap (λ l. coil_stores ds (moment ys ms) links n e ++ l) (coils_same ds xs ys ms links (n + 1) es)

-- all that the network stores is the same
pub stores_same : (ds : List Declaration) (d : Diagram) (xs ys between between' : List Slot) (ms links : List Bool) → ShowsAlike ds d between between'
    → stores ds d (moment xs ms) between links ≡ stores ds d (moment ys ms) between' links
unfolding stores
stores_same ds d xs ys between between' ms links same =
    ap (λ l. l ++ flat_map (λ e. coil_stores ds (moment xs ms) links e.0 e.1) (enumerate_from 0 d.elements))
    (results_same ds between between' d.elements same.stored)
    ∙ ap (λ l. flat_map (result_stores ds between') d.elements ++ l) (coils_same ds xs ys ms links 0 d.elements)
