-- A network that hides counts, from slots with other counts beyond their limits.
use Rattle.std.proofs.Common.{◌≡◌, ℕ, zero, suc, ◌<◌, ◌⊎◌, inl, inr, ℤ, pos, List, [], ◌∷◌, Bool, true, false, Option, Some, None, All, Any, Contains, MatchOption, length, slice_get, refl, sym, ap, ◌∙◌, subst, arith}
use Rattle.std.specs.Prelude.{codes, if◌then◌else◌}
use Rattle.std.specs.Option.{option_map, option_and_then}
use Rattle.std.specs.Ordering.{int_eq}
use Rattle.std.proofs.lemmas.Bool.{cases_eq, cases_lt, false≢true}
use Rattle.std.proofs.lemmas.Bool.Decides.{Decides-int_eq}
use Rattle.std.proofs.lemmas.Option.{none-some, same_Some, slice_get_past, slice_get_within}
use Rattle.lists.proofs.Places.{element_at}
use Rattle.lists.proofs.Members.{any_found, contains_at, cons_first, cons_later, cons_cases}
use Rattle.drawings.specs.declared.drawn_box.DrawnBox.{DrawnBox}
use Rattle.drawings.specs.declared.drawn_box.DrawnPin.{DrawnPin}
use Rattle.drawings.specs.declared.drawn_box.Operand.{Operand}
use Rattle.network.specs.declared.element.Element.{Element}
use Rattle.network.specs.declared.element.Element.TheVariants.{Wire, Join, Upright, Contact, Coil, Box}
use Rattle.network.specs.Links.{Diagram}
use Rattle.std_blocks.specs.declared.block_type.BlockType.{BlockType}
use Rattle.std_blocks.specs.declared.block_type.BlockType.TheVariants.{CTU}
use Rattle.std_blocks.specs.declared.pin.Field.{Field}
use Rattle.std_blocks.specs.declared.pin.Field.TheVariants.{Bit, Int, Time}
use Rattle.std_blocks.specs.declared.pin.Pin.{Pin}
use Rattle.std_blocks.specs.declared.pins.PinsIn.{PinsIn}
use Rattle.std_blocks.specs.declared.value.Value.TheVariants.{Int as IntValue}
use Rattle.std_blocks.specs.Pins.{pin_of, input, output}
use Rattle.words.specs.Chars.{same_word}
use Rattle.declared_names.specs.declared.declarations.Declaration.{Declaration}
use Rattle.declared_names.specs.Names.{place_of}
use Rattle.name_faults.specs.Literals.{literal_value}
use Rattle.scan_steps.specs.declared.slot.Instance.{Instance}
use Rattle.scan_steps.specs.declared.slot.Slot.{Slot}
use Rattle.scan_steps.specs.declared.slot.Slot.TheVariants.{Variable, Block}
use Rattle.scan_steps.specs.Values.{int_or_zero}
use Rattle.power_flow.specs.Values.{text_value, value_or, value_of}
use Rattle.power_flow.specs.Meaning.{Moment, moment, AreInputs, AreLinks, BlocksStep, HasNoBlockAt, IsDrawn, NetworkMeaning, block_after, first_place, operand_value, stored, stores}
use Rattle.needed_networks.specs.declared.count_limit.CountLimit.{CountLimit}
use Rattle.needed_networks.specs.declared.count_limit.CountLimit.TheVariants.{Whole, UpTo, FromZero}
use Rattle.needed_networks.specs.Counts.{AreCounters, AreOneBox, HasNoPreset, HasPreset, HidesCounts, IsPreset, MayLimit, ShowsNoCount, limit_at, limited_at, limited_instance, limited_slot}
use Rattle.needed_networks.proofs.Values.{ReadsAlike, ShowsAlike, reads_back, shows_back, memories_same, stores_same}
use Rattle.needed_networks.proofs.Power.{power_from, inputs_from}
use Rattle.needed_networks.proofs.Counting.{FitsPreset, block_kept, steps_near}
use Rattle.needed_networks.proofs.Near.{AreNear, all_found, block_back, limit_cases, pin_same, reads_near, same_whole, shows_near, stored_counters, stored_near}

-- whether a place is one
option_is : (o : Option ℕ) (k : ℕ) → (o ≡ Some k) ⊎ (o ≡ Some k → ⊥)
option_is None k = inr (λ e. none-some k e)
option_is (Some j) k = elim (cases_eq j k) [
  | inl is ↦ inl (ap Some is)
  | inr other ↦ inr (λ e. other (same_Some j k e))
]

-- an element is a box of the instance at a place
abbrev IsOwn : List Declaration → ℕ → Element → Type 0
IsOwn ds k e = (b : DrawnBox) × (e ≡ Box b) × (place_of ds b.instance ≡ Some k)

own_box : (ds : List Declaration) (k : ℕ) (e : Element) → IsOwn ds k e ⊎ (IsOwn ds k e → ⊥)
own_box ds k (Wire at) = inr (λ own. let e = own.1 in cc)
own_box ds k (Join at) = inr (λ own. let e = own.1 in cc)
own_box ds k (Upright at) = inr (λ own. let e = own.1 in cc)
own_box ds k (Contact c) = inr (λ own. let e = own.1 in cc)
own_box ds k (Coil c) = inr (λ own. let e = own.1 in cc)
own_box ds k (Box b) = elim (option_is (place_of ds b.instance) k) [
  | inl is ↦ inl (b, refl, is)
  | inr other ↦ inr (λ own. other (let e : Box b ≡ Box own.0 = own.1 in let same : b ≡ own.0 = cc in ap (λ (x : DrawnBox). place_of ds x.instance) same ∙ own.2))
]

abbrev HasBox : List Declaration → ℕ → List Element → Type 0
HasBox ds k es = (b : DrawnBox) × Contains es (Box b) × (place_of ds b.instance ≡ Some k)

has_box : (ds : List Declaration) (k : ℕ) (es : List Element) → HasBox ds k es ⊎ (HasBox ds k es → ⊥)
has_box ds k [] = inr (λ found. let lt = found.1.1 in absurd (omega arith))
has_box ds k (e ∷ es) = by (own_box ds k e) (has_box ds k es) where
  by : IsOwn ds k e ⊎ (IsOwn ds k e → ⊥) → HasBox ds k es ⊎ (HasBox ds k es → ⊥) → HasBox ds k (e ∷ es) ⊎ (HasBox ds k (e ∷ es) → ⊥)
  by (inl own) rest = inl (own.0, subst (λ x. Contains (e ∷ es) x) own.1 (cons_first e es), own.2)
  by (inr none) (inl found) = inl (found.0, cons_later e es (Box found.0) found.1, found.2)
  by (inr none) (inr nothing) = inr (λ found. elim (cons_cases e es (Box found.0) found.1) [
    | inl is ↦ none (found.0, is, found.2)
    | inr in' ↦ nothing (found.0, in', found.2)
  ])

abbrev is_int : Field → Bool
is_int (Bit k) = false
is_int Int = true
is_int Time = false

abbrev is_int_input : Option Pin → Bool
is_int_input None = false
is_int_input (Some pin) = if pin.left then is_int pin.field else false

-- the input of a counter up that is a number is PV
int_named : (cu r pv q cv : Bool)
    → (if cu then Some (input (Bit 0)) else (if r then Some (input (Bit 1)) else (if pv then Some (input Int) else (if q then Some (output (Bit 0)) else (if cv then Some (output Int) else None))))) ≡ Some (input Int) → pv ≡ true
int_named true r pv q cv is = absurd (false≢true (ap is_int_input is))
int_named false true pv q cv is = absurd (false≢true (ap is_int_input is))
int_named false false true q cv is = refl
int_named false false false true cv is = absurd (false≢true (ap is_int_input is))
int_named false false false false true is = absurd (false≢true (ap is_int_input is))
int_named false false false false false is = absurd (false≢true (ap is_int_input is))

int_is_preset : (name : List ℕ) → pin_of CTU name ≡ Some (input Int) → same_word name (codes "PV") ≡ true
unfolding pin_of
int_is_preset name is =
    int_named (same_word name (codes "CU")) (same_word name (codes "R")) (same_word name (codes "PV")) (same_word name (codes "Q")) (same_word name (codes "CV")) is

preset_is_int : pin_of CTU (codes "PV") ≡ Some (input Int)
unfolding pin_of
preset_is_int = refl

int_cases : (x y : ℤ) → (x ≡ y) ⊎ (x ≡ y → ⊥)
int_cases x y = by (int_eq x y) refl where
  by : (b : Bool) → int_eq x y ≡ b → (x ≡ y) ⊎ (x ≡ y → ⊥)
  by true is = inl ((Decides-int_eq x y).0 is)
  by false is = inr (λ same. let yes : int_eq x y ≡ true = (Decides-int_eq x y).1 same in cc)

-- PV of a counter up
module _ (ds : List Declaration) (d : Diagram) (old : Moment) (between : List Slot) (b : DrawnBox) (block : BlockType) (pins : PinsIn) (up : block ≡ CTU) (inputs : AreInputs ds d old between b block pins) where
  -- with a number
  preset_drawn : (most : ℤ) → Any (IsPreset most) b.pins → pins.int ≡ most
  unfolding text_value
  preset_drawn most preset =
      let found = any_found (IsPreset most) b.pins preset in
      let pin : DrawnPin = found.1 in
      let is = found.3 in
      let known : pin_of block pin.name ≡ Some (input Int) = ap (λ t. pin_of t pin.name) up ∙ pin_same CTU pin.name (codes "PV") is.0.1 ∙ preset_is_int in
      let drawn : IsDrawn b block Int pin = record { drawn = contains_at b.pins found.0 pin found.2; side = is.0.0; named = known } in
      inputs.int pin drawn ∙ read most pin.operand is.1
    where
      read : (most : ℤ) (o : Option Operand) → MatchOption o ⊥ (λ w. literal_value w.text ≡ Some (IntValue most)) → int_or_zero (option_and_then (λ w. text_value ds old.slots w.text) o) ≡ most
      read most None is = absurd is
      read most (Some w) is = ap (λ v. int_or_zero (value_or v (value_of ds old.slots w.text))) is

  -- at which nothing stands
  preset_undrawn : All HasNoPreset b.pins → pins.int ≡ pos 0
  preset_undrawn none = elim (int_cases pins.int (pos 0)) [
    | inl is ↦ is
    | inr other ↦ inputs.no_int (λ pin drawn. other (inputs.int pin drawn ∙ nothing pin drawn))
  ]
    where
      nothing : (pin : DrawnPin) → IsDrawn b block Int pin → int_or_zero (operand_value ds old pin) ≡ pos 0
      nothing pin drawn =
          let preset = int_is_preset pin.name (ap (λ t. pin_of t pin.name) (sym up) ∙ drawn.named) in
          let empty = all_found HasNoPreset b.pins pin none drawn.drawn (drawn.side, preset) in
          ap (λ o. int_or_zero (option_and_then (λ w. text_value ds old.slots w.text) o)) empty

-- PV of a box with a preset
preset_fits : (ds : List Declaration) (d : Diagram) (old : Moment) (between : List Slot) (limit : CountLimit) (b : DrawnBox) (block : BlockType) (pins : PinsIn) → HasPreset limit b → MayLimit limit block
    → AreInputs ds d old between b block pins → FitsPreset limit pins.int
preset_fits ds d old between Whole b block pins preset may inputs = tt
preset_fits ds d old between FromZero b block pins preset may inputs = tt
preset_fits ds d old between (UpTo most) b block pins (inl drawn) may inputs = preset_drawn ds d old between b block pins may inputs most drawn
preset_fits ds d old between (UpTo most) b block pins (inr (is, none)) may inputs = preset_undrawn ds d old between b block pins may inputs none ∙ sym is

-- one more before the others
listed_more : (P : ℕ → Slot → Type 0) (x : Slot) (xs : List Slot) → P 0 x → ((k : ℕ) (z : Slot) → slice_get xs k ≡ Some z → P (suc k) z) → (k : ℕ) (z : Slot) → slice_get (x ∷ xs) k ≡ Some z → P k z
listed_more P x xs first rest zero z at = subst (P 0) (same_Some x z at) first
listed_more P x xs first rest (suc k) z at = rest k z at

-- a list of what there is for each place
list_of : (n : ℕ) (P : ℕ → Slot → Type 0) → ((k : ℕ) → k < n → (z : Slot) × P k z) → (zs : List Slot) × (length zs ≡ n) × ((k : ℕ) (z : Slot) → slice_get zs k ≡ Some z → P k z)
list_of zero P each = ([], refl, λ k z at. absurd (none-some z at))
list_of (suc n) P each =
    let first = each 0 (omega arith) in
    let rest = list_of n (λ k. P (suc k)) (λ k lt. each (suc k) (omega arith)) in
    (first.0 ∷ rest.0, ap suc rest.1, listed_more P first.0 rest.0 first.1 rest.2)

-- A network that hides counts, in which the blocks have made their step, and other slots.
module _ (ds : List Declaration) (limits : List CountLimit) (d : Diagram) (dt : ℕ) (xs ys between : List Slot) (ms : List Bool)
    (hides : HidesCounts ds limits d) (near : AreNear limits xs ys) (counters : AreCounters limits xs) (step : BlocksStep ds d dt (moment xs ms) between) where
  -- what a place becomes in the other slots
  record Becomes (k : ℕ) (z : Slot) : Type 0 where
    pub is_near : limited_at limits between k ≡ Some (limited_slot (limit_at limits k) z)
    pub stepped : (b : DrawnBox) (j : Instance) → Contains d.elements (Box b) → place_of ds b.instance ≡ Some k → slice_get ys k ≡ Some (Block j)
        → (pins : PinsIn) × AreInputs ds d (moment xs ms) between b j.state.block pins × (z ≡ Block (block_after j pins dt))
    pub others : HasNoBlockAt ds d ys k → slice_get ys k ≡ Some z

  -- where there is no limit
  whole_becomes : (k : ℕ) → k < length ys → limit_at limits k ≡ Whole → (z : Slot) × Becomes k z
  whole_becomes k lt whole = (
    found.0,
    record {
      is_near = ap (option_map (limited_slot (limit_at limits k))) found.1;
      stepped = λ b j in' at was.
          let s = step.stepped b k j in' at (same ∙ was) in
          (s.0, s.1, same_Some found.0 (Block (block_after j s.0 dt)) (sym found.1 ∙ s.2));
      others = λ none. sym same ∙ sym (step.others k (λ b i in' at was. none b i in' at (sym same ∙ was))) ∙ found.1;
    },
  )
    where
      same : slice_get xs k ≡ slice_get ys k
      same = same_whole limits xs ys k near whole

      found : (z : Slot) × (slice_get between k ≡ Some z)
      found = element_at between k (let l = near.long in let m = step.same_length in omega arith)

  -- where no block of the network stands
  left_becomes : (k : ℕ) (y : Slot) → slice_get ys k ≡ Some y → HasNoBlockAt ds d xs k → HasNoBlockAt ds d ys k → Becomes k y
  left_becomes k y at none none' = record {
    is_near = ap (option_map (limited_slot (limit_at limits k))) (step.others k none) ∙ near.same k ∙ ap (option_map (limited_slot (limit_at limits k))) at;
    stepped = λ b j in' named was. absurd (none' b j in' named was);
    others = λ _. at;
  }

  -- where a block with a limit makes its step
  block_becomes : (k : ℕ) (j : Instance) → slice_get ys k ≡ Some (Block j) → (limit_at limits k ≡ Whole → ⊥) → HasBox ds k d.elements → (z : Slot) × Becomes k z
  block_becomes k j at limited box =
      let found = block_back (limit_at limits k) (slice_get ys k) (slice_get xs k) j (sym (near.same k)) at in
      go box found.0 found.1 (sym found.2)
    where
      go : (box : HasBox ds k d.elements) (i : Instance) → slice_get xs k ≡ Some (Block i) → limited_instance (limit_at limits k) i ≡ limited_instance (limit_at limits k) j → (z : Slot) × Becomes k z
      go (b, in', named) i was same =
          let limit = limit_at limits k in
          let s = step.stepped b k i in' named was in
          let may = counters k i was in
          let whole : ShowsNoCount ds limits (Box b) = all_found (ShowsNoCount ds limits) d.elements (Box b) hides.shows in' in
          let own = whole.1 k named in
          let fits = preset_fits ds d (moment xs ms) between limit b i.state.block s.0 own.0 may s.1 in
          let block : i.state.block ≡ j.state.block = ap (λ (x : Instance). x.state.block) same in (
            Block (block_after j s.0 dt),
            record {
              is_near = ap (option_map (limited_slot limit)) s.2 ∙ ap (λ (x : Instance). Some (Block x)) (steps_near limit i j s.0 dt same may fits);
              stepped = λ c jj in'' named' was'.
                  let one : b ≡ c = all_found (AreOneBox ds limits (Box b)) d.elements (Box c) (all_found (λ e. All (AreOneBox ds limits e) d.elements) d.elements (Box b) hides.once in') in'' b c k refl refl named named' limited in
                  let again : Some (Block j) ≡ Some (Block jj) = sym at ∙ was' in
                  let it : j ≡ jj = cc in (
                    s.0,
                    subst (λ (x : DrawnBox). AreInputs ds d (moment xs ms) between x jj.state.block s.0) one
                        (subst (λ t. AreInputs ds d (moment xs ms) between b t s.0) (block ∙ ap (λ (x : Instance). x.state.block) it) s.1),
                    ap (λ (x : Instance). Block (block_after x s.0 dt)) it,
                  );
              others = λ none. absurd (none b j in' named at);
            },
          )

  -- any place
  becomes : (k : ℕ) → k < length ys → (z : Slot) × Becomes k z
  becomes k lt = elim (limit_cases (limit_at limits k)) [
    | inl whole ↦ whole_becomes k lt whole
    | inr limited ↦ let y = element_at ys k lt in by limited y.0 y.1 (has_box ds k d.elements)
  ]
    where
      by : (limit_at limits k ≡ Whole → ⊥) → (y : Slot) → slice_get ys k ≡ Some y → HasBox ds k d.elements ⊎ (HasBox ds k d.elements → ⊥) → (z : Slot) × Becomes k z
      by limited y at (inr none) = (y, left_becomes k y at (λ b i in' named was. none (b, in', named)) (λ b i in' named was. none (b, in', named)))
      by limited (Block j) at (inl box) = block_becomes k j at limited box
      by limited (Variable v) at (inl box) = (
        Variable v,
        left_becomes k (Variable v) at
            (λ b i in' named was. let back = block_back (limit_at limits k) (slice_get xs k) (slice_get ys k) i (near.same k) was in let e : Some (Variable v) ≡ Some (Block back.0) = sym at ∙ back.1 in cc)
            (λ b j in' named was. let e : Some (Variable v) ≡ Some (Block j) = sym at ∙ was in cc),
      )

  all_become : (zs : List Slot) × (length zs ≡ length ys) × ((k : ℕ) (z : Slot) → slice_get zs k ≡ Some z → Becomes k z)
  all_become = list_of (length ys) Becomes becomes

  -- the other slots once the blocks have made their step
  pub between' : List Slot
  between' = all_become.0

  pub between_near : AreNear limits between between'
  unfolding between'
  between_near = record {
    long = let a = all_become.1 in let l = near.long in let m = step.same_length in omega arith;
    same = λ k. elim (cases_lt k (length ys)) [
      | inl lt ↦
          let z = element_at all_become.0 k (let a = all_become.1 in omega arith) in
          (all_become.2 k z.0 z.1).is_near ∙ sym (ap (option_map (limited_slot (limit_at limits k))) z.1)
      | inr past ↦
          ap (option_map (limited_slot (limit_at limits k)))
          (slice_get_past between k (let l = near.long in let m = step.same_length in omega arith) ∙ sym (slice_get_past all_become.0 k (let a = all_become.1 in omega arith)))
    ];
  }

  -- a block that stands there stood there before
  block_before : (k : ℕ) (i : Instance) → slice_get between k ≡ Some (Block i) → (was : Instance) × (slice_get xs k ≡ Some (Block was)) × (i.state.block ≡ was.state.block)
  block_before k i at =
      let x = element_at xs k (let lt = slice_get_within between k (Block i) at in let m = step.same_length in omega arith) in
      by x.0 x.1 (has_box ds k d.elements)
    where
      stays : HasNoBlockAt ds d xs k → (was : Instance) × (slice_get xs k ≡ Some (Block was)) × (i.state.block ≡ was.state.block)
      stays none = (i, sym (step.others k none) ∙ at, refl)

      by : (x : Slot) → slice_get xs k ≡ Some x → HasBox ds k d.elements ⊎ (HasBox ds k d.elements → ⊥) → (was : Instance) × (slice_get xs k ≡ Some (Block was)) × (i.state.block ≡ was.state.block)
      by x is (inr none) = stays (λ b j in' named was. none (b, in', named))
      by (Variable v) is (inl box) = stays (λ b j in' named was. let e : Some (Variable v) ≡ Some (Block j) = sym is ∙ was in cc)
      by (Block was) is (inl box) =
          let s = step.stepped box.0 k was box.1 box.2 is in
          let e : Some (Block i) ≡ Some (Block (block_after was s.0 dt)) = sym at ∙ s.2 in
          let it : i ≡ block_after was s.0 dt = cc in
          (was, is, ap (λ (x : Instance). x.state.block) it ∙ block_kept was.state.block was.state s.0 dt)

  pub between_counters : AreCounters limits between
  between_counters k i at = let was = block_before k i at in subst (MayLimit (limit_at limits k)) (sym was.2) (counters k was.0 was.1)

  pub reads : ReadsAlike ds d xs ys
  reads = reads_near ds limits d xs ys hides near counters

  shows : ShowsAlike ds d between between'
  shows = shows_near ds limits d between between' hides between_near between_counters

  pub blocks_near : BlocksStep ds d dt (moment ys ms) between'
  unfolding between'
  blocks_near = record {
    same_length = all_become.1;
    stepped = λ b k j in' at was.
        let z = element_at all_become.0 k (let lt = slice_get_within ys k (Block j) was in let a = all_become.1 in omega arith) in
        let s = (all_become.2 k z.0 z.1).stepped b j in' at was in
        (s.0, inputs_from ds d xs ys between between' ms b j.state.block s.0 reads shows in' s.1, z.1 ∙ ap Some s.2);
    others = λ k none. elim (cases_lt k (length ys)) [
      | inl lt ↦
          let z = element_at all_become.0 k (let a = all_become.1 in omega arith) in
          z.1 ∙ sym ((all_become.2 k z.0 z.1).others none)
      | inr past ↦ slice_get_past all_become.0 k (let a = all_become.1 in omega arith) ∙ sym (slice_get_past ys k past)
    ];
  }

  pub links_near : (links : List Bool) → AreLinks ds d (moment xs ms) between links → AreLinks ds d (moment ys ms) between' links
  links_near links power = record {
    same_length = power.same_length;
    power = λ k e at.
        let was = power.power k e at in (
          (λ on. power_from ds d xs ys between between' ms reads shows (first_place e) (was.0 on)),
          (λ p. was.1 (power_from ds d ys xs between' between ms (reads_back ds d xs ys reads) (shows_back ds d between between' shows) (first_place e) p)),
        );
  }

  pub stores_near : (links : List Bool) → stores ds d (moment xs ms) between links ≡ stores ds d (moment ys ms) between' links
  stores_near links = stores_same ds d xs ys between between' ms links shows

-- the network's meaning, from the other slots
pub record Counts (ds : List Declaration) (limits : List CountLimit) (d : Diagram) (dt : ℕ) (ys : List Slot) (ms : List Bool) (new : Moment) : Type 0 where
  pub others : List Slot
  pub meaning : NetworkMeaning ds d dt (moment ys ms) (moment others new.memories)
  pub near : AreNear limits new.slots others
  pub counters : AreCounters limits new.slots

pub counts : (ds : List Declaration) (limits : List CountLimit) (d : Diagram) (dt : ℕ) (xs ys : List Slot) (ms : List Bool) (new : Moment) → HidesCounts ds limits d → AreNear limits xs ys → AreCounters limits xs
    → NetworkMeaning ds d dt (moment xs ms) new → Counts ds limits d dt ys ms new
counts ds limits d dt xs ys ms new hides near counters m =
    let after = between' ds limits d dt xs ys m.between ms hides near counters m.blocks in
    let same = stores_near ds limits d dt xs ys m.between ms hides near counters m.blocks m.links in
    record {
      others = stored after (stores ds d (moment ys ms) after m.links);
      meaning = record {
        between = after;
        blocks = blocks_near ds limits d dt xs ys m.between ms hides near counters m.blocks;
        links = m.links;
        power = links_near ds limits d dt xs ys m.between ms hides near counters m.blocks m.links m.power;
        memories = m.memories ∙ memories_same ds xs ys ms m.links 0 d.elements (reads ds limits d dt xs ys m.between ms hides near counters m.blocks).contacts;
        slots = refl;
      };
      near = subst (λ s. AreNear limits s (stored after (stores ds d (moment ys ms) after m.links))) (sym m.slots)
          (subst (λ all. AreNear limits (stored m.between (stores ds d (moment xs ms) m.between m.links)) (stored after all)) same
          (stored_near limits m.between after (stores ds d (moment xs ms) m.between m.links) (between_near ds limits d dt xs ys m.between ms hides near counters m.blocks)));
      counters = subst (AreCounters limits) (sym m.slots)
          (stored_counters limits m.between (stores ds d (moment xs ms) m.between m.links) (between_counters ds limits d dt xs ys m.between ms hides near counters m.blocks));
    }
