-- The steps of a network are those of its elements, one after the other.
use Rattle.std.proofs.Common.{◌≡◌, ◌⊎◌, inl, inr, ℕ, zero, suc, ◌+◌, ◌-◌, ◌<◌, ◌≤◌, List, [], ◌∷◌, ◌++◌, Option, Some, None, Contains, slice_get, get_or, length, take, append_assoc, refl, sym, ap, ◌∙◌, subst, arith}
use Rattle.std.specs.List.{AllZip, filter_map, cons_option}
use Rattle.std.proofs.lemmas.List.{append-nil, take_more, length-append}
use Rattle.std.proofs.lemmas.List.Elements.{filter_map-append}
use Rattle.std.proofs.lemmas.Option.{slice_get_read}
use Rattle.lists.proofs.Places.{some_same, slice_get-append}
use Rattle.lists.proofs.Zips.{zip_push}
use Rattle.drawings.specs.declared.place.Place.{Place}
use Rattle.drawings.specs.declared.drawn_box.DrawnBox.{DrawnBox}
use Rattle.drawings.specs.declared.drawn_box.DrawnPin.{DrawnPin}
use Rattle.drawings.specs.declared.drawn_box.Side.{Side}
use Rattle.drawings.specs.declared.drawn_box.Side.TheVariants.{Left, Right}
use Rattle.drawings.specs.Symbols.{Contact as DrawnContact}
use Rattle.drawings.specs.Symbols.{Coil as DrawnCoil}
use Rattle.network.specs.declared.element.Element.{Element}
use Rattle.network.specs.declared.element.Element.TheVariants.{Wire, Join, Upright, Contact, Coil, Box}
use Rattle.network.specs.Links.{Diagram, Gives, place}
use Rattle.network.specs.Apart.{first_place}
use Rattle.declared_names.specs.declared.declarations.Declaration.{Declaration}
use Rattle.scan_steps.specs.declared.source.Source.{Source}
use Rattle.scan_steps.specs.declared.step.Step.{Step}
use Rattle.scan_steps.specs.declared.step.Step.TheVariants as step
use Rattle.power_flow.specs.Steps.NameSources.{name_source}
use Rattle.power_flow.specs.Steps.Columns.{Begins, Joins, IsLeftPinBegun, left_pin, left_pins, joined, AreStepsOf, AreSteps}
use Rattle.power_flow.specs.Steps.RowEnds.{AreRows, AreEndsTo, TellsLed, ArePushed, AreStepsTo}
use Rattle.power_flow.specs.Waiting.{coil_of, coils_of, boxes_of}
use Rattle.power_flow.proofs.Walks.Leading.{tells_led, in_rows, pins_in}
use Rattle.network.specs.GraphValue.{IsSoundNetwork}

pub joined_push : (xs : List (List Step)) (y : List Step) → joined (xs ++ y ∷ []) ≡ joined xs ++ y
joined_push [] y = append-nil y
joined_push (x ∷ xs) y = ap (λ rest. x ++ rest) (joined_push xs y) ∙ sym (append_assoc x (joined xs) y)

-- the element with a number
pub at_number : (es : List Element) (k : ℕ) (e f : Element) → k < length es → e ≡ get_or es k e → e ≡ f → slice_get es k ≡ Some f
at_number es k e f lt is same = slice_get_read es (length es) k e refl lt is ∙ ap Some same

-- the first place of an element lies in the rows
pub first_in_rows : (es : List Element) (top rows k : ℕ) (e : Element) (at : Place) → AreRows es top rows → k < length es → e ≡ get_or es k e → at ≡ first_place e → (top ≤ at.row) × (at.row - top < rows)
first_in_rows es top rows k e at are lt is same =
    let h = in_rows es top rows are k e (first_place e) (at_number es k e e lt is refl) (inl refl) in
    let low = h.0 in let high = h.1 in let r = ap (λ (p : Place). p.row) same in
    (omega arith, rw same high)

-- the ends of rows tell how the first place of an element begins
pub tells_first : (d : Diagram) → IsSoundNetwork d → (top k : ℕ) (e : Element) (at : Place) (ends : List ℕ) → AreRows d.elements top (length ends) → k < length d.elements → e ≡ get_or d.elements k e → at ≡ first_place e
    → AreEndsTo d top k ends → TellsLed d top ends at
tells_first d sound top k e at ends rows lt is same are =
    let row = first_in_rows d.elements top (length ends) k e at rows lt is same in
    tells_led d sound top k e at (at_number d.elements k e e lt is refl) (inl (sym same)) (ap (λ (p : Place). p.column) (sym same)) ends row.0 are

-- and how a pin of the left side begins
pub tells_pin : (d : Diagram) → IsSoundNetwork d → (top k : ℕ) (b : DrawnBox) (ends : List ℕ) → AreRows d.elements top (length ends) → slice_get d.elements k ≡ Some (Box b) → AreEndsTo d top k ends
    → (pin : DrawnPin) → Contains b.pins pin → pin.side ≡ Left → TellsLed d top ends (place pin.row b.left)
tells_pin d sound top k b ends rows there are pin in' side =
    let row = pins_in d.elements top (length ends) rows k b there pin in' in
    tells_led d sound top k (Box b) (place pin.row b.left) there (inr (inr (inl (refl, (in'.0, pin, in'.1, in'.2, (side, refl)))))) refl ends row.0 are

-- a wire and a join give state at their one place
pub one_place : (es : List Element) (k : ℕ) (e : Element) (q : Place) → k < length es → e ≡ get_or es k e → (e ≡ Wire q) ⊎ (e ≡ Join q)
    → (f : Element) × (slice_get es k ≡ Some f) × (first_place f ≡ q) × Gives f q × ((p : Place) → Gives f p → (p.row ≡ q.row) × (p.column ≤ q.column))
one_place es k e q lt is (inl same) = (Wire q, at_number es k e (Wire q) lt is same, refl, refl, λ p g. (sym (ap (λ (x : Place). x.row) g), let c = ap (λ (x : Place). x.column) g in omega arith))
one_place es k e q lt is (inr same) = (Join q, at_number es k e (Join q) lt is same, refl, refl, λ p g. (sym (ap (λ (x : Place). x.row) g), let c = ap (λ (x : Place). x.column) g in omega arith))

module _ (ds : List Declaration) (d : Diagram) (top k : ℕ) (at : Place) (old mid new : List Step) where
  pushed : (e : Element) (part : List Step) → slice_get d.elements k ≡ Some e → AreStepsOf ds d top k e part → new ≡ old ++ part → ArePushed ds d top k old new
  pushed e part there are is = record {
    part = part;
    are = λ f there'. (let P : Element → Type 0 = λ x. AreStepsOf ds d top k x part in subst P (some_same (sym there ∙ there')) are);
    new_is = is;
  }

  two : (a b : List Step) → mid ≡ old ++ a → new ≡ mid ++ b → new ≡ old ++ (a ++ b)
  two a b first second = second ∙ ap (λ x. x ++ b) first ∙ append_assoc old (a) b

  pub wire_pushed : (q : Place) (begin : List Step) → slice_get d.elements k ≡ Some (Wire q) → at ≡ q → Begins d top at begin → new ≡ old ++ begin → ArePushed ds d top k old new
  wire_pushed q begin there is begins new_is = let P : Place → Type 0 = λ p. Begins d top p begin in pushed (Wire q) begin there (subst P is begins) new_is

  pub join_pushed : (q : Place) (begin end : List Step) → slice_get d.elements k ≡ Some (Join q) → at ≡ q → Begins d top at begin → mid ≡ old ++ begin → Joins d top at end → new ≡ mid ++ end → ArePushed ds d top k old new
  join_pushed q begin end there is begins first joins second =
      let P : Place → Type 0 = λ p. Begins d top p begin in
      let Q : Place → Type 0 = λ p. Joins d top p end in
      pushed (Join q) (begin ++ end) there (begin, end, subst P is begins, subst Q is joins, refl) (two begin end first second)

  pub upright_pushed : (q : Place) (row : ℕ) (end : List Step) → slice_get d.elements k ≡ Some (Upright q) → at ≡ q → row ≡ at.row - top → mid ≡ old ++ step.Off row ∷ [] → Joins d top at end → new ≡ mid ++ end
      → ArePushed ds d top k old new
  upright_pushed q row end there is row_is first joins second =
      let Q : Place → Type 0 = λ p. Joins d top p end in
      let same : row ≡ q.row - top = row_is ∙ ap (λ (p : Place). p.row - top) is in
      pushed (Upright q) (step.Off row ∷ end) there (end, subst Q is joins, ap (λ r. step.Off r ∷ end) same) (two (step.Off row ∷ []) end first second)

  pub contact_pushed : (c : DrawnContact) (row : ℕ) (source : Source) (begin : List Step) → slice_get d.elements k ≡ Some (Contact c) → at ≡ place c.row c.column → row ≡ at.row - top → source ≡ name_source ds c.name
      → Begins d top at begin → mid ≡ old ++ begin → new ≡ mid ++ step.Contact (record { kind = c.kind; row = row; source = source; memory = k }) ∷ [] → ArePushed ds d top k old new
  contact_pushed c row source begin there is row_is source_is begins first second =
      let P : Place → Type 0 = λ p. Begins d top p begin in
      let same : row ≡ c.row - top = row_is ∙ ap (λ (p : Place). p.row - top) is in
      let made : ℕ → Source → List Step = λ r s. begin ++ step.Contact (record { kind = c.kind; row = r; source = s; memory = k }) ∷ [] in
      pushed (Contact c) (made row source) there (begin, subst P is begins, ap (λ r. made r source) same ∙ ap (λ s. made (c.row - top) s) source_is)
      (two begin (step.Contact (record { kind = c.kind; row = row; source = source; memory = k }) ∷ []) first second)

  pub coil_pushed : (c : DrawnCoil) (row n : ℕ) (begin : List Step) → slice_get d.elements k ≡ Some (Coil c) → at ≡ place c.row c.column → row ≡ at.row - top → n ≡ length (coils_of (take k d.elements))
      → Begins d top at begin → mid ≡ old ++ begin → new ≡ mid ++ step.Coil row n ∷ [] → ArePushed ds d top k old new
  coil_pushed c row n begin there is row_is number begins first second =
      let P : Place → Type 0 = λ p. Begins d top p begin in
      let same : row ≡ c.row - top = row_is ∙ ap (λ (p : Place). p.row - top) is in
      let made : ℕ → ℕ → List Step = λ r m. begin ++ step.Coil r m ∷ [] in
      pushed (Coil c) (made row n) there (begin, subst P is begins, ap (λ r. made r n) same ∙ ap (λ m. made (c.row - top) m) number)
      (two begin (step.Coil row n ∷ []) first second)

  pub box_pushed : (b : DrawnBox) (n : ℕ) (begins : List (List Step)) → slice_get d.elements k ≡ Some (Box b) → n ≡ length (boxes_of (take k d.elements))
      → AllZip (IsLeftPinBegun d top b) (left_pins b.pins) begins → mid ≡ old ++ joined begins → new ≡ mid ++ step.Box n ∷ [] → ArePushed ds d top k old new
  box_pushed b n begins there number begun first second =
      pushed (Box b) (joined begins ++ step.Box n ∷ []) there (begins, begun, ap (λ m. joined begins ++ step.Box m ∷ []) number) (two (joined begins) (step.Box n ∷ []) first second)

-- one more pin of a box
pub left_pins_more : (R : DrawnPin → List Step → Type 0) (pins : List DrawnPin) (i : ℕ) (pin : DrawnPin) (begins : List (List Step)) (part old mid new : List Step) → i < length pins → pin ≡ get_or pins i pin
    → (pin.side ≡ Left → R pin part) → (pin.side ≡ Right → part ≡ []) → AllZip R (left_pins (take i pins)) begins → mid ≡ old ++ joined begins → new ≡ mid ++ part
    → (more : List (List Step)) × AllZip R (left_pins (take (i + 1) pins)) more × (new ≡ old ++ joined more)
left_pins_more R pins i pin begins part old mid new lt is left right zip first second =
    let front : take (i + 1) pins ≡ take i pins ++ pin ∷ [] = take_more pins i pin lt ∙ ap (λ p. take i pins ++ p ∷ []) (sym is) in
    rw front (rw (filter_map-append (λ p. left_pin p p.side) (take i pins) (pin ∷ [])) (go pin.side refl))
  where
    go : (s : Side) → pin.side ≡ s → (more : List (List Step)) × AllZip R (left_pins (take i pins) ++ cons_option (left_pin pin s) []) more × (new ≡ old ++ joined more)
    go Left e = (
      begins ++ part ∷ [],
      zip_push R (left_pins (take i pins)) begins pin part zip (left e),
      second ∙ ap (λ x. x ++ part) first ∙ append_assoc old (joined begins) part ∙ ap (λ x. old ++ x) (sym (joined_push begins part)),
    )
    go Right e = (begins, rw append-nil zip, second ∙ ap (λ x. mid ++ x) (right e) ∙ append-nil mid ∙ first)

-- one more element
pub steps_to_more : (ds : List Declaration) (d : Diagram) (top n : ℕ) (steps new : List Step) → AreStepsTo ds d top n steps → ArePushed ds d top n steps new → AreStepsTo ds d top (n + 1) new
steps_to_more ds d top n steps new are more = record {
  parts = are.parts ++ more.part ∷ [];
  long = (let l = are.long in omega (arith, length-append are.parts (more.part ∷ [])));
  each = λ k e part at at'. elim (slice_get-append are.parts (more.part ∷ []) k) [
    | inl before ↦ are.each k e part at (sym before.1 ∙ at')
    | inr last ↦ (let l = are.long in go last.0 k e part at (sym last.2 ∙ at') (omega (arith, last.1)))
  ];
  whole = more.new_is ∙ ap (λ x. x ++ more.part) are.whole ∙ sym (joined_push are.parts more.part);
}
  where
    go : (j k : ℕ) (e : Element) (part : List Step) → slice_get d.elements k ≡ Some e → slice_get (more.part ∷ []) j ≡ Some part → k ≡ n + j → AreStepsOf ds d top k e part
    go zero k e part at here is =
        let same : k ≡ n = omega arith in
        let P : ℕ → Type 0 = λ m. AreStepsOf ds d top m e part in
        let Q : List Step → Type 0 = λ x. AreStepsOf ds d top n e x in
        subst P (sym same) (subst Q (some_same here) (more.are e (ap (slice_get d.elements) (sym same) ∙ at)))
    go (suc j) k e part at here is = absurd (cc)

pub steps_none : (ds : List Declaration) (d : Diagram) (top : ℕ) (steps : List Step) → steps ≡ [] → AreStepsTo ds d top 0 steps
steps_none ds d top steps none = record { parts = []; long = refl; each = λ k e part at at'. (cc); whole = none }

pub steps_all : (ds : List Declaration) (d : Diagram) (top n : ℕ) (steps : List Step) → n ≡ length d.elements → AreStepsTo ds d top n steps → AreSteps ds d top steps
steps_all ds d top n steps all are = record { parts = are.parts; long = are.long ∙ all; each = are.each; whole = are.whole }

-- how many coils and boxes there are in one element more
pub coils_counted : (es : List Element) (k : ℕ) (e : Element) → k < length es → e ≡ get_or es k e → length (coils_of (take (k + 1) es)) ≡ length (coils_of (take k es)) + length (coils_of (e ∷ []))
coils_counted es k e lt is =
    let front : take (k + 1) es ≡ take k es ++ e ∷ [] = take_more es k e lt ∙ ap (λ p. take k es ++ p ∷ []) (sym is) in
    ap (λ x. length (coils_of x)) front ∙ ap length (filter_map-append coil_of (take k es) (e ∷ [])) ∙ length-append (coils_of (take k es)) (coils_of (e ∷ []))

cons_short : {Y : Type 0} (o : Option Y) (ys : List Y) → length (cons_option o ys) ≤ suc (length ys)
cons_short None ys = omega arith
cons_short (Some y) ys = let same : length (cons_option (Some y) ys) ≡ suc (length ys) = refl in omega arith

-- no more are kept than there are
pub filtered_short : {X Y : Type 0} (h : X → Option Y) (xs : List X) → length (filter_map h xs) ≤ length xs
filtered_short h [] = omega arith
filtered_short h (x ∷ xs) = let rest = filtered_short h xs in let more = cons_short (h x) (filter_map h xs) in (let all : length (filter_map h (x ∷ xs)) ≤ suc (length xs) = omega arith in all)

cons_less : {Y : Type 0} (o : Option Y) (a b : List Y) → length a < length b → length (cons_option o a) < length (cons_option o b)
cons_less None a b lt = lt
cons_less (Some y) a b lt = let P : suc (length a) < suc (length b) = omega arith in P

-- what is kept comes after those that are kept before it
pub kept_before : {X Y : Type 0} (h : X → Option Y) (xs : List X) (k : ℕ) (x : X) (y : Y) → slice_get xs k ≡ Some x → h x ≡ Some y → length (filter_map h (take k xs)) < length (filter_map h xs)
kept_before h [] k x y at is = absurd (cc)
kept_before h (x' ∷ xs) zero x y at is =
    let same : h x' ≡ Some y = ap h (some_same at) ∙ is in
    let P : Option _ → Type 0 = λ o. 0 < length (cons_option o (filter_map h xs)) in
    subst P (sym same) (let lt : 0 < suc (length (filter_map h xs)) = omega arith in lt)
kept_before h (x' ∷ xs) (suc k) x y at is = cons_less (h x') (filter_map h (take k xs)) (filter_map h xs) (kept_before h xs k x y at is)
