-- A box that is bound, pin by pin.
use Rattle.std.proofs.Common.{◌≡◌, ℕ, zero, suc, ◌+◌, ◌<◌, List, [], ◌∷◌, ◌++◌, Option, Some, None, All, Contains, MatchOption, slice_get, get_or, take, length, arith, refl, sym, ap, ◌∙◌}
use Rattle.std.specs.List.{AllZip, cons_option}
use Rattle.std.specs.Option.{option_and_then, option_map}
use Rattle.name_faults.specs.Lookup.{declared_at}
use Rattle.declared_names.specs.declared.declarations.Declared.{Declared}
use Rattle.scan_steps.specs.declared.source.Source.{Source}
use Rattle.scan_steps.specs.declared.source.Source.TheVariants as source
use Rattle.std.proofs.lemmas.List.{take_more, append-nil}
use Rattle.std.proofs.lemmas.List.Elements.{filter_map-append, All-nil, All-cons}
use Rattle.lists.proofs.Places.{some_same}
use Rattle.lists.proofs.Zips.{zip_push}
use Rattle.lists.proofs.Members.{at_contains}
use Rattle.std_blocks.specs.declared.block_type.BlockType.{BlockType}
use Rattle.std_blocks.specs.declared.pin.Field.{Field}
use Rattle.std_blocks.specs.Pins.{input}
use Rattle.drawings.specs.declared.drawn_box.DrawnBox.{DrawnBox}
use Rattle.drawings.specs.declared.drawn_box.DrawnPin.{DrawnPin}
use Rattle.drawings.specs.declared.drawn_box.Operand.{Operand}
use Rattle.drawings.specs.declared.drawn_box.Side.{Side}
use Rattle.drawings.specs.declared.drawn_box.Side.TheVariants.{Left, Right}
use Rattle.network.specs.declared.element.Element.{Element}
use Rattle.network.specs.declared.element.Element.TheVariants.{Wire, Join, Upright, Contact, Coil, Box}
use Rattle.declared_names.specs.declared.declarations.Declaration.{Declaration}
use Rattle.scan_steps.specs.declared.bound_box.BoundOutput.{BoundOutput}
use Rattle.declared_names.specs.Names.{place_of}
use Rattle.power_flow.specs.Meaning.{IsDrawn}
use Rattle.name_faults.specs.Steps.Named.{IsDrawnOnce, AreInRange, IsInRange}
use Rattle.power_flow.specs.Steps.BoxTable.{right_pin, right_pins, output_if, box_of, boxes_of}

-- an input is drawn once
pub same_drawn : (b : DrawnBox) (block : BlockType) (field : Field) (p q : DrawnPin) → IsDrawnOnce b block → IsDrawn b block field p → IsDrawn b block field q → p ≡ q
same_drawn b block field p q once is is' =
    let one = at_contains b.pins p is.drawn in
    let other = at_contains b.pins q is'.drawn in
    let same = once one.0 other.0 p q (input field) one.1 other.1 is.named is'.named in
    some_same (sym one.1 ∙ ap (slice_get b.pins) same ∙ other.1)

pub in_range_of : (b : DrawnBox) (pin : DrawnPin) → AreInRange b → Contains b.pins pin → MatchOption pin.operand (Unit {0}) (λ o. IsInRange o.text)
in_range_of b pin fine in' = go pin.operand refl
  where
    go : (o : Option Operand) → pin.operand ≡ o → MatchOption o (Unit {0}) (λ w. IsInRange w.text)
    go None e = tt
    go (Some w) e = fine pin w in' e

-- one more pin
pub outputs_more : (R : DrawnPin → BoundOutput → Type 0) (pins : List DrawnPin) (i : ℕ) (pin : DrawnPin) (outputs : List BoundOutput) (o : BoundOutput) → i < length pins → pin ≡ get_or pins i pin
    → (pin.side ≡ Right → R pin o) → AllZip R (right_pins (take i pins)) outputs → AllZip R (right_pins (take (i + 1) pins)) (outputs ++ output_if pin.side o)
outputs_more R pins i pin outputs o lt is here before =
    let front : take (i + 1) pins ≡ take i pins ++ pin ∷ [] = take_more pins i pin lt ∙ ap (λ p. take i pins ++ p ∷ []) (sym is) in
    rw front (rw (filter_map-append (λ p. right_pin p p.side) (take i pins) (pin ∷ [])) (go pin.side refl))
  where
    go : (s : Side) → pin.side ≡ s → AllZip R (right_pins (take i pins) ++ cons_option (right_pin pin s) []) (outputs ++ output_if s o)
    go Left e = rw (append-nil, append-nil) before
    go Right e = zip_push R (right_pins (take i pins)) outputs pin o before (here e)

-- what holds of four sources holds of each by its number
pub four : (P : ℕ → Source → Type 0) (a b c d : Source) → P 0 a → P 1 b → P 2 c → P 3 d → (k : ℕ) → k < 4 → P k (get_or (a ∷ b ∷ c ∷ d ∷ []) k source.Nothing)
four P a b c d pa pb pc pd zero lt = pa
four P a b c d pa pb pc pd (suc zero) lt = pb
four P a b c d pa pb pc pd (suc (suc zero)) lt = pc
four P a b c d pa pb pc pd (suc (suc (suc zero))) lt = pd
four P a b c d pa pb pc pd (suc (suc (suc (suc k)))) lt = absurd (omega arith)

-- where a name is declared
pub declared_place : (ds : List Declaration) (name : List ℕ) (w : Declared) → declared_at ds name ≡ Some w → (k : ℕ) × (e : Declaration) × (place_of ds name ≡ Some k) × (slice_get ds k ≡ Some e) × (e.declared ≡ w)
unfolding declared_at
declared_place ds name w is = go (place_of ds name) refl is
  where
    at : (k : ℕ) (o : Option Declaration) → place_of ds name ≡ Some k → slice_get ds k ≡ o → option_map (λ (e : Declaration). e.declared) o ≡ Some w
        → (k : ℕ) × (e : Declaration) × (place_of ds name ≡ Some k) × (slice_get ds k ≡ Some e) × (e.declared ≡ w)
    at k None place here is' = cc
    at k (Some e) place here is' = (k, e, place, here, some_same is')

    go : (o : Option ℕ) → place_of ds name ≡ o → option_map (λ (e : Declaration). e.declared) (option_and_then (slice_get ds) o) ≡ Some w
        → (k : ℕ) × (e : Declaration) × (place_of ds name ≡ Some k) × (slice_get ds k ≡ Some e) × (e.declared ≡ w)
    go None place is' = cc
    go (Some k) place is' = at k (slice_get ds k) place refl is'

pub output_within : (P : BoundOutput → Type 0) (s : Side) (o : BoundOutput) → P o → All P (output_if s o)
output_within P Left o p = All-nil P
output_within P Right o p = All-cons P o [] p (All-nil P)

pub pin_in : (pins : List DrawnPin) (i : ℕ) (pin : DrawnPin) → i < length pins → pin ≡ get_or pins i pin → Contains pins pin
pin_in pins i pin lt is = (i, lt, sym is)

-- an element that is no box adds none
pub none_pushed : (e : Element) → ((b : DrawnBox) → e ≡ Box b → ⊥) → boxes_of (e ∷ []) ≡ []
none_pushed (Wire p) h = refl
none_pushed (Join p) h = refl
none_pushed (Upright p) h = refl
none_pushed (Contact c) h = refl
none_pushed (Coil c) h = refl
none_pushed (Box b) h = absurd (h b refl)

pub boxes_more : (es : List Element) (i : ℕ) (e : Element) → i < length es → e ≡ get_or es i e → boxes_of (take (i + 1) es) ≡ boxes_of (take i es) ++ boxes_of (e ∷ [])
boxes_more es i e lt is =
    let front : take (i + 1) es ≡ take i es ++ e ∷ [] = take_more es i e lt ∙ ap (λ p. take i es ++ p ∷ []) (sym is) in
    ap boxes_of front ∙ filter_map-append box_of (take i es) (e ∷ [])
