-- Power and the inputs of boxes, where the slots agree at what a network reads.
use Rattle.std.proofs.Common.{◌≡◌, ℕ, ◌↔◌, inl, inr, List, [], ◌∷◌, Bool, Option, Some, None, IsTrue, Contains, MatchOption, refl, sym, ap, ◌∙◌, subst}
use Rattle.std.specs.Option.{option_and_then}
use Rattle.drawings.specs.declared.place.Place.{Place}
use Rattle.drawings.specs.declared.drawn_box.DrawnBox.{DrawnBox}
use Rattle.drawings.specs.declared.drawn_box.DrawnPin.{DrawnPin}
use Rattle.drawings.specs.declared.drawn_box.Operand.{Operand}
use Rattle.drawings.specs.declared.drawn_box.Side.TheVariants.{Left}
use Rattle.network.specs.declared.element.Element.{Element}
use Rattle.network.specs.declared.element.Element.TheVariants.{Wire, Join, Upright, Contact, Coil, Box}
use Rattle.network.specs.Links.{Diagram}
use Rattle.std_blocks.specs.declared.block_type.BlockType.{BlockType}
use Rattle.std_blocks.specs.declared.pins.PinsIn.{PinsIn}
use Rattle.std_blocks.specs.Blocks.{bit}
use Rattle.declared_names.specs.declared.declarations.Declaration.{Declaration}
use Rattle.scan_steps.specs.declared.slot.Slot.{Slot}
use Rattle.scan_steps.specs.Values.{is_true, int_or_zero, time_or_zero}
use Rattle.power_flow.specs.Power.{IsWalk, AllConduct}
use Rattle.power_flow.specs.Values.{value_at, value_of, text_value}
use Rattle.power_flow.specs.Meaning.{moment, conducts, IsSource, IsOutputOn, HasPower, IsInputBit, AreInputs, operand_value}
use Rattle.needed_networks.proofs.Values.{ReadsAlike, ShowsAlike, reads_back, shows_back, conducts_same}

-- a walk stays one where its source is one
walk_from : (d : Diagram) (S S' : Place → Type 0) (walk : List Place) → ((q : Place) → S q → S' q) → IsWalk d S walk → IsWalk d S' walk
walk_from d S S' [] from h = h
walk_from d S S' (p ∷ []) from h = from p h
walk_from d S S' (q ∷ p ∷ walk) from h = (h.0, walk_from d S S' (p ∷ walk) from h.1)

conduct_from : (d : Diagram) (c c' : ℕ → Bool) (left : List Place) → ((k : ℕ) → c k ≡ c' k) → AllConduct d c left → AllConduct d c' left
conduct_from d c c' [] same h = tt
conduct_from d c c' (p ∷ left) same h = ((λ k ends. subst IsTrue (same k) (h.0 k ends)), conduct_from d c c' left same h.1)

output_from : (ds : List Declaration) (xs ys : List Slot) (e : Element) (p : Place)
    → ((b : DrawnBox) → e ≡ Box b → (name : List ℕ) → is_true (value_at ds xs b.instance name) ≡ is_true (value_at ds ys b.instance name)) → IsOutputOn ds xs e p → IsOutputOn ds ys e p
output_from ds xs ys (Wire at) p same out = out
output_from ds xs ys (Join at) p same out = out
output_from ds xs ys (Upright at) p same out = out
output_from ds xs ys (Contact c) p same out = out
output_from ds xs ys (Coil c) p same out = out
output_from ds xs ys (Box b) p same out =
    let pin = out.1 in
    let on = pin.4 in
    (out.0, (pin.0, pin.1, pin.2, pin.3, (on.0, on.1, sym (same b refl (pin.1).name) ∙ on.2)))

source_from : (ds : List Declaration) (d : Diagram) (xs ys : List Slot) → ShowsAlike ds d xs ys → (p : Place) → IsSource ds d xs p → IsSource ds d ys p
source_from ds d xs ys same p (inl rail) = inl rail
source_from ds d xs ys same p (inr found) =
    inr (
      found.0,
      found.1,
      found.2,
      found.3,
      output_from ds xs ys found.1 p
          (λ b is name. same.lamps b name (subst (λ x. Contains d.elements x) is (found.0, found.2, found.3))) found.4,
    )

-- the power at a place is the same
pub power_from : (ds : List Declaration) (d : Diagram) (xs ys between between' : List Slot) (ms : List Bool) → ReadsAlike ds d xs ys → ShowsAlike ds d between between'
    → (p : Place) → HasPower ds d (moment xs ms) between p → HasPower ds d (moment ys ms) between' p
power_from ds d xs ys between between' ms reads steps p on = record {
  passed = on.passed;
  walk = walk_from d (IsSource ds d between) (IsSource ds d between') (p ∷ on.passed) (λ q s. source_from ds d between between' steps q s) on.walk;
  conduct = conduct_from d (conducts ds d (moment xs ms)) (conducts ds d (moment ys ms)) on.passed (λ k. conducts_same ds d xs ys ms reads k) on.conduct;
}

-- the inputs of a box are the same
pub inputs_from : (ds : List Declaration) (d : Diagram) (xs ys between between' : List Slot) (ms : List Bool) (b : DrawnBox) (block : BlockType) (pins : PinsIn)
    → ReadsAlike ds d xs ys → ShowsAlike ds d between between' → Contains d.elements (Box b)
    → AreInputs ds d (moment xs ms) between b block pins → AreInputs ds d (moment ys ms) between' b block pins
inputs_from ds d xs ys between between' ms b block pins reads steps in' h = record {
  four = h.four;
  bits = λ k pin lt drawn. input_bit k pin drawn.drawn drawn.side (h.bits k pin lt drawn);
  no_bit = h.no_bit;
  int = λ pin drawn. h.int pin drawn ∙ ap int_or_zero (operand pin drawn.drawn drawn.side);
  no_int = h.no_int;
  time = λ pin drawn. h.time pin drawn ∙ ap time_or_zero (operand pin drawn.drawn drawn.side);
  no_time = h.no_time;
}
  where
    there : (p : Place) → HasPower ds d (moment xs ms) between p → HasPower ds d (moment ys ms) between' p
    there p on = power_from ds d xs ys between between' ms reads steps p on

    back : (p : Place) → HasPower ds d (moment ys ms) between' p → HasPower ds d (moment xs ms) between p
    back p on = power_from ds d ys xs between' between ms (reads_back ds d xs ys reads) (shows_back ds d between between' steps) p on

    input_bit : (k : ℕ) (pin : DrawnPin) → Contains b.pins pin → pin.side ≡ Left
        → IsInputBit ds d (moment xs ms) between b pin (bit pins k) → IsInputBit ds d (moment ys ms) between' b pin (bit pins k)
    input_bit k pin drawn side f = go pin.operand refl f
      where
        go : (o : Option Operand) → pin.operand ≡ o
            → MatchOption o (IsTrue (bit pins k) ↔ HasPower ds d (moment xs ms) between (record { row = pin.row; column = b.left })) (λ w. bit pins k ≡ is_true (value_of ds xs w.text))
            → MatchOption o (IsTrue (bit pins k) ↔ HasPower ds d (moment ys ms) between' (record { row = pin.row; column = b.left })) (λ w. bit pins k ≡ is_true (value_of ds ys w.text))
        go None is g = (λ on. there (record { row = pin.row; column = b.left }) (g.0 on), λ p. g.1 (back (record { row = pin.row; column = b.left }) p))
        go (Some w) is g = g ∙ reads.bits b pin w in' drawn side is

    operand : (pin : DrawnPin) → Contains b.pins pin → pin.side ≡ Left
        → operand_value ds (moment xs ms) pin ≡ operand_value ds (moment ys ms) pin
    operand pin drawn side = go pin.operand refl
      where
        go : (o : Option Operand) → pin.operand ≡ o → option_and_then (λ w. text_value ds xs w.text) o ≡ option_and_then (λ w. text_value ds ys w.text) o
        go None is = refl
        go (Some w) is = reads.texts b pin w in' drawn side is
