-- Worked faults of names: what the definitions say of some boxes and symbols.
use Rattle.std.proofs.Common.{ℕ, ◌<◌, List, [], ◌∷◌, Option, Some, None, codes, refl, arith, pos}
use Rattle.std_blocks.specs.declared.block_type.BlockType.{BlockType}
use Rattle.std_blocks.specs.declared.block_type.BlockType.TheVariants.{CTU, TON}
use Rattle.std_blocks.specs.declared.value.Value.TheVariants.{Int as IntValue}
use Rattle.std_blocks.specs.declared.pin.Field.TheVariants.{Bit, Int}
use Rattle.std_blocks.specs.Pins.{pin_of, input}
use Rattle.drawings.specs.declared.drawn_box.DrawnBox.{DrawnBox}
use Rattle.drawings.specs.declared.drawn_box.DrawnPin.{DrawnPin}
use Rattle.drawings.specs.declared.drawn_box.Operand.{Operand}
use Rattle.drawings.specs.declared.drawn_box.Side.{Side}
use Rattle.drawings.specs.declared.drawn_box.Side.TheVariants.{Left}
use Rattle.network.specs.declared.element.Element.TheVariants.{Wire, Box}
use Rattle.network.specs.Links.{place}
use Rattle.name_faults.specs.declared.bind_fault.BindKind.TheVariants.{UnknownName, WrongKind, UnknownPin, PinMissing, LiteralOutOfRange}
use Rattle.declared_names.specs.declared.declarations.Declaration.{Declaration}
use Rattle.name_faults.specs.Literals.{literal_value}
use Rattle.name_faults.specs.Lookup.{declared_at}
use Rattle.declared_names.specs.Names.{place_of}
use Rattle.name_faults.specs.BindFaults.{IsFaultIn, foreign_pin, second_pin, wrong_line, unknown_box}

abbrev box_of : BlockType → List DrawnPin → DrawnBox
box_of block pins = record { top = 2; left = 10; bottom = 6; right = 18; block = block; instance = codes "B1"; pins = pins }

abbrev pin_on : Side → ℕ → List ℕ → Option Operand → DrawnPin
pin_on side row name operand = record { row = row; side = side; name = name; operand = operand }

-- A timer has no pin CU: UnknownPin at the side where it is drawn.
pub wrong_pin : (ds : List Declaration) → IsFaultIn ds (Box (box_of TON (pin_on Left 4 (codes "CU") None ∷ [])) ∷ []) UnknownPin (place 4 10)
unfolding pin_of
wrong_pin ds = (0, Box (box_of TON (pin_on Left 4 (codes "CU") None ∷ [])), omega arith, refl, foreign_pin (0, pin_on Left 4 (codes "CU") None, (refl, refl), refl))

-- A timer has a pin Q, and not on its left.
pub wrong_side : (ds : List Declaration) → IsFaultIn ds (Box (box_of TON (pin_on Left 4 (codes "Q") None ∷ [])) ∷ []) UnknownPin (place 4 10)
unfolding pin_of
wrong_side ds = (0, Box (box_of TON (pin_on Left 4 (codes "Q") None ∷ [])), omega arith, refl, foreign_pin (0, pin_on Left 4 (codes "Q") None, (refl, refl), refl))

-- IN drawn twice, in either case: UnknownPin at the later one.
pub twice : (ds : List Declaration) → IsFaultIn ds (Box (box_of TON (pin_on Left 4 (codes "IN") None ∷ pin_on Left 5 (codes "in") None ∷ [])) ∷ []) UnknownPin (place 5 10)
unfolding pin_of
twice ds = (
  0,
  Box (box_of TON (pin_on Left 4 (codes "IN") None ∷ pin_on Left 5 (codes "in") None ∷ [])),
  omega arith,
  refl,
  second_pin (0, 1, pin_on Left 4 (codes "IN") None, pin_on Left 5 (codes "in") None, input (Bit 0), omega arith, refl, (refl, refl), refl, refl),
)

-- A box without pins: PinMissing at its corner.
pub missing_pin : (ds : List Declaration) → IsFaultIn ds (Box (box_of TON []) ∷ []) PinMissing (place 2 10)
missing_pin ds = (0, Box (box_of TON []), omega arith, refl, (Left, (refl, λ pin n in' on own. let nowhere : in'.0 < 0 = in'.1 in omega arith)))

-- 40000 at the preset of a counter: LiteralOutOfRange at the number's first character.
pub too_large : (ds : List Declaration) → IsFaultIn ds (Box (box_of CTU (pin_on Left 5 (codes "PV") (Some (record { text = codes "40000"; column = 3 })) ∷ [])) ∷ []) LiteralOutOfRange (place 5 3)
unfolding pin_of literal_value
too_large ds =
    let operand : Operand = record { text = codes "40000"; column = 3 } in
    let pin = pin_on Left 5 (codes "PV") (Some operand) in (
      0,
      Box (box_of CTU (pin ∷ [])),
      omega arith,
      refl,
      (IntValue (pos 40000), (codes "40000", record { pin = pin; operand = operand; drawn = (0, omega arith, refl); on = refl; stands = refl; text_is = refl; want_is = refl; place_is = refl }, refl), refl),
    )

-- A wire directly at the preset of a counter: WrongKind at the pin's side.
pub lined : (ds : List Declaration) → IsFaultIn ds (Box (box_of CTU (pin_on Left 5 (codes "PV") None ∷ [])) ∷ Wire (place 5 9) ∷ []) WrongKind (place 5 10)
unfolding pin_of
lined ds =
    let pin = pin_on Left 5 (codes "PV") None in
    (0, Box (box_of CTU (pin ∷ [])), omega arith, refl, wrong_line (0, pin, Int, (refl, refl), refl, (λ same. cc), (1, Wire (place 5 9), omega arith, refl, (refl, refl))))

-- A box whose name isn't declared: UnknownName at its corner.
pub unknown : IsFaultIn [] (Box (box_of TON []) ∷ []) UnknownName (place 2 10)
unfolding declared_at place_of
unknown = (0, Box (box_of TON []), omega arith, refl, unknown_box (refl, refl))
