use Rattle.std.proofs.Common.{◌≡◌, ℕ, zero, suc, ◌<◌, List, [], ◌∷◌, Bool, true, false, Some, length, length-set, get_or, set, refl, sym, ap, ◌∙◌, arith}
use Rattle.std.proofs.lemmas.List.{get_or-set_same, get_or-set_other}
use Rattle.std_blocks.specs.declared.pins.PinsOut.{PinsOut}
use Rattle.std_blocks.specs.Pins.{field_value}
use Rattle.scan_steps.specs.declared.bound_box.BoundOutput.{BoundOutput}
use Rattle.scan_steps.specs.Values.{is_true}
use Rattle.scan_steps.specs.Conducting.{bit_at}
use Rattle.scan_steps.specs.Steps.BoxSteps.{IsMarked, HasOutput}
use Rattle.scan_steps.specs.Steps.Passing.{ArePinsShown}
use Rattle.scan_steps.proofs.box_rows.show_one.Goals as goal

abbrev shown : PinsOut → BoundOutput → Bool
shown values o = is_true (Some (field_value values o.field))

-- a row that shows the one pin
one_shown : (pins : List BoundOutput) (values : PinsOut) (d : BoundOutput) (rows : List Bool) → length pins ≡ 1 → (get_or pins 0 d).row < length rows
    → ArePinsShown pins values rows (set rows (get_or pins 0 d).row (shown values (get_or pins 0 d)))
one_shown [] values d rows one lt = cc
one_shown (o ∷ p ∷ pins) values d rows one lt = cc
one_shown (o ∷ []) values d rows one lt = record {
  long = length-set rows o.row (shown values o);
  within = λ r has. (there r has, back r);
  outside = λ r none. get_or-set_other rows o.row r (shown values o) false (λ e. none (0, o, within_one, refl, sym e));
}
  where
    within_one : 0 < length (o ∷ [])
    within_one = omega arith

    here : (r : ℕ) → o.row ≡ r → bit_at (set rows o.row (shown values o)) r ≡ shown values o
    here r is = ap (bit_at (set rows o.row (shown values o))) (sym is) ∙ get_or-set_same rows o.row (shown values o) false lt

    only : (r : ℕ) → HasOutput (o ∷ []) r → o.row ≡ r
    only r (zero, x, in', at, is) = ap (λ (y : BoundOutput). y.row) at ∙ is
    only r (suc k, x, in', at, is) = absurd (let more : suc k < suc zero = in' in omega (arith, more))

    there : (r : ℕ) → HasOutput (o ∷ []) r → bit_at (set rows o.row (shown values o)) r ≡ true → IsMarked (o ∷ []) values r
    there r has on = (0, o, within_one, refl, (only r has, sym (here r (only r has)) ∙ on))

    back : (r : ℕ) → IsMarked (o ∷ []) values r → bit_at (set rows o.row (shown values o)) r ≡ true
    back r (zero, x, in', at, (is, on)) = here r (ap (λ (y : BoundOutput). y.row) at ∙ is) ∙ ap (shown values) at ∙ on
    back r (suc k, x, in', at, marked) = absurd (let more : suc k < suc zero = in' in omega (arith, more))

pub returns : goal.returns
returns c = rw c.is_output_on.ensures (one_shown c.args.pins.now c.args.outputs.now _ c.args.rows.now c.requires.one (c.requires.within 0 _ (omega (arith, c.requires.one))))
