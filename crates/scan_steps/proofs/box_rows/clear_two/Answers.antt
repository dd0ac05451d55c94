use Rattle.std.proofs.Common.{◌≡◌, ℕ, ◌<◌, List, Bool, false, length, get_or, set, length-set, take, arith, refl}
use Rattle.std.proofs.lemmas.List.{take_all}
use Rattle.scan_steps.specs.declared.bound_box.BoundOutput.{BoundOutput}
use Rattle.scan_steps.specs.Conducting.{bit_at}
use Rattle.scan_steps.specs.Steps.BoxSteps.{HasOutput}
use Rattle.scan_steps.proofs.BoxesStepping.{clear_more, clear_kept}
use Rattle.scan_steps.proofs.box_rows.clear_two.Goals as goal

-- no pin is among the first none
no_pin : (pins : List BoundOutput) (r : ℕ) → HasOutput (take 0 pins) r → ⊥
no_pin pins r (k, o, lt, at, is) = omega (arith, lt)

cleared : (pins : List BoundOutput) (d : BoundOutput) (rows : List Bool) → length pins ≡ 2 → (get_or pins 0 d).row < length rows → (get_or pins 1 d).row < length rows
    → (r : ℕ) → HasOutput pins r → bit_at (set (set rows (get_or pins 0 d).row false) (get_or pins 1 d).row false) r ≡ false
cleared pins d rows two first second =
    let long = length-set rows (get_or pins 0 d).row false in
    let one = clear_more pins 0 d rows (omega (arith, two)) first (λ r has. absurd (no_pin pins r has)) in
    rw (take_all 2 pins (omega (arith, two))) at (clear_more pins 1 d (set rows (get_or pins 0 d).row false) (omega (arith, two)) (omega (arith, long, second)) one)

kept : (pins : List BoundOutput) (d : BoundOutput) (rows : List Bool) → length pins ≡ 2
    → (r : ℕ) → (HasOutput pins r → ⊥) → bit_at (set (set rows (get_or pins 0 d).row false) (get_or pins 1 d).row false) r ≡ bit_at rows r
kept pins d rows two =
    let one = clear_kept pins 0 d rows rows (omega (arith, two)) (λ r none. refl) in
    rw (take_all 2 pins (omega (arith, two))) at (clear_kept pins 1 d (set rows (get_or pins 0 d).row false) rows (omega (arith, two)) one)

pub returns-clause-cleared : goal.returns-clause-cleared
returns-clause-cleared c = cleared c.args.pins.now _ c.args.rows.now c.requires.two (c.requires.within 0 _ (omega (arith, c.requires.two))) (c.requires.within 1 _ (omega (arith, c.requires.two)))

pub returns-clause-kept : goal.returns-clause-kept
returns-clause-kept c = kept c.args.pins.now _ c.args.rows.now c.requires.two
