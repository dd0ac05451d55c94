use Rattle.std.proofs.Common.{◌≡◌, ℕ, ◌⊎◌, ◌↔◌, inl, inr, List, Bool, true, length, get_or, take, Some, arith}
use Rattle.std.proofs.lemmas.List.{take_all}
use Rattle.std_blocks.specs.declared.pins.PinsOut.{PinsOut}
use Rattle.std_blocks.specs.Pins.{field_value}
use Rattle.scan_steps.specs.declared.bound_box.BoundOutput.{BoundOutput}
use Rattle.scan_steps.specs.Values.{is_true}
use Rattle.scan_steps.specs.Conducting.{bit_at}
use Rattle.scan_steps.specs.Steps.BoxSteps.{IsMarked}
use Rattle.scan_steps.proofs.BoxesStepping.{mark_more}
use Rattle.scan_steps.proofs.box_rows.mark_two.Goals as goal

-- no pin is among the first none
no_pin : (pins : List BoundOutput) (values : PinsOut) (r : ℕ) → IsMarked (take 0 pins) values r → ⊥
no_pin pins values r (k, o, lt, at, is) = omega (arith, lt)

abbrev IsMarkedBy : BoundOutput → PinsOut → List Bool → List Bool → Type 0
IsMarkedBy o values old new = (r : ℕ) → (bit_at new r ≡ true) ↔ ((bit_at old r ≡ true) ⊎ ((o.row ≡ r) × (is_true (Some (field_value values o.field)) ≡ true)))

none_marked : (pins : List BoundOutput) (values : PinsOut) (old : List Bool) (r : ℕ) → (bit_at old r ≡ true) ↔ ((bit_at old r ≡ true) ⊎ IsMarked (take 0 pins) values r)
none_marked pins values old r = (λ on. inl on, λ some. elim some [ inl on ↦ on | inr none ↦ absurd (no_pin pins values r none) ])

both_marked : (pins : List BoundOutput) (values : PinsOut) (d : BoundOutput) (old mid new : List Bool) → length pins ≡ 2
    → IsMarkedBy (get_or pins 0 d) values old mid → IsMarkedBy (get_or pins 1 d) values mid new
    → (r : ℕ) → (bit_at new r ≡ true) ↔ ((bit_at old r ≡ true) ⊎ IsMarked pins values r)
both_marked pins values d old mid new two first second =
    let one = mark_more pins values 0 d old old mid (omega (arith, two)) (none_marked pins values old) first in
    rw (take_all 2 pins (omega (arith, two))) at (mark_more pins values 1 d old mid new (omega (arith, two)) one second)

pub returns-clause-marked : goal.returns-clause-marked
returns-clause-marked c =
    both_marked c.args.pins.now c.args.outputs.now _ c.args.rows.now c.mark_output.new.rows c.mark_output-2.new.rows c.requires.two c.mark_output.ensures.marked c.mark_output-2.ensures.marked
