use Rattle.std.proofs.Common.{◌≡◌, Bool, true, false, refl, sym, ◌∙◌, subst}
use Rattle.std.specs.Bool.{OnFalse}
use Rattle.scan_steps.specs.Slots.{AreSlotsOf}
use Rattle.scan_steps.proofs.Seating.{put_is_none, put_keeps}
use Rattle.scan_steps.proofs.slots.Slots.set.Goals as goal

on_false : (b : Bool) (P : Type 0) → (b ≡ false → P) → OnFalse b P
on_false true P f = tt
on_false false P f = f refl

pub returns-clause-kept : goal.returns-clause-kept
returns-clause-kept c = on_false c.put.result (c.put.new.self ≡ c.args.self.now)
    (λ off. c.put.ensures.put ∙ put_is_none c.args.self.now c.args.place c.args.value (λ at. let on = c.put.ensures.answer.1 at in absurd cc))

pub returns-clause-declared : goal.returns-clause-declared
returns-clause-declared c = λ ds h. subst (AreSlotsOf ds) (sym c.put.ensures.put) (put_keeps ds c.args.self.now c.args.place c.args.value c.put.result c.put.ensures.answer h)
