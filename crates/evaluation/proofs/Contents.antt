-- Evaluations with the same contents are equal, since the waiting places of a state are those of its code.
use Rattle.std.proofs.Common.{◌≡◌, List, refl, sym, subst, ap}
use Rattle.evaluation.specs.Steps.Facts.{same_as_itself, states_of_one}
use Rattle.power_flow.specs.StateValue.{StateValue}
use Rattle.task_codes.specs.CodeValue.{CodeValue}
use Rattle.evaluation.specs.States.{AreStatesOf}
use Rattle.evaluation.specs.Meaning.{Evaluated, IsWhole}
use Rattle.evaluation.specs.Messages.{MessageValue}
use Rattle.evaluation.specs.Steps.Contents.{HaveSameContents}

pub equal_contents : (x y : Evaluated) → IsWhole x → IsWhole y → HaveSameContents x y → x ≡ y
equal_contents x y one other same =
    rw (same.ticket, name, heard, same.dt, same.inputs, same.takes, before, outputs, after, same.code) refl
  where
    name : x.name ≡ y.name
    name = ap (λ (m : MessageValue). m.name) same.message

    heard : x.heard ≡ y.heard
    heard = ap (λ (m : MessageValue). m.heard) same.message

    outputs : x.outputs ≡ y.outputs
    outputs = ap (λ (m : MessageValue). m.image) same.message

    of_x : (states : List StateValue) → AreStatesOf y.code states → AreStatesOf x.code states
    of_x states fit = subst (λ (c : CodeValue). AreStatesOf c states) (sym same.code) fit

    before : x.before ≡ y.before
    before = states_of_one x.code x.before y.before one.before_fits (of_x y.before other.before_fits) same.before

    after : x.after ≡ y.after
    after = states_of_one x.code x.after y.after one.after_fits (of_x y.after other.after_fits) same.after

pub own_contents : (x y : Evaluated) → x ≡ y → HaveSameContents x y
own_contents x y e = subst (HaveSameContents x) e record {
  ticket = refl;
  message = refl;
  dt = refl;
  inputs = refl;
  takes = refl;
  before = same_as_itself x.before;
  after = same_as_itself x.after;
  code = refl;
}
