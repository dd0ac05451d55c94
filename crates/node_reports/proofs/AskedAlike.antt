-- Evaluations by one code, of which the same was asked, are equal.
use Rattle.std.proofs.Common.{◌≡◌, refl, ap, sym, subst}
use Rattle.evaluation.specs.Steps.Facts.{same_as_itself, states_of_one}
use Rattle.task_codes.specs.CodeValue.{CodeValue}
use Rattle.evaluation.specs.States.{AreStatesOf}
use Rattle.evaluation.specs.Meaning.{Evaluated, IsMeant, IsWhole, evaluated}
use Rattle.evaluation.specs.Laws.{OneEvaluation}
use Rattle.node_reports.specs.Steps.Comparing.{AreAskedAlike}

pub equal_if_asked_alike : OneEvaluation → (x y : Evaluated) → IsMeant x → IsWhole x → IsMeant y → IsWhole y → (x.name.task ≡ y.name.task → x.code ≡ y.code) → AreAskedAlike x y → x ≡ y
equal_if_asked_alike one x y meant whole meant_y whole_y one_code same =
    one x.ticket x.name x.heard x.dt x.inputs x.takes x.before x.code x y (record { is = refl; meant = meant; whole = whole }) (record { is = is; meant = meant_y; whole = whole_y })
  where
    code : x.code ≡ y.code
    code = one_code (ap (λ n. n.task) same.name)

    before : x.before ≡ y.before
    before = states_of_one x.code x.before y.before whole.before_fits (subst (λ (c : CodeValue). AreStatesOf c y.before) (sym code) whole_y.before_fits) same.before

    is : y ≡ evaluated x.ticket x.name x.heard x.dt x.inputs x.takes x.before x.code y.outputs y.after
    is = rw (same.ticket, same.name, same.heard, same.dt, same.inputs, same.takes, before, code) refl

pub asked_alike_if_equal : (x y : Evaluated) → x ≡ y → AreAskedAlike x y
asked_alike_if_equal x y e = subst (AreAskedAlike x) e record {
  ticket = refl;
  name = refl;
  heard = refl;
  dt = refl;
  inputs = refl;
  takes = refl;
  before = same_as_itself x.before;
}
