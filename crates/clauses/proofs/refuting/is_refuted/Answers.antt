use Rattle.std.proofs.Common.{◌∙◌, Bool, IsTrue, arith, sym}
use Rattle.std.proofs.lemmas.Bool.{eqb-true}
use Rattle.std.proofs.lemmas.List.{nil_from_length}
use Rattle.std.proofs.lemmas.Result.{IfOk-weaker}
use Rattle.clauses.specs.Clauses.{AreFollowing, IsUnsatisfiable}
use Rattle.clauses.proofs.Follows.{refuted}
use Rattle.clauses.proofs.refuting.is_refuted.Goals as goal

pub returns-in-Some : goal.returns-in-Some
returns-in-Some c =
    let last = c.in-Some.last.now in
    let at = c.in-Some.ensures.item.3 in
    let empty = nil_from_length last.clause.items (sym last.clause.ok.0 ∙ eqb-true _ _ (sym c.is_empty.ensures ∙ c.if-is_empty.true)) in
    let formula = c.args.formula.now in
    let steps = c.args.steps.now in
    let then : (yes : Bool) → (IsTrue yes → AreFollowing formula steps) → IsTrue yes → IsUnsatisfiable formula =
    λ yes all is. refuted formula steps _ last (omega (arith, at.0)) (sym (at.1 last)) empty (all is) in
    IfOk-weaker c.are_following.result (λ yes. IsTrue yes → AreFollowing formula steps) (λ yes. IsTrue yes → IsUnsatisfiable formula) then c.are_following.ensures
