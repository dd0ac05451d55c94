use Rattle.std.proofs.Common.{◌<◌, inl, inr, length, subst, arith}
use Rattle.std.proofs.lemmas.Bool.{cases_eq}
use Rattle.verifying.specs.Premises.{IsTimerAt}
use Rattle.verifying.proofs.Premising.{timer_within}
use Rattle.verifying.proofs.premises.has_timer.Goals as goal

pub loop-place-preserved : goal.loop-place-preserved
loop-place-preserved c = λ p below at.
    elim (cases_eq p c.loop-place.place) [
      | inl same ↦ let yes = c.is_timer_at.ensures.1 (subst (IsTimerAt c.args.declarations.now) same at) in let no = c.if-is_timer_at.false in let none : ⊥ = cc in none
      | inr apart ↦ c.loop-place.invariant p (omega arith) at
    ]

pub returns : goal.returns
returns c = (
  λ yes. let none : ⊥ = cc in absurd none,
  λ has.
      let within : has.0 < length c.args.declarations.now = timer_within c.args.declarations.now has.0 has.1 in
      let past = c.loop-place-test.false in
      let end = c.len-place-end.ensures in
      absurd (c.loop-place.invariant has.0 (omega arith) has.1),
)
