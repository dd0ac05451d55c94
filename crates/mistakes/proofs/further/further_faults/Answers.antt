use Rattle.std.proofs.Common.{◌≤◌, All, IfSome, arith, length, string_bytes, subst, sym}
use Rattle.std.proofs.lemmas.List.Elements.{All-nil, All-same}
use Rattle.mistakes.specs.Further.{IsFurtherIn, IsLeftOf}
use Rattle.mistakes.proofs.Noting.{left_of_whole, one_more}
use Rattle.mistakes.proofs.further.further_faults.Goals as goal

pub loop-round-init : goal.loop-round-init
loop-round-init c = (
  All-same (IsFurtherIn (string_bytes c.in_ok-whole.whole)) _ _ c.new-faults.ensures.items (All-nil (IsFurtherIn (string_bytes c.in_ok-whole.whole))),
  left_of_whole (string_bytes c.in_ok-whole.whole) c.as_str.result.now c.in_ok-rest.rest c.as_str.ensures.value c.in_ok-rest.ensures,
  subst (λ faults. length faults ≤ 0) (sym c.new-faults.ensures.items) (omega arith),
)

pub loop-round-preserved : goal.loop-round-preserved
loop-round-preserved c =
    let same = c.as_str-in-loop-round.ensures.value in (
      subst (λ text. All (IsFurtherIn text) c.add_fault.new.faults.items) same
          (c.in_ok-rest-2.ensures.every (subst (λ text. All (IsFurtherIn text) c.loop-round.faults.items) (sym same) c.loop-round.invariant.0)),
      subst (λ text. IfSome c.in_ok-rest-2.rest (λ rest. IsLeftOf text (string_bytes rest))) same c.in_ok-rest-2.ensures.left,
      one_more (length c.add_fault.new.faults.items) (length c.loop-round.faults.items) c.loop-round._round c.in_ok-rest-2.ensures.few c.loop-round.invariant.2,
    )
