use Rattle.std.proofs.Common.{◌≡◌, ◌≤◌, drop}
use Rattle.words.specs.Numbers.{digits_value}
use Rattle.words.proofs.numbers.digits_up_to.Given as goal

abbrev pub invariant-loop-digit : goal.invariant-loop-digit
invariant-loop-digit l = (l.number ≤ l.most) × (digits_value l.number (drop l.digit-index l.digits) ≡ digits_value 0 l.digits)
