use Rattle.std.proofs.Common.{ℕ}
use Rattle.std.specs.Fmt.{decimal}
use Rattle.certified_claims.specs.BitNames.{part}
use Rattle.certified_claims.proofs.Naming.{digit_more}
use Rattle.certified_claims.proofs.bit_names.push_digits.Goals as goal

pub loop-digit-preserved : goal.loop-digit-preserved
loop-digit-preserved c =
    digit_more (λ (k : ℕ). part c.args.name.now (decimal k)) _ _ _ c.loop-digit.digit c.loop-digit.invariant (rw c.in_ok-made.ensures at c.in_ok-push_name.ensures)
