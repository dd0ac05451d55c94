use Rattle.std.proofs.Common.{◌≡◌, ◌++◌, ℕ, map, string_bytes}
use Rattle.std.specs.Fmt.{decimal}
use Rattle.std.specs.List.{range_with_len}
use Rattle.certified_claims.specs.BitNames.{part}
use Rattle.certified_claims.proofs.bit_names.push_digits.Given as goal

abbrev pub invariant-loop-digit : goal.invariant-loop-digit
invariant-loop-digit l = map (λ n. string_bytes n) l.names.items
    ≡ map (λ n. string_bytes n) l.initial.names.items ++ map (λ (k : ℕ). part l.name (decimal k)) (range_with_len 0 l.digit)
