-- How large a certificate is.
use Rattle.std.specs.Prelude.{◌≡◌, ℕ, ◌==◌, List, Bool, count_by, length}
use Rattle.std.specs.Global.{Vec}
use Rattle.std.specs.List.{list_any, range_with_len}
use Rattle.clauses.specs.declared.literal.Literal.{Literal}
use Rattle.certified_claims.specs.declared.verdict.CertificateSize.{CertificateSize}

-- whether a clause names a state bit
abbrev pub is_named : List (Vec Literal) → ℕ → Bool
is_named clauses bit = list_any (λ (c : Vec Literal). list_any (λ (l : Literal). l.variable == bit) c.items) clauses

-- clauses over so many state bits have this size: so many of the bits are named
pub record IsSizeOf (clauses : List (Vec Literal)) (bits : ℕ) (size : CertificateSize) : Type 0 where
  pub clauses_are : size.clauses ≡ length clauses
  pub named : size.named ≡ count_by (is_named clauses) (range_with_len 0 bits)
  pub bits_are : size.bits ≡ bits
