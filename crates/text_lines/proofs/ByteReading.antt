-- A line is read byte by byte.
use Rattle.std.proofs.Common.{◌≡◌, ℕ, ◌==◌, false, List, [], ◌∷◌, ◌++◌, Option}
use Rattle.std.specs.Io.KnownBytes.{Consumes}
use Rattle.std.proofs.KnownBytes.{Consumes-trans}
use Rattle.std.proofs.lemmas.Bool.{ne_eqb}
use Rattle.std.proofs.lemmas.List.Elements.{All-push}
use Rattle.text_lines.specs.Lines.{HasNoFeed, TakesSome}

-- one byte more was taken
pub takes_more : (a b c : Option (List ℕ)) (line : List ℕ) (byte : ℕ) → HasNoFeed line → (byte ≡ 10 → ⊥) → Consumes a b line → Consumes b c (byte ∷ []) → TakesSome a c
takes_more a b c line byte none ne p q = (line ++ byte ∷ [], All-push (λ x. (x == 10) ≡ false) line byte none (ne_eqb byte 10 ne), Consumes-trans a b c line (byte ∷ []) p q)
