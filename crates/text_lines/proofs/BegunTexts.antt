-- Beginnings of texts.
use Rattle.std.proofs.Common.{arith, ◌≡◌, ℕ, ◌<◌, ◌++◌, List, length, take, drop, Some, None, sym, ap, ◌∙◌}
use Rattle.std.proofs.lemmas.List.{length-append, take-append-drop}
use Rattle.std.proofs.Math.Seq.{take-append_seam}
use Rattle.text_lines.specs.ReadParts.{IsBehind}

-- a shorter text doesn't begin so
pub behind_short : (text beginning : List ℕ) → length text < length beginning → IsBehind text beginning None
behind_short text beginning short = λ rest e. omega (arith, short, ap (λ l. length l) e, length-append beginning rest)

-- a text begins so if its first bytes do
pub behind_start : (text beginning start rest : List ℕ) → start ≡ take (length beginning) text → rest ≡ drop (length beginning) text → start ≡ beginning → IsBehind text beginning (Some rest)
behind_start text beginning start rest first last is =
    sym (take-append-drop (length beginning) text) ∙ ap (λ l. l ++ drop (length beginning) text) (sym first ∙ is) ∙ ap (λ l. beginning ++ l) (sym last)

pub behind_other : (text beginning start : List ℕ) → start ≡ take (length beginning) text → (start ≡ beginning → ⊥) → IsBehind text beginning None
behind_other text beginning start first other = λ rest e. other (first ∙ ap (take (length beginning)) e ∙ take-append_seam beginning rest)
