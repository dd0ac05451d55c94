-- Parts of a text, one behind the other.
use Rattle.std.proofs.Common.{ℕ, ◌++◌, List, Option, Some, None, sym, ap, ◌∙◌, append_assoc}
use Rattle.std.proofs.lemmas.List.{append_cancel_left}
use Rattle.text_lines.specs.ReadParts.{IsBehind}
use Rattle.text_lines.specs.Steps.Reading.{IsRead}

-- what is behind two beginnings
pub behind_both : (text a b rest : List ℕ) (found : Option (List ℕ)) → IsBehind text a (Some rest) → IsBehind rest b found → IsBehind text (a ++ b) found
behind_both text a b rest None first next = λ more e. next more (append_cancel_left a rest (b ++ more) (sym first ∙ e ∙ append_assoc a b more))
behind_both text a b rest (Some left) first next = first ∙ ap (λ l. a ++ l) next ∙ sym (append_assoc a b left)

-- what is read behind a beginning
pub read_behind : {B : Type 0} (w : B → List ℕ) (IsSo : B → Type 0) (stop : ℕ) (text a rest : List ℕ) (found : Option (B × List ℕ))
    → IsBehind text a (Some rest) → IsRead w IsSo stop rest found → IsRead (λ b. a ++ w b) IsSo stop text found
read_behind w IsSo stop text a rest found first read =
    λ b more so ends e. read b more so ends (append_cancel_left a rest (w b ++ more) (sym first ∙ e ∙ append_assoc a (w b) more))
