-- The line of a restart, and lines that are none.
use Rattle.std.proofs.Common.{◌≡◌, ℕ, ◌++◌, List, Some, None, sym, ◌∙◌, codes, append_assoc, subst, refl}
use Rattle.std.specs.Fmt.{decimal}
use Rattle.std.proofs.lemmas.List.{append_cancel_left, append_cancel_right}
use Rattle.std.proofs.lemmas.Option.{none-some, same_Some}
use Rattle.plant.specs.PlantValue.{PlantValue}
use Rattle.text_lines.specs.LineParts.{resource_text}
use Rattle.text_lines.specs.ReadParts.{IsBehind}
use Rattle.text_lines.specs.MessageLines.{IsSmall}
use Rattle.live_node.specs.NodeJournal.{note_end, restart_note}
use Rattle.audit.specs.JournalLines.{IsRestart, IsNoRestart}

abbrev before : PlantValue → ℕ → List ℕ
before plant n = codes "RESTART " ++ resource_text plant n ++ codes " "

-- what stands before the end of a restart's note
parted : (plant : PlantValue) (n incarnation : ℕ) → restart_note plant n incarnation ≡ (before plant n ++ decimal incarnation) ++ note_end
parted plant n incarnation = simp append_assoc refl

restart_line : (plant : PlantValue) (n : ℕ) (line : List ℕ) (incarnation : ℕ) → IsRestart plant n line incarnation → line ≡ before plant n ++ decimal incarnation
restart_line plant n line incarnation is = append_cancel_right line (before plant n ++ decimal incarnation) note_end (is ∙ parted plant n incarnation)

pub not_begun : (plant : PlantValue) (n : ℕ) (line : List ℕ) → IsBehind line (codes "RESTART " ++ resource_text plant n ++ codes " ") None → IsNoRestart plant n line
not_begun plant n line none = λ incarnation small is. none (decimal incarnation) (restart_line plant n line incarnation is)

pub no_number : (plant : PlantValue) (n : ℕ) (line digits : List ℕ) → IsBehind line (codes "RESTART " ++ resource_text plant n ++ codes " ") (Some digits)
    → ((k : ℕ) → IsSmall k → digits ≡ decimal k → None ≡ Some k) → IsNoRestart plant n line
no_number plant n line digits begun unread = λ incarnation small is.
    none-some incarnation (unread incarnation small (append_cancel_left (before plant n) digits (decimal incarnation) (sym begun ∙ restart_line plant n line incarnation is)))

pub another : (plant : PlantValue) (n : ℕ) (line digits : List ℕ) (k : ℕ) → IsBehind line (codes "RESTART " ++ resource_text plant n ++ codes " ") (Some digits)
    → ((m : ℕ) → IsSmall m → digits ≡ decimal m → Some k ≡ Some m) → (IsRestart plant n line k → ⊥) → IsNoRestart plant n line
another plant n line digits k begun read not = λ incarnation small is.
    let same : k ≡ incarnation = same_Some k incarnation (read incarnation small (append_cancel_left (before plant n) digits (decimal incarnation) (sym begun ∙ restart_line plant n line incarnation is))) in
    not (subst (IsRestart plant n line) (sym same) is)
