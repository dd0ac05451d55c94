-- The lines of a report are written one by one.
use Rattle.std.proofs.Common.{◌≡◌, ℕ, suc, ◌+◌, ◌<◌, ◌++◌, List, [], ◌∷◌, length, take, drop, get_or, sym, ap, ◌∙◌, append_assoc, arith}
use Rattle.std.proofs.lemmas.List.{take-append-drop, take_more, append-nil, length-take}
use Rattle.plant.specs.PlantValue.{PlantValue}
use Rattle.evaluation.specs.Meaning.{Evaluated}
use Rattle.world.specs.RunLines.{evaluation_line}
use Rattle.run_texts.specs.ReportText.{entry_lines}

entry_lines-append : (plant : PlantValue) (k : ℕ) (xs ys : List Evaluated) → entry_lines plant k (xs ++ ys) ≡ entry_lines plant k xs ++ entry_lines plant (k + length xs) ys
entry_lines-append plant k [] ys = ap (λ j. entry_lines plant j ys) (omega arith)
entry_lines-append plant k (x ∷ xs) ys =
    let at : k + 1 + length xs ≡ k + suc (length xs) = omega arith in
    ap (λ t. evaluation_line plant k x ++ t) (entry_lines-append plant (k + 1) xs ys ∙ ap (λ j. entry_lines plant (k + 1) xs ++ entry_lines plant j ys) at)
    ∙ sym (append_assoc (evaluation_line plant k x) (entry_lines plant (k + 1) xs) (entry_lines plant (k + suc (length xs)) ys))

-- the lines of the first entries and those of the others are the lines of all
pub entries_parted : (plant : PlantValue) (xs : List Evaluated) (i : ℕ) → entry_lines plant 1 (take i xs) ++ entry_lines plant (1 + length (take i xs)) (drop i xs) ≡ entry_lines plant 1 xs
entries_parted plant xs i = sym (entry_lines-append plant 1 (take i xs) (drop i xs)) ∙ ap (entry_lines plant 1) (take-append-drop i xs)

-- the line of one entry more
pub entry_more : (plant : PlantValue) (xs : List Evaluated) (i : ℕ) (d : Evaluated) → i < length xs → entry_lines plant 1 (take (i + 1) xs) ≡ entry_lines plant 1 (take i xs) ++ evaluation_line plant (i + 1) (get_or xs i d)
entry_more plant xs i d lt =
    let at : 1 + length (take i xs) ≡ i + 1 = omega (arith, length-take i xs) in
    let last : entry_lines plant (1 + length (take i xs)) (get_or xs i d ∷ []) ≡ evaluation_line plant (i + 1) (get_or xs i d) =
    ap (λ j. evaluation_line plant j (get_or xs i d) ++ []) at ∙ append-nil (evaluation_line plant (i + 1) (get_or xs i d)) in
    ap (entry_lines plant 1) (take_more xs i d lt) ∙ entry_lines-append plant 1 (take i xs) (get_or xs i d ∷ []) ∙ ap (λ t. entry_lines plant 1 (take i xs) ++ t) last
