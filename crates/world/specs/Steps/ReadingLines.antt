-- Steps of proofs: what the words of a line spell.
use Rattle.std.specs.Prelude.{ℕ, List, [], ◌∷◌, map, codes, Option}
use Rattle.std.specs.Borrow.{Bor}
use Rattle.words.specs.Chars.{same_word, first_that}
use Rattle.task_codes.specs.declared.task_ref.TaskRef.{TaskRef}
use Rattle.plant.specs.PlantValue.{PlantValue}
use Rattle.evaluation.specs.declared.field_input.FieldInput.{FieldInput}
use Rattle.world.specs.declared.read_line.Keyword.{Keyword}
use Rattle.world.specs.declared.read_line.Keyword.TheVariants as key
use Rattle.world.specs.ScheduleText.{SpellsEvaluate}

-- the characters of words
abbrev pub texts : List (Bor (List ℕ)) → List (List ℕ)
texts words = map (λ w. w.now) words

-- the keyword that a word is
unfoldable pub keyword_of : List ℕ → Option Keyword
keyword_of w = first_that (
    (same_word w (codes "EVAL"), key.Evaluate) ∷ (same_word w (codes "DELIVER"), key.Deliver)
    ∷ (same_word w (codes "RESTART"), key.Restart) ∷ (same_word w (codes "HEAR"), key.Hear) ∷ [])

-- the words behind EVAL spell no evaluation
abbrev pub SpellsNoEvaluate : PlantValue → List (List ℕ) → Type 0
SpellsNoEvaluate plant words =
    (task : TaskRef) (dt : ℕ) (inputs : List FieldInput) → SpellsEvaluate plant task dt inputs words → ⊥
