-- A history has one log.
use Rattle.std.proofs.Common.{◌≡◌, ℕ, List, [], ◌∷◌, refl, sym, ◌∙◌, subst}
use Rattle.std.proofs.lemmas.Option.{same_Some}
use Rattle.task_codes.specs.declared.task_ref.TaskRef.{TaskRef}
use Rattle.evaluation.specs.declared.field_input.FieldInput.{FieldInput}
use Rattle.evaluation.specs.Meaning.{Evaluated, IsAsked}
use Rattle.evaluation.specs.Laws.{OneEvaluation}
use Rattle.evaluation.specs.Last.{takes_of}
use Rattle.world.specs.declared.event.Event.{Event}
use Rattle.world.specs.declared.event.Event.TheVariants.{Evaluate, Deliver, Restart, Hear}
use Rattle.world.specs.History.{Setting, heard_by}
use Rattle.world.specs.Run.{IsLog, IsNextEvaluation, next_name, latest, state_before}

-- the next evaluation is one
pub one_next : OneEvaluation → (s : Setting) (h : List Event) (log : List Evaluated) (k : ℕ) (t : TaskRef) (dt : ℕ) (inputs : List FieldInput) (x y : Evaluated)
    → IsNextEvaluation s h log k t dt inputs x → IsNextEvaluation s h log k t dt inputs y → x ≡ y
one_next one_evaluation s h log k t dt inputs x y a b =
    one_evaluation k (next_name s t h) (heard_by s t.resource h) dt inputs (takes_of (λ p. latest s t.resource h p log) a.code) (state_before s a.code t log (latest s t.resource h t log)) a.code x y a.asked
    (subst (λ c. IsAsked k (next_name s t h) (heard_by s t.resource h) dt inputs (takes_of (λ p. latest s t.resource h p log) c) (state_before s c t log (latest s t.resource h t log)) c y)
    (same_Some b.code a.code (sym b.found ∙ a.found)) b.asked)

pub one_log : OneEvaluation → (s : Setting) (h : List Event) (log log2 : List Evaluated) → IsLog s h log → IsLog s h log2 → log ≡ log2
one_log one s [] [] [] a b = refl
one_log one s [] (x ∷ older) log2 a b = absurd a
one_log one s [] [] (y ∷ older) a b = absurd b
one_log one s (Deliver k n ∷ h) log log2 a b = one_log one s h log log2 a b
one_log one s (Restart n ∷ h) log log2 a b = one_log one s h log log2 a b
one_log one s (Hear n of incarnation ∷ h) log log2 a b = one_log one s h log log2 a b
one_log one s (Evaluate k t dt inputs ∷ h) [] log2 a b = absurd a
one_log one s (Evaluate k t dt inputs ∷ h) (x ∷ older) [] a b = absurd b
one_log one s (Evaluate k t dt inputs ∷ h) (x ∷ older) (y ∷ older2) a b =
    let rest : older ≡ older2 = one_log one s h older older2 a.0 b.0 in
    let first : x ≡ y = one_next one s h older k t dt inputs x y a.1 (subst (λ l. IsNextEvaluation s h l k t dt inputs y) (sym rest) b.1) in
    rw (first, rest) refl
