-- The first word of a line, and what the line may ask.
use Rattle.std.proofs.Common.{◌≡◌, ℕ, Bool, false, IsTrue, List, [], ◌∷◌, codes, refl, sym, ap, ◌∙◌, ◌≤◌, inl, inr, arith, ne_eqb}
use Rattle.std.specs.Char.{to_ascii_lowercase}
use Rattle.std.proofs.lemmas.Bool.{cases_eq}
use Rattle.std.specs.Str.{str_to_ascii_lowercase}
use Rattle.std.proofs.lemmas.Slice.Eq.{bytes_eq-Decides}
use Rattle.task_codes.specs.declared.task_ref.TaskRef.{TaskRef}
use Rattle.plant.specs.PlantValue.{PlantValue}
use Rattle.words.specs.Chars.{same_word}
use Rattle.evaluation.specs.declared.field_input.FieldInput.{FieldInput}
use Rattle.live_node.specs.NodeLines.{Spells, node_words}
use Rattle.live_node.specs.declared.node_line.NodeLine.TheVariants as asked
use Rattle.world.specs.ScheduleText.{SpellsEvent}
use Rattle.world.specs.declared.event.Event.TheVariants as event
use Rattle.cycle.specs.declared.line_word.LineWord.{LineWord}
use Rattle.cycle.specs.declared.line_word.LineWord.TheVariants.{Evaluate, Restart}
use Rattle.cycle.specs.declared.origin.Origin.TheVariants.{Neighbours}
use Rattle.cycle.specs.declared.origin.Verdict.TheVariants.{Answer, Refuse}
use Rattle.cycle.specs.declared.field_refusal.FieldRefusal.TheVariants.{NotFromThere}
use Rattle.cycle.specs.Origins.{is_marked, keyword_of, first_word, verdict_beside_field, word_of_line}

small : (w k : List ℕ) → IsTrue (same_word w k) → str_to_ascii_lowercase w ≡ str_to_ascii_lowercase k
small w k e = (bytes_eq-Decides (str_to_ascii_lowercase w) (str_to_ascii_lowercase k)).0 e

-- a word that begins with a letter isn't marked
unmarked : (w : List ℕ) (low : ℕ) (rest : List ℕ) → str_to_ascii_lowercase w ≡ low ∷ rest → 36 ≤ low → is_marked w ≡ false
unmarked [] low rest e above = refl
unmarked (c ∷ more) low rest e above =
    let first : to_ascii_lowercase c ≡ low = cc in
    elim (cases_eq c 35) [
      | inl same ↦ let here : 35 ≡ low = sym (ap (λ (x : ℕ). to_ascii_lowercase x) same) ∙ first in absurd (omega (arith, here, above))
      | inr other ↦ ne_eqb c 35 other
    ]

eval_word : (w : List ℕ) → IsTrue (same_word w (codes "EVAL")) → keyword_of w ≡ Evaluate
unfolding keyword_of
eval_word w is =
    let e = small w (codes "EVAL") is in
    let plain : is_marked w ≡ false = unmarked w 101 (codes "val") e (omega arith) in
    rw (plain, e) refl

restart_word : (w : List ℕ) → IsTrue (same_word w (codes "RESTART")) → keyword_of w ≡ Restart
unfolding keyword_of
restart_word w is =
    let e = small w (codes "RESTART") is in
    let plain : is_marked w ≡ false = unmarked w 114 (codes "estart") e (omega arith) in
    rw (plain, e) refl

-- what begins with EVAL or RESTART isn't answered
refused_eval : (cycles : Bool) (word : LineWord) → word ≡ Evaluate → verdict_beside_field cycles Neighbours word ≡ Answer → ⊥
refused_eval cycles word e h = let wrong : Refuse NotFromThere ≡ Answer = ap (λ (x : LineWord). verdict_beside_field cycles Neighbours x) (sym e) ∙ h in cc

refused_restart : (cycles : Bool) (word : LineWord) → word ≡ Restart → verdict_beside_field cycles Neighbours word ≡ Answer → ⊥
refused_restart cycles word e h = let wrong : Refuse NotFromThere ≡ Answer = ap (λ (x : LineWord). verdict_beside_field cycles Neighbours x) (sym e) ∙ h in cc

no_eval : (cycles : Bool) (plant : PlantValue) (words : List (List ℕ)) (t : TaskRef) (dt : ℕ) (inputs : List FieldInput) → verdict_beside_field cycles Neighbours (first_word words) ≡ Answer
    → SpellsEvent plant 0 (event.Evaluate 0 t dt inputs) words → ⊥
no_eval cycles plant [] t dt inputs h is = absurd is
no_eval cycles plant (word ∷ more) t dt inputs h is = refused_eval cycles (keyword_of word) (eval_word word is.0) h

no_restart : (cycles : Bool) (plant : PlantValue) (words : List (List ℕ)) (resource : ℕ) → verdict_beside_field cycles Neighbours (first_word words) ≡ Answer
    → SpellsEvent plant 0 (event.Restart resource) words → ⊥
no_restart cycles plant [] resource h is = absurd is
no_restart cycles plant (word ∷ more) resource h is = refused_restart cycles (keyword_of word) (restart_word word is.0) h

pub ask_nothing : (cycles : Bool) (plant : PlantValue) (line : List ℕ) → verdict_beside_field cycles Neighbours (word_of_line line) ≡ Answer
    → ((t : TaskRef) (dt : ℕ) (inputs : List FieldInput) → Spells plant (asked.Evaluate t dt inputs) line → ⊥) × ((resource : ℕ) → Spells plant (asked.Restart resource) line → ⊥)
ask_nothing cycles plant line h =
    (λ t dt inputs is. no_eval cycles plant (node_words line) t dt inputs h is, λ resource is. no_restart cycles plant (node_words line) resource h is)
