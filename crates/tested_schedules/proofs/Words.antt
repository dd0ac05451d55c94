-- The words of an EXPECT line, and the answers to them.
use Rattle.std.proofs.Common.{◌≡◌, inr, ℕ, ◌+◌, ◌-◌, ◌<◌, ◌≤◌, Bool, true, List, [], ◌∷◌, ◌++◌, codes, drop, get_or, length, take, refl, sym, ap, ◌∙◌, subst, arith, Bor}
use Rattle.std.specs.Prelude.{if◌then◌else◌}
use Rattle.std.specs.Option.{option_map}
use Rattle.std.proofs.lemmas.List.{map-append, take_all, take_more}
use Rattle.std.proofs.lemmas.Option.{slice_get-get_or, slice_get-map}
use Rattle.std.specs.List.{AllZip}
use Rattle.words.specs.Chars.{same_word}
use Rattle.world.specs.Steps.ReadingLines.{texts}
use Rattle.lists.proofs.Zips.{zip_push}
use Rattle.world.proofs.ScheduleReading.{no_word}
use Rattle.plant.specs.PlantValue.{PlantValue}
use Rattle.tested_schedules.specs.declared.answer.Answer.{Answer}
use Rattle.tested_schedules.specs.declared.expectation.Expectation.{Expectation}
use Rattle.tested_schedules.specs.Expectations.{IsExpectation, IsUnexpected, expected_words, is_expectation}

-- the first word is the keyword
pub keyword_first : (ws : List (Bor (List ℕ))) → 1 ≤ length ws → is_expectation (texts ws) ≡ same_word (get_or ws 0 no_word).now (codes "EXPECT")
keyword_first [] some = absurd (omega (arith, some))
keyword_first (w ∷ ws) some = refl

-- an EXPECT line has a word
pub some_word : (ws : List (Bor (List ℕ))) → is_expectation (texts ws) ≡ true → 1 ≤ length ws
some_word [] is = absurd cc
some_word (w ∷ ws) is = omega arith

-- those behind the first one
pub words_behind : (ws : List (Bor (List ℕ))) → texts (take (length ws - 1) (drop 1 ws)) ≡ expected_words (texts ws)
words_behind [] = refl
words_behind (w ∷ ws) = ap texts (take_all (length (w ∷ ws) - 1) ws (omega arith))

-- the answers to the first words, with one more
pub more_answers : (R : List ℕ → Answer → Type 0) (ws : List (Bor (List ℕ))) (k : ℕ) (d : Bor (List ℕ)) (answers next : List Answer) (a : Answer) → k < length ws → AllZip R (texts (take k ws)) answers → R (get_or ws k d).now a
    → next ≡ answers ++ a ∷ [] → AllZip R (texts (take (k + 1) ws)) next
more_answers R ws k d answers next a lt all here is =
    let words : texts (take (k + 1) ws) ≡ texts (take k ws) ++ (get_or ws k d).now ∷ [] = ap texts (take_more ws k d lt) ∙ map-append (λ (w : Bor (List ℕ)). w.now) (take k ws) (get_or ws k d ∷ []) in
    subst (AllZip R (texts (take (k + 1) ws))) (sym is) (subst (λ L. AllZip R L (answers ++ a ∷ [])) (sym words) (zip_push R (texts (take k ws)) answers (get_or ws k d).now a all here))

-- one of the words is no expectation
pub unexpected_at : (plant : PlantValue) (ws : List (Bor (List ℕ))) (k : ℕ) (d : Bor (List ℕ)) → k < length ws → ((x : Expectation) → IsExpectation plant (get_or ws k d).now x → ⊥) → IsUnexpected plant (texts ws)
unexpected_at plant ws k d lt none =
    inr (k, (get_or ws k d).now, slice_get-map (λ (w : Bor (List ℕ)). w.now) ws k ∙ ap (option_map (λ (w : Bor (List ℕ)). w.now)) (slice_get-get_or ws k d lt), none)

-- what stands behind a push that had memory
pub pushed : (new old more : List Answer) (ok : Bool) → new ≡ (if ok then more else old) → ok ≡ true → new ≡ more
pushed new old more ok is e = is ∙ ap (λ b. if b then more else old) e
