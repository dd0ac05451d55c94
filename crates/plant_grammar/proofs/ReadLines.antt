-- The lines of the words that are left.
use Rattle.std.proofs.Common.{◌≡◌, ◌≤◌, ◌-◌, ◌∷◌, ◌++◌, ℕ, suc, List, [], length, map, take, drop, refl, sym, ap, subst, ◌∙◌, append_assoc, arith}
use Rattle.std.proofs.lemmas.List.{take_all, length-map}
use Rattle.plant_text.specs.declared.token.Token.{Token}
use Rattle.plant_text.specs.Lines.{WordValue}
use Rattle.plant_grammar.specs.Steps.Lines.{ReaderValue, all_left, HasLinesOf, next_line}
use Rattle.plant_grammar.specs.Steps.Declaring.{IsLineBefore}

-- without its first word, the list is what stands behind that
rest_of : (w : WordValue) (ws : List WordValue) → take (suc (length ws) - 1) ws ≡ ws
rest_of w ws = let long : length ws ≤ suc (length ws) - 1 = omega arith in take_all (suc (length ws) - 1) ws long

-- a word is left behind, with its line
one_behind : (w : WordValue) (ws : List WordValue) (last : ℕ) (all : List ℕ) → HasLinesOf all (all_left (w ∷ ws) last) → HasLinesOf all (all_left ws last)
one_behind w ws last all h = record {
  front = h.front ++ w.line ∷ [];
  parts = h.parts ∙ sym (append_assoc h.front (w.line ∷ []) (map (λ (w : WordValue). w.line) ws));
  each = length-map ws (λ (w : WordValue). w.line) ∙ sym (length-map ws (λ (w : WordValue). w.token));
}

-- so it is with the first of some words
pub kept_behind : (ws : List WordValue) (last : ℕ) (all : List ℕ) → 1 ≤ length ws → HasLinesOf all (all_left ws last) → HasLinesOf all (all_left (take (length ws - 1) (drop 1 ws)) last)
kept_behind [] last all some h = absurd (omega (arith, some))
kept_behind (w ∷ ws) last all some h = subst (λ (us : List WordValue). HasLinesOf all (all_left us last)) (sym (rest_of w ws)) (one_behind w ws last all h)

-- where no word is left, the line of the next is the one on which the text ends
pub line_last : (all : List ℕ) (r : ReaderValue) (line : ℕ) → HasLinesOf all r → line ≡ next_line r → r.words ≡ [] → line ≡ r.last
line_last all r line h there none =
    let many : length r.lines ≡ 0 = h.each ∙ ap length none in
    there ∙ ap (λ (lines : List ℕ). next_line (record { words = r.words; lines = lines; bodies = r.bodies; last = r.last })) (nothing r.lines many)
  where
    nothing : (lines : List ℕ) → length lines ≡ 0 → lines ≡ []
    nothing [] many = refl
    nothing (first ∷ more) many = absurd (omega (arith, many))

-- the line of the next word
pub line_before : (all : List ℕ) (r : ReaderValue) (line : ℕ) → HasLinesOf all r → line ≡ next_line r → (t : Token) (rest : List Token) → r.words ≡ t ∷ rest → IsLineBefore all line rest
line_before all r line h there t rest e =
    let many : length r.lines ≡ suc (length rest) = h.each ∙ ap length e in
    next (cases r.lines many) many
  where
    cases : (lines : List ℕ) → length lines ≡ suc (length rest) → (first : ℕ) × (more : List ℕ) × (lines ≡ first ∷ more)
    cases [] many = absurd (omega (arith, many))
    cases (first ∷ more) many = (first, more, refl)

    next : (first : ℕ) × (more : List ℕ) × (r.lines ≡ first ∷ more) → length r.lines ≡ suc (length rest) → IsLineBefore all line rest
    next (first, more, is) many =
        let same : line ≡ first = there ∙ ap (λ (lines : List ℕ). next_line (record { words = r.words; lines = lines; bodies = r.bodies; last = r.last })) is in
        record {
          before = h.front;
          behind = more;
          parts = h.parts ∙ ap (λ (lines : List ℕ). h.front ++ lines) (is ∙ ap (λ (l : ℕ). l ∷ more) (sym same));
          each = let long : suc (length more) ≡ suc (length rest) = sym (ap length is) ∙ many in omega (arith, long);
        }
