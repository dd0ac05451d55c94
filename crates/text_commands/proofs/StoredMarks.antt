-- What is stored at is marked, and the other places are found one after the other.
use Rattle.std.proofs.Common.{◌≡◌, inl, inr, ℕ, zero, suc, ◌+◌, ◌<◌, ◌++◌, List, [], ◌∷◌, Bool, true, false, if◌then◌else◌, ◌||◌, ◌==◌, length, set, get_or, replicate, refl, sym, ap, ◌∙◌, arith}
use Rattle.std.specs.List.{list_any}
use Rattle.std.proofs.lemmas.Bool.{cases_eq, eq-eqb, ne_eqb}
use Rattle.std.proofs.lemmas.List.{get_or-set_same, get_or-set_other, length-set, length-replicate}
use Rattle.text_commands.specs.Restarts.{place_unless, unstored_to}
use Rattle.text_commands.specs.Steps.Marks.{place_unmarked, with_marks}

or_true : (b : Bool) → (b || true) ≡ true
or_true true = refl
or_true false = refl

pub length-marked : (places : List ℕ) (marks : List Bool) → length (with_marks places marks) ≡ length marks
length-marked [] marks = refl
length-marked (place ∷ places) marks = length-marked places (set marks place true) ∙ length-set marks place true

-- a place is marked if it is among them, or was marked before
marked-at : (places : List ℕ) (marks : List Bool) (place : ℕ) → place < length marks
    → get_or (with_marks places marks) place false ≡ (list_any (λ other. other == place) places || get_or marks place false)
marked-at [] marks place lt = refl
marked-at (other ∷ places) marks place lt =
    let inside : place < length (set marks other true) = rw (length-set marks other true) lt in
    let later = marked-at places (set marks other true) place inside in
    elim (cases_eq place other) [
      | inl same ↦
          let on : get_or (set marks other true) place false ≡ true = ap (λ p. get_or (set marks other true) p false) same ∙ get_or-set_same marks other true false (rw (sym same) lt) in
          later ∙ ap (λ b. list_any (λ o. o == place) places || b) on ∙ or_true (list_any (λ o. o == place) places)
          ∙ sym (ap (λ b. (b || list_any (λ o. o == place) places) || get_or marks place false) (eq-eqb other place (sym same)))
      | inr apart ↦
          later ∙ ap (λ b. list_any (λ o. o == place) places || b) (get_or-set_other marks other place true false apart)
          ∙ sym (ap (λ b. (b || list_any (λ o. o == place) places) || get_or marks place false) (ne_eqb other place (λ is. apart (sym is))))
    ]

or_false : (b : Bool) → (b || false) ≡ b
or_false true = refl
or_false false = refl

off-at : (count place : ℕ) → get_or (replicate count false) place false ≡ false
off-at zero place = refl
off-at (suc count) zero = refl
off-at (suc count) (suc place) = off-at count place

-- a place that isn't marked is one at which nothing is stored
pub unmarked-place : (stored : List ℕ) (count place : ℕ) → place < count
    → place_unmarked (with_marks stored (replicate count false)) place ≡ place_unless stored place
unmarked-place stored count place lt =
    let inside : place < length (replicate count false) = rw (length-replicate count false) lt in
    let all = marked-at stored (replicate count false) place inside in
    let any : Bool = list_any (λ other. other == place) stored in
    ap (λ b. if b then [] else place ∷ []) (all ∙ ap (λ b. any || b) (off-at count place) ∙ or_false any)

-- one place more
pub one_more : (stored : List ℕ) (count place : ℕ) (marks : List Bool) (old new : List ℕ) → place < count → marks ≡ with_marks stored (replicate count false)
    → old ≡ unstored_to stored place → new ≡ old ++ place_unmarked marks place → new ≡ unstored_to stored (place + 1)
one_more stored count place marks old new lt are before more =
    let next : place + 1 ≡ suc place = omega arith in
    more ∙ ap (λ ps. ps ++ place_unmarked marks place) before ∙ ap (λ ms. unstored_to stored place ++ place_unmarked ms place) are
    ∙ ap (λ p. unstored_to stored place ++ p) (unmarked-place stored count place lt) ∙ ap (unstored_to stored) (sym next)
