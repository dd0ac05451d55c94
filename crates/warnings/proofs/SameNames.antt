-- Names in small letters, and the names that they were made of.
use Rattle.std.proofs.Common.{◌≡◌, ℕ, Bool, true, false, cond, List, [], ◌∷◌, ◌++◌, String, Global, string_bytes, refl, sym, ap, ◌∙◌}
use Rattle.std.specs.List.{list_any}
use Rattle.std.specs.BTreeSet.{BTreeSet, contains_text}
use Rattle.std.specs.Str.{bytes_eq}
use Rattle.std.specs.Prelude.{◌||◌, ◌&&◌, not}
use Rattle.std.proofs.lemmas.Bool.{true≢false}
use Rattle.std.proofs.lemmas.List.Folds.{list_any-append}
use Rattle.std.proofs.lemmas.Slice.Eq.{bytes_eq-Decides}
use Rattle.warnings.specs.Near.{is_near}
use Rattle.warnings.specs.Found.{small, is_undotted, is_among, is_near_any, is_mistyped}
use Rattle.warnings.specs.Steps.NameSets.{AreSmall, AnswerAsSmall}

pub or_flips : (a b : Bool) → (a || b) ≡ (b || a)
or_flips true true = refl
or_flips true false = refl
or_flips false true = refl
or_flips false false = refl

or_false : (b : Bool) → (b || false) ≡ b
or_false true = refl
or_false false = refl

pub cond_is_or : (a b : Bool) → cond a true b ≡ (a || b)
cond_is_or true b = refl
cond_is_or false b = refl

-- one name more
pub small_more : (names : List (List ℕ)) (name key : List ℕ) (old new : BTreeSet (String Global)) → key ≡ small name
    → AreSmall names old → ((q : List ℕ) → contains_text new q ≡ cond (bytes_eq key q) true (contains_text old q))
    → AreSmall (names ++ name ∷ []) new
small_more names name key old new is are sets q =
    sets q ∙ ap (λ k. cond (bytes_eq k q) true (contains_text old q)) is
    ∙ ap (cond (bytes_eq (small name) q) true) (are q)
    ∙ cond_is_or (bytes_eq (small name) q) (list_any test names)
    ∙ or_flips (bytes_eq (small name) q) (list_any test names)
    ∙ ap (λ b. list_any test names || b) (sym (or_false (bytes_eq (small name) q)))
    ∙ sym (list_any-append test names (name ∷ []))
  where
    test : List ℕ → Bool
    test other = bytes_eq (small other) q

-- each name more
pub answers_more : (names all : List (List ℕ)) (name : List ℕ) → AnswerAsSmall names all → AnswerAsSmall (names ++ name ∷ []) (all ++ small name ∷ [])
answers_more names all name are p =
    list_any-append p all (small name ∷ [])
    ∙ ap (λ b. b || list_any p (small name ∷ [])) (are p)
    ∙ sym (list_any-append (λ (n : List ℕ). p (small n)) names (name ∷ []))

-- a name among names in small letters
pub mistyped_is : (name key : List ℕ) (stored : BTreeSet (String Global)) (names xs ys : List (List ℕ))
    → AreSmall xs stored → AnswerAsSmall ys names → key ≡ small name → is_undotted name ≡ true
    → (not (contains_text stored key) && list_any (is_near key) names) ≡ is_mistyped name xs ys
mistyped_is name key stored names xs ys hx hy is undotted =
    ap (λ k. not (contains_text stored k) && list_any (is_near k) names) is
    ∙ ap (λ b. not b && list_any (is_near (small name)) names) (hx (small name))
    ∙ ap (λ b. not (is_among name xs) && b) (hy (is_near (small name)))
    ∙ ap (λ b. b && not (is_among name xs) && is_near_any name ys) (sym undotted)

or_true : (b : Bool) → (b || true) ≡ true
or_true true = refl
or_true false = refl

either_holds : (x q : List ℕ) (p : List ℕ → Bool) (others rest : Bool) → (bytes_eq x q || others) ≡ true → p q ≡ true
    → (others ≡ true → rest ≡ true) → (p x || rest) ≡ true
either_holds x q p others rest is holds later = by (bytes_eq x q) refl
  where
    by : (b : Bool) → bytes_eq x q ≡ b → (p x || rest) ≡ true
    by true e = ap (λ (s : List ℕ). p s || rest) ((bytes_eq-Decides x q).0 e) ∙ ap (λ b. b || rest) holds
    by false e = ap (λ b. p x || b) (later (ap (λ b. b || others) (sym e) ∙ is)) ∙ or_true (p x)

-- what holds of a name in small letters holds of one of those that it is among
holds_among : (names : List (List ℕ)) (q : List ℕ) (p : List ℕ → Bool) → list_any (λ (n : List ℕ). bytes_eq (small n) q) names ≡ true → p q ≡ true
    → list_any (λ (n : List ℕ). p (small n)) names ≡ true
holds_among [] q p is holds = absurd (true≢false (sym is))
holds_among (n ∷ names) q p is holds =
    either_holds (small n) q p (list_any (λ (m : List ℕ). bytes_eq (small m) q) names) (list_any (λ (m : List ℕ). p (small m)) names) is holds
    (λ later. holds_among names q p later holds)

settled : (b rest : Bool) → (b ≡ true → rest ≡ true) → (rest || (b || false)) ≡ rest
settled true rest holds = or_true rest ∙ sym (holds refl)
settled false rest holds = or_false rest

-- a name that is among them, in either case, tells no more
none_more : (names : List (List ℕ)) (name : List ℕ) (p : List ℕ → Bool) → is_among name names ≡ true
    → list_any (λ (n : List ℕ). p (small n)) (names ++ name ∷ []) ≡ list_any (λ (n : List ℕ). p (small n)) names
none_more names name p is =
    list_any-append (λ (n : List ℕ). p (small n)) names (name ∷ [])
    ∙ settled (p (small name)) (list_any (λ (n : List ℕ). p (small n)) names) (λ holds. holds_among names (small name) p is holds)

-- a name that was seen before
pub seen_before : (names all : List (List ℕ)) (name : List ℕ) (seen : BTreeSet (String Global)) → contains_text seen (small name) ≡ true
    → AreSmall names seen → AnswerAsSmall names all → AreSmall (names ++ name ∷ []) seen × AnswerAsSmall (names ++ name ∷ []) all
seen_before names all name seen there are answers =
    let among : is_among name names ≡ true = sym (are (small name)) ∙ there in
    ((λ q. are q ∙ sym (none_more names name (λ (s : List ℕ). bytes_eq s q) among)), λ p. answers p ∙ sym (none_more names name p among))
