-- Texts are joined and put one behind the other.
use Rattle.std.proofs.Common.{◌≡◌, ℕ, ◌+◌, ◌<◌, ◌++◌, List, [], ◌∷◌, length, map, take, get_or, ap, ap₂, sym, ◌∙◌, refl, codes, zero, suc, add-one, arith}
use Rattle.std.specs.List.{flat_map, join_by, zip}
use Rattle.std.proofs.lemmas.List.{append_assoc, append-nil, take_more}
use Rattle.std.proofs.lemmas.Grind.{flat_map-append}
use Rattle.verifying.proofs.Premising.{joined_texts}

-- one more text behind the others
pub texts_more : {X : Type 0} (f : X → List ℕ) (xs : List X) (i : ℕ) (d : X) (first : List ℕ) → i < length xs → (first ++ flat_map f (take i xs)) ++ f (get_or xs i d) ≡ first ++ flat_map f (take (i + 1) xs)
texts_more f xs i d first within =
    append_assoc first (flat_map f (take i xs)) (f (get_or xs i d))
    ∙ ap (λ t. first ++ t) (ap (λ t. flat_map f (take i xs) ++ t) (sym (append-nil (f (get_or xs i d)))) ∙ sym (flat_map-append f (take i xs) (get_or xs i d ∷ [])) ∙ ap (flat_map f) (sym (take_more xs i d within)))

-- the next pair
pairs_more : {X Y : Type 0} (xs : List X) (ys : List Y) (i : ℕ) (d : X) (e : Y) → i < length xs → i < length ys → zip (take (suc i) xs) (take (suc i) ys) ≡ zip (take i xs) (take i ys) ++ (get_or xs i d, get_or ys i e) ∷ []
pairs_more [] ys i d e within also = absurd (omega (arith, within))
pairs_more (x ∷ xs) [] i d e within also = absurd (omega (arith, also))
pairs_more (x ∷ xs) (y ∷ ys) zero d e within also = refl
pairs_more (x ∷ xs) (y ∷ ys) (suc i) d e within also = ap (λ t. (x, y) ∷ t) (pairs_more xs ys i d e (omega (arith, within)) (omega (arith, also)))

-- the text of the next pair behind the others
pub pair_texts : {X Y : Type 0} (f : X × Y → List ℕ) (xs : List X) (ys : List Y) (i : ℕ) (d : X) (e : Y) (text : List ℕ) → i < length xs → i < length ys
    → text ≡ flat_map f (zip (take i xs) (take i ys)) → text ++ f (get_or xs i d, get_or ys i e) ≡ flat_map f (zip (take (i + 1) xs) (take (i + 1) ys))
pair_texts f xs ys i d e text within also is =
    ap (λ t. t ++ f (get_or xs i d, get_or ys i e)) is
    ∙ ap (λ t. flat_map f (zip (take i xs) (take i ys)) ++ t) (sym (append-nil (f (get_or xs i d, get_or ys i e))))
    ∙ sym (flat_map-append f (zip (take i xs) (take i ys)) ((get_or xs i d, get_or ys i e) ∷ []))
    ∙ ap (flat_map f) (sym (pairs_more xs ys i d e within also) ∙ ap (λ n. zip (take n xs) (take n ys)) (sym (add-one i)))

-- the line of what is joined
pub line_written : {X : Type 0} (f : X → List ℕ) (made : List X) (all : List (List ℕ)) (t joined t1 t2 t3 : List ℕ) → map f made ≡ all
    → joined ≡ join_by f (codes ", ") made → t1 ≡ t ++ codes "given " → t2 ≡ t1 ++ joined → t3 ≡ t2 ++ codes "\n" → t3 ≡ t ++ (codes "given " ++ join_by (λ (p : List ℕ). p) (codes ", ") all ++ codes "\n")
line_written f made all t joined t1 t2 t3 are is one two three =
    three ∙ ap (λ s. s ++ codes "\n") (two ∙ ap₂ ◌++◌ one (is ∙ joined_texts f (codes ", ") made ∙ ap (join_by (λ (p : List ℕ). p) (codes ", ")) are))
    ∙ append_assoc (t ++ codes "given ") (join_by (λ (p : List ℕ). p) (codes ", ") all) (codes "\n")
    ∙ append_assoc t (codes "given ") (join_by (λ (p : List ℕ). p) (codes ", ") all ++ codes "\n")
