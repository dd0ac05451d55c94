-- Gaps: what the lexer finds is a gap, and there is one way to find it.
use Rattle.std.proofs.Common.{◌≡◌, ◌==◌, ◌&&◌, ◌||◌, ◌<◌, ℕ, Bool, true, false, cond, List, [], ◌∷◌, ◌++◌, length, Some, None, ◌⊎◌, inl, inr, refl, ap, sym, ◌∙◌, append_assoc, arith}
use Rattle.std.specs.List.{flat_map, AllByRecursion}
use Rattle.std.proofs.lemmas.Bool.{eqb-true, and_parts, or_cases, and_right}
use Rattle.std.proofs.lemmas.List.{length-append, append-nil}
use Rattle.std.proofs.lemmas.Grind.{flat_map-append}
use Rattle.plant_text.specs.Spelling.{ends_comment, IsSpace, IsGap}
use Rattle.plant_text.specs.Steps.Gaps.{behind_comment, behind_star, behind_feed, behind_space, IsBehindGap}

-- which branch was taken
pub cases_of_cond : {A : Type 0} (b : Bool) (x y z : A) → cond b x y ≡ z → ((b ≡ true) × (x ≡ z)) ⊎ ((b ≡ false) × (y ≡ z))
cases_of_cond true x y z h = inl (refl, h)
cases_of_cond false x y z h = inr (refl, h)

or_parts : (x y : Bool) → (x || y) ≡ false → (x ≡ false) × (y ≡ false)
or_parts true y h = absurd cc
or_parts false y h = (refl, h)

or_from : (x y : Bool) → x ≡ false → y ≡ false → (x || y) ≡ false
or_from x y h k = rw (h, k) refl

-- a comment ends at the first sign that ends it
pub behind_comment-is : (inside x : List ℕ) → ends_comment inside ≡ false → behind_comment (inside ++ 42 ∷ 41 ∷ x) ≡ Some x
behind_comment-is [] x h = refl
behind_comment-is (c ∷ []) x h = let e : (c == 42 && false) ≡ false = and_right (c == 42) false refl in rw e refl
behind_comment-is (c ∷ e ∷ more) x h =
    let parts = or_parts (c == 42 && e == 41) (ends_comment (e ∷ more)) h in
    rw parts.0 (behind_comment-is (e ∷ more) x parts.1)

ends_comment-cons : (c e : ℕ) (inside more r : List ℕ) → (c == 42 && e == 41) ≡ false → e ∷ more ≡ inside ++ 42 ∷ 41 ∷ r → ends_comment inside ≡ false → ends_comment (c ∷ inside) ≡ false
ends_comment-cons c e [] more r n is h = refl
ends_comment-cons c e (x ∷ xs) more r n is h =
    let same : e ≡ x = cc in
    or_from (c == 42 && x == 41) (ends_comment (x ∷ xs)) (rw same at n) h

-- what is passed on the way to that sign
pub behind_comment-found : (t r : List ℕ) → behind_comment t ≡ Some r → (inside : List ℕ) × (ends_comment inside ≡ false) × (t ≡ inside ++ 42 ∷ 41 ∷ r)
behind_comment-found [] r h = absurd cc
behind_comment-found (c ∷ []) r h = absurd cc
behind_comment-found (c ∷ e ∷ more) r h = elim (cases_of_cond (c == 42 && e == 41) (Some more) (behind_comment (e ∷ more)) (Some r) h) [
  | inl w ↦
      let p = and_parts (c == 42) (e == 41) w.0 in
      let a : c ≡ 42 = eqb-true c 42 p.0 in
      let b : e ≡ 41 = eqb-true e 41 p.1 in
      let same : c ∷ e ∷ more ≡ 42 ∷ 41 ∷ r = cc in
      ([], refl, same)
  | inr w ↦
      let more_of = behind_comment-found (e ∷ more) r w.1 in
      (c ∷ more_of.0, ends_comment-cons c e more_of.0 more r w.0 more_of.2 more_of.1, ap (λ xs. c ∷ xs) more_of.2)
]

-- one piece of a gap is found
pub behind_space-is : (p x : List ℕ) → IsSpace p → behind_space (p ++ x) ≡ Some x
behind_space-is p x (inl h) = rw h refl
behind_space-is p x (inr (inl h)) = rw h refl
behind_space-is p x (inr (inr (inl (inl h)))) = rw h refl
behind_space-is p x (inr (inr (inl (inr h)))) = rw h refl
behind_space-is p x (inr (inr (inr h))) =
    let e : p ++ x ≡ 40 ∷ 42 ∷ (h.0 ++ 42 ∷ 41 ∷ x) = ap (λ q. q ++ x) h.2 ∙ append_assoc (40 ∷ 42 ∷ h.0) (42 ∷ 41 ∷ []) x in
    rw e (behind_comment-is h.0 x h.1)

abbrev IsFound : List ℕ → List ℕ → Type 0
IsFound t r = (p : List ℕ) × IsSpace p × (t ≡ p ++ r)

found_blank : (c : ℕ) (more r : List ℕ) → (c == 32 || (c == 9 || c == 10)) ≡ true → more ≡ r → IsFound (c ∷ more) r
found_blank c more r h e = elim (or_cases (c == 32) (c == 9 || c == 10) h) [
  | inl w ↦ let a : c ≡ 32 = eqb-true c 32 w in let same : c ∷ more ≡ 32 ∷ r = cc in (32 ∷ [], inl refl, same)
  | inr w ↦ elim (or_cases (c == 9) (c == 10) w) [
    | inl v ↦ let a : c ≡ 9 = eqb-true c 9 v in let same : c ∷ more ≡ 9 ∷ r = cc in (9 ∷ [], inr (inl refl), same)
    | inr v ↦ let a : c ≡ 10 = eqb-true c 10 v in let same : c ∷ more ≡ 10 ∷ r = cc in (10 ∷ [], inr (inr (inl (inl refl))), same)
  ]
]

found_feed : (c : ℕ) (more r : List ℕ) → c ≡ 13 → behind_feed more ≡ Some r → IsFound (c ∷ more) r
found_feed c [] r a h = absurd cc
found_feed c (e ∷ more) r a h = elim (cases_of_cond (e == 10) (Some more) None (Some r) h) [
  | inl w ↦ let b : e ≡ 10 = eqb-true e 10 w.0 in let same : c ∷ e ∷ more ≡ 13 ∷ 10 ∷ r = cc in (13 ∷ 10 ∷ [], inr (inr (inl (inr refl))), same)
  | inr w ↦ absurd cc
]

found_star : (c : ℕ) (more r : List ℕ) → c ≡ 40 → behind_star more ≡ Some r → IsFound (c ∷ more) r
found_star c [] r a h = absurd cc
found_star c (e ∷ more) r a h = elim (cases_of_cond (e == 42) (behind_comment more) None (Some r) h) [
  | inl w ↦
      let b : e ≡ 42 = eqb-true e 42 w.0 in
      let found = behind_comment-found more r w.1 in
      let tail : (found.0 ++ 42 ∷ 41 ∷ []) ++ r ≡ found.0 ++ 42 ∷ 41 ∷ r = append_assoc found.0 (42 ∷ 41 ∷ []) r in
      let same : c ∷ e ∷ more ≡ 40 ∷ 42 ∷ ((found.0 ++ 42 ∷ 41 ∷ []) ++ r) = let m : more ≡ found.0 ++ 42 ∷ 41 ∷ r = found.2 in cc in
      (40 ∷ 42 ∷ (found.0 ++ 42 ∷ 41 ∷ []), inr (inr (inr (found.0, found.1, refl))), same)
  | inr w ↦ absurd cc
]

-- what is found is one piece of a gap
pub behind_space-found : (t r : List ℕ) → behind_space t ≡ Some r → (p : List ℕ) × IsSpace p × (t ≡ p ++ r)
behind_space-found [] r h = absurd cc
behind_space-found (c ∷ more) r h = elim (cases_of_cond (c == 32 || (c == 9 || c == 10)) (Some more) (cond (c == 13) (behind_feed more) (cond (c == 40) (behind_star more) None)) (Some r) h) [
  | inl w ↦ let e : more ≡ r = cc in found_blank c more r w.0 e
  | inr w ↦ elim (cases_of_cond (c == 13) (behind_feed more) (cond (c == 40) (behind_star more) None) (Some r) w.1) [
    | inl v ↦ found_feed c more r (eqb-true c 13 v.0) v.1
    | inr v ↦ elim (cases_of_cond (c == 40) (behind_star more) None (Some r) v.1) [
      | inl u ↦ found_star c more r (eqb-true c 40 u.0) u.1
      | inr u ↦ absurd cc
    ]
  ]
]

space_some : (p : List ℕ) → IsSpace p → 0 < length p
space_some p (inl h) = rw h (omega arith)
space_some p (inr (inl h)) = rw h (omega arith)
space_some p (inr (inr (inl (inl h)))) = rw h (omega arith)
space_some p (inr (inr (inl (inr h)))) = rw h (omega arith)
space_some p (inr (inr (inr h))) = rw h.2 (omega arith)

pub shorter_behind_space : (t r : List ℕ) → behind_space t ≡ Some r → length r < length t
shorter_behind_space t r h =
    let p = behind_space-found t r h in
    let some : 0 < length p.0 = space_some p.0 p.1 in
    rw p.2 (omega (arith, length-append p.0 r))

-- a gap with one more piece in front
pub IsBehindGap-more : (t more r : List ℕ) → behind_space t ≡ Some more → IsBehindGap more r → IsBehindGap t r
IsBehindGap-more t more r h g =
    let p = behind_space-found t more h in
    let e : t ≡ (p.0 ++ g.0) ++ r = p.2 ∙ ap (λ x. p.0 ++ x) g.1 ∙ sym (append_assoc p.0 g.0 r) in
    (p.0 ++ g.0, e, (p.0 ∷ g.2.0, (p.1, g.2.1), ap (λ x. p.0 ++ x) g.2.2), g.3)

-- no gap at all
pub IsBehindGap-here : (t : List ℕ) → behind_space t ≡ None → IsBehindGap t t
IsBehindGap-here t h = ([], refl, ([], tt, refl), h)

-- the pieces of a gap one after the other
abbrev joined : List (List ℕ) → List ℕ
joined pieces = flat_map (λ piece. piece) pieces

-- where nothing is found, no piece of a gap stands
pub no_piece : (p more x : List ℕ) → IsSpace p → behind_space x ≡ None → x ≡ p ++ more → ⊥
no_piece p more x space none e =
    let some : behind_space (p ++ more) ≡ Some more = behind_space-is p more space in
    let same : behind_space x ≡ behind_space (p ++ more) = ap behind_space e in
    absurd cc

pieces_unique : (ps qs : List (List ℕ)) (a b : List ℕ) → AllByRecursion IsSpace ps → AllByRecursion IsSpace qs → behind_space a ≡ None → behind_space b ≡ None
    → joined ps ++ a ≡ joined qs ++ b → a ≡ b
pieces_unique [] [] a b sp sq na nb e = e
pieces_unique [] (q ∷ qs) a b sp sq na nb e = absurd (no_piece q (joined qs ++ b) a sq.0 na (e ∙ append_assoc q (joined qs) b))
pieces_unique (p ∷ ps) [] a b sp sq na nb e = absurd (no_piece p (joined ps ++ a) b sp.0 nb (sym e ∙ append_assoc p (joined ps) a))
pieces_unique (p ∷ ps) (q ∷ qs) a b sp sq na nb e =
    let left : behind_space (p ++ (joined ps ++ a)) ≡ Some (joined ps ++ a) = behind_space-is p (joined ps ++ a) sp.0 in
    let right : behind_space (q ++ (joined qs ++ b)) ≡ Some (joined qs ++ b) = behind_space-is q (joined qs ++ b) sq.0 in
    let same : p ++ (joined ps ++ a) ≡ q ++ (joined qs ++ b) = sym (append_assoc p (joined ps) a) ∙ e ∙ append_assoc q (joined qs) b in
    let found : behind_space (p ++ (joined ps ++ a)) ≡ behind_space (q ++ (joined qs ++ b)) = ap behind_space same in
    let next : joined ps ++ a ≡ joined qs ++ b = cc in
    pieces_unique ps qs a b sp.1 sq.1 na nb next

-- there is one way to skip a gap
pub gap_unique : (g f a b : List ℕ) → IsGap g → IsGap f → behind_space a ≡ None → behind_space b ≡ None → g ++ a ≡ f ++ b → a ≡ b
gap_unique g f a b ig jf na nb e = pieces_unique ig.0 jf.0 a b ig.1 jf.1 na nb (ap (λ x. x ++ a) (sym ig.2) ∙ e ∙ ap (λ x. x ++ b) jf.2)

joined_append : (ps qs : List (List ℕ)) → joined (ps ++ qs) ≡ joined ps ++ joined qs
joined_append ps qs = flat_map-append (λ piece. piece) ps qs

all_append : (ps qs : List (List ℕ)) → AllByRecursion IsSpace ps → AllByRecursion IsSpace qs → AllByRecursion IsSpace (ps ++ qs)
all_append [] qs h k = k
all_append (p ∷ ps) qs h k = (h.0, all_append ps qs h.1 k)

-- two gaps are one
pub IsGap-append : (g f : List ℕ) → IsGap g → IsGap f → IsGap (g ++ f)
IsGap-append g f ig jf =
    let e : g ++ f ≡ joined (ig.0 ++ jf.0) = ap (λ x. x ++ f) ig.2 ∙ ap (λ x. joined ig.0 ++ x) jf.2 ∙ sym (joined_append ig.0 jf.0) in
    (ig.0 ++ jf.0, all_append ig.0 jf.0 ig.1 jf.1, e)

pub IsGap-one : (p : List ℕ) → IsSpace p → IsGap p
IsGap-one p h = let e : p ≡ p ++ [] = sym (append-nil p) in (p ∷ [], (h, tt), e)

-- two characters end a comment
pub no_comment_end : (t : List ℕ) → length t < 2 → behind_comment t ≡ None
no_comment_end [] h = refl
no_comment_end (c ∷ []) h = refl
no_comment_end (c ∷ e ∷ more) h = absurd (omega arith)
