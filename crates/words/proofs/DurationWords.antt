-- Durations are the words that parts spell behind `T#` or `TIME#`.
use Rattle.std.proofs.Common.{ℕ, ◌+◌, ◌≤◌, ◌≡◌, ◌||◌, ◌&&◌, if◌then◌else◌, List, [], ◌∷◌, ◌++◌, length, take, drop, map, get_or, None, refl, sym, ap, ◌∙◌, subst, arith, Bool, true, false, IsTrue, ◌⊎◌, inl, inr, nat_le, codes, length-append}
use Rattle.std.specs.Char.{to_ascii_lowercase}
use Rattle.std.specs.Str.{str_to_ascii_lowercase}
use Rattle.std.proofs.Math.Seq.{drop-append_seam, take-append_seam}
use Rattle.std.proofs.lemmas.Bool.{and_parts, and_from, both_ways}
use Rattle.std.proofs.lemmas.List.{take-append-drop, length-map}
use Rattle.std.proofs.lemmas.Slice.Eq.{bytes_eq-Decides}
use Rattle.words.specs.Chars.{same_word, has_parts, is_duration_behind, is_duration}
use Rattle.words.specs.Numbers.{parts_value, duration_value, limited, duration_up_to}
use Rattle.words.specs.Durations.{Part, AreParts, IsSpelling, IsDurationOf, milliseconds}
use Rattle.words.proofs.DurationParts.{parts_spelled}
use Rattle.words.proofs.DurationParse.{spelled_parts, spelled_long}

-- a duration behind n characters: its parts
record IsBehind (p : List ℕ) (n : ℕ) (w : List ℕ) : Type 0 where
  ps : List Part
  spelled : IsSpelling ps (drop n w)
  parts : AreParts 0 ps
  value : parts_value (length w) (drop n w) ≡ milliseconds ps
  named : same_word (take n w) p ≡ true

behind_spelled : (p : List ℕ) (n : ℕ) (w : List ℕ) → is_duration_behind p n w ≡ true → IsBehind p n w
unfolding is_duration_behind has_parts
behind_spelled p n w h =
    let a = and_parts (nat_le n (length w) && same_word (take n w) p) (has_parts (length w) (drop n w)) h in
    let b = and_parts (nat_le n (length w)) (same_word (take n w) p) a.0 in
    let s = parts_spelled (length w) 0 (drop n w) a.1 in
    record { ps = s.0; spelled = s.1; parts = s.2; value = s.3; named = b.1 }

-- a word that is a duration is spelled by parts, which are as much as it is
pub duration_spelled : (w : List ℕ) → is_duration w ≡ true → (ps : List Part) × IsDurationOf w ps
unfolding is_duration
duration_spelled w h = go (is_duration_behind (codes "T#") 2 w) (is_duration_behind (codes "TIME#") 5 w) refl refl h
  where
    go : (a b : Bool) → is_duration_behind (codes "T#") 2 w ≡ a → is_duration_behind (codes "TIME#") 5 w ≡ b → (a || b) ≡ true → (ps : List Part) × IsDurationOf w ps
    go true b e f t =
        let v = behind_spelled (codes "T#") 2 w e in
        (v.ps, record { front = take 2 w; rest = drop 2 w; whole = sym (take-append-drop 2 w); named = inl v.named; spelled = v.spelled; parts = v.parts })
    go false true e f t =
        let v = behind_spelled (codes "TIME#") 5 w f in
        (v.ps, record { front = take 5 w; rest = drop 5 w; whole = sym (take-append-drop 5 w); named = inr v.named; spelled = v.spelled; parts = v.parts })
    go false false e f t = absurd (both_ways false refl t)

same_long : (f p : List ℕ) → same_word f p ≡ true → length f ≡ length p
same_long f p t =
    let e = (bytes_eq-Decides (str_to_ascii_lowercase f) (str_to_ascii_lowercase p)).0 t in
    sym (length-map f to_ascii_lowercase) ∙ ap (λ (xs : List ℕ). length xs) e ∙ length-map p to_ascii_lowercase

le_true : (a b : ℕ) → a ≤ b → nat_le a b ≡ true
le_true a b h = grind arith

-- parts behind a front of n characters
behind_read : (p : List ℕ) (n : ℕ) (f r : List ℕ) (ps : List Part) → n ≡ length f → same_word f p ≡ true → IsSpelling ps r → AreParts 0 ps
    → (is_duration_behind p n (f ++ r) ≡ true) × (parts_value (length (f ++ r)) (drop n (f ++ r)) ≡ milliseconds ps)
unfolding is_duration_behind has_parts
behind_read p n f r ps e named s a =
    let size : length (f ++ r) ≡ length f + length r = length-append f r in
    let front : take n (f ++ r) ≡ f = ap (λ (k : ℕ). take k (f ++ r)) e ∙ take-append_seam f r in
    let rest : drop n (f ++ r) ≡ r = ap (λ (k : ℕ). drop k (f ++ r)) e ∙ drop-append_seam f r in
    let few : length ps ≤ length (f ++ r) = omega (arith, spelled_long ps r 0 s a) in
    let w = spelled_parts ps (length (f ++ r)) 0 r few s a in (
      and_from (nat_le n (length (f ++ r)) && same_word (take n (f ++ r)) p) (has_parts (length (f ++ r)) (drop n (f ++ r)))
          (and_from (nat_le n (length (f ++ r))) (same_word (take n (f ++ r)) p) (le_true n (length (f ++ r)) (omega arith)) (subst (λ (xs : List ℕ). same_word xs p ≡ true) (sym front) named))
          (subst (λ (xs : List ℕ). has_parts (length (f ++ r)) xs ≡ true) (sym rest) w.0),
      ap (λ (xs : List ℕ). parts_value (length (f ++ r)) xs) rest ∙ w.1,
    )

-- what begins with `TIME#` doesn't begin with `T#`
no_both : (f r : List ℕ) → map to_ascii_lowercase f ≡ 116 ∷ 105 ∷ 109 ∷ 101 ∷ 35 ∷ [] → map to_ascii_lowercase (take 2 (f ++ r)) ≡ 116 ∷ 35 ∷ [] → ⊥
no_both [] r e g = absurd (omega (arith, ap (λ (xs : List ℕ). length xs) e))
no_both (a ∷ []) r e g = absurd (omega (arith, ap (λ (xs : List ℕ). length xs) e))
no_both (a ∷ b ∷ f) r e g = absurd (omega (arith, ap (λ (xs : List ℕ). get_or xs 1 0) e, ap (λ (xs : List ℕ). get_or xs 1 0) g))

short_not : (f r : List ℕ) → same_word f (codes "TIME#") ≡ true → is_duration_behind (codes "T#") 2 (f ++ r) ≡ false
unfolding is_duration_behind
short_not f r t = go (is_duration_behind (codes "T#") 2 (f ++ r)) refl
  where
    go : (b : Bool) → is_duration_behind (codes "T#") 2 (f ++ r) ≡ b → b ≡ false
    go false e = refl
    go true e =
        let v = behind_spelled (codes "T#") 2 (f ++ r) e in
        absurd (no_both f r ((bytes_eq-Decides (str_to_ascii_lowercase f) (str_to_ascii_lowercase (codes "TIME#"))).0 t)
        ((bytes_eq-Decides (str_to_ascii_lowercase (take 2 (f ++ r))) (str_to_ascii_lowercase (codes "T#"))).0 v.named))

read_by : (f r : List ℕ) (ps : List Part) → (IsTrue (same_word f (codes "T#")) ⊎ IsTrue (same_word f (codes "TIME#"))) → IsSpelling ps r → AreParts 0 ps
    → (is_duration (f ++ r) ≡ true) × (duration_value (f ++ r) ≡ milliseconds ps)
unfolding is_duration duration_value
read_by f r ps (inl t) s a =
    let w = behind_read (codes "T#") 2 f r ps (sym (same_long f (codes "T#") t)) t s a in (
      ap (λ (b : Bool). b || is_duration_behind (codes "TIME#") 5 (f ++ r)) w.0,
      ap (λ (b : Bool). if b then parts_value (length (f ++ r)) (drop 2 (f ++ r)) else parts_value (length (f ++ r)) (drop 5 (f ++ r))) w.0 ∙ w.1,
    )
read_by f r ps (inr t) s a =
    let w = behind_read (codes "TIME#") 5 f r ps (sym (same_long f (codes "TIME#") t)) t s a in
    let n = short_not f r t in (
      ap (λ (b : Bool). b || is_duration_behind (codes "TIME#") 5 (f ++ r)) n ∙ w.0,
      ap (λ (b : Bool). if b then parts_value (length (f ++ r)) (drop 2 (f ++ r)) else parts_value (length (f ++ r)) (drop 5 (f ++ r))) n ∙ w.1,
    )

duration_read : (w : List ℕ) (ps : List Part) → IsDurationOf w ps → (is_duration w ≡ true) × (duration_value w ≡ milliseconds ps)
duration_read w ps d = subst (λ (xs : List ℕ). (is_duration xs ≡ true) × (duration_value xs ≡ milliseconds ps)) (sym d.whole) (read_by d.front d.rest ps d.named d.spelled d.parts)

-- parts that spell a word make it a duration
pub duration_is : (w : List ℕ) (ps : List Part) → IsDurationOf w ps → is_duration w ≡ true
duration_is w ps d = (duration_read w ps d).0

-- and it is as much as they are together
pub duration_worth : (w : List ℕ) (ps : List Part) → IsDurationOf w ps → duration_value w ≡ milliseconds ps
duration_worth w ps d = (duration_read w ps d).1

-- a word that no parts spell is none
pub duration_none : (most : ℕ) (w : List ℕ) → ((ps : List Part) → IsDurationOf w ps → ⊥) → duration_up_to most w ≡ None
unfolding duration_up_to
duration_none most w none = go (is_duration w) refl
  where
    go : (b : Bool) → is_duration w ≡ b → (if b then limited most (duration_value w) else None) ≡ None
    go true e = let s = duration_spelled w e in absurd (none s.0 s.1)
    go false e = refl
