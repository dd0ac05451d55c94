-- A box that shares a place with one before it is found among those of its top row.
use Rattle.std.proofs.Common.{ℕ, zero, suc, ◌+◌, ◌<◌, ◌≤◌, ◌≡◌, List, [], ◌∷◌, length, take, get_or, refl, ap, sym, ◌∙◌, arith, rules, tests, Bool, true, false, ◌&&◌, nat_lt, nat_le, if◌then◌else◌, Some, inl, inr, min}
use Rattle.std.specs.List.{list_any, slice_get}
use Rattle.std.proofs.lemmas.Bool.{false_from_ne_true, both_ways, and_parts, and_from, le-leb, lt-ltb, cases_lt}
use Rattle.std.proofs.lemmas.List.Folds.{list_any-append, list_any_more}
use Rattle.std.proofs.lemmas.Option.{slice_get_cases, slice_get_within}
use Rattle.std.proofs.Math.Bool.{or-false}
use Rattle.ladder_rows.specs.declared.boxes.outline.Outline.{Outline}
use Rattle.ladder_rows.specs.Boxes.{meets_row}
use Rattle.ladder_rows.specs.BoxTests.{share_place}
use Rattle.ladder_rows.specs.Steps.RowBoxes.{holds, holds_at, numbers_below, numbers_on}
use Rattle.ladder_text.specs.FirstFault.{shares_before}
use Rattle.ladder_text.proofs.Outlines.BoxOrder.{AreRising}

late-step : (bs : List Outline) (p : Outline → Bool) (k n : ℕ) (b : Bool) → k ≤ n → list_any (λ i. nat_lt i k && holds_at bs p i) (if b then n ∷ [] else []) ≡ false
late-step bs p k n true h = let e : nat_lt n k ≡ false = search (rules, tests) in rw e refl
late-step bs p k n false h = refl

early-step : (bs : List Outline) (p q : Outline → Bool) (k n : ℕ) (x : Outline) (b : Bool) → n < k → slice_get bs n ≡ Some x → q x ≡ b → (p x ≡ true → q x ≡ true)
    → list_any (λ i. nat_lt i k && holds_at bs p i) (if b then n ∷ [] else []) ≡ p x
early-step bs p q k n x true l e f h = let s : nat_lt n k ≡ true = lt-ltb _ _ l in rw (s, e) (or-false (p x))
early-step bs p q k n x false l e f h = sym (false_from_ne_true (p x) (λ t. both_ways (q x) f (h t)))

any-before : (bs : List Outline) (p q : Outline → Bool) (k : ℕ) → ((i : ℕ) (b : Outline) → i < k → slice_get bs i ≡ Some b → p b ≡ true → q b ≡ true) → (n : ℕ) → n ≤ length bs
    → list_any (λ i. nat_lt i k && holds_at bs p i) (numbers_below (holds_at bs q) n) ≡ list_any p (take (min n k) bs)
any-before bs p q k h zero l = let e : min 0 k ≡ 0 = omega arith in rw e refl
any-before bs p q k h (suc n) l =
    let i = any-before bs p q k h n (omega arith) in
    let a = list_any-append (λ i. nat_lt i k && holds_at bs p i) (numbers_below (holds_at bs q) n) (if holds_at bs q n then n ∷ [] else []) in
    elim (cases_lt n k) [
      | inl early ↦ elim ((slice_get_cases bs n).1) [
        | inl w ↦
            let x = w.0 in
            let s = early-step bs p q k n x (holds_at bs q n) early w.2 (sym (ap (holds q) w.2)) (h n x early w.2) in
            let m = list_any_more p bs n x w.1 in
            let g : p (get_or bs n x) ≡ p x = ap p w.3 in
            let now : min (suc n) k ≡ n + 1 = omega arith in
            let before : min n k ≡ n = omega arith in
            let j = rw before at i in
            rw now (cc)
        | inr w ↦ absurd (omega arith)
      ]
      | inr late ↦
          let s = late-step bs p k n (holds_at bs q n) late in
          let same : min (suc n) k ≡ min n k = omega arith in
          rw same (a ∙ rw s (or-false _) ∙ i)
    ]

earlier_meets : (bs : List Outline) → AreRising bs → (k i : ℕ) (b x : Outline) → slice_get bs k ≡ Some b → i < k → slice_get bs i ≡ Some x
    → share_place b x ≡ true → meets_row b.top x ≡ true
earlier_meets bs o k i b x e l f s =
    let w = and_parts (nat_le b.top x.bottom && nat_le x.top b.bottom && nat_le b.left x.right) (nat_le x.left b.right) s in
    let u = and_parts (nat_le b.top x.bottom && nat_le x.top b.bottom) (nat_le b.left x.right) w.0 in
    let v = and_parts (nat_le b.top x.bottom) (nat_le x.top b.bottom) u.0 in
    elim (o i k x b l f e) [
      | inl h ↦ and_from _ _ (le-leb x.top b.top (omega arith)) v.0
      | inr w ↦ and_from _ _ (le-leb x.top b.top (omega (arith, w.0))) v.0
    ]

-- whether a box shares a place with one before it
pub any_shared : (bs : List Outline) → AreRising bs → (k : ℕ) (b : Outline) → slice_get bs k ≡ Some b
    → list_any (λ i. nat_lt i k && holds_at bs (share_place b) i) (numbers_on bs b.top) ≡ shares_before bs k b
unfolding numbers_on
any_shared bs o k b e =
    let within : k < length bs = slice_get_within bs k b e in
    let least : min (length bs) k ≡ k = omega arith in
    any-before bs (share_place b) (meets_row b.top) k (λ i x l f s. earlier_meets bs o k i b x e l f s) (length bs) (omega arith)
    ∙ ap (λ (m : ℕ). list_any (share_place b) (take m bs)) least
