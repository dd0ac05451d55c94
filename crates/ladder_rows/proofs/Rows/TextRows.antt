-- On the rows of a text.
use Rattle.std.proofs.Common.{ℕ, zero, suc, ◌-◌, ◌<◌, ◌≡◌, ◌≢◌, List, [], ◌∷◌, length, take, get_or, ap, sym, ◌≤◌, arith, refl, rules, tests}
use Rattle.std.proofs.lemmas.List.{get_or_default}
use Rattle.std.proofs.Common.{true, false, ◌∙◌}
use Rattle.ladder_rows.specs.Rows.{trimmed, put_before, char_at}
use Rattle.words.specs.Chars.{between}
use Rattle.ladder_rows.specs.Faults.{not_ascii}

pub trimmed-take_blank : (xs : List ℕ) (n : ℕ) → n < length xs → get_or xs n 0 ≡ 32 → trimmed (take (suc n) xs) ≡ trimmed (take n xs)
trimmed-take_blank [] n h e = absurd (omega arith)
trimmed-take_blank (x ∷ xs) zero h e = rw e refl
trimmed-take_blank (x ∷ xs) (suc n) h e = ap (put_before x) (trimmed-take_blank xs n (omega arith) e)

pub trimmed-take_kept : (xs : List ℕ) (n : ℕ) → n < length xs → get_or xs n 0 ≢ 32 → trimmed (take (suc n) xs) ≡ take (suc n) xs
trimmed-take_kept [] n h e = absurd (omega arith)
trimmed-take_kept (x ∷ xs) zero h e = search (rules, tests)
trimmed-take_kept (x ∷ []) (suc n) h e = absurd (omega arith)
trimmed-take_kept (x ∷ y ∷ xs) (suc n) h e = ap (put_before x) (trimmed-take_kept (y ∷ xs) n (omega arith) e)

pub trimmed-at_blank : (xs : List ℕ) (n : ℕ) → 0 < n → n ≤ length xs → get_or xs (n - 1) 0 ≡ 32 → trimmed (take (n - 1) xs) ≡ trimmed (take n xs)
trimmed-at_blank xs zero p h e = absurd (omega arith)
trimmed-at_blank xs (suc m) p h e =
    let q : suc m - 1 ≡ m = omega arith in
    rw q (sym (trimmed-take_blank xs m (omega arith) (rw q at e)))

pub trimmed-at_kept : (xs : List ℕ) (n : ℕ) → 0 < n → n ≤ length xs → get_or xs (n - 1) 0 ≢ 32 → trimmed (take n xs) ≡ take n xs
trimmed-at_kept xs zero p h e = absurd (omega arith)
trimmed-at_kept xs (suc m) p h e =
    let q : suc m - 1 ≡ m = omega arith in
    trimmed-take_kept xs m (omega arith) (rw q at e)

pub not_ascii-in_row : (d : List (List ℕ)) (r c : ℕ) (row : List ℕ) → row ≡ get_or d r row → r < length d → between 32 (get_or row c 32) 126 ≡ true → not_ascii d r c ≡ false
unfolding char_at
not_ascii-in_row d r c row e h b =
    let q : get_or d r [] ≡ row = get_or_default d r [] row h ∙ sym e in
    rw q (rw b refl)
