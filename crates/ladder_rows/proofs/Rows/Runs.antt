-- On unbroken runs, and lists one after the other.
use Rattle.std.proofs.Common.{ℕ, zero, suc, ◌+◌, ◌-◌, ◌<◌, ◌≤◌, ◌≡◌, ◌≢◌, ◌==◌, eq-eqb, List, [], Bool, true, false, refl, ap, arith, rules, tests, add-zero}
use Rattle.ladder_rows.specs.Rows.{run, run_back, upto}

-- a run of m places, all of which pass, ends where the next fails or the limit is met
pub run-is : (p : ℕ → Bool) (i m n : ℕ) → m ≤ n → ((j : ℕ) → j < m → p (i + j) ≡ true) → (m < n → p (i + m) ≡ false) → run p i n ≡ m
run-is p i zero zero h t f = refl
run-is p i zero (suc n) h t f =
    let e : p i ≡ false = rw add-zero at (f (omega arith)) in rw e refl
run-is p i (suc m) zero h t f = absurd (omega arith)
run-is p i (suc m) (suc n) h t f =
    let e : p i ≡ true = rw add-zero at (t 0 (omega arith)) in
    let t' : (j : ℕ) → j < m → p (i + 1 + j) ≡ true = λ j k. let q : i + 1 + j ≡ i + suc j = omega arith in rw q (t (suc j) (omega arith)) in
    let f' : m < n → p (i + 1 + m) ≡ false = λ k. let q : i + 1 + m ≡ i + suc m = omega arith in rw q (f (omega arith)) in
    rw e (ap suc (run-is p (i + 1) m n (omega arith) t' f'))

pub run-of_char : (f : ℕ → ℕ) (x i m n : ℕ) → m ≤ n → ((j : ℕ) → j < m → f (i + j) ≡ x) → (m < n → f (i + m) ≢ x) → run (λ k. f k == x) i n ≡ m
run-of_char f x i m n h t e =
    run-is (λ k. f k == x) i m n h (λ j k. eq-eqb (f (i + j)) x (t j k)) (λ k. let ne : f (i + m) ≢ x = e k in search (rules, tests))

pub run-from_zero : (p : ℕ → Bool) (m n : ℕ) → m ≤ n → ((j : ℕ) → j < m → p j ≡ true) → (m < n → p m ≡ false) → run p 0 n ≡ m
run-from_zero p m n h t f =
    run-is p 0 m n h (λ j k. let q : 0 + j ≡ j = omega arith in rw q (t j k)) (λ k. let q : 0 + m ≡ m = omega arith in rw q (f k))

-- the same backwards
pub run_back-is : (p : ℕ → Bool) (i m n : ℕ) → m ≤ n → ((j : ℕ) → j < m → p (i - j) ≡ true) → (m < n → p (i - m) ≡ false) → run_back p i n ≡ m
run_back-is p i zero zero h t f = refl
run_back-is p i zero (suc n) h t f =
    let q : i - 0 ≡ i = omega arith in
    let e : p i ≡ false = rw q at (f (omega arith)) in rw e refl
run_back-is p i (suc m) zero h t f = absurd (omega arith)
run_back-is p i (suc m) (suc n) h t f =
    let o : i - 0 ≡ i = omega arith in
    let e : p i ≡ true = rw o at (t 0 (omega arith)) in
    let t' : (j : ℕ) → j < m → p (i - 1 - j) ≡ true = λ j k. let q : i - 1 - j ≡ i - suc j = omega arith in rw q (t (suc j) (omega arith)) in
    let f' : m < n → p (i - 1 - m) ≡ false = λ k. let q : i - 1 - m ≡ i - suc m = omega arith in rw q (f (omega arith)) in
    rw e (ap suc (run_back-is p (i - 1) m n (omega arith) t' f'))

-- a run that doesn't begin
pub run-none : (p : ℕ → Bool) (i n : ℕ) → p i ≡ false → run p i n ≡ 0
run-none p i zero h = refl
run-none p i (suc n) h = rw h refl

-- lists of which each is empty
pub upto-none : {A : Type 0} (n : ℕ) (f : ℕ → List A) → ((c : ℕ) → f (suc c) ≡ []) → upto n f ≡ []
upto-none zero f h = refl
upto-none (suc n) f h = rw (upto-none n f h, h n) refl
