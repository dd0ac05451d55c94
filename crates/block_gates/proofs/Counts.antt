-- Counts by how much they are more than the least INT.
use Rattle.std.proofs.Common.{◌≡◌, ℕ, suc, ◌+◌, ◌-◌, ◌<◌, ◌≤◌, min, Bool, true, false, not, cond, leb, ltb, refl, sym, ap, ◌∙◌, ⊎_elim, arith, ℤ, pos, negsuc, ◌+ℤ◌, ◌-ℤ◌}
use Rattle.std.proofs.lemmas.Bool.{le-leb, lt-leb}
use Rattle.std.proofs.lemmas.Bool.Decides.{leb_tells}
use Rattle.std.specs.Int.Signed.{lt_z}
use borrow.Author.Differences.{up, down, same_in, same_out, sum_is_lem, lt-true, lt-false}
use Rattle.gate_words.specs.Values.{IsRaised}
use Rattle.std_blocks.specs.Blocks.{one_more, one_less}

raised_out : (z : ℤ) (n : ℕ) → IsRaised z n → n + down z ≡ up z + 32768
raised_out z n is =
    let same = same_out (pos n) (z +ℤ pos 32768) is in
    let sum = sum_is_lem z (pos 32768) in omega (arith, same, sum)

more_step : (uz dz us ds uy dy n m : ℕ) → n + dz ≡ uz + 32768 → n < 65536 → m + dy ≡ uy + 32768 → m ≡ min (n + 1) 65535
    → uz + 0 < 32767 + dz → us + dz + 0 ≡ ds + uz + 1 → uy + ds ≡ us + dy
more_step uz dz us ds uy dy n m a lt b e less sum = omega (arith, a, lt, b, e, less, sum)

most_step : (uz dz uy dy n m : ℕ) → n + dz ≡ uz + 32768 → n < 65536 → m + dy ≡ uy + 32768 → m ≡ min (n + 1) 65535
    → 32767 + dz ≤ uz + 0 → uy + dz ≡ uz + dy
most_step uz dz uy dy n m a lt b e more = omega (arith, a, lt, b, e, more)

pub one_more_raised : (z y : ℤ) (n m : ℕ) → IsRaised z n → n < 65536 → IsRaised y m → m ≡ min (n + 1) 65535 → y ≡ one_more z
one_more_raised z y n m one lt two e = by_test (lt_z z (pos 32767)) refl
  where
    by_test : (t : Bool) → lt_z z (pos 32767) ≡ t → y ≡ cond t (z +ℤ pos 1) z
    by_test true h =
        same_in y (z +ℤ pos 1)
        (more_step (up z) (down z) (up (z +ℤ pos 1)) (down (z +ℤ pos 1)) (up y) (down y) n m (raised_out z n one) lt (raised_out y m two) e
        (lt-true z (pos 32767) h) (sum_is_lem z (pos 1)))
    by_test false h =
        same_in y z
        (most_step (up z) (down z) (up y) (down y) n m (raised_out z n one) lt (raised_out y m two) e (lt-false z (pos 32767) h))

less_step : (uz dz us ds uy dy n m : ℕ) → n + dz ≡ uz + 32768 → m + dy ≡ uy + 32768 → m ≡ n - 1
    → 0 + dz < uz + 32768 → us + dz + 1 ≡ ds + uz + 0 → uy + ds ≡ us + dy
less_step uz dz us ds uy dy n m a b e less sum = omega (arith, a, b, e, less, sum)

least_step : (uz dz uy dy n m : ℕ) → n + dz ≡ uz + 32768 → m + dy ≡ uy + 32768 → m ≡ n - 1 → uz + 32768 ≤ 0 + dz → uy + dz ≡ uz + dy
least_step uz dz uy dy n m a b e more = omega (arith, a, b, e, more)

pub one_less_raised : (z y : ℤ) (n m : ℕ) → IsRaised z n → IsRaised y m → m ≡ n - 1 → y ≡ one_less z
one_less_raised z y n m one two e = by_test (lt_z (negsuc 32767) z) refl
  where
    by_test : (t : Bool) → lt_z (negsuc 32767) z ≡ t → y ≡ cond t (z -ℤ pos 1) z
    by_test true h =
        same_in y (z -ℤ pos 1)
        (less_step (up z) (down z) (up (z -ℤ pos 1)) (down (z -ℤ pos 1)) (up y) (down y) n m (raised_out z n one) (raised_out y m two) e
        (lt-true (negsuc 32767) z h) (sum_is_lem z (negsuc 0)))
    by_test false h =
        same_in y z (least_step (up z) (down z) (up y) (down y) n m (raised_out z n one) (raised_out y m two) e (lt-false (negsuc 32767) z h))

pub bounded_lt : (m sum : ℕ) → m ≡ min sum 65535 → m < 65536
bounded_lt m sum e = omega (arith, e)

pub less_lt : (m n k : ℕ) → m ≡ n - k → n < 65536 → m < 65536
less_lt m n k e lt = omega (arith, e, lt)

-- one time is less than another where that isn't at most the first
pub less_is : (a b : ℕ) → not (leb b a) ≡ ltb a b
less_is a b =
    ⊎_elim (λ h. ap not h.0 ∙ sym (lt-leb (suc a) b (let lt : b < suc a = omega (arith, h.1) in lt)))
    (λ h. ap not h.0 ∙ sym (le-leb (suc a) b (let le : suc a ≤ b = omega (arith, h.1) in le))) (leb_tells b a)
