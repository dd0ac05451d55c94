-- A duration behind its prefix.
use Rattle.std.proofs.Common.{ℕ, ◌≡◌, List, length, take, drop, true, refl, nat_le}
use Rattle.words.specs.Chars.{same_word, has_parts, is_duration_behind}

pub behind-is : (p : List ℕ) (n : ℕ) (w : List ℕ) → nat_le n (length w) ≡ true → same_word (take n w) p ≡ true → is_duration_behind p n w ≡ has_parts (length w) (drop n w)
unfolding is_duration_behind
behind-is p n w h t = rw (h, t) refl
