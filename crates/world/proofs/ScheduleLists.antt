-- Ends of lists.
use Rattle.std.proofs.Common.{◌≡◌, ℕ, ◌-◌, List, take, drop, length, length-drop, arith}
use Rattle.std.proofs.lemmas.List.{take_all}

-- what stands from a place on
pub to_the_end : {A : Type 0} (n : ℕ) (xs : List A) → take (length xs - n) (drop n xs) ≡ drop n xs
to_the_end n xs = take_all (length xs - n) (drop n xs) (omega (arith, length-drop n xs))
