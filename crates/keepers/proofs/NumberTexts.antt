-- The texts of numbers: they are shorter than what is read of a file, and differ for different numbers.
use Rattle.std.proofs.Common.{arith, ◌≡◌, ℕ, ◌<◌, ◌≤◌, ◌^◌, ◌++◌, ◌∷◌, [], List, length, take, sym, ap, ◌∙◌}
use Rattle.std.specs.Fmt.{decimal}
use Rattle.std.proofs.lemmas.Fmt.{length-decimal-le, decimal_injective}
use Rattle.std.proofs.lemmas.List.{length-append, length-take, take_all, append_cancel_right}
use Rattle.keepers.specs.KeptNumbers.{number_text}

text_is_short : (n : ℕ) → n < 2 ^ 32 → length (number_text n) ≤ 11
text_is_short n h = omega (arith, length-append (decimal n) (10 ∷ []), length-decimal-le 10 n (omega arith) (omega (arith, h)) (omega (arith, h)))

-- the first 12 bytes of a file are the text of a number only where they are all
pub whole_text : (bytes : List ℕ) (n : ℕ) → n < 2 ^ 32 → take 12 bytes ≡ number_text n → bytes ≡ number_text n
whole_text bytes n h is =
    sym (take_all 12 bytes (omega (arith, length-take 12 bytes, ap (λ b. length b) is, text_is_short n h))) ∙ is

-- of a file that is the text of a number, the first 12 bytes are that text
pub text_read : (bytes : List ℕ) (n : ℕ) → n < 2 ^ 32 → bytes ≡ number_text n → take 12 bytes ≡ number_text n
text_read bytes n h is = take_all 12 bytes (omega (arith, ap (λ b. length b) is, text_is_short n h)) ∙ is

-- what stands before the line feed is the number
pub digits_are : (digits : List ℕ) (n : ℕ) → digits ++ 10 ∷ [] ≡ number_text n → digits ≡ decimal n
digits_are digits n is = append_cancel_right digits (decimal n) (10 ∷ []) is

-- two numbers of one text are one
pub same_number : (m n : ℕ) → m < 2 ^ 32 → n < 2 ^ 32 → number_text m ≡ number_text n → m ≡ n
same_number m n m_small n_small is =
    decimal_injective m n (omega (arith, m_small)) (omega (arith, n_small)) (digits_are (decimal m) n is)
