-- The words of texts that are put together.
use Rattle.std.proofs.Common.{◌≡◌, ℕ, ◌^◌, ◌<◌, ◌≤◌, Bool, true, false, not, cond, List, [], ◌∷◌, ◌++◌, All, decimal, eqb, filter, get_or, length, ap, ◌∙◌, arith}
use Rattle.std.specs.Char.{is_ascii_whitespace}
use Rattle.std.specs.Fmt.{digits}
use Rattle.std.specs.List.{slice_split}
use Rattle.std.specs.Str.Parse.{AllDigits}
use Rattle.std.proofs.lemmas.Bool.{ne_eqb}
use Rattle.std.proofs.lemmas.Bool.Decides.{nat_tests}
use Rattle.std.proofs.lemmas.Fmt.{digits_is_IsNumeral}
use Rattle.std.proofs.lemmas.List.Splits.{slice_split_at}
use Rattle.std.proofs.lemmas.List.Elements.{All-cons, All-nil}
use Rattle.std.proofs.lemmas.Str.Parse.{digit_from_value}
use Rattle.traces.specs.Reader.{words_of}

-- a word: some characters, none of them white
pub record IsOneWord (w : List ℕ) : Type 0 where
  pub some : 0 < length w
  pub one : All (λ c. 32 < c) w

black : (c : ℕ) → 32 < c → is_ascii_whitespace c ≡ false
black c above = grind (arith, nat_tests)

abbrev some_chars : List ℕ → Bool
some_chars w = not (eqb (length w) 0)

kept : (w : List ℕ) (more : List (List ℕ)) → 0 < length w → filter some_chars (w ∷ more) ≡ w ∷ filter some_chars more
kept w more some = ap (λ b. cond (not b) (w ∷ filter some_chars more) (filter some_chars more)) (ne_eqb (length w) 0 (λ e. omega arith))

-- a word, white space, and what follows
pub word_then : (w : List ℕ) (c : ℕ) (rest : List ℕ) → IsOneWord w → is_ascii_whitespace c ≡ true → words_of (w ++ c ∷ rest) ≡ w ∷ words_of rest
word_then w c rest is white =
    ap (filter some_chars) (slice_split_at is_ascii_whitespace w c rest (λ k d lt. black (get_or w k d) (is.one k d lt)) white)
    ∙ kept w (slice_split is_ascii_whitespace rest) is.some

-- digits are a word
above_blank : (radix : ℕ) (ds : List ℕ) → radix ≤ 10 → AllDigits radix ds → All (λ c. 32 < c) ds
above_blank radix [] low all = All-nil (λ c. 32 < c)
above_blank radix (c ∷ ds) low all =
    let digit = digit_from_value c (omega (arith, low, all.0)) in
    All-cons (λ c. 32 < c) c ds (omega (arith, digit)) (above_blank radix ds low all.1)

pub digits_word : (radix n : ℕ) → radix ≤ 10 → 2 ≤ radix → n < radix ^ 64 → IsOneWord (digits radix false n)
digits_word radix n low high small =
    let is = (digits_is_IsNumeral radix false high (omega arith) n small).0 in
    record { some = is.0; one = above_blank radix (digits radix false n) low is.1 }

-- a character before a word
pub longer_word : (c : ℕ) (w : List ℕ) → 32 < c → IsOneWord w → IsOneWord (c ∷ w)
longer_word c w above is = record { some = omega arith; one = All-cons (λ x. 32 < x) c w above is.one }

pub code_word : (c n : ℕ) → 32 < c → n < 2 ^ 64 → IsOneWord (c ∷ decimal n)
code_word c n above small = longer_word c (decimal n) above (digits_word 10 n (omega arith) (omega arith) (omega arith))
