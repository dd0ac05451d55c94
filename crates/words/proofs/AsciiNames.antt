-- The characters of an identifier are ASCII.
use Rattle.std.proofs.Common.{ℕ, ◌<◌, ◌≡◌, List, [], ◌∷◌, true, rules, tests}
use Rattle.std.proofs.lemmas.Str.Ascii.{IsAscii-nil, IsAscii-cons}
use Rattle.std.specs.Str.{IsAscii}
use Rattle.words.specs.Chars.{is_letter_or_digit, is_rest, is_identifier}

pub letter_small : (c : ℕ) → is_letter_or_digit c ≡ true → c < 128
letter_small c h = search (rules, tests)

pub rest_ascii : (w : List ℕ) → is_rest w ≡ true → IsAscii w
rest_ascii [] h = IsAscii-nil
rest_ascii (c ∷ []) h = IsAscii-cons c [] (letter_small c h) IsAscii-nil
rest_ascii (c ∷ e ∷ more) h = IsAscii-cons c (e ∷ more) (search (rules, tests)) (rest_ascii (e ∷ more) (search (rules, tests)))

pub identifier_ascii : (w : List ℕ) → is_identifier w ≡ true → IsAscii w
unfolding is_identifier
identifier_ascii w h = rest_ascii w (search (rules, tests))
