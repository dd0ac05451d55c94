-- Single words.
use Rattle.std.proofs.Common.{◌≡◌, ℕ, true, List, rules, tests}
use Rattle.std.specs.Str.{IsUtf8}
use Rattle.std.proofs.lemmas.Str.{IsUtf8-from_ascii}
use Rattle.words.specs.Chars.{is_plain_name}
use Rattle.words.proofs.AsciiNames.{identifier_ascii}

-- a name is ASCII, so it is UTF-8
pub name_utf8 : (w : List ℕ) → is_plain_name w ≡ true → IsUtf8 w
unfolding is_plain_name
name_utf8 w h = IsUtf8-from_ascii w (identifier_ascii w (search (rules, tests)))
