-- A text within XML.
use Rattle.std.specs.Prelude.{ℕ, ◌<◌, ◌==◌, ◌||◌, if◌then◌else◌, List, Bool, codes, encode_utf8, nat_lt}
use Rattle.std.specs.List.{flat_map}
use Rattle.std.specs.Str.{chars}

-- no document of XML has this character
abbrev pub is_no_xml : ℕ → Bool
is_no_xml c = nat_lt c 32 || (c == 65534 || c == 65535)

-- `<`, `>` and `&` by their names; a question mark for what XML doesn't have
abbrev pub escaped_char : ℕ → List ℕ
escaped_char c =
    if c == 60 then codes "&lt;" else
    (if c == 62 then codes "&gt;" else (if c == 38 then codes "&amp;" else (if is_no_xml c then codes "?" else encode_utf8 c)))

abbrev pub escaped : List ℕ → List ℕ
escaped text = flat_map escaped_char (chars text)
