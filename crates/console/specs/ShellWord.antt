-- A path as a word for a shell.
use Rattle.std.specs.Prelude.{ℕ, ◌==◌, ◌++◌, ◌&&◌, ◌||◌, if◌then◌else◌, List, [], ◌∷◌, Bool, codes, encode_utf8, nat_le, nat_lt}
use Rattle.std.specs.Str.{chars}
use Rattle.std.specs.List.{flat_map, list_all, list_any}

-- a letter, a digit, or one of / . _ - + , : @
abbrev pub is_plain : ℕ → Bool
is_plain c = (nat_le 97 c && nat_le c 122) || ((nat_le 65 c && nat_le c 90) || ((nat_le 48 c && nat_le c 57)
    || list_any (λ s. s == c) (codes "/._-+,:@")))

-- a control character
abbrev pub is_control : ℕ → Bool
is_control c = nat_lt c 32 || (nat_lt 126 c && nat_lt c 160)

-- Between single quotes a character stands for itself, but for the quote: it ends there, stands behind a backslash, and they
-- begin anew. A control character is a question mark.
abbrev pub quoted_char : ℕ → List ℕ
quoted_char c = if c == 39 then codes "'\\''" else (if is_control c then codes "?" else encode_utf8 c)

abbrev pub quoted : List ℕ → List ℕ
quoted path = flat_map quoted_char (chars path)

-- what stands before a path that begins as an option does
abbrev pub before_dash : List ℕ → List ℕ
before_dash [] = []
before_dash (c ∷ path) = if c == 45 then codes "./" else []

-- the path as it stands where all is plain, and else between single quotes
abbrev pub shell_word : List ℕ → List ℕ
shell_word path = before_dash path ++ (if list_all is_plain path then path else codes "'" ++ quoted path ++ codes "'")
