-- The page of a text.
use Rattle.std.specs.Prelude.{ℕ, ◌==◌, ◌++◌, ◌∷◌, if◌then◌else◌, List, [], codes, encode_utf8}
use Rattle.std.specs.List.{flat_map}
use Rattle.std.specs.Str.{chars}
use Rattle.page.specs.declared.page_text.TheConstants as part

-- `&`, `<` and `>` by their names; a carriage return by its number, since HTML has line feeds alone; a NUL, which HTML can't
-- hold, as an element that shows nothing
abbrev pub escaped_sign : ℕ → List ℕ
escaped_sign c =
    if c == 38 then codes "&amp;" else
    (if c == 60 then codes "&lt;" else
    (if c == 62 then codes "&gt;" else
    (if c == 13 then codes "&#13;" else
    (if c == 0 then codes "<wbr>" else c ∷ []))))

abbrev pub escaped : List ℕ → List ℕ
escaped text = flat_map escaped_sign text

-- what stands before every text, the text, and what stands behind it
abbrev pub page_of : List ℕ → List ℕ
page_of text = (part.HEAD.now ++ flat_map encode_utf8 (escaped (chars text))) ++ part.FOOT.now
