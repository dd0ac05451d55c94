-- What a browser reads of the signs of a page between two tags.
use Rattle.std.specs.Prelude.{◌≡◌, ℕ, ◌==◌, ◌||◌, ◌++◌, ◌∷◌, if◌then◌else◌, List, [], codes}
use Rattle.std.specs.Str.{bytes_eq}
use Rattle.page.specs.Page.{escaped}

-- the sign that a name between `&` and `;` stands for, or an element between `<` and `>`; of any other one nothing is said
abbrev pub sign_of : List ℕ → List ℕ
sign_of name =
    if bytes_eq name (codes "&amp;") then 38 ∷ [] else
    (if bytes_eq name (codes "&lt;") then 60 ∷ [] else
    (if bytes_eq name (codes "&gt;") then 62 ∷ [] else
    (if bytes_eq name (codes "&#13;") then 13 ∷ [] else
    (if bytes_eq name (codes "<wbr>") then 0 ∷ [] else []))))

-- what is read behind the signs of a name that has begun, if one has: it goes on to `;` or `>`; any other sign is itself
unfoldable pub unescaped : List ℕ → List ℕ → List ℕ
unescaped begun [] = []
unescaped [] (c ∷ page) =
    if (c == 38) || (c == 60) then unescaped (c ∷ []) page else c ∷ unescaped [] page
unescaped (b ∷ begun) (c ∷ page) =
    if (c == 59) || (c == 62) then sign_of (b ∷ begun ++ c ∷ []) ++ unescaped [] page else unescaped (b ∷ begun ++ c ∷ []) page

-- A browser reads of an escaped text the text, whatever its signs are.
abbrev pub ReadAsWritten : Type 0
ReadAsWritten = (text : List ℕ) → unescaped [] (escaped text) ≡ text
