-- What a text begins with, as the lexer finds it.
use Rattle.std.specs.Prelude.{ℕ, ◌≡◌, ◌==◌, ◌&&◌, ◌||◌, if◌then◌else◌, List, [], ◌∷◌, ◌++◌, Option, Some, None}
use Rattle.plant_text.specs.Spelling.{IsGap}

-- what is left behind the first sign that ends a comment
abbrev pub behind_comment : List ℕ → Option (List ℕ)
behind_comment [] = None
behind_comment (c ∷ []) = None
behind_comment (c ∷ e ∷ more) = if c == 42 && e == 41 then Some more else behind_comment (e ∷ more)

-- the same, where the text in front of it is the one behind a parenthesis
abbrev pub behind_star : List ℕ → Option (List ℕ)
behind_star [] = None
behind_star (c ∷ more) = if c == 42 then behind_comment more else None

-- what is left behind a line feed
abbrev pub behind_feed : List ℕ → Option (List ℕ)
behind_feed [] = None
behind_feed (c ∷ more) = if c == 10 then Some more else None

-- what is left behind one blank, tab, line end or comment
abbrev pub behind_space : List ℕ → Option (List ℕ)
behind_space [] = None
behind_space (c ∷ more) =
    if c == 32 || (c == 9 || c == 10) then Some more
    else (if c == 13 then behind_feed more else (if c == 40 then behind_star more else None))

-- What is left behind a gap, and begins with no further one.
abbrev pub IsBehindGap : List ℕ → List ℕ → Type 0
IsBehindGap text rest = (gap : List ℕ) × (text ≡ gap ++ rest) × IsGap gap × (behind_space rest ≡ None)
