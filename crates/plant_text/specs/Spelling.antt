-- A text that spells words.
use Rattle.std.specs.Prelude.{◌≡◌, ◌≢◌, ◌⊎◌, ℕ, ◌+◌, min, count_by, ◌==◌, ◌&&◌, ◌||◌, not, Bool, false, IsTrue, IsFalse, List, [], ◌∷◌, ◌++◌, length, take_while, slice_index_or, codes, ◌-◌}
use Rattle.std.specs.List.{flat_map, list_any, AllByRecursion}
use Rattle.std.specs.Str.{IsUtf8}
use Rattle.plant_text.specs.declared.token.Token.{Token}
use Rattle.plant_text.specs.declared.token.Token.TheVariants as token
use Rattle.plant_text.specs.declared.token.Keyword.TheVariants as key
use Rattle.plant_text.specs.Words.{is_name_char, front_len, word_of}

-- somewhere in it stands the sign that ends a comment
abbrev pub ends_comment : List ℕ → Bool
ends_comment [] = false
ends_comment (c ∷ []) = false
ends_comment (c ∷ e ∷ more) = (c == 42 && e == 41) || ends_comment (e ∷ more)

-- `(*`, any text in which a comment doesn't end, and `*)`
abbrev pub IsComment : List ℕ → Type 0
IsComment text = (inside : List ℕ) × IsFalse (ends_comment inside) × (text ≡ codes "(*" ++ inside ++ codes "*)")

-- a line feed, with a carriage return before it or none
abbrev pub IsLineEnd : List ℕ → Type 0
IsLineEnd text = (text ≡ 10 ∷ []) ⊎ (text ≡ 13 ∷ 10 ∷ [])

-- a blank, a tab, a line end or a comment
abbrev pub IsSpace : List ℕ → Type 0
IsSpace text = (text ≡ 32 ∷ []) ⊎ ((text ≡ 9 ∷ []) ⊎ (IsLineEnd text ⊎ IsComment text))

-- what may stand between words: such pieces, one after the other
abbrev pub IsGap : List ℕ → Type 0
IsGap text = (pieces : List (List ℕ)) × AllByRecursion IsSpace pieces × (text ≡ flat_map (λ piece. piece) pieces)

-- no such piece stands in front
abbrev pub BeginsNoSpace : List ℕ → Type 0
BeginsNoSpace text = (piece rest : List ℕ) → text ≡ piece ++ rest → IsSpace piece → ⊥

-- no letter or digit follows a letter or digit
abbrev pub is_parted : List ℕ → List ℕ → Bool
is_parted word rest =
    not (is_name_char (slice_index_or word (length word - 1) 32) && is_name_char (slice_index_or rest 0 32))

-- up to the end of the line
abbrev pub first_line : List ℕ → List ℕ
first_line text = take_while (λ c. not (c == 10)) text

abbrev pub is_one_line : List ℕ → Bool
is_one_line text = not (list_any (λ c. c == 10) text)

-- The only word of the line is END_PROGRAM. A comment behind it may run on.
abbrev pub IsEndLine : List ℕ → Type 0
IsEndLine line =
    (gap word rest more : List ℕ) × (line ≡ gap ++ word ++ rest)
    × IsGap gap × (word_of word ≡ token.Keyword key.EndProgram) × IsGap (rest ++ 10 ∷ more)

-- whole lines, none of which has END_PROGRAM as its only word
abbrev pub IsBody : List ℕ → Type 0
IsBody body =
    (lines : List (List ℕ)) × (body ≡ flat_map (λ line. line ++ 10 ∷ []) lines)
    × AllByRecursion (λ line. IsTrue (is_one_line line) × (IsEndLine line → ⊥)) lines

-- The text is a gap on one line, the line's end, and the rest.
abbrev pub IsBlankLine : List ℕ → List ℕ → Type 0
IsBlankLine text rest =
    (gap line_end : List ℕ) × (text ≡ gap ++ line_end ++ rest)
    × IsGap gap × IsTrue (is_one_line gap) × IsLineEnd line_end

-- The rest of a line is blank, and then comes this body, before a line of END_PROGRAM.
abbrev pub IsBodyThen : List ℕ → List ℕ → List ℕ → Type 0
IsBodyThen text body rest = IsBlankLine text (body ++ rest) × IsBody body × IsEndLine (first_line rest)

-- No body that is UTF-8 comes behind a rest of a line that is blank.
abbrev pub HasNoBodyThen : List ℕ → Type 0
HasNoBodyThen text = (body rest : List ℕ) → IsBodyThen text body rest → IsUtf8 body → ⊥

-- the next word begins no block of variables
abbrev pub BeginsNoBlock : List ℕ → Type 0
BeginsNoBlock text =
    (gap word rest : List ℕ) → text ≡ gap ++ word ++ rest → IsGap gap → IsTrue (is_parted word rest)
    → (word_of word ≢ token.Keyword key.Var) × (word_of word ≢ token.Keyword key.VarInput)
    × (word_of word ≢ token.Keyword key.VarOutput)

-- The text is these words, with gaps around them. A body begins on the line after the last word before it, and ends
-- before the line of END_PROGRAM.
abbrev pub Spells : List ℕ → List Token → Type 0
Spells text [] = IsGap text
Spells text (token.Body body ∷ more) =
    (gap line_end rest : List ℕ) × (text ≡ gap ++ line_end ++ body ++ rest)
    × BeginsNoBlock text × IsGap gap × IsTrue (is_one_line gap) × IsLineEnd line_end
    × IsBody body × IsEndLine (first_line rest) × Spells rest more
Spells text (t ∷ more) =
    (gap word rest : List ℕ) × (text ≡ gap ++ word ++ rest)
    × IsGap gap × (word_of word ≡ t) × IsTrue (is_parted word rest) × Spells rest more

-- how many line feeds there are
abbrev pub feeds : List ℕ → ℕ
feeds text = count_by (λ c. c == 10) text

-- The text begins with these words, as one that spells them does, and each of them begins on the line of its number. The
-- text's first line has this number, and behind each line feed begins a further one; none has a number above the greatest.
-- A word goes as far as there are characters of one. Of the number of the line on which the rest begins, and of the rest, this holds.
abbrev pub BeginsWithThen : (ℕ → List ℕ → Type 0) → ℕ → List ℕ → List Token → List ℕ → Type 0
BeginsWithThen Holds line text [] lines = (lines ≡ []) × Holds line text
BeginsWithThen Holds line text (t ∷ more) [] = ⊥
BeginsWithThen Holds line text (token.Body body ∷ more) (first ∷ lines) =
    (gap line_end rest : List ℕ) × (text ≡ gap ++ line_end ++ body ++ rest)
    × BeginsNoBlock text × IsGap gap × IsTrue (is_one_line gap) × IsLineEnd line_end
    × IsBody body × IsEndLine (first_line rest)
    × (first ≡ min (line + 1) 18446744073709551615) × BeginsWithThen Holds (line + 1 + feeds body) rest more lines
BeginsWithThen Holds line text (t ∷ more) (first ∷ lines) =
    (gap word rest : List ℕ) × (text ≡ gap ++ word ++ rest)
    × IsGap gap × (word_of word ≡ t) × IsTrue (is_parted word rest) × (length word ≡ front_len (word ++ rest))
    × (first ≡ min (line + feeds gap) 18446744073709551615) × BeginsWithThen Holds (line + feeds gap) rest more lines

-- The text begins with these words, each on the line of its number, whatever the rest is.
abbrev pub BeginsWith : ℕ → List ℕ → List Token → List ℕ → Type 0
BeginsWith line text words lines = BeginsWithThen (λ n rest. Unit {0}) line text words lines
