-- Words of a plant's text with the lines that they begin on.
use Rattle.std.specs.Prelude.{◌≡◌, ◌≢◌, ◌⊎◌, ◌<◌, ◌+◌, ◌++◌, ℕ, min, Bool, IsTrue, IsFalse, map, All, List, [], ◌∷◌, length, take, codes}
use Rattle.std.specs.List.{flat_map}
use Rattle.plant_text.specs.declared.token.Token.{Token}
use Rattle.plant_text.specs.declared.token.Token.TheVariants as token
use Rattle.words.specs.Lines.{without_last}
use Rattle.plant_text.specs.Words.{front_len, word_of}
use Rattle.plant_text.specs.Spelling.{ends_comment, IsGap, first_line, BeginsNoSpace, BeginsNoBlock, HasNoBodyThen, Spells, feeds, BeginsWithThen, BeginsWith}
use Rattle.plant_text.specs.Places.{is_body_due, FitsPlace}

-- a word, and the line that it begins on
pub record WordValue : Type 0 where
  pub token : Token
  pub line : ℕ

-- the number of a text's last line: one behind each line feed, but behind one at the end
abbrev pub last_line : List ℕ → ℕ
last_line text = min (feeds (without_last 10 text) + 1) 18446744073709551615

-- the line of a word, if it is a body
abbrev pub body_line : WordValue → List ℕ
body_line w = of_token w.token where
  of_token : Token → List ℕ
  of_token (token.Body body) = w.line ∷ []
  of_token _ = []

-- the lines of the bodies among words
abbrev pub body_lines : List WordValue → List ℕ
body_lines ws = flat_map body_line ws

-- If all of these are words, the text spells them.
abbrev pub IsSpelledBy : List ℕ → List WordValue → Type 0
IsSpelledBy text ws =
    All (λ t. t ≢ token.Unknown) (map (λ (w : WordValue). w.token) ws)
    → Spells text (map (λ (w : WordValue). w.token) ws)

-- The text begins with these words, each on its line. Of the number of the line on which the rest begins, and of the
-- rest, this holds.
abbrev pub BeginsWithWordsThen : (ℕ → List ℕ → Type 0) → List ℕ → List WordValue → Type 0
BeginsWithWordsThen Holds text ws =
    BeginsWithThen Holds 1 text (map (λ (w : WordValue). w.token) ws) (map (λ (w : WordValue). w.line) ws)

-- The text begins with these words, each on its line.
abbrev pub BeginsWithWords : List ℕ → List WordValue → Type 0
BeginsWithWords text ws =
    BeginsWith 1 text (map (λ (w : WordValue). w.token) ws) (map (λ (w : WordValue). w.line) ws)

-- So it does with each front of these words, as far as they are words.
abbrev pub IsBegunBy : List ℕ → List WordValue → Type 0
IsBegunBy text ws =
    (front back : List WordValue) → ws ≡ front ++ back
    → All (λ t. t ≢ token.Unknown) (map (λ (w : WordValue). w.token) front) → BeginsWithWords text front

-- Behind the whole gap that the text begins with stands what is no word, and begins on this line. The text's first line
-- has the number n.
abbrev pub IsUnknownWord : ℕ → List ℕ → ℕ → Type 0
IsUnknownWord n text line =
    (gap more : List ℕ) × (text ≡ gap ++ more) × IsGap gap × BeginsNoSpace more
    × (more ≢ []) × (word_of (take (front_len more) more) ≡ token.Unknown)
    × (line ≡ min (n + feeds gap) 18446744073709551615)

-- Behind a gap begins a comment that doesn't end.
abbrev pub OpensComment : List ℕ → Type 0
OpensComment text =
    (gap inside : List ℕ) × (text ≡ gap ++ codes "(*" ++ inside) × IsGap gap × IsFalse (ends_comment inside)

-- A body is due, something is left, and that begins no block of variables.
abbrev pub IsBodyPlace : Bool → List ℕ → Type 0
IsBodyPlace due text = IsTrue due × (text ≢ []) × BeginsNoBlock text

-- Only a gap is left of the text's first line, but for a carriage return at its end.
abbrev pub BeginsBlank : List ℕ → Type 0
BeginsBlank text = IsGap (without_last 13 (first_line text))

-- Where there is no body, this is the number of the text's first line, if more than a gap is left of that; else the last.
abbrev pub IsLineOfNoBody : ℕ → ℕ → List ℕ → ℕ → Type 0
IsLineOfNoBody last n text line =
    ((BeginsBlank text → ⊥) × (line ≡ min n 18446744073709551615)) ⊎ (BeginsBlank text × (line ≡ last))

-- Why no word stands in front of a text whose first line has the number n, where a body is due or not, behind so many
-- bodies, and the line of that. The last line has this number.
pub data HasNoWord (last : ℕ) (due : Bool) (bodies : ℕ) (n : ℕ) (text : List ℕ) (line : ℕ) : Type 0 where
  -- what stands there is no word, and begins on the line
  unknown_word : (IsBodyPlace due text → ⊥) → IsUnknownWord n text line → HasNoWord last due bodies n text line
  -- a comment doesn't end: the last line
  open_comment : (IsBodyPlace due text → ⊥) → OpensComment text → line ≡ last → HasNoWord last due bodies n text line
  -- there is no body
  no_body : IsBodyPlace due text → HasNoBodyThen text → IsLineOfNoBody last n text line
      → HasNoWord last due bodies n text line
  -- a further body is due behind more than 64: the text's first line
  many_bodies : IsTrue due → text ≢ [] → 64 < bodies → line ≡ min n 18446744073709551615
      → HasNoWord last due bodies n text line

-- This is why no word stands behind these words, where the rest of the text begins.
abbrev pub HasNoWordBehind : ℕ → List WordValue → ℕ → List ℕ → ℕ → Type 0
HasNoWordBehind last front n rest line =
    HasNoWord last (is_body_due (map (λ (w : WordValue). w.token) front)) (length (body_lines front)) n rest line

-- If the last of these words is unknown, the text begins with those before it, each on its line, and then with no word.
abbrev pub IsStoppedBy : ℕ → List ℕ → List WordValue → Type 0
IsStoppedBy last text ws =
    (front : List WordValue) (w : WordValue) → ws ≡ front ++ w ∷ [] → w.token ≡ token.Unknown
    → BeginsWithWordsThen (λ n rest. HasNoWordBehind last front n rest w.line) text front

-- All of these but the last are words.
abbrev pub AreWordsButLast : List WordValue → Type 0
AreWordsButLast ws =
    (front : List WordValue) (w : WordValue) → ws ≡ front ++ w ∷ []
    → All (λ t. t ≢ token.Unknown) (map (λ (w : WordValue). w.token) front)

-- Each of these that is a word fits its place behind those before it.
abbrev pub AreInTheirPlaces : List WordValue → Type 0
AreInTheirPlaces ws =
    (front back : List WordValue) (w : WordValue) → ws ≡ front ++ w ∷ back → w.token ≢ token.Unknown
    → FitsPlace (is_body_due (map (λ (w : WordValue). w.token) front)) w.token
