-- What the lexer asks of a text, and promises of one word.
use Rattle.std.specs.Prelude.{ℕ, ◌+◌, ◌-◌, ◌≤◌, min, take, length, slice_index_or, MatchOption, ◌≡◌, ◌≢◌, ◌⊎◌, ◌==◌, ◌&&◌, ◌||◌, not, map, Bool, true, false, List, [], ◌∷◌, ◌++◌, Option, Some, None, take_while}
use Rattle.std.specs.Str.{IsUtf8}
use Rattle.plant_text.specs.declared.token.Token.{Token}
use Rattle.plant_text.specs.declared.token.Token.TheVariants as token
use Rattle.plant_text.specs.declared.token.Keyword.{Keyword}
use Rattle.plant_text.specs.declared.token.Keyword.TheVariants as key
use Rattle.plant_text.specs.declared.lexer.Stage.{Stage}
use Rattle.plant_text.specs.declared.lexer.Stage.TheVariants as stage
use Rattle.plant_text.specs.Words.{front_len, is_name_char, word_of}
use Rattle.plant_text.specs.Spelling.{is_parted, IsGap, IsBody, IsBlankLine, IsBodyThen, first_line, IsEndLine, feeds, Spells, BeginsWithThen, BeginsNoBlock}
use Rattle.plant_text.specs.Places.{stage_after, is_body, FitsPlace}
pub use Rattle.plant_text.specs.Places.{stage_behind, is_due}
use Rattle.plant_text.specs.Lines.{WordValue, body_line, IsUnknownWord, OpensComment, BeginsBlank, HasNoWord}

-- the letters, digits and underscores that a text begins with
abbrev pub letters : List ℕ → List ℕ
letters text = take_while is_name_char text

-- the keywords that begin a block of variables
abbrev pub begins_block : Option Keyword → Bool
begins_block (Some key.Var) = true
begins_block (Some key.VarInput) = true
begins_block (Some key.VarOutput) = true
begins_block _ = false

-- nothing, a carriage return, or a comment that runs on behind the line
abbrev pub may_run_on : List ℕ → Bool
may_run_on [] = true
may_run_on (c ∷ []) = c == 13
may_run_on (c ∷ e ∷ more) = c == 40 && e == 42

-- The text begins with no blank line.
abbrev pub HasNoBlankLine : List ℕ → Type 0
HasNoBlankLine text = (rest : List ℕ) → IsBlankLine text rest → ⊥

-- The text is its first line, the line feed behind that, and the rest.
abbrev pub IsBehindLine : List ℕ → List ℕ → Type 0
IsBehindLine text rest = text ≡ first_line text ++ 10 ∷ rest

-- The text is a body and the rest.
abbrev pub IsBehindBody : List ℕ → List ℕ → Type 0
IsBehindBody text rest = (body : List ℕ) × (text ≡ body ++ rest) × IsBody body

-- The text is a body and the rest, which begins with a line of END_PROGRAM.
abbrev pub IsBehindWholeBody : List ℕ → List ℕ → Type 0
IsBehindWholeBody text rest = IsBehindBody text rest × IsEndLine (first_line rest)

-- No body in front of the text ends before a line of END_PROGRAM.
abbrev pub HasNoBody : List ℕ → Type 0
HasNoBody text = (rest : List ℕ) → IsBehindBody text rest → IsEndLine (first_line rest) → ⊥

-- the part of a text that lies before the rest
abbrev pub part_before : List ℕ → List ℕ → List ℕ
part_before text rest = take (length text - length rest) text

-- this is the part, unless that isn't UTF-8
abbrev pub IsPart : List ℕ → Option (List ℕ) → Type 0
IsPart part body = MatchOption body (IsUtf8 part → ⊥) (λ b. b ≡ part)

-- The text is a word, and the rest behind it.
abbrev pub IsWordThen : List ℕ → Token → List ℕ → Type 0
IsWordThen text t rest =
    (word : List ℕ) × (text ≡ word ++ rest) × (word_of word ≡ t) × (is_parted word rest ≡ true)
    × (length word ≡ front_len text)

-- The text is a word, if it is a known one, and the rest behind it.
abbrev pub IsKnownThen : List ℕ → Token → List ℕ → Type 0
IsKnownThen text t rest = t ≢ token.Unknown → IsWordThen text t rest

-- The text spells this word and then what the rest spells.
abbrev pub IsFirstWord : List ℕ → Token → List ℕ → Type 0
IsFirstWord text t rest = t ≢ token.Unknown → (more : List Token) → Spells rest more → Spells text (t ∷ more)

-- the next word of the text and what is left behind it; none where only a gap is left
abbrev pub FindsFirstWord : List ℕ → Option WordValue → List ℕ → Type 0
FindsFirstWord text next rest = MatchOption next (IsGap text) (λ w. IsFirstWord text w.token rest)

-- what is left of a text, the number of the line on which it begins, where its first word stands, how many bodies lie
-- before it, and the number of the last line
pub record LexerValue : Type 0 where
  pub text : List ℕ
  pub line : ℕ
  pub stage : Stage
  pub bodies : ℕ
  pub last : ℕ

-- the number of the line on which the rest of a text begins
abbrev pub line_behind : LexerValue → List ℕ → ℕ
line_behind l rest = min (l.line + feeds (part_before l.text rest)) 18446744073709551615

-- This is left of a text, and begins on a line of this number.
abbrev pub IsLeft : ℕ → List ℕ → ℕ → List ℕ → Type 0
IsLeft n left line rest = (line ≡ n) × (rest ≡ left)

-- If this is a word, the text begins with it, on its line, and then the rest is left. Lines are counted on.
abbrev pub StandsFirst : LexerValue → WordValue → LexerValue → Type 0
StandsFirst old w new = w.token ≢ token.Unknown → (n : ℕ) → old.line ≡ min n 18446744073709551615
    → (m : ℕ) × (new.line ≡ min m 18446744073709551615)
    × BeginsWithThen (IsLeft m new.text) n old.text (w.token ∷ []) (w.line ∷ [])

-- If this is a word, the next one stands where one does behind it, and no body but itself is counted.
abbrev pub MovesOn : LexerValue → WordValue → LexerValue → Type 0
MovesOn old w new = w.token ≢ token.Unknown
    → (new.stage ≡ stage_after old.stage w.token) × (new.bodies ≤ old.bodies + length (body_line w))

-- If this is unknown, what stands behind the text's gap is no word, or a comment that doesn't end, for which the last line
-- is told.
abbrev pub FindsNoWord : LexerValue → WordValue → Type 0
FindsNoWord old w = w.token ≡ token.Unknown → (n : ℕ) → old.line ≡ min n 18446744073709551615
    → IsUnknownWord n old.text w.line ⊎ (OpensComment old.text × (w.line ≡ old.last))

-- If this is unknown, it is on the line that is told where there is no body.
abbrev pub IsToldThere : LexerValue → WordValue → Type 0
IsToldThere old w = w.token ≡ token.Unknown
    → ((BeginsBlank old.text → ⊥) × (w.line ≡ old.line)) ⊎ (BeginsBlank old.text × (w.line ≡ old.last))

-- If this is unknown, no word stands in front of the text.
abbrev pub StopsAt : LexerValue → WordValue → Type 0
StopsAt old w = w.token ≡ token.Unknown → (n : ℕ) → old.line ≡ min n 18446744073709551615
    → HasNoWord old.last (is_due old.stage) old.bodies n old.text w.line

-- VAR, VAR_INPUT or VAR_OUTPUT
abbrev pub is_section : Token → Bool
is_section (token.Keyword k) = begins_block (Some k)
is_section _ = false

-- If this is a word, it is no body, and where a block of variables begins, it begins one.
abbrev pub IsNoBodyThere : LexerValue → WordValue → Type 0
IsNoBodyThere old w = w.token ≢ token.Unknown
    → (is_body w.token ≡ false) × ((BeginsNoBlock old.text → ⊥) → is_section w.token ≡ true)

-- If this is a word, it fits its place.
abbrev pub StandsInPlace : LexerValue → WordValue → Type 0
StandsInPlace old w = w.token ≢ token.Unknown → FitsPlace (is_due old.stage) w.token

-- what may follow a word without a gap: `#` and `=` don't, since they would be part of it, nor does `*`
abbrev pub may_follow : List ℕ → Bool
may_follow rest =
    not (slice_index_or rest 0 32 == 35 || (slice_index_or rest 0 32 == 61 || slice_index_or rest 0 32 == 42))

-- a known word in front of a text, and the rest behind it
abbrev pub IsWhole : List ℕ → List ℕ → List ℕ → Type 0
IsWhole text word rest =
    (text ≡ word ++ rest) × (word_of word ≢ token.Unknown) × (is_parted word rest ≡ true) × (may_follow rest ≡ true)

-- a word that isn't read as a body and begins no body, where it stands
abbrev pub IsInPlace : Stage → ℕ → Token → Type 0
IsInPlace s bodies t = (t ≢ token.Unknown) × (is_due s ≡ true → (is_section t ≡ true) × (bodies ≤ 64))

-- Where the first word stands so, and so many bodies lie before it: bodies stand where they are due and nowhere else,
-- the 65th is the last, and no word is unknown.
abbrev pub AreInPlace : Stage → ℕ → List Token → Type 0
AreInPlace s bodies [] = is_due s ≡ false
AreInPlace s bodies (token.Body body ∷ more) =
    (is_due s ≡ true) × (bodies ≤ 64) × AreInPlace stage.Outside (bodies + 1) more
AreInPlace s bodies (t ∷ more) = IsInPlace s bodies t × AreInPlace (stage_behind t s) bodies more

-- Each word of a plant stands where the text may have it.
abbrev pub AreWordsInPlace : List Token → Type 0
AreWordsInPlace ts = AreInPlace stage.Outside 0 ts

-- if it is a body, it is UTF-8
abbrev pub IsText : Token → Type 0
IsText (token.Body body) = IsUtf8 body
IsText _ = Unit {0}

-- The word was read, and this is left, where the next word stands so, behind so many bodies.
pub record IsReadAs (found : Option WordValue) (t : Token) (new : LexerValue) (rest : List ℕ) (s : Stage)
    (bodies : ℕ) : Type 0 where
  pub word : WordValue
  pub is : found ≡ Some word
  pub token_is : word.token ≡ t
  pub text_is : new.text ≡ rest
  pub stage_is : new.stage ≡ s
  pub bodies_are : new.bodies ≡ bodies

-- A known word behind a gap is read.
abbrev pub ReadsWord : LexerValue → Option WordValue → LexerValue → Type 0
ReadsWord old found new =
    (gap word rest : List ℕ) → old.text ≡ gap ++ word ++ rest → IsGap gap → word_of word ≢ token.Unknown
    → is_parted word rest ≡ true → may_follow rest ≡ true
    → IsReadAs found (word_of word) new rest (stage_behind (word_of word) old.stage) old.bodies

-- A body that is UTF-8 is read.
abbrev pub ReadsBody : LexerValue → WordValue → LexerValue → Type 0
ReadsBody old w new =
    (body rest : List ℕ) → IsBodyThen old.text body rest → IsUtf8 body → old.bodies ≤ 64
    → IsReadAs (Some w) (token.Body body) new rest stage.Outside (old.bodies + 1)

-- the word was read, and the others are left
pub record IsReadBefore (found : Option WordValue) (t : Token) (more : List Token) (new : LexerValue) : Type 0 where
  pub word : WordValue
  pub is : found ≡ Some word
  pub token_is : word.token ≡ t
  pub spelled : Spells new.text more
  pub after : AreInPlace new.stage new.bodies more

-- Of words that the text spells, each in its place, the first is read.
abbrev pub ReadsFirst : LexerValue → Option WordValue → LexerValue → Type 0
ReadsFirst old found new =
    (t : Token) (more : List Token) → Spells old.text (t ∷ more) → AreInPlace old.stage old.bodies (t ∷ more)
    → IsText t → IsReadBefore found t more new

-- Where the text has no further word, none is read.
abbrev pub ReadsNone : LexerValue → Option WordValue → Type 0
ReadsNone old found = IsGap old.text → is_due old.stage ≡ false → found ≡ None

-- If the text spells words, each in its place, these are the words.
abbrev pub AreAllWords : List ℕ → List WordValue → Type 0
AreAllWords text ws =
    (ts : List Token) → AreWordsInPlace ts → Spells text ts → map (λ (w : WordValue). w.token) ws ≡ ts
