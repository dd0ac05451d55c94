-- What a node leaves that answers the lines of a source.
use Rattle.std.specs.Prelude.{◌≡◌, ℕ, ◌<◌, ◌≤◌, ◌++◌, ◌⊎◌, List, [], ◌∷◌, Option, length, reverse}
use Rattle.std.specs.Io.KnownBytes.{Appends, Consumes, IsAtEnd}
use Rattle.words.specs.Lines.{lines_of}
use Rattle.text_lines.specs.Lines.{HasNoFeed}
use Rattle.live_node.specs.declared.line_refusal.LineRefusal.TheVariants.{TooLong}
use Rattle.live_node.specs.NodeValue.{NodeValue}
use Rattle.live_node.specs.NodeAnswers.{Raising, Answers, IsRefused}

-- a line is answered: as it asks, or, if it has more than 16,777,216 bytes, by a refusal
abbrev pub AnswersLine : Raising → NodeValue → NodeValue → List ℕ → List ℕ → List ℕ → Type 0
AnswersLine raising old new line note text =
    ((length line ≤ 16777216) × Answers raising old new line note text)
    ⊎ ((16777216 < length line) × IsRefused old new note text TooLong)

-- Lines were answered one after the other; the newest stands first. This was noted for them, and written.
abbrev pub HaveAnswered : Raising → NodeValue → List (List ℕ) → NodeValue → List ℕ → List ℕ → Type 0
HaveAnswered raising first [] last notes text = (last ≡ first) × (notes ≡ []) × (text ≡ [])
HaveAnswered raising first (line ∷ before) last notes text =
    (s : NodeValue) × (earlier_notes earlier_text note answer : List ℕ)
    × HaveAnswered raising first before s earlier_notes earlier_text × AnswersLine raising s last line note answer
    × (notes ≡ earlier_notes ++ note) × (text ≡ earlier_text ++ answer)

-- All that the source had left are lines, each of which was answered, in order; what was noted is their notes, and what
-- was written is what the start wrote and their answers, and nothing else.
pub record WritesNode (raising : Raising) (first last : NodeValue) (begun : List ℕ)
    (given left noted_old noted_new from to : Option (List ℕ)) : Type 0 where
  pub bytes : List ℕ
  pub read : Consumes given left bytes
  pub end : IsAtEnd left
  pub notes : List ℕ
  pub text : List ℕ
  pub answered : HaveAnswered raising first (reverse (lines_of bytes)) last notes text
  pub noted : Appends noted_old noted_new notes
  pub written : Appends from to (begun ++ text)

-- What was read so far is whole lines, each of which was answered, in order, and perhaps the beginning of another; what
-- was written is what the start wrote and their answers, and nothing else.
pub record HasAnsweredSoFar (raising : Raising) (first : NodeValue) (begun : List ℕ)
    (given left from to : Option (List ℕ)) : Type 0 where
  pub lines : List (List ℕ)
  pub whole : List ℕ
  pub part : List ℕ
  pub lines_are : lines ≡ lines_of whole
  pub plain : HasNoFeed part
  pub read : Consumes given left (whole ++ part)
  pub last : NodeValue
  pub notes : List ℕ
  pub text : List ℕ
  pub answered : HaveAnswered raising first (reverse lines) last notes text
  pub written : Appends from to (begun ++ text)
