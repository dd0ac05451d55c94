-- The text of a schedule with EXPECT lines. Lines and what is written for them stand newest first, as in a history.
use Rattle.std.specs.Prelude.{◌≡◌, ◌≢◌, ℕ, ◌++◌, ◌||◌, if◌then◌else◌, Bool, true, false, not, List, [], ◌∷◌, reverse}
use Rattle.std.specs.List.{AllZip, flat_map, list_any}
use Rattle.plant.specs.PlantValue.{PlantValue}
use Rattle.evaluation.specs.Meaning.{Evaluated}
use Rattle.world.specs.declared.event.Event.{Event}
use Rattle.world.specs.History.{Setting, history_of}
use Rattle.world.specs.Run.{IsRun}
use Rattle.world.specs.RunText.{IsRunText}
use Rattle.world.specs.ScheduleText.{Spell}
use Rattle.tested_schedules.specs.declared.answer.Answer.{Answer}
use Rattle.tested_schedules.specs.Expectations.{IsAnswer, answer_line, expected_words, is_expectation}

-- what is written for a line: the text of an event, which is empty for a blank line or a comment, or the answers to an
-- EXPECT line
pub data Piece : Type 0 where
  of_event : List ℕ → Piece
  of_answers : List Answer → Piece

-- its text: a line for each answer
abbrev pub piece_text : PlantValue → Piece → List ℕ
piece_text plant (of_event text) = text
piece_text plant (of_answers answers) = flat_map (answer_line plant) answers

-- some of these answers is unmet
abbrev pub are_unmet : List Answer → Bool
are_unmet answers = list_any (λ (a : Answer). not a.is_met) answers

-- the whole text
abbrev pub tested_text : PlantValue → List Piece → List ℕ
tested_text plant [] = []
tested_text plant (piece ∷ before) = tested_text plant before ++ piece_text plant piece

-- the text of the events alone
abbrev pub events_text : List Piece → List ℕ
events_text [] = []
events_text (of_event text ∷ before) = events_text before ++ text
events_text (of_answers answers ∷ before) = events_text before

-- some expectation was unmet
abbrev pub has_unmet : List Piece → Bool
has_unmet [] = false
has_unmet (of_event text ∷ before) = has_unmet before
has_unmet (of_answers answers ∷ before) = has_unmet before || are_unmet answers

-- the lines that are no EXPECT lines, in their order
abbrev pub event_lines : List (List (List ℕ)) → List (List (List ℕ))
event_lines [] = []
event_lines (line ∷ earlier) =
    if is_expectation line then event_lines earlier else event_lines earlier ++ line ∷ []

-- without its EXPECT lines it is the text of the run of the events that the other lines spell
pub record IsRunOf (s : Setting) (lines : List (List (List ℕ))) (pieces : List Piece) : Type 0 where
  pub events : List Event
  pub spelled : Spell s.plant events (event_lines lines)
  pub told : IsRunText s events (events_text pieces)

-- the answers to an EXPECT line, by the run of the events before it
pub record AreAnswers (s : Setting) (earlier : List (List (List ℕ))) (line : List (List ℕ)) (answers : List Answer)
    : Type 0 where
  pub events : List Event
  pub spelled : Spell s.plant events (event_lines earlier)
  pub log : List Evaluated
  pub run : IsRun s events log
  pub some : expected_words line ≢ []
  pub each : AllZip (IsAnswer s (history_of s events) (reverse log)) (expected_words line) answers

-- what is written for a line behind those before it
abbrev pub IsPiece : Setting → List (List (List ℕ)) → List Piece → List (List ℕ) → Piece → Type 0
IsPiece s earlier before line (of_event text) = (is_expectation line ≡ false) × IsRunOf s (line ∷ earlier) (of_event text ∷ before)
IsPiece s earlier before line (of_answers answers) = (is_expectation line ≡ true) × AreAnswers s earlier line answers

-- what is written for these lines, piece by piece
abbrev pub ArePieces : Setting → List (List (List ℕ)) → List Piece → Type 0
ArePieces s [] [] = Unit {0}
ArePieces s [] (piece ∷ before) = ⊥
ArePieces s (line ∷ earlier) [] = ⊥
ArePieces s (line ∷ earlier) (piece ∷ before) = ArePieces s earlier before × IsPiece s earlier before line piece

-- The text of these lines, in order, and whether an expectation in them was unmet.
pub record IsTested (s : Setting) (lines : List (List (List ℕ))) (text : List ℕ) (unmet : Bool) : Type 0 where
  pub pieces : List Piece
  pub told : ArePieces s (reverse lines) pieces
  pub text_is : text ≡ tested_text s.plant pieces
  pub unmet_is : unmet ≡ has_unmet pieces
