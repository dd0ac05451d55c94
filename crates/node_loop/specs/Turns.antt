-- What a node does that runs by itself: turns, one after the other.
use Rattle.std.specs.Prelude.{◌≡◌, ℕ, ◌<◌, ◌≤◌, ◌&&◌, not, Bool, true, false, List, [], ◌∷◌, Option, Some, None}
use Rattle.std.specs.Io.KnownBytes.{Appends, Keeps}
use Rattle.plant.specs.PlantValue.{PlantValue}
use Rattle.evaluation.specs.declared.field_input.FieldInput.{FieldInput}
use Rattle.live_node.specs.NodeValue.{NodeValue}
use Rattle.live_node.specs.NodeAnswers.{Raising}
use Rattle.cycle.specs.declared.asked.Asked.{Asked}
use Rattle.cycle.specs.declared.field_refusal.FieldRefusal.TheVariants.{TooLong as LineTooLong}
use Rattle.cycle.specs.declared.origin.Origin.{Origin}
use Rattle.cycle.specs.declared.origin.Origin.TheVariants.{Field, Neighbours}
use Rattle.cycle.specs.Cycle.{CycleValue}
use Rattle.cycle.specs.FieldTexts.{ended_line, refused_line}
use Rattle.cycle.specs.Origins.{verdict_of, word_of_line}
use Rattle.field_node.specs.FieldAnswers.{Answering, answering, AsksOf, IsAnsweredFrom, IsDone}
use Rattle.field_node.specs.FieldNodes.{inlets_of}
use Rattle.node_loop.specs.declared.ending.Ending.{Ending}
use Rattle.node_loop.specs.declared.told.Told.{Told}
use Rattle.node_loop.specs.declared.told.Told.TheVariants.{Line, TooLong, End, Unread}
use Rattle.node_loop.specs.Given.{Turn, Reads, Takes, with_turn, is_end, is_closing}

-- what stays while a loop makes its turns: the plant and the resource of its node, and whether that has a field
pub record Setting : Type 0 where
  pub plant : PlantValue
  pub resource : ℕ
  pub has_field : Bool

-- What a node with a field is at a moment: the node, what the field is, and its cycle; and what it noted, as far as that is
-- known.
pub record Condition : Type 0 where
  pub node : NodeValue
  pub field : List FieldInput
  pub cycle : Option CycleValue
  pub noted : Option (List ℕ)

-- Where a loop stands: what its node is; whether it is going, that is, the input whose end ends it isn't at its end; and as far
-- as that is known what it was given, the newest first, and what it wrote.
pub record Standing : Type 0 where
  pub condition : Condition
  pub going : Bool
  pub given : Option (List Turn)
  pub written : Option (List ℕ)

-- the moment at which a loop ends, in ms since the start
abbrev pub moment_of : Option ℕ → ℕ
moment_of None = 18446744073709551615
moment_of (Some until) = until

-- the answer of this text from one condition to the next
abbrev pub answer_between : Condition → Condition → List ℕ → Answering
answer_between old new text =
    answering old.node new.node old.field new.field old.noted new.noted [] text

-- The evaluation was made that the cycle asks for at a reading, if it asks for one.
pub record MakesEvaluation (raising : Raising) (set : Setting) (old new : Condition) (reading : ℕ) (text : List ℕ) : Type 0 where
  pub asked : Option Asked
  pub asks : AsksOf old.cycle new.cycle reading asked
  pub done : IsDone raising set.plant set.resource asked (answer_between old new text)
  pub field_is : new.field ≡ old.field

-- A line was answered, by what the input may say that it came by.
pub record AnswersLine (raising : Raising) (set : Setting) (old new : Condition) (origin : Origin) (line text : List ℕ) : Type 0 where
  pub answered : IsAnsweredFrom raising (verdict_of (inlets_of set.has_field old.cycle) origin (word_of_line line)) line (answer_between old new text)
  pub cycle_is : new.cycle ≡ old.cycle

-- this was told of the field, and nothing else is changed or noted
pub record OnlyTells (old new : Condition) (field : List FieldInput) : Type 0 where
  pub node_is : new.node ≡ old.node
  pub cycle_is : new.cycle ≡ old.cycle
  pub field_is : new.field ≡ field
  pub unnoted : Keeps old.noted new.noted

-- what an end of an input makes: the field's forgets what was told of the field, and tells that
abbrev pub EndsInput : Condition → Condition → Origin → List ℕ → Type 0
EndsInput old new Field text = OnlyTells old new [] × (text ≡ ended_line)
EndsInput old new Neighbours text = OnlyTells old new old.field × (text ≡ [])

-- an input that can't be read: the field's ends; without the neighbours' there are no more turns
abbrev pub CutsInput : Condition → Condition → Origin → List ℕ → Type 0
CutsInput old new Field text = EndsInput old new Field text
CutsInput old new Neighbours text = ⊥

-- what is made of what an input told, and this is written
abbrev pub AnswersTold : Raising → Setting → Condition → Condition → Origin → Told → List ℕ → Type 0
AnswersTold raising set old new origin (Line line) text = AnswersLine raising set old new origin line.items text
AnswersTold raising set old new origin TooLong text = OnlyTells old new old.field × (text ≡ refused_line LineTooLong)
AnswersTold raising set old new origin End text = EndsInput old new origin text
AnswersTold raising set old new origin (Unread why) text = CutsInput old new origin text

-- what is made of what is given, and this is written
abbrev pub Makes : Raising → Setting → Condition → Condition → Turn → List ℕ → Type 0
Makes raising set old new (Reads reading) text = MakesEvaluation raising set old new reading text
Makes raising set old new (Takes origin told) text = AnswersTold raising set old new origin told text

-- a loop is going behind a turn
abbrev pub is_going : Option Origin → Turn → Bool
is_going closing (Reads reading) = true
is_going closing (Takes origin told) = not (is_end told && is_closing closing origin)

-- the clock didn't read the moment at which a loop ends
abbrev pub IsBefore : ℕ → Turn → Type 0
IsBefore moment (Reads reading) = reading < moment
IsBefore moment (Takes origin told) = Unit {0}

-- A turn of a loop that is going: it is given, and nothing else; what is to be made of it is made; and its text is written
-- behind what was written, and nothing else.
pub record IsTurn (raising : Raising) (set : Setting) (ending : Ending) (old : Standing) (turn : Turn) (new : Standing)
    : Type 0 where
  pub was_going : old.going ≡ true
  pub before : IsBefore (moment_of ending.until) turn
  pub going_is : new.going ≡ is_going ending.closing turn
  pub given_is : new.given ≡ with_turn turn old.given
  pub text : List ℕ
  pub made : Makes raising set old.condition new.condition turn text
  pub written : Appends old.written new.written text

-- Turns were made one after the other, and nothing between them; the newest stands first.
abbrev pub HaveTurned : Raising → Setting → Ending → Standing → List Turn → Standing → Type 0
HaveTurned raising set ending first [] last = last ≡ first
HaveTurned raising set ending first (turn ∷ before) last =
    (mid : Standing) × HaveTurned raising set ending first before mid × IsTurn raising set ending mid turn last

-- a loop is at its end: it isn't going; or the clock read the moment at which it ends, and nothing was made of that
abbrev pub IsOver : ℕ → Bool → Option (List Turn) → Option (List Turn) → Type 0
IsOver moment false given last = last ≡ given
IsOver moment true given last = (reading : ℕ) × (moment ≤ reading) × (last ≡ with_turn (Reads reading) given)
