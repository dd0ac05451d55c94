-- What one line does, and why it isn't done.
use Rattle.std.proofs.Common.{◌≡◌, ◌≢◌, inr, ℕ, ◌+◌, Bool, true, false, List, Option, refl, sym, ap, ◌∙◌}
use Rattle.std.specs.Prelude.{◌||◌}
use Rattle.std.specs.Io.KnownBytes.{Appends}
use Rattle.std.proofs.KnownBytes.{Keeps-refl}
use Rattle.text_lines.specs.Sending.{SendsLess}
use Rattle.plant.specs.PlantValue.{PlantValue}
use Rattle.world.specs.declared.event.Event.{Event}
use Rattle.world.specs.declared.line_fault.LineFault.{LineFault}
use Rattle.world.specs.declared.line_fault.LineFault.TheVariants.{Syntax, Write, Memory}
use Rattle.world.specs.ScheduleText.{SpellsEvent, SpellsNoEvent, is_idle}
use Rattle.world.specs.Steps.Telling.{IsTold}
use Rattle.tested_schedules.specs.declared.answer.Answer.{Answer}
use Rattle.tested_schedules.specs.Expectations.{IsUnexpected, expected_words, is_expectation}
use Rattle.tested_schedules.specs.Tested.{IsNoLine}
use Rattle.tested_schedules.specs.TestedText.{Piece, are_unmet, of_answers, of_event, piece_text}
use Rattle.tested_schedules.specs.Steps.Testing.{HasAnswers, HasBroken, HasDone, HasMade, HasStopped, TestState}

-- an event was done, and this line tells it
pub made_event : (old new : TestState) (words : List (List ℕ)) (e : Event) (line : List ℕ) → is_expectation words ≡ false → is_idle words ≡ false → SpellsEvent old.world.setting.plant (old.events + 1) e words
    → IsTold old.world new.world (old.events + 1) e line → new.events ≡ old.events + 1 → new.unmet ≡ old.unmet → HasMade old new words (of_event line)
made_event old new words e line event busy spelled told more unmet = (event, inr (record { event = e; busy = busy; spelled = spelled; told = told }, more, unmet))

-- expectations were answered
abbrev pub with_unmet : TestState → Bool → TestState
with_unmet old unmet = record old { unmet = unmet }

pub made_answers : (old : TestState) (words : List (List ℕ)) (answers : List Answer) (unmet : Bool) → is_expectation words ≡ true → HasAnswers old.world (expected_words words) answers → unmet ≡ (old.unmet || are_unmet answers)
    → HasMade old (with_unmet old unmet) words (of_answers answers)
made_answers old words answers unmet expects h is = (expects, h, ap (with_unmet old) is)

-- what was made is written, or less of it
pub made_done : (old new : TestState) (words : List (List ℕ)) (piece : Piece) (from to : Option (List ℕ)) → HasMade old new words piece → Appends from to (piece_text old.world.setting.plant piece) → HasDone old new words from to
made_done old new words piece from to made written = record { piece = piece; made = made; written = written }

pub made_broken : (old new : TestState) (words : List (List ℕ)) (piece : Piece) (from to : Option (List ℕ)) → HasMade old new words piece → SendsLess (piece_text old.world.setting.plant piece) from to → HasBroken old new words from to
made_broken old new words piece from to made less = record { piece = piece; made = made; bytes = less.0; less = less.1; written = less.2 }

-- a line is no event
pub no_event_line : (plant : PlantValue) (number : ℕ) (words : List (List ℕ)) → is_expectation words ≡ false → is_idle words ≡ false → SpellsNoEvent plant number words → IsNoLine plant number words
no_event_line plant number words event busy none = record { event = λ is. record { busy = busy; unspelled = none }; unexpected = λ is. let both : true ≡ false = sym is ∙ event in absurd cc }

-- a line expects nothing
pub no_expected_line : (plant : PlantValue) (number : ℕ) (words : List (List ℕ)) → is_expectation words ≡ true → IsUnexpected plant (expected_words words) → IsNoLine plant number words
no_expected_line plant number words expects none = record { event = λ is. let both : true ≡ false = sym expects ∙ is in absurd cc; unexpected = λ is. none }

-- a line isn't done, and nothing was written
pub stopped_early : (t : TestState) (words : List (List ℕ)) (now : Option (List ℕ)) (f : LineFault) → (f ≢ Write) → (f ≡ Syntax → IsNoLine t.world.setting.plant (t.events + 1) words) → HasStopped t t words now now f
stopped_early t words now Syntax ne none = (none refl, Keeps-refl now)
stopped_early t words now Write ne none = absurd (ne refl)
stopped_early t words now Memory ne none = Keeps-refl now
