-- A schedule without EXPECT lines.
use Rattle.std.specs.Prelude.{◌≡◌, ℕ, Bool, false, List, All}
use Rattle.world.specs.declared.event.Event.{Event}
use Rattle.world.specs.History.{Setting}
use Rattle.world.specs.RunText.{IsRunText}
use Rattle.world.specs.ScheduleText.{Spell}
use Rattle.tested_schedules.specs.Expectations.{is_expectation}
use Rattle.tested_schedules.specs.TestedText.{IsTested}

-- lines spell events, this is the text of their run, and no expectation is unmet
pub record IsRunOfLines (s : Setting) (lines : List (List (List ℕ))) (text : List ℕ) (unmet : Bool) : Type 0 where
  pub events : List Event
  pub spelled : Spell s.plant events lines
  pub told : IsRunText s events text
  pub met : unmet ≡ false

-- where no line is an EXPECT line, the text is that of the run of the lines' events, as `simulate` writes it
abbrev pub UntestedRuns : Type 0
UntestedRuns = (s : Setting) (lines : List (List (List ℕ))) (text : List ℕ) (unmet : Bool)
    → All (λ line. is_expectation line ≡ false) lines → IsTested s lines text unmet → IsRunOfLines s lines text unmet
