-- How verdicts on claims about a plant are written.
use Rattle.std.specs.Prelude.{◌==◌, ◌++◌, ℕ, ℤ, int_le, Bool, true, false, List, [], ◌∷◌, Option, Some, None, codes, length, map, if◌then◌else◌, string_bytes}
use Rattle.std.specs.Fmt.{decimal}
use Rattle.std.specs.List.{filter, join_by}
use Rattle.std_blocks.specs.declared.value.Value.TheVariants.{Bool as BoolValue, Int as IntValue}
use Rattle.plant.specs.PlantValue.{PlantValue}
use Rattle.text_lines.specs.LineParts.{value_text}
use Rattle.verifying.specs.VerdictLines.{counted}
use Rattle.plant_claims.specs.declared.output.Output.{Output}
use Rattle.plant_claims.specs.declared.field_range.FieldRange.{FieldRange}
use Rattle.plant_claims.specs.declared.field_range.FieldRange.TheVariants.{Bit, Word}
use Rattle.plant_claims.specs.declared.plant_verdict.PlantVerdict.{PlantVerdict}
use Rattle.plant_claims.specs.declared.plant_verdict.PlantVerdict.TheVariants.{Holds, Fails, Undecided as UndecidedFor}
use Rattle.plant_claims.specs.declared.plant_verdict.Undecided.{Undecided}
use Rattle.plant_claims.specs.declared.plant_verdict.Undecided.TheVariants.{TooMany, OrderForgotten, TooManyRows, NotChecked}
use Rattle.plant_claims.specs.Claims.{Question}
use Rattle.verifying_plants.specs.Names.{output_text}

-- the outputs of a claim
abbrev pub claim_text : PlantValue → List Output → List ℕ
claim_text plant claim = join_by (output_text plant) (codes ", ") claim

-- one output is on, several are on together
abbrev pub never_text : List Output → List ℕ
never_text claim = if length claim == 1 then codes " is never on: " else codes " are never on together: "

abbrev pub after_text : List Output → List ℕ
after_text claim = if length claim == 1 then codes " is on after " else codes " are on together after "

-- how much was looked at; or, where no run meets what is given, that
abbrev pub counts_text : ℕ → ℕ → List ℕ
counts_text states steps = counted states (codes "state") ++ codes ", " ++ counted steps (codes "step")

abbrev pub unmet_text : PlantValue → Output → List ℕ
unmet_text plant o = codes "no run meets " ++ output_text plant o

abbrev pub looked_at : PlantValue → Option Output → ℕ → ℕ → List ℕ
looked_at plant None states steps = counts_text states steps
looked_at plant (Some o) states steps = unmet_text plant o

abbrev pub holds_line : PlantValue → Option Output → ℕ → ℕ → List Output → List ℕ
holds_line plant unmet states steps claim =
    codes "HOLDS " ++ claim_text plant claim ++ never_text claim ++ looked_at plant unmet states steps ++ codes "\n"

-- how many lines a text has
abbrev pub line_count : List ℕ → ℕ
line_count text = length (filter (λ c. c == 10) text)

-- the schedule, and before it how many events it has
abbrev pub fails_text : PlantValue → List Output → List ℕ → List ℕ
fails_text plant claim schedule =
    codes "FAILS " ++ claim_text plant claim ++ after_text claim ++ counted (line_count schedule) (codes "event") ++ codes "\n"
    ++ schedule

abbrev pub reason_text : ℕ → Undecided → List ℕ
reason_text most_states TooMany = codes "more than " ++ counted most_states (codes "state")
reason_text most_states OrderForgotten =
    codes "no run was found while the order of waiting images was kept; a larger --most-waiting may decide"
reason_text most_states TooManyRows =
    codes "the field inputs of a task may be in more than 1048576 ways; hold some by words ADDRESS=VALUE"
reason_text most_states NotChecked = codes "the states that were found don't stand for every run"

abbrev pub undecided_line : PlantValue → ℕ → List Output → Undecided → List ℕ
undecided_line plant most_states claim why =
    codes "UNDECIDED " ++ claim_text plant claim ++ codes ": " ++ reason_text most_states why ++ codes "\n"

-- the text of a verdict
abbrev pub verdict_text : PlantValue → ℕ → Option Output → ℕ → ℕ → List Output → PlantVerdict → List ℕ
verdict_text plant most_states unmet states steps claim Holds = holds_line plant unmet states steps claim
verdict_text plant most_states unmet states steps claim (Fails schedule) = fails_text plant claim (string_bytes schedule)
verdict_text plant most_states unmet states steps claim (UndecidedFor why) = undecided_line plant most_states claim why

-- how far apart evaluations are
abbrev pub time_premise : Option ℕ → List ℕ
time_premise None = codes "each task every INTERVAL"
time_premise (Some dt) = codes "dt " ++ decimal dt ++ codes " ms"

-- the greatest value of a word, where it is another one
abbrev pub greatest_text : ℤ → ℤ → List ℕ
greatest_text least greatest = if int_le greatest least then [] else codes ".." ++ value_text (IntValue greatest)

-- what an address holds, as its word tells it
abbrev pub range_text : FieldRange → List ℕ
range_text (Bit n v) = codes "%IX" ++ decimal n ++ codes "=" ++ value_text (BoolValue v)
range_text (Word n least greatest) =
    codes "%IW" ++ decimal n ++ codes "=" ++ value_text (IntValue least) ++ greatest_text least greatest

-- a word of the field that is 0
abbrev pub zero_text : ℕ → List ℕ
zero_text n = codes "%IW" ++ decimal n ++ codes "=0"

abbrev pub restart_premises : Bool → List (List ℕ)
restart_premises true = []
restart_premises false = codes "no restarts" ∷ []

-- what the verdicts depend on, where these words of the field are 0
abbrev pub premises : Question → List ℕ → List (List ℕ)
premises q zeros =
    time_premise q.dt ∷ (map range_text q.ranges
    ++ (map zero_text zeros ++ (restart_premises q.restarts ++ map (output_text q.plant) q.given)))

-- the last line
abbrev pub premise_line : Question → List ℕ → List ℕ
premise_line q zeros = codes "given " ++ join_by (λ (p : List ℕ). p) (codes ", ") (premises q zeros) ++ codes "\n"
