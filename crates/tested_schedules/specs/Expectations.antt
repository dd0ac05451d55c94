-- What an EXPECT line asks, and what it finds.
use Rattle.std.specs.Prelude.{◌≡◌, ◌↔◌, ◌⊎◌, ℕ, ◌+◌, ◌==◌, ◌&&◌, ◌++◌, if◌then◌else◌, Bool, false, IsTrue, List, [], ◌∷◌, Option, Some, None, codes, drop, slice_get, take, unwrap_or}
use Rattle.std.specs.List.{find}
use Rattle.std.specs.Option.{option_and_then, option_map, option_map_or}
use Rattle.std_blocks.specs.declared.value.Value.{Value}
use Rattle.std_blocks.specs.declared.value.Value.TheVariants.{Bool as BoolValue, Int as IntValue, Time as TimeValue}
use Rattle.words.specs.Chars.{same_word}
use Rattle.words.specs.Numbers.{duration_up_to}
use Rattle.declared_names.specs.declared.declarations.Kind.{Kind}
use Rattle.declared_names.specs.declared.declarations.Kind.TheVariants as kind
use Rattle.declared_names.specs.Kinds.{kind_of, value_first}
use Rattle.task_codes.specs.declared.task_ref.TaskRef.{TaskRef}
use Rattle.task_codes.specs.declared.task_output.TaskOutput.{TaskOutput}
use Rattle.task_codes.specs.CodeValue.{CodeValue}
use Rattle.plant.specs.PlantValue.{PlantValue, code_at}
use Rattle.evaluation.specs.InputTexts.{bit_value, word_value, sign_of}
use Rattle.evaluation.specs.Last.{same_task}
use Rattle.evaluation.specs.Meaning.{Evaluated}
use Rattle.text_lines.specs.LineParts.{resource_text, value_text}
use Rattle.text_lines.specs.Lists.{instance_text, variable_text}
use Rattle.world.specs.declared.event.Event.{Event}
use Rattle.world.specs.History.{Setting, incarnation_of}
use Rattle.tested_schedules.specs.declared.answer.Answer.{Answer}
use Rattle.tested_schedules.specs.declared.expectation.Expectation.{Expectation}

-- an output of a task, as `P.V`, as it was declared
abbrev pub variable_name : CodeValue → ℕ → List ℕ
variable_name c place =
    option_map_or (λ (o : TaskOutput). instance_text c o ++ codes "." ++ variable_text o (slice_get c.programs o.program))
    (slice_get c.outputs place) []

-- an output of a plant, as `R.P.V`, as it was declared
abbrev pub output_name : PlantValue → TaskRef → ℕ → List ℕ
output_name plant t place =
    resource_text plant t.resource ++ codes "." ++ option_map_or (λ c. variable_name c place) (code_at plant t) []

-- the kind of an output
abbrev pub kind_at : PlantValue → TaskRef → ℕ → Option Kind
kind_at plant t place =
    option_and_then (λ (c : CodeValue). option_map (λ (o : TaskOutput). o.kind) (slice_get c.outputs place)) (code_at plant t)

-- the value of a kind that a word is: a BOOL is the number 0 or 1, an INT a number from -32768 to 32767, a TIME a duration
-- up to 4294967295 ms
abbrev pub value_in : Kind → List ℕ → Option Value
value_in kind.Bool word = option_map (λ on. BoolValue on) (bit_value word)
value_in kind.Int word = option_map (λ n. IntValue n) (word_value word)
value_in kind.Time word = option_map (λ t. TimeValue t) (duration_up_to 4294967295 word)

-- the value that is written for an output, if the name is the output's, in either case, and the value of its kind
abbrev pub expected_at : PlantValue → List ℕ → List ℕ → TaskRef → ℕ → Option Value
expected_at plant name written t place =
    option_and_then (λ k. if same_word name (output_name plant t place) then value_in k written else None)
    (kind_at plant t place)

-- a word `R.P.V=VALUE` spells an expectation: before its first `=` the output's name stands, and behind it the value
pub record IsExpectation (plant : PlantValue) (word : List ℕ) (x : Expectation) : Type 0 where
  pub sign : ℕ
  pub sign_is : sign_of word ≡ Some sign
  pub expected : expected_at plant (take sign word) (drop (sign + 1) word) x.task x.place ≡ Some x.value

-- a line of these words is an EXPECT line: it begins with the keyword, in either case
abbrev pub is_expectation : List (List ℕ) → Bool
is_expectation [] = false
is_expectation (keyword ∷ words) = same_word keyword (codes "EXPECT")

-- the words behind the keyword
abbrev pub expected_words : List (List ℕ) → List (List ℕ)
expected_words [] = []
expected_words (keyword ∷ words) = words

-- of a log, the newest evaluation first, the last evaluation of a task in this incarnation of its resource
abbrev pub last_in : ℕ → TaskRef → List Evaluated → Option Evaluated
last_in incarnation t log =
    find (λ (x : Evaluated). same_task x.name.task t && x.name.incarnation == incarnation) log

-- what an output is in an incarnation: what its task's last evaluation in it gave; before the first one FALSE, 0 or T#0ms
abbrev pub found_in : ℕ → List Evaluated → Expectation → Value
found_in incarnation log x =
    unwrap_or (option_and_then (λ (e : Evaluated). slice_get e.outputs x.place) (last_in incarnation x.task log))
    (value_first (kind_of x.value))

-- what an output is after a history and its log: in the present incarnation of its resource
abbrev pub found_after : Setting → List Event → List Evaluated → Expectation → Value
found_after s history log x = found_in (incarnation_of s x.task.resource history) log x

-- the word spells the answer's expectation, which finds this, and is met if it expects just that
pub record IsAnswer (s : Setting) (history : List Event) (log : List Evaluated) (word : List ℕ) (a : Answer) : Type 0 where
  pub spelled : IsExpectation s.plant word a.expectation
  pub found : a.found ≡ found_after s history log a.expectation
  pub met : IsTrue a.is_met ↔ (a.expectation.value ≡ a.found)

-- `met`, or `unmet` and what was found
abbrev pub verdict_text : Answer → List ℕ
verdict_text a = if a.is_met then codes "met" else codes "unmet " ++ value_text a.found

-- `EXPECT R.P.V=VALUE met`
abbrev pub answer_line : PlantValue → Answer → List ℕ
answer_line plant a =
    codes "EXPECT " ++ output_name plant a.expectation.task a.expectation.place ++ codes "="
    ++ value_text a.expectation.value ++ codes " " ++ verdict_text a ++ codes "\n"

-- the words behind the keyword spell no expectations: there are none, or one of them is no expectation
abbrev pub IsUnexpected : PlantValue → List (List ℕ) → Type 0
IsUnexpected plant words =
    (words ≡ [])
    ⊎ ((k : ℕ) × (word : List ℕ) × (slice_get words k ≡ Some word) × ((x : Expectation) → IsExpectation plant word x → ⊥))
