-- What the words of `plc verify` ask.
use Rattle.std.specs.Prelude.{◌==◌, ◌&&◌, ◌||◌, ◌++◌, ℕ, Bool, true, false, is_none, List, [], ◌∷◌, Option, Some, None, codes, not, unwrap_or, if◌then◌else◌}
use Rattle.std.specs.Borrow.{Bor}
use Rattle.std.specs.List.{list_any}
use Rattle.console.specs.CommandLine.{are_asked, are_left_out}
use Rattle.console.specs.declared.request.VerifyRequest.{VerifyRequest}
use Rattle.console.specs.declared.request.Way.{Way}
use Rattle.console.specs.declared.request.Way.TheVariants.{States, Induction}
use Rattle.console.specs.ShellWord.{shell_word}
use Rattle.console.specs.declared.verify_answer.Subject.{Subject}
use Rattle.console.specs.declared.verify_answer.Subject.TheVariants.{Drawing, Plant, Neither}
use Rattle.text_commands.specs.Rows.{texts}
use Rattle.verifying.specs.Questions.{QuestionValue}
use Rattle.verifying_plants.specs.Questions.{QuestionValue as PlantQuestionValue}

-- names in a plant have dots, and commas part them
abbrev pub is_of_plant : List ℕ → Bool
is_of_plant word = list_any (λ c. c == 46 || c == 44) word

-- all words have one
abbrev pub are_of_plant : List (List ℕ) → Bool
are_of_plant [] = true
are_of_plant (name ∷ names) = is_of_plant name && are_of_plant names

-- none has
abbrev pub are_plain : List (List ℕ) → Bool
are_plain [] = true
are_plain (name ∷ names) = not (is_of_plant name) && are_plain names

-- nothing is asked that is asked of plants alone
abbrev pub is_of_drawings : VerifyRequest → Bool
is_of_drawings request = not (are_left_out request.restarts) && is_none request.most_waiting

-- state by state
abbrev pub is_by_states : Way → Bool
is_by_states States = true
is_by_states Induction = false

-- neither a program type is asked about, nor is there a second drawing, nor is it asked by induction
abbrev pub is_alone : VerifyRequest → Bool
is_alone request = is_none request.program && (is_none request.second && is_by_states request.way)

-- it is about a plant where all words are of one, no program type is asked about, there is no second drawing, and it is asked
-- state by state; about a drawing or a program type where none has a dot or comma, and nothing is asked of plants alone
abbrev pub subject_of : VerifyRequest → Subject
subject_of request =
    if are_of_plant (texts request.claims.items) && are_of_plant (texts request.given.items) && is_alone request then Plant
    else (if are_plain (texts request.claims.items) && (are_plain (texts request.given.items) && is_of_drawings request) then Drawing else Neither)

-- the option for a program type
abbrev pub program_words : Option (Bor (List ℕ)) → List ℕ
program_words None = []
program_words (Some name) = codes " --program " ++ shell_word name.now

-- the option for a second drawing
abbrev pub second_words : Option (Bor (List ℕ)) → List ℕ
second_words None = []
second_words (Some file) = codes " --with " ++ shell_word file.now

-- the words that stand for drawings or a program type before those for `plc eval`
abbrev pub eval_words : VerifyRequest → List ℕ
eval_words request = shell_word request.file.now ++ program_words request.program ++ second_words request.second

-- the claims, what is given, the words, the time between scans, whether there are restarts and the number of states of the
-- request, with the words for `plc eval`
abbrev pub asked_question : List ℕ → VerifyRequest → QuestionValue
asked_question file request = record {
  file = file;
  claims = texts request.claims.items;
  given = texts request.given.items;
  words = texts request.words.items;
  dt = unwrap_or request.dt 0;
  restarts = are_asked request.restarts;
  most_states = request.most_states;
}

-- what is asked of a plant: restarts, if they aren't left out, and the order of 8 waiting images, if nothing is said
abbrev pub asked_of_plant : VerifyRequest → PlantQuestionValue
asked_of_plant request = record {
  claims = texts request.claims.items;
  given = texts request.given.items;
  words = texts request.words.items;
  dt = request.dt;
  restarts = not (are_left_out request.restarts);
  most_states = request.most_states;
  most_waiting = unwrap_or request.most_waiting 8;
}
