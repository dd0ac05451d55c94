-- How commands end: with which status, and with which texts for the files of a trace. What stood in a file no contract can
-- say, so that is some text.
use Rattle.std.specs.Prelude.{◌≡◌, ◌⊎◌, ℕ, if◌then◌else◌, List, Bool, bytes_eq, codes, Option, Some, None, Result, Ok, Err, String, MatchResult, string_bytes, unwrap_or}
use Rattle.std.specs.Global.{Global}
use Rattle.std.specs.Borrow.{Bor}
use Rattle.std.specs.Option.{is_some}
use Rattle.clap.specs.declared.error.kind.ErrorKind.{ErrorKind}
use Rattle.clap.specs.declared.error.kind.ErrorKind.TheVariants as words
use Rattle.evaluation.specs.InputTexts.{IsFaultOf}
use Rattle.evaluation.specs.declared.input_fault.InputFault.{InputFault}
use Rattle.plant.specs.PlantValue.{PlantValue}
use Rattle.text_commands.specs.CheckText.{GivesNoPlant, IsPlantOf}
use Rattle.text_commands.specs.declared.difference.Difference.{Difference}
use Rattle.text_commands.specs.declared.text_command_fault.TextCommandFault.{TextCommandFault}
use Rattle.text_commands.specs.declared.traced.Traced.{Traced}
use Rattle.traces.specs.declared.texts.TraceTexts.{TraceTexts}
use Rattle.verifying.specs.VerifyText.{ExplainsAnswer as ExplainsVerdicts, WritesAnswer as WritesVerdicts}
use Rattle.verifying.specs.declared.summary.Summary.{Summary}
use Rattle.verifying.specs.declared.verify_fault.VerifyFault.{VerifyFault}
use Rattle.verifying_plants.specs.VerifyPlant.{ExplainsAnswer as ExplainsPlantVerdicts, WritesAnswer as WritesPlantVerdicts}
use Rattle.verifying_plants.specs.declared.verify_plant_fault.VerifyPlantFault.{VerifyPlantFault}
use Rattle.tested_schedules.specs.Tested.{EndsEarly}
use Rattle.tested_schedules.specs.TestedLines.{EndsTestedLines}
use Rattle.world.specs.declared.sim_fault.SimFault.{SimFault}
use Rattle.tested_schedules.specs.declared.live_fault.LiveFault.{LiveFault}
use Rattle.console.specs.declared.answered.Answered.{Answered}
use Rattle.console.specs.declared.request.RunRequest.{RunRequest}
use Rattle.console.specs.declared.request.SimRequest.{SimRequest}
use Rattle.console.specs.declared.request.TextRequest.{TextRequest}
use Rattle.console.specs.declared.request.VerifyRequest.{VerifyRequest}
use Rattle.console.specs.Answers.{WritesAnswer, ExplainsAnswer, asked_source}
use Rattle.console.specs.CommandLine.{file_of, second_in, strictness_of}
use Rattle.console.specs.Warned.{EndsWarned, IsLadderQuiet, IsPlantQuiet, IsQuiet, time_of_all}
use Rattle.console.specs.FieldWords.{one_text_of}
use Rattle.console.specs.Giving.{command_fault}
use Rattle.console.specs.Statuses.{status_of, status_of_fault, status_of_inputs, status_of_question, status_of_plant_question, status_of_schedule, status_of_lines}
use Rattle.console.specs.TracedRun.{WritesTracedRun, WritesTracedLines}
use Rattle.console.specs.declared.request.Way.{Way}
use Rattle.console.specs.declared.request.Way.TheVariants.{States, Induction}
use Rattle.console.specs.declared.verify_answer.Verified.{Verified}
use Rattle.certified_claims.specs.CertifiedAnswers.{ExplainsCertified, WritesCertified}
use Rattle.certified_claims.specs.declared.verify_command.CertifiedAnswer.{CertifiedAnswer}
use Rattle.console.specs.declared.verify_answer.Subject.{Subject}
use Rattle.console.specs.declared.verify_answer.Subject.TheVariants.{Drawing, Plant, Neither}
use Rattle.console.specs.Verifying.{asked_question, asked_of_plant, eval_words, subject_of}

-- after words that ask for nothing it is 0 where help or the version was asked for, 3 for want of memory, and else 2
abbrev pub status_of_words : ErrorKind → ℕ
status_of_words words.InvalidValue = 2
status_of_words words.UnknownArgument = 2
status_of_words words.InvalidSubcommand = 2
status_of_words words.NoEquals = 2
status_of_words words.ValueValidation = 2
status_of_words words.TooManyValues = 2
status_of_words words.TooFewValues = 2
status_of_words words.WrongNumberOfValues = 2
status_of_words words.ArgumentConflict = 2
status_of_words words.MissingRequiredArgument = 2
status_of_words words.MissingSubcommand = 2
status_of_words words.DisplayHelp = 0
status_of_words words.DisplayHelpOnMissingArgumentOrSubcommand = 2
status_of_words words.DisplayVersion = 0
status_of_words words.Io = 2
status_of_words words.Format = 2
status_of_words words.OutOfMemory = 3

-- after a file wasn't read it is 2 for `-`, which names no file, and else 3
abbrev pub status_of_unread : List ℕ → ℕ
status_of_unread file = if bytes_eq file (codes "-") then 2 else 3

-- it is 4 after a difference from what the words expect, and else 0
abbrev pub status_of_difference : Option Difference → ℕ
status_of_difference None = 0
status_of_difference (Some difference) = 4

-- no texts for the files of a trace
pub record HasNoTexts (texts : TraceTexts) : Type 0 where
  pub dump : texts.dump ≡ None
  pub diagram : texts.diagram ≡ None

-- it ended before anything was done, with this status
pub record EndsWith (status : ℕ) (answered : Answered) : Type 0 where
  pub status_is : answered.status ≡ status
  pub none : HasNoTexts answered.texts

-- how a command of one text ends, by what came of it; what was done is followed by warnings
abbrev pub EndsAfter : TextRequest → List ℕ → Result Traced TextCommandFault → Answered → Type 0
EndsAfter request text (Ok traced) answered =
    EndsWarned (IsQuiet request text) (strictness_of request) (status_of_difference traced.difference) answered.status
    × (answered.texts ≡ traced.texts)
EndsAfter request text (Err fault) answered = EndsWith (status_of_fault (command_fault fault)) answered

-- the text of a second drawing's file, if there is such a file
abbrev pub IsOther : Option (Bor (List ℕ)) → Option (List ℕ) → Type 0
IsOther second other = is_some other ≡ is_some second

-- with which status it ended because that file wasn't read
abbrev pub IsOtherUnread : Option (Bor (List ℕ)) → ℕ → Type 0
IsOtherUnread None status = ⊥
IsOtherUnread (Some file) status = status ≡ status_of_unread file.now

-- what was asked for was written of the text of the file, or why it wasn't; and so it ended
pub record IsObeyed (terminal : Bool) (request : TextRequest) (answered : Answered) : Type 0 where
  pub text : List ℕ
  pub other : Option (List ℕ)
  pub is_other : IsOther (second_in request) other
  pub old : Option (List ℕ)
  pub new : Option (List ℕ)
  pub obeyed : Result Traced TextCommandFault
  pub is : MatchResult obeyed (WritesAnswer terminal request text other old new)
      (ExplainsAnswer terminal request text other old new)
  pub ended : EndsAfter request text obeyed answered

-- how a command of one text ends
abbrev pub EndsText : Bool → TextRequest → Answered → Type 0
EndsText terminal request answered =
    EndsWith (status_of_unread (file_of request)) answered
    ⊎ ((HasNoTexts answered.texts × IsOtherUnread (second_in request) answered.status) ⊎ IsObeyed terminal request answered)

-- how `plc verify` of a drawing or a program type ends, by what came of it; verdicts are followed by warnings
abbrev pub EndsVerdicts : VerifyRequest → List ℕ → Result Summary VerifyFault → ℕ → Type 0
EndsVerdicts request text (Ok summary) status =
    EndsWarned (IsLadderQuiet request.program (unwrap_or request.dt 0) text) request.strictness (status_of summary) status
EndsVerdicts request text (Err fault) status = status ≡ status_of_question fault

-- the claims about the drawing in a text, or a program type, were answered, or why they weren't; and so it ended
pub record IsDrawingVerified (request : VerifyRequest) (text : List ℕ) (other : Option (List ℕ)) (status : ℕ) : Type 0 where
  pub old : Option (List ℕ)
  pub new : Option (List ℕ)
  pub answered : Result Summary VerifyFault
  pub is : let question = asked_question (eval_words request) request in
      let source = asked_source text request.program other in
      MatchResult answered (WritesVerdicts source question old new) (ExplainsVerdicts source question old new)
  pub ended : EndsVerdicts request text answered status

-- with this status, and no certificates
abbrev pub EndsUncertified : ℕ → Verified → Type 0
EndsUncertified status verified = verified ≡ record { status = status; certificates = None }

-- the summary of what was answered by induction, and the certificates; or why there are none
abbrev pub IsParted : Result CertifiedAnswer VerifyFault → Result Summary VerifyFault × Option (String Global) → Type 0
IsParted (Ok answer) parts = (parts.0 ≡ Ok answer.summary) × (parts.1 ≡ Some answer.certificates)
IsParted (Err fault) parts = (parts.0 ≡ Err fault) × (parts.1 ≡ None)

-- the same by induction, with the certificates
pub record IsDrawingCertified (request : VerifyRequest) (text : List ℕ) (other : Option (List ℕ)) (verified : Verified) : Type 0 where
  pub old : Option (List ℕ)
  pub new : Option (List ℕ)
  pub answered : Result CertifiedAnswer VerifyFault
  pub is : let question = asked_question (eval_words request) request in
      let source = asked_source text request.program other in
      MatchResult answered (λ a. WritesCertified source question old new (string_bytes a.certificates) a.summary) (ExplainsCertified source question old new)
  pub summary : Result Summary VerifyFault
  pub parts : IsParted answered (summary, verified.certificates)
  pub ended : EndsVerdicts request text summary verified.status

-- the claims about a drawing were answered, in the way that is asked; 3 is also for want of memory before
abbrev pub IsAnsweredBy : VerifyRequest → List ℕ → Option (List ℕ) → Verified → Way → Type 0
IsAnsweredBy request text other verified States =
    (status : ℕ) × EndsUncertified status verified × ((status ≡ 3) ⊎ IsDrawingVerified request text other status)
IsAnsweredBy request text other verified Induction = EndsUncertified 3 verified ⊎ IsDrawingCertified request text other verified

abbrev pub IsDrawingAnswered : VerifyRequest → List ℕ → Option (List ℕ) → Verified → Type 0
IsDrawingAnswered request text other verified = IsAnsweredBy request text other verified request.way

-- so it ended, where there may be a second drawing, whose file is read
abbrev pub AreDrawingsVerified : VerifyRequest → List ℕ → Verified → Type 0
AreDrawingsVerified request text verified = ((status : ℕ) × EndsUncertified status verified × IsOtherUnread request.second status)
    ⊎ ((other : Option (List ℕ)) × IsOther request.second other × IsDrawingAnswered request text other verified)

-- how `plc verify` of a plant ends, by what came of it; verdicts are followed by warnings
abbrev pub EndsPlantVerdicts : VerifyRequest → List ℕ → Result Summary VerifyPlantFault → ℕ → Type 0
EndsPlantVerdicts request text (Ok summary) status =
    EndsWarned (IsPlantQuiet (time_of_all (unwrap_or request.dt 0)) text) request.strictness (status_of summary) status
EndsPlantVerdicts request text (Err fault) status = status ≡ status_of_plant_question fault

-- the same of the plant in a text
pub record IsPlantVerified (request : VerifyRequest) (text : List ℕ) (status : ℕ) : Type 0 where
  pub old : Option (List ℕ)
  pub new : Option (List ℕ)
  pub answered : Result Summary VerifyPlantFault
  pub is : MatchResult answered (WritesPlantVerdicts text (asked_of_plant request) old new)
      (ExplainsPlantVerdicts text (asked_of_plant request) old new)
  pub ended : EndsPlantVerdicts request text answered status

-- how a question about such a thing ends: a file isn't read, or its text is answered; of a drawing 3 is also for want of
-- memory before. A question about neither ends with 2.
abbrev pub EndsAbout : VerifyRequest → Subject → Verified → Type 0
EndsAbout request Drawing verified =
    EndsUncertified (status_of_unread request.file.now) verified ⊎ ((text : List ℕ) × AreDrawingsVerified request text verified)
EndsAbout request Plant verified = EndsUncertified (status_of_unread request.file.now) verified
    ⊎ ((text : List ℕ) × (status : ℕ) × EndsUncertified status verified × IsPlantVerified request text status)
EndsAbout request Neither verified = EndsUncertified 2 verified

-- how `plc verify` ends
abbrev pub EndsVerify : VerifyRequest → Verified → Type 0
EndsVerify request verified = EndsAbout request (subject_of request) verified

-- why there is no plant in a file
abbrev pub IsNoPlantStatus : List ℕ → ℕ → Type 0
IsNoPlantStatus file status = (status ≡ status_of_unread file)
    ⊎ ((text : List ℕ) × (fault : TextCommandFault) × GivesNoPlant text fault × (status ≡ status_of_fault (command_fault fault)))

-- with which status a run isn't begun: its words are refused, or there is no plant in its file
abbrev pub IsUnprepared : RunRequest → ℕ → Type 0
IsUnprepared request status =
    ((fault : InputFault) × IsFaultOf (one_text_of request.words.items) fault × (status ≡ status_of_inputs fault))
    ⊎ IsNoPlantStatus request.plant.now status

-- how a schedule ends, by what came of it
abbrev pub EndsAfterSchedule : Result Answered SimFault → Answered → Type 0
EndsAfterSchedule (Ok done) answered = answered ≡ done
EndsAfterSchedule (Err fault) answered = EndsWith (status_of_schedule fault) answered

abbrev pub EndsAfterLines : Result Answered LiveFault → Answered → Type 0
EndsAfterLines (Ok done) answered = answered ≡ done
EndsAfterLines (Err fault) answered = EndsWith (status_of_lines fault) answered

-- the schedule of a file was done with the plant, or why it wasn't; and so it ended
pub record IsScheduleDone (plant : PlantValue) (request : SimRequest) (answered : Answered) : Type 0 where
  pub schedule : List ℕ
  pub old : Option (List ℕ)
  pub new : Option (List ℕ)
  pub obeyed : Result Answered SimFault
  pub is : MatchResult obeyed (WritesTracedRun plant request schedule old new)
      (EndsEarly plant request.max_number schedule old new)
  pub ended : EndsAfterSchedule obeyed answered

-- the same of the lines of standard input
pub record AreLinesDone (plant : PlantValue) (request : SimRequest) (answered : Answered) : Type 0 where
  pub given : Option (List ℕ)
  pub left : Option (List ℕ)
  pub line : List ℕ
  pub old : Option (List ℕ)
  pub new : Option (List ℕ)
  pub obeyed : Result Answered LiveFault
  pub is : MatchResult obeyed (WritesTracedLines plant request given left old new)
      (EndsTestedLines plant request.max_number given left line old new)
  pub ended : EndsAfterLines obeyed answered

-- the plant of a file, and what was done with it
pub record IsSimulated (request : SimRequest) (answered : Answered) : Type 0 where
  pub text : List ℕ
  pub plant : PlantValue
  pub read : IsPlantOf text plant
  pub done : EndsWith (status_of_unread request.schedule.now) answered
      ⊎ (IsScheduleDone plant request answered ⊎ (EndsWith 3 answered ⊎ AreLinesDone plant request answered))

-- how `plc sim` ends
abbrev pub EndsSim : SimRequest → Answered → Type 0
EndsSim request answered =
    (HasNoTexts answered.texts × IsNoPlantStatus request.plant.now answered.status) ⊎ IsSimulated request answered
