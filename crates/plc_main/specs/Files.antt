-- The files of a trace that are due, and how the program ends.
use Rattle.std.specs.Prelude.{◌≡◌, ◌⊎◌, ℕ, ◌++◌, List, [], ◌∷◌, Bool, true, Option, Some, None, map, string_bytes}
use Rattle.std.specs.List.{find}
use Rattle.std.specs.Option.{option_map}
use Rattle.std.specs.Borrow.{Bor}
use Rattle.clap.specs.Words.{Text, subcommand_of}
use Rattle.clap.specs.Takes.{takes}
use Rattle.clap.specs.Values.{kind_of}
use Rattle.clap.specs.declared.error.Error.{Error}
use Rattle.traces.specs.declared.texts.TraceTexts.{TraceTexts}
use Rattle.console.specs.declared.answered.Answered.{Answered}
use Rattle.console.specs.declared.request.Request.{Request}
use Rattle.console.specs.declared.request.Request.TheVariants.{Text as OfText, Verify, Sim, Run, Node, Explain, Audit, Page}
use Rattle.console.specs.declared.verify_answer.Verified.{Verified}
use Rattle.console.specs.declared.request.TraceFiles.{TraceFiles}
use Rattle.console.specs.CommandLine.{AsksFor, OnlyMemoryRefuses, files_in, plc_app}
use Rattle.console.specs.Endings.{EndsSim, EndsText, EndsVerify, status_of_words}
use Rattle.console.specs.ExplainAnswer.{EndsExplain}
use Rattle.console.specs.PageAnswer.{EndsPage}
use Rattle.plc_main.specs.declared.clashes.FileUse.{FileUse}
use Rattle.plc_main.specs.Clashes.{first_clash, is_nameless}
use Rattle.plc_main.specs.UsedFiles.{files_of, named}

-- a file's path, and the text for it
abbrev pub FileText : Type 0
FileText = List ℕ × List ℕ

-- a file is due where it is asked for and there is a text for it
abbrev pub due : Option (Bor (List ℕ)) → Option (List ℕ) → List FileText
due None text = []
due (Some file) None = []
due (Some file) (Some text) = (file.now, text) ∷ []

-- the dump, and then the diagram
abbrev pub files_due : TraceFiles → TraceTexts → List FileText
files_due files texts = due files.vcd (option_map (λ t. string_bytes t) texts.dump)
    ++ due files.svg (option_map (λ t. string_bytes t) texts.diagram)

-- what came, where that is known, and these behind it
abbrev pub with_files : Option (List FileText) → List FileText → Option (List FileText)
with_files came files = option_map (λ before. before ++ files) came

-- the files that are due of the answer came; its status is that of the program, or 3 where one can't be written
pub record EndsFiles (files : TraceFiles) (answered : Answered) (old new : Option (List FileText)) (status : ℕ) : Type 0 where
  pub came : new ≡ with_files old (files_due files answered.texts)
  pub status_is : (status ≡ answered.status) ⊎ (status ≡ 3)

-- the certificates came, where there are some and a file for them; the status is that of the verdicts, or 3 where the file can't
-- be written
pub record EndsCertificate (file : Option (Bor (List ℕ))) (verified : Verified) (old new : Option (List FileText)) (status : ℕ) : Type 0 where
  pub came : new ≡ with_files old (due file (option_map (λ t. string_bytes t) verified.certificates))
  pub status_is : (status ≡ verified.status) ⊎ (status ≡ 3)

-- how the program ends for what was asked of it
abbrev pub EndsRequest : Bool → Request → Option (List FileText) → Option (List FileText) → ℕ → Type 0
EndsRequest terminal (OfText request) old new status =
    (answered : Answered) × EndsText terminal request answered × EndsFiles (files_in request) answered old new status
EndsRequest terminal (Verify request) old new status =
    (verified : Verified) × EndsVerify request verified × EndsCertificate request.certificate verified old new status
EndsRequest terminal (Sim request) old new status =
    (answered : Answered) × EndsSim request answered × EndsFiles request.files answered old new status
EndsRequest terminal (Run request) old new status =
    (answered : Answered) × EndsFiles request.files answered old new status
EndsRequest terminal (Node request) old new status = new ≡ old
EndsRequest terminal (Explain kind) old new status = EndsExplain kind status × (new ≡ old)
EndsRequest terminal (Page file) old new status = EndsPage status × (new ≡ old)
EndsRequest terminal (Audit request) old new status = new ≡ old

-- One of its files is named by `-` though it is written, or its folder of state is: it is refused, and nothing is done. What the
-- system tells of files no contract can say, so these are some.
pub record IsNameless (request : Request) (old new : Option (List FileText)) (status : ℕ) : Type 0 where
  pub files : List FileUse
  pub are : map named files ≡ files_of request
  pub file : FileUse
  pub found : find is_nameless files ≡ Some file
  pub status_is : status ≡ 2
  pub none : new ≡ old

-- Two of its files are one, and that is written: it is refused, and nothing is done.
pub record IsClashing (request : Request) (old new : Option (List FileText)) (status : ℕ) : Type 0 where
  pub files : List FileUse
  pub are : map named files ≡ files_of request
  pub names : find is_nameless files ≡ None
  pub clash : FileUse × FileUse
  pub found : first_clash files ≡ Some clash
  pub status_is : status ≡ 2
  pub none : new ≡ old

-- its files are apart, and so it ended
pub record IsApart (terminal : Bool) (request : Request) (old new : Option (List FileText)) (status : ℕ) : Type 0 where
  pub files : List FileUse
  pub are : map named files ≡ files_of request
  pub names : find is_nameless files ≡ None
  pub apart : first_clash files ≡ None
  pub ended : EndsRequest terminal request old new status

-- how the program ends for a request, by whether its files have names and are apart
abbrev pub EndsApart : Bool → Request → Option (List FileText) → Option (List FileText) → ℕ → Type 0
EndsApart terminal request old new status =
    IsNameless request old new status ⊎ (IsClashing request old new status ⊎ IsApart terminal request old new status)

-- the words ask for this
pub record IsRequested (terminal : Bool) (words : List Text) (old new : Option (List FileText)) (status : ℕ) : Type 0 where
  pub request : Request
  pub asked : AsksFor (subcommand_of plc_app words) request
  pub ended : EndsApart terminal request old new status

-- the words ask for nothing, or memory was refused; 3 is also where that can't be told
pub record IsRefused (words : List Text) (old new : Option (List FileText)) (status : ℕ) : Type 0 where
  pub error : Error
  pub only : takes plc_app words ≡ true → OnlyMemoryRefuses (AsksFor (subcommand_of plc_app words)) error
  pub status_is : (status ≡ status_of_words (kind_of error)) ⊎ (status ≡ 3)
  pub none : new ≡ old

-- how the program ends for the words of its command line
abbrev pub EndsWords : Bool → List Text → Option (List FileText) → Option (List FileText) → ℕ → Type 0
EndsWords terminal words old new status = IsRequested terminal words old new status ⊎ IsRefused words old new status
