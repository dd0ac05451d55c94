-- The files that a command reads, and those that it writes.
use Rattle.std.specs.Prelude.{ℕ, ◌++◌, if◌then◌else◌, List, [], ◌∷◌, Option, Some, None, bytes_eq, codes}
use Rattle.std.specs.Borrow.{Bor}
use Rattle.std.specs.Option.{option_map}
use Rattle.console.specs.declared.request.Request.{Request}
use Rattle.console.specs.declared.request.Request.TheVariants.{Text as OfText, Verify, Sim, Run, Node, Explain, Audit, Page}
use Rattle.console.specs.declared.request.TraceFiles.{TraceFiles}
use Rattle.console.specs.CommandLine.{file_of, files_in, second_in}
use Rattle.plc_main.specs.declared.clashes.FileUse.{FileUse}

-- a path, and the option for which the file there is written, if it isn't read
abbrev pub NamedFile : Type 0
NamedFile = List ℕ × Option (List ℕ)

abbrev pub named : FileUse → NamedFile
named file = (file.path.now, option_map (λ o. o.now) file.option)

-- a file that is read, or standard input where that is `-`
abbrev pub read_any : List ℕ → List NamedFile
read_any path = (path, None) ∷ []

-- a file that is read; none is where that is `-`
abbrev pub read : List ℕ → List NamedFile
read path = if bytes_eq path (codes "-") then [] else read_any path

abbrev pub read_if_given : Option (Bor (List ℕ)) → List NamedFile
read_if_given None = []
read_if_given (Some path) = read path.now

-- a file that is written for an option, or the folder of state
abbrev pub written : Option (Bor (List ℕ)) → List ℕ → List NamedFile
written None option = []
written (Some path) option = (path.now, Some option) ∷ []

-- the files of a trace
abbrev pub traces : TraceFiles → List NamedFile
traces files = written files.vcd (codes "--vcd") ++ written files.svg (codes "--svg")

-- those that a command reads, the folder of its state, and then those that it writes; none where it never writes any.
-- A node reads standard input too.
abbrev pub files_of : Request → List NamedFile
files_of (OfText request) = read (file_of request) ++ read_if_given (second_in request) ++ traces (files_in request)
files_of (Verify request) =
    read request.file.now ++ read_if_given request.second ++ written request.certificate (codes "--certificate")
files_of (Sim request) = read request.plant.now ++ read_any request.schedule.now ++ traces request.files
files_of (Run request) =
    read request.plant.now ++ written request.state (codes "--state") ++ traces request.files
files_of (Node request) =
    read request.plant.now ++ read_any (codes "-") ++ read_if_given request.field
    ++ written request.state (codes "--state") ++ written request.journal (codes "--journal")
files_of (Explain kind) = []
files_of (Page file) = []
files_of (Audit request) = []
