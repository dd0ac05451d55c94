-- The line on words of the command line that are refused though its grammar allows them.
use Rattle.std.specs.Prelude.{ℕ, ◌++◌, List, codes}
use Rattle.console.specs.Refusals.{shown}
use Rattle.console.specs.declared.refusals.WordRefusal.{WordRefusal}
use Rattle.console.specs.declared.refusals.WordRefusal.TheVariants as word

-- plc: NAME: why
abbrev pub name_refused : List ℕ → List ℕ → List ℕ
name_refused name why = codes "plc: " ++ shown name ++ codes ": " ++ why

-- a file is read, and would be written for an option
abbrev pub written_over : List ℕ → List ℕ → List ℕ
written_over path option = name_refused path (codes "this file is read: give another name to ") ++ option

-- a file is written for an option, and would be for another one
abbrev pub written_twice : List ℕ → List ℕ → List ℕ → List ℕ
written_twice path first option =
    name_refused path (codes "this file is written for ") ++ (first ++ codes ": give another name to " ++ option)

-- nothing of the name `-` is written for an option
abbrev pub nameless : List ℕ → List ℕ
nameless option =
    codes "plc: -: nothing is written to standard output for " ++ (option ++ codes "; what has this name is ./-")

-- the line on each
abbrev pub word_refusal : WordRefusal → List ℕ
word_refusal (word.NoFieldInput name) =
    name_refused name.now (codes "this word is no ADDRESS=VALUE such as %IX0=1 or %IW2=-7")
word_refusal (word.AddressTwice name) = name_refused name.now (codes "another word gives this address its value")
word_refusal (word.NoResource name) = name_refused name.now (codes "the plant has no resource of this name")
word_refusal (word.NoProgram name) = name_refused name.now (codes "the plant has no program type of this name")
word_refusal (word.NoKind name) = name_refused name.now (codes "there is no kind of fault of this name; plc explain lists all")
word_refusal word.NoFile =
    codes "plc: -: only a schedule is read from standard input; a file of this name is ./-"
word_refusal (word.Nameless option) = nameless option.now
word_refusal word.NoSubject =
    codes "plc: names without a dot are of a drawing, names R.P.V of a plant, and a question is about one of them; --no-restarts and --most-waiting are of plants, --with is of drawings"
word_refusal word.NoProgramOfNames =
    codes "plc: --program asks about one program type: its names have no dot, and --no-restarts and --most-waiting are of plants"
word_refusal word.NoInduction =
    codes "plc: --by induction is of drawings and program types, whose names have no dot: leave it out for a plant, of which --no-restarts and --most-waiting are"
word_refusal (word.WrittenOver path option) = written_over path.now option.now
word_refusal (word.WrittenTwice path first option) = written_twice path.now first.now option.now
