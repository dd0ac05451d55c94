-- What the program writes for the words of its command line.
use Rattle.std.specs.Prelude.{◌≡◌, ℕ, List, Option, None, Bool, true, false}
use Rattle.std.specs.Borrow.{Bor}
use Rattle.std.specs.Option.{option_map, option_map_or}
use Rattle.console.specs.declared.request.TextRequest.{TextRequest}
use Rattle.console.specs.declared.request.TextRequest.TheVariants.{Eval, Check, Plan}
use Rattle.console.specs.declared.request.View.{View}
use Rattle.console.specs.declared.request.View.TheVariants as view
use Rattle.console.specs.declared.request.Color.{Color}
use Rattle.console.specs.declared.request.Color.TheVariants.{Always, Auto, Never}
use Rattle.console.specs.CommandLine.{words_in}
use Rattle.text_commands.specs.declared.form.Form.{Form}
use Rattle.text_commands.specs.declared.form.Form.TheVariants.{Rows, Drawings, Chart}
use Rattle.text_commands.specs.declared.text_command_fault.TextCommandFault.{TextCommandFault}
use Rattle.console.specs.declared.request.TraceFiles.{TraceFiles}
use Rattle.traces.specs.declared.texts.Wanted.{Wanted}
use Rattle.text_commands.specs.Sources.{SourceValue}
use Rattle.text_commands.specs.TestText.{ExplainsTest}
use Rattle.text_commands.specs.Traced.{WritesTraced}
use Rattle.text_commands.specs.declared.traced.Traced.{Traced}
use Rattle.text_commands.specs.CheckText.{WritesCheck, ExplainsCheck}
use Rattle.text_commands.specs.PlanText.{WritesPlan, ExplainsPlan}

-- there is color always, or where standard output is a terminal (and NO_COLOR is unset or empty), or never
abbrev pub is_colored : Color → Bool → Bool
is_colored Always terminal = true
is_colored Auto terminal = terminal
is_colored Never terminal = false

-- what is written of the scans
abbrev pub form_of : View → Color → Bool → Form
form_of view.Rows color terminal = Rows
form_of view.Drawings color terminal = Drawings (is_colored color terminal)
form_of view.Chart color terminal = Chart

-- a dump is wanted where it has a file, and a diagram, under this title, where it has one
pub record AreWantedFor (title : List ℕ) (files : TraceFiles) (wanted : Wanted) : Type 0 where
  pub dump : wanted.dump ≡ option_map_or (λ f. true) files.vcd false
  pub diagram : option_map (λ t. t.now) wanted.diagram ≡ option_map (λ f. title) files.svg

-- nothing was expected, and no texts of a trace are made
pub record HasNoTrace (traced : Traced) : Type 0 where
  pub difference : traced.difference ≡ None
  pub dump : traced.texts.dump ≡ None
  pub diagram : traced.texts.diagram ≡ None

-- the drawing in a text, or the program type of a name in it; and the text of a second drawing, if there is one
abbrev pub asked_source : List ℕ → Option (Bor (List ℕ)) → Option (List ℕ) → SourceValue
asked_source text program other = record {
  text = text;
  program = option_map (λ name. name.now) program;
  second = other;
}

-- what was asked for was written: by its own command, with its words, at its times; and this is the first difference from
-- what they expect, if there is one, with the texts for the files that are wanted. Of a second drawing the text is `other`.
abbrev pub WritesAnswer : Bool → TextRequest → List ℕ → Option (List ℕ) → Option (List ℕ) → Option (List ℕ) → Traced → Type 0
WritesAnswer terminal (Eval drawing dt view color files strictness words program restarts second) text other old new traced =
    (wanted : Wanted) × AreWantedFor drawing.now files wanted
    × WritesTraced (asked_source text program other) (words_in (Eval drawing dt view color files strictness words program restarts second)) restarts.items dt
    (form_of view color terminal) wanted old new traced
WritesAnswer terminal (Check plant strictness) text other old new traced = WritesCheck text old new × HasNoTrace traced
WritesAnswer terminal (Plan plant until form) text other old new traced = WritesPlan text until form old new × HasNoTrace traced

-- why what was asked for wasn't written, and what was written before
abbrev pub ExplainsAnswer : Bool → TextRequest → List ℕ → Option (List ℕ) → Option (List ℕ) → Option (List ℕ) → TextCommandFault → Type 0
ExplainsAnswer terminal (Eval drawing dt view color files strictness words program restarts second) text other old new fault =
    ExplainsTest (asked_source text program other) (words_in (Eval drawing dt view color files strictness words program restarts second)) restarts.items dt
    (form_of view color terminal) old new fault
ExplainsAnswer terminal (Check plant strictness) text other old new fault = ExplainsCheck text old new fault
ExplainsAnswer terminal (Plan plant until form) text other old new fault = ExplainsPlan text until form old new fault
