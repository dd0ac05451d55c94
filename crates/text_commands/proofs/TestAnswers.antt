-- What a test writes and answers, from what its parts do.
use Rattle.std.proofs.Common.{◌≡◌, ℕ, ◌≤◌, List, Bool, false, Option, inl, inr, length, refl, sym, ap, ◌∙◌, subst, arith}
use Rattle.std.specs.List.{flat_map}
use Rattle.std.proofs.lemmas.List.{length-map}
use Rattle.std.proofs.KnownBytes.{Keeps-refl}
use Rattle.std.specs.Io.KnownBytes.{Appends}
use Rattle.network.specs.Links.{Diagram}
use Rattle.declared_names.specs.declared.declarations.Declaration.{Declaration}
use Rattle.text_lines.specs.Sending.{SendsLess, Stops}
use Rattle.text_lines.specs.declared.send_fault.SendFault.{SendFault}
use Rattle.text_lines.specs.declared.send_fault.SendFault.TheVariants as sending
use Rattle.text_commands.specs.declared.difference.Difference.{Difference}
use Rattle.text_commands.specs.declared.text_command_fault.TextCommandFault.{TextCommandFault}
use Rattle.text_commands.specs.declared.text_command_fault.TextCommandFault.TheVariants.{Text, Word, Write, Memory}
use Rattle.text_commands.specs.declared.form.Form.{Form}
use Rattle.text_commands.specs.declared.form.Form.TheVariants.{Rows, Drawings, Chart}
use Rattle.text_commands.specs.Giving.{sending_fault}
use Rattle.text_commands.specs.Series.{SeriesValue}
use Rattle.text_commands.specs.Restarts.{GivenValue, kept_places}
use Rattle.text_commands.specs.Expectations.{SpellTest, test_scans}
use Rattle.power_flow.specs.StateValue.{StateValue}
use Rattle.text_commands.specs.Trace.{SomeTrace}
use Rattle.text_commands.specs.Lines.{line_of}
use Rattle.text_commands.specs.Chart.{chart_of}
use Rattle.text_commands.specs.Shown.{IsShown}
use Rattle.text_commands.specs.EvalText.{StopsScans}
use Rattle.text_commands.specs.Sources.{AreRetainedFrom, IsDrawingFrom, IsLadderFrom, SourceValue}
use Rattle.text_commands.specs.TestText.{ExplainsTest, IsOutcome, IsTextOf, StopsTest, WritesTest, is_chart}
use Rattle.text_commands.specs.Steps.Sources.{RefusesFrom}
use Rattle.text_commands.specs.Steps.Testing.{IsFormTrace, IsTestTrace, IsTraceOf, RefusesTest, WritesRun, given_for, slots_of}
use Rattle.text_commands.specs.Steps.Showing.{IsShownTrace, SomeShown, StopsShown, WritesShown}
use Rattle.text_commands.proofs.Showing.{shown_traced}

pub test_ladder_refused : (source : SourceValue) (words : List (List ℕ)) (restarts : List ℕ) (dt : ℕ) (form : Form) (old : Option (List ℕ)) (fault : TextCommandFault) → RefusesFrom source fault
    → ExplainsTest source words restarts dt form old old fault
test_ladder_refused source words restarts dt form old (Text fault) refused = (refused, Keeps-refl old)
test_ladder_refused source words restarts dt form old (Word fault) refused = (inl refused, Keeps-refl old)
test_ladder_refused source words restarts dt form old Write refused = absurd refused
test_ladder_refused source words restarts dt form old Memory refused = inl (Keeps-refl old)

pub test_words_refused : (source : SourceValue) (words : List (List ℕ)) (restarts : List ℕ) (dt : ℕ) (form : Form) (old : Option (List ℕ)) (ds : List Declaration) (networks : List Diagram) (fault : TextCommandFault)
    → IsLadderFrom source ds networks → RefusesTest ds words fault → ExplainsTest source words restarts dt form old old fault
test_words_refused source words restarts dt form old ds networks (Text fault) ladder refused = absurd refused
test_words_refused source words restarts dt form old ds networks (Word fault) ladder refused = (inr (record { declarations = ds; networks = networks; ladder = ladder; first = refused }), Keeps-refl old)
test_words_refused source words restarts dt form old ds networks Write ladder refused = absurd refused
test_words_refused source words restarts dt form old ds networks Memory ladder refused = inl (Keeps-refl old)

-- the parts of a trace
pub test_traced : (drawing : List ℕ) (ds : List Declaration) (networks : List Diagram) (dt : ℕ) (form : Form) (given : GivenValue) (expected : List SeriesValue) (scans : ℕ) (states : List StateValue) (text : List ℕ)
    (found : Option Difference) → scans ≡ test_scans given expected → IsFormTrace form drawing ds networks dt given scans states text → IsOutcome ds expected (slots_of states) found
    → IsTestTrace drawing ds networks dt form given expected text found
test_traced drawing ds networks dt form given expected scans states text found many traced outcome =
    let t = subst (λ n. IsFormTrace form drawing ds networks dt given n states text) many traced in
    record {
      made = t.0.0;
      all = ap length t.0.1 ∙ length-map states (λ (s : StateValue). s.slots) ∙ t.0.2;
      text_is = t.1;
      outcome = subst (λ l. IsOutcome ds expected l found) (sym t.0.1) outcome;
    }

-- a test of which all was traced
pub test_written : (source : SourceValue) (drawing : List ℕ) (words : List (List ℕ)) (restarts : List ℕ) (dt : ℕ) (form : Form) (old new : Option (List ℕ)) (ds : List Declaration) (networks : List Diagram) (rows expected : List SeriesValue) (kept retained : List ℕ)
    (text : List ℕ) (found : Option Difference) → IsLadderFrom source ds networks × IsDrawingFrom source drawing × AreRetainedFrom source retained → kept ≡ kept_places ds networks retained → SpellTest ds words rows expected → IsTestTrace drawing ds networks dt form (given_for rows restarts kept) expected text found
    → Appends old new text → WritesTest source words restarts dt form old new found
test_written source drawing words restarts dt form old new ds networks rows expected kept retained text found ladder are read traced appended = let t = subst (λ places. IsTestTrace drawing ds networks dt form (given_for rows restarts places) expected text found) are traced in
    record {
      asked = record { declarations = ds; networks = networks; ladder = ladder.0; drawing = drawing; drawn = ladder.1; rows = rows; expected = expected; read = read; retained = retained; retained_are = ladder.2 };
      made = t.made;
      all = t.all;
      text = text;
      text_is = t.text_is;
      appended = appended;
      outcome = t.outcome;
    }

pub test_cut : (source : SourceValue) (drawing : List ℕ) (words : List (List ℕ)) (restarts : List ℕ) (dt : ℕ) (form : Form) (old new : Option (List ℕ)) (ds : List Declaration) (networks : List Diagram) (rows expected : List SeriesValue) (kept retained : List ℕ)
    (text : List ℕ) (found : Option Difference) → IsLadderFrom source ds networks × IsDrawingFrom source drawing × AreRetainedFrom source retained → kept ≡ kept_places ds networks retained → SpellTest ds words rows expected → IsTestTrace drawing ds networks dt form (given_for rows restarts kept) expected text found
    → SendsLess text old new → ExplainsTest source words restarts dt form old new Write
test_cut source drawing words restarts dt form old new ds networks rows expected kept retained text found ladder are read traced less = let t = subst (λ places. IsTestTrace drawing ds networks dt form (given_for rows restarts places) expected text found) are traced in
    record {
      asked = record { declarations = ds; networks = networks; ladder = ladder.0; drawing = drawing; drawn = ladder.1; rows = rows; expected = expected; read = read; retained = retained; retained_are = ladder.2 };
      made = t.made;
      all = λ yes. t.all;
      text = text;
      text_is = t.text_is;
      stopped = less;
    }

-- what was cut off was the text of some scans
stream_cut : (source : SourceValue) (drawing : List ℕ) (words : List (List ℕ)) (restarts : List ℕ) (dt : ℕ) (form : Form) (old new : Option (List ℕ)) (ds : List Declaration) (networks : List Diagram) (rows expected : List SeriesValue) (retained : List ℕ)
    (made : SomeTrace ds networks dt (given_for rows restarts (kept_places ds networks retained)) (test_scans (given_for rows restarts (kept_places ds networks retained)) expected)) (text : List ℕ) (fault : SendFault) → is_chart form ≡ false → IsLadderFrom source ds networks × IsDrawingFrom source drawing × AreRetainedFrom source retained → SpellTest ds words rows expected
    → IsTextOf form drawing made text → Stops fault text old new → ExplainsTest source words restarts dt form old new (sending_fault fault)
stream_cut source drawing words restarts dt form old new ds networks rows expected retained made text fault plain ladder read text_is stopped = told fault stopped
  where
    part : (fault : SendFault) → Stops fault text old new → StopsTest fault source words restarts dt form old new
    part fault stopped = record {
      asked = record { declarations = ds; networks = networks; ladder = ladder.0; drawing = drawing; drawn = ladder.1; rows = rows; expected = expected; read = read; retained = retained; retained_are = ladder.2 };
      made = made;
      all = λ yes. absurd (let no : ⊥ = cc in no);
      text = text;
      text_is = text_is;
      stopped = stopped;
    }

    told : (fault : SendFault) → Stops fault text old new → ExplainsTest source words restarts dt form old new (sending_fault fault)
    told sending.Write stopped = part sending.Write stopped
    told sending.Memory stopped = inr (part sending.Memory stopped)

pub rows_written : (source : SourceValue) (drawing : List ℕ) (words : List (List ℕ)) (restarts : List ℕ) (dt : ℕ) (form : Form) (old new : Option (List ℕ)) (ds : List Declaration) (networks : List Diagram) (rows expected : List SeriesValue) (kept retained : List ℕ)
    (scans : ℕ) (found : Option Difference) → form ≡ Rows → scans ≡ test_scans (given_for rows restarts kept) expected → IsLadderFrom source ds networks × IsDrawingFrom source drawing × AreRetainedFrom source retained → kept ≡ kept_places ds networks retained → SpellTest ds words rows expected
    → WritesRun ds networks dt (given_for rows restarts kept) expected scans old new found → WritesTest source words restarts dt form old new found
rows_written source drawing words restarts dt form old new ds networks rows expected kept retained scans found plain many ladder are read run =
    let written = subst (λ n. WritesRun ds networks dt (given_for rows restarts (kept_places ds networks retained)) expected n old new found) many (subst (λ places. WritesRun ds networks dt (given_for rows restarts places) expected scans old new found) are run) in
    rw plain (record {
      asked = record { declarations = ds; networks = networks; ladder = ladder.0; drawing = drawing; drawn = ladder.1; rows = rows; expected = expected; read = read; retained = retained; retained_are = ladder.2 };
      made = written.0.made;
      all = written.0.all;
      text = flat_map (line_of ds) written.0.made.states;
      text_is = refl;
      appended = written.0.appended;
      outcome = written.1;
    })

pub rows_stopped : (source : SourceValue) (drawing : List ℕ) (words : List (List ℕ)) (restarts : List ℕ) (dt : ℕ) (form : Form) (old new : Option (List ℕ)) (ds : List Declaration) (networks : List Diagram) (rows expected : List SeriesValue) (kept retained : List ℕ)
    (scans : ℕ) (fault : SendFault) → form ≡ Rows → scans ≡ test_scans (given_for rows restarts kept) expected → IsLadderFrom source ds networks × IsDrawingFrom source drawing × AreRetainedFrom source retained → kept ≡ kept_places ds networks retained → SpellTest ds words rows expected
    → StopsScans ds networks dt (given_for rows restarts kept) scans fault old new → ExplainsTest source words restarts dt form old new (sending_fault fault)
rows_stopped source drawing words restarts dt form old new ds networks rows expected kept retained scans fault plain many ladder are read stops =
    let stopped = subst (λ n. StopsScans ds networks dt (given_for rows restarts (kept_places ds networks retained)) n fault old new) many (subst (λ places. StopsScans ds networks dt (given_for rows restarts places) scans fault old new) are stops) in
    rw plain (stream_cut source drawing words restarts dt Rows old new ds networks rows expected retained stopped.made (flat_map (line_of ds) stopped.made.states) fault refl ladder read refl stopped.stopped)

-- scans that were written with their drawings are some of a test
drawings_traced : (drawing : List ℕ) (color : Bool) (ds : List Declaration) (networks : List Diagram) (dt : ℕ) (given : GivenValue) (few most : ℕ) (made : SomeShown drawing color ds networks dt given few) → few ≤ most
    → SomeTrace ds networks dt given most
drawings_traced drawing color ds networks dt given few most made less = record {
  states = made.states;
  slots = made.slots;
  memories = made.memories;
  trace = shown_traced drawing color ds networks dt given made.states made.slots made.memories made.text made.shown;
  few = let little = made.few in omega arith;
}

pub drawings_written : (source : SourceValue) (drawing : List ℕ) (words : List (List ℕ)) (restarts : List ℕ) (dt : ℕ) (form : Form) (color : Bool) (old new : Option (List ℕ)) (ds : List Declaration) (networks : List Diagram) (rows expected : List SeriesValue) (kept retained : List ℕ)
    (scans : ℕ) (found : Option Difference) → form ≡ Drawings color → scans ≡ test_scans (given_for rows restarts kept) expected → IsLadderFrom source ds networks × IsDrawingFrom source drawing × AreRetainedFrom source retained → kept ≡ kept_places ds networks retained → SpellTest ds words rows expected
    → WritesShown drawing color ds networks dt (given_for rows restarts kept) expected scans old new found → WritesTest source words restarts dt form old new found
unfolding drawings_traced
drawings_written source drawing words restarts dt form color old new ds networks rows expected kept retained scans found shows many ladder are read shown =
    let written = subst (λ n. WritesShown drawing color ds networks dt (given_for rows restarts (kept_places ds networks retained)) expected n old new found) many (subst (λ places. WritesShown drawing color ds networks dt (given_for rows restarts places) expected scans old new found) are shown) in
    rw shows (record {
      asked = record { declarations = ds; networks = networks; ladder = ladder.0; drawing = drawing; drawn = ladder.1; rows = rows; expected = expected; read = read; retained = retained; retained_are = ladder.2 };
      made = drawings_traced drawing color ds networks dt (given_for rows restarts (kept_places ds networks retained)) (test_scans (given_for rows restarts (kept_places ds networks retained)) expected) (test_scans (given_for rows restarts (kept_places ds networks retained)) expected) written.made (omega arith);
      all = written.all;
      text = written.made.text;
      text_is = written.made.shown;
      appended = written.appended;
      outcome = written.outcome;
    })

pub drawings_stopped : (source : SourceValue) (drawing : List ℕ) (words : List (List ℕ)) (restarts : List ℕ) (dt : ℕ) (form : Form) (color : Bool) (old new : Option (List ℕ)) (ds : List Declaration) (networks : List Diagram) (rows expected : List SeriesValue) (kept retained : List ℕ)
    (scans : ℕ) (fault : SendFault) → form ≡ Drawings color → scans ≡ test_scans (given_for rows restarts kept) expected → IsLadderFrom source ds networks × IsDrawingFrom source drawing × AreRetainedFrom source retained → kept ≡ kept_places ds networks retained → SpellTest ds words rows expected
    → StopsShown drawing color ds networks dt (given_for rows restarts kept) scans fault old new → ExplainsTest source words restarts dt form old new (sending_fault fault)
unfolding drawings_traced
drawings_stopped source drawing words restarts dt form color old new ds networks rows expected kept retained scans fault shows many ladder are read stops =
    let stopped = subst (λ n. StopsShown drawing color ds networks dt (given_for rows restarts (kept_places ds networks retained)) n fault old new) many (subst (λ places. StopsShown drawing color ds networks dt (given_for rows restarts places) scans fault old new) are stops) in
    rw shows (stream_cut source drawing words restarts dt (Drawings color) old new ds networks rows expected retained
    (drawings_traced drawing color ds networks dt (given_for rows restarts (kept_places ds networks retained)) (test_scans (given_for rows restarts (kept_places ds networks retained)) expected) (test_scans (given_for rows restarts (kept_places ds networks retained)) expected) stopped.made (omega arith)) stopped.made.text fault refl ladder read stopped.made.shown stopped.stopped)

-- a trace, and its lines
pub rows_form : (drawing : List ℕ) (ds : List Declaration) (networks : List Diagram) (dt : ℕ) (given : GivenValue) (scans : ℕ) (states : List StateValue) (text : List ℕ)
    → IsTraceOf ds networks dt given scans states → text ≡ flat_map (line_of ds) (slots_of states) → IsFormTrace Rows drawing ds networks dt given scans states text
rows_form drawing ds networks dt given scans states text traced is = (traced, is ∙ ap (λ l. flat_map (line_of ds) l) (sym traced.1))

-- a trace, and its chart
pub chart_form : (drawing : List ℕ) (ds : List Declaration) (networks : List Diagram) (dt : ℕ) (given : GivenValue) (scans : ℕ) (states : List StateValue) (text : List ℕ)
    → IsTraceOf ds networks dt given scans states → text ≡ chart_of ds (slots_of states) → IsFormTrace Chart drawing ds networks dt given scans states text
chart_form drawing ds networks dt given scans states text traced is = (traced, is ∙ ap (λ l. chart_of ds l) (sym traced.1))

-- a trace, and its lines with their drawings
pub drawings_form : (drawing : List ℕ) (color : Bool) (ds : List Declaration) (networks : List Diagram) (dt : ℕ) (given : GivenValue) (scans : ℕ) (states : List StateValue) (text : List ℕ)
    → IsShownTrace drawing color ds networks dt given scans states text → IsFormTrace (Drawings color) drawing ds networks dt given scans states text
unfolding drawings_traced
drawings_form drawing color ds networks dt given scans states text shown =
    let made = shown.0 in (
      (drawings_traced drawing color ds networks dt given scans scans made (omega arith), shown.1, shown.2),
      subst (λ t. IsShown drawing color ds networks dt given made.states made.slots made.memories t) shown.3 made.shown,
    )
