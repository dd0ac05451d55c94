-- What a traced test writes and answers, from what its parts do.
use Rattle.std.proofs.Common.{◌≡◌, ℕ, List, Bool, true, false, not, if◌then◌else◌, None, Some, Option, option_map, string_bytes, refl, sym, subst, ap, ◌∙◌}
use Rattle.std.specs.Option.{option_map_or}
use Rattle.std.specs.Io.KnownBytes.{Appends}
use Rattle.std.proofs.lemmas.List.{length-map}
use Rattle.network.specs.Links.{Diagram}
use Rattle.declared_names.specs.declared.declarations.Declaration.{Declaration}
use Rattle.scan_steps.specs.declared.slot.Slot.{Slot}
use Rattle.power_flow.specs.StateValue.{StateValue}
use Rattle.std.specs.Prelude.{length}
use Rattle.std.proofs.lemmas.Bool.{and_parts}
use Rattle.traces.specs.declared.texts.Wanted.{Wanted}
use Rattle.traces.specs.declared.texts.TraceTexts.{TraceTexts}
use Rattle.traces.specs.Times.{each}
use Rattle.traces.specs.Tracks.{TrackValue}
use Rattle.traces.specs.ValueChanges.{dump_of}
use Rattle.traces.specs.Diagram.{diagram_of}
use Rattle.traces.specs.Wanted.{AreTexts, is_nothing}
use Rattle.text_commands.specs.Series.{SeriesValue}
use Rattle.text_commands.specs.Restarts.{GivenValue, kept_places}
use Rattle.text_commands.specs.Expectations.{SpellTest, test_scans}
use Rattle.text_commands.specs.Sources.{AreRetainedFrom, IsDrawingFrom, IsLadderFrom, SourceValue}
use Rattle.text_commands.specs.TestText.{IsOutcome}
use Rattle.text_commands.specs.declared.form.Form.{Form}
use Rattle.text_commands.specs.declared.traced.Traced.{Traced}
use Rattle.text_commands.specs.Traced.{WritesTraced, step_of, tracks_of}
use Rattle.text_commands.specs.Steps.Testing.{IsFormTrace, given_for, slots_of}
use Rattle.text_commands.specs.Steps.Tracing.{IsTracedTest}

no_dump : (b : Bool) (x : Option (List ℕ)) → not b ≡ true → (if b then x else None) ≡ None
no_dump true x is = absurd (let no : ⊥ = cc in no)
no_dump false x is = refl

no_diagram : {A : Type 0} (o : Option A) (f : A → List ℕ) → option_map_or (λ title. false) o true ≡ true → option_map f o ≡ None
no_diagram None f is = refl
no_diagram (Some title) f is = absurd (let no : ⊥ = cc in no)

-- where nothing is wanted no texts are all
pub untraced : (wanted : Wanted) (time : ℕ → ℕ) (moments : ℕ) (tracks : List TrackValue) (texts : TraceTexts) → is_nothing wanted ≡ true → texts.dump ≡ None → texts.diagram ≡ None → AreTexts wanted time moments tracks texts
untraced wanted time moments tracks texts is dump diagram =
    let parts = and_parts (not wanted.dump) (option_map_or (λ title. false) wanted.diagram true) is in
    record {
      dump = ap (option_map (λ t. string_bytes t)) dump ∙ sym (no_dump wanted.dump (Some (dump_of time moments tracks)) parts.0);
      diagram = ap (option_map (λ t. string_bytes t)) diagram ∙ sym (no_diagram wanted.diagram (λ title. diagram_of title.now time moments tracks) parts.1);
    }

-- the parts of a trace, with its texts
pub traced_whole : (drawing : List ℕ) (ds : List Declaration) (networks : List Diagram) (dt : ℕ) (form : Form) (wanted : Wanted) (given : GivenValue) (expected : List SeriesValue) (scans : ℕ) (states : List StateValue) (text : List ℕ)
    (traced : Traced) → scans ≡ test_scans given expected → IsFormTrace form drawing ds networks dt given scans states text → IsOutcome ds expected (slots_of states) traced.difference
    → AreTexts wanted (each (step_of dt)) (length states) (tracks_of ds (slots_of states)) traced.texts → IsTracedTest drawing ds networks dt form wanted given expected text traced
traced_whole drawing ds networks dt form wanted given expected scans states text traced many is outcome texts =
    let t = subst (λ n. IsFormTrace form drawing ds networks dt given n states text) many is in
    let long : length states ≡ length t.0.0.states = sym (ap length t.0.1 ∙ length-map states (λ (s : StateValue). s.slots)) in
    record {
      test = record {
        made = t.0.0;
        all = sym long ∙ t.0.2;
        text_is = t.1;
        outcome = subst (λ l. IsOutcome ds expected l traced.difference) (sym t.0.1) outcome;
      };
      texts = subst (λ n. AreTexts wanted (each (step_of dt)) n (tracks_of ds t.0.0.states) traced.texts) long (subst (λ (l : List (List Slot)). AreTexts wanted (each (step_of dt)) (length states) (tracks_of ds l) traced.texts) (sym t.0.1) texts);
    }

-- a test of which all was traced and written
pub traced_written : (source : SourceValue) (drawing : List ℕ) (words : List (List ℕ)) (restarts : List ℕ) (dt : ℕ) (form : Form) (wanted : Wanted) (old new : Option (List ℕ)) (ds : List Declaration) (networks : List Diagram) (rows expected : List SeriesValue) (kept retained : List ℕ)
    (text : List ℕ) (traced : Traced) → IsLadderFrom source ds networks × IsDrawingFrom source drawing × AreRetainedFrom source retained → kept ≡ kept_places ds networks retained → SpellTest ds words rows expected → IsTracedTest drawing ds networks dt form wanted (given_for rows restarts kept) expected text traced → Appends old new text
    → WritesTraced source words restarts dt form wanted old new traced
traced_written source drawing words restarts dt form wanted old new ds networks rows expected kept retained text traced ladder are read is appended = let t = subst (λ places. IsTracedTest drawing ds networks dt form wanted (given_for rows restarts places) expected text traced) are is in
    record {
      test = record {
        asked = record { declarations = ds; networks = networks; ladder = ladder.0; drawing = drawing; drawn = ladder.1; rows = rows; expected = expected; read = read; retained = retained; retained_are = ladder.2 };
        made = t.test.made;
        all = t.test.all;
        text = text;
        text_is = t.test.text_is;
        appended = appended;
        outcome = t.test.outcome;
      };
      texts = t.texts;
    }
