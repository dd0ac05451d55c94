-- The texts of a schedule that was done, by what stands at its end.
use Rattle.std.proofs.Common.{◌≡◌, ℕ, List, Option, length, sym, subst, ap, arith}
use Rattle.std.specs.Prelude.{reverse}
use Rattle.std.proofs.lemmas.List.{take_all}
use Rattle.plant.specs.PlantValue.{PlantValue}
use Rattle.console.specs.declared.answered.Answered.{Answered}
use Rattle.console.specs.declared.request.SimRequest.{SimRequest}
use Rattle.world.specs.declared.event.Event.{Event}
use Rattle.world.specs.History.{Setting, history_of}
use Rattle.world.specs.Run.{IsLog}
use Rattle.world.specs.ScheduleText.{schedule_lines}
use Rattle.world.specs.Simulated.{from_one}
use Rattle.tested_schedules.specs.declared.live_fault.LiveFault.TheVariants.{Memory}
use Rattle.tested_schedules.proofs.LinesEnding.{words_of_each}
use Rattle.tested_schedules.specs.declared.tested.Tested.{Tested}
use Rattle.tested_schedules.specs.Tested.{HasTested, WritesFirst}
use Rattle.tested_schedules.specs.TestedLines.{EndsTestedLines, HasTestedLines}
use Rattle.tested_schedules.specs.TestedText.{IsTested}
use Rattle.traces.specs.declared.texts.TraceTexts.{TraceTexts}
use Rattle.traces.specs.Moments.{of_events}
use Rattle.traces.specs.Texts.{AreOutputTexts}
use Rattle.console.specs.Statuses.{status_of_expectations}
use Rattle.console.specs.TracedRun.{AreRunTexts, WritesTracedLines, WritesTracedRun}
use Rattle.console.specs.Steps.Ending.{AreEndTexts}

-- the whole of a text is that of all lines
all_first : (plant : PlantValue) (most : ℕ) (schedule : List ℕ) (old new : Option (List ℕ)) (tested : Tested) → HasTested plant most schedule old new tested → WritesFirst plant most schedule old new
all_first plant most schedule old new tested h =
    let lines = schedule_lines schedule in
    record {
      lines = length lines;
      text = h.text;
      first = record { unmet = tested.has_unmet; told = subst (λ L. IsTested (from_one plant most) L h.text tested.has_unmet) (sym (take_all (length lines) lines (omega arith))) h.told };
      written = h.written;
    }

-- no memory for the texts
pub no_texts : (plant : PlantValue) (most : ℕ) (schedule : List ℕ) (old new : Option (List ℕ)) (tested : Tested) → HasTested plant most schedule old new tested → WritesFirst plant most schedule old new
no_texts plant most schedule old new tested h = all_first plant most schedule old new tested h

pub no_live_texts : (plant : PlantValue) (most : ℕ) (given left : Option (List ℕ)) (last : List ℕ) (old new : Option (List ℕ)) (tested : Tested) → HasTestedLines plant most given left old new tested
    → EndsTestedLines plant most given left last old new Memory
unfolding all_first
no_live_texts plant most given left last old new tested h =
    record {
      schedule = h.schedule;
      read = h.read;
      stops = (all_first plant most h.schedule old new tested h.run, omega (arith, words_of_each h.schedule));
    }

-- the texts of what stands at the end are those of the schedule's events
texts_of : (plant : PlantValue) (request : SimRequest) (schedule : List ℕ) (old new : Option (List ℕ)) (tested : Tested) (texts : TraceTexts) (h : HasTested plant request.max_number schedule old new tested) → AreEndTexts request tested.ended texts
    → AreRunTexts plant request h.ended.events texts
texts_of plant request schedule old new tested texts h t =
    let s = from_one plant request.max_number in
    let w = tested.ended.world in
    let log = w.log in
    let moved : IsLog s (history_of s w.events) (reverse log) = subst (λ (x : Setting). IsLog x (history_of x w.events) (reverse log)) h.ended.setting t.made in
    let of_plant : AreOutputTexts t.wanted plant (of_events tested.ended.events log) texts =
    subst (λ (p : PlantValue). AreOutputTexts t.wanted p (of_events tested.ended.events log) texts) (ap (λ (x : Setting). x.plant) h.ended.setting) t.texts_are in
    record {
      log = log;
      made = subst (λ (l : List Event). IsLog s l (reverse log)) h.ended.history moved;
      wanted = t.wanted;
      asked = t.asked;
      texts_are = subst (λ n. AreOutputTexts t.wanted plant (of_events n log) texts) h.ended.number of_plant;
    }

pub run_texts : (plant : PlantValue) (request : SimRequest) (schedule : List ℕ) (old new : Option (List ℕ)) (tested : Tested) (answered : Answered) → HasTested plant request.max_number schedule old new tested
    → answered.status ≡ status_of_expectations tested.has_unmet → AreEndTexts request tested.ended answered.texts → WritesTracedRun plant request schedule old new answered
run_texts plant request schedule old new tested answered h status t =
    record { tested = tested; run = h; status = status; traced = texts_of plant request schedule old new tested answered.texts h t }

pub live_texts : (plant : PlantValue) (request : SimRequest) (given left old new : Option (List ℕ)) (tested : Tested) (answered : Answered) → HasTestedLines plant request.max_number given left old new tested
    → answered.status ≡ status_of_expectations tested.has_unmet → AreEndTexts request tested.ended answered.texts → WritesTracedLines plant request given left old new answered
live_texts plant request given left old new tested answered h status t =
    record { tested = tested; live = h; status = status; traced = texts_of plant request h.schedule old new tested answered.texts h.run t }
