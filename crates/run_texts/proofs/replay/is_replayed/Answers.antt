-- The world begins anew, and does the events of the schedule.
use Rattle.std.proofs.Common.{◌≡◌, ◌↔◌, IsTrue, sym, subst}
use Rattle.task_codes.specs.CodeValue.{lists_of}
use Rattle.node_reports.specs.Codes.{AreOfPlant}
use Rattle.run_texts.specs.Steps.Replaying.{replayed_in}
use Rattle.run_texts.proofs.Replaying.{run_of, of_one_code}
use Rattle.run_texts.proofs.replay.is_replayed.Goals as goal

pub are_same-requires : goal.are_same-requires
are_same-requires c =
    let s = replayed_in c.args.plant.value c.args.first.now (lists_of c.args.opening.now) in
    let run = run_of s c.in_ok-world.world c.run.new.self c.in_ok-schedule.schedule.items c.log.result.now c.in_ok-world.ensures (rw c.deref.ensures.value at c.in-Ok.ensures.ok) c.log.ensures.run c.log.ensures.value in
    of_one_code s c.in_ok-schedule.schedule.items c.log.result.now c.entries.result.now run (subst (AreOfPlant c.args.plant.value) (sym c.entries.ensures.value) c.requires.of_plant)

pub returns-in-Ok : goal.returns-in-Ok
returns-in-Ok c = record {
  schedule = c.in_ok-schedule.schedule.items;
  again = c.in_ok-schedule.ensures.replays;
  log = c.log.result.now;
  run = run_of (replayed_in c.args.plant.value c.args.first.now (lists_of c.args.opening.now)) c.in_ok-world.world c.run.new.self c.in_ok-schedule.schedule.items c.log.result.now c.in_ok-world.ensures (rw c.deref.ensures.value at c.in-Ok.ensures.ok) c.log.ensures.run c.log.ensures.value;
  equal_is = subst (λ entries. IsTrue c.are_same.result ↔ (c.log.result.now ≡ entries)) c.entries.ensures.value c.are_same.ensures;
}
