use Rattle.std.proofs.Common.{subst}
use Rattle.std.specs.Prelude.{string_bytes}
use Rattle.lists.proofs.Results.{kept_fault}
use Rattle.live_node.specs.declared.live_stop.LiveStop.TheVariants.{Node}
use Rattle.live_node.specs.NodeAnswers.{a_keeper_gives}
use Rattle.field_node.specs.FieldAnswers.{answering, IsDone}
use Rattle.node_loop.specs.declared.loop_stop.LoopStop.TheVariants.{Live}
use Rattle.node_loop.specs.Given.{Reads}
use Rattle.node_loop.specs.Steps.Following.{NotMadeOf}
use Rattle.node_loop.proofs.ByOne.{done_by_one, stops_by_one}
use Rattle.node_loop.proofs.looping.push_evaluation.Goals as goal

pub returns-in_err-evaluate-clause-stopped : goal.returns-in_err-evaluate-clause-stopped
returns-in_err-evaluate-clause-stopped g c =
    let old = c.args.node.now in
    let new = c.evaluate.new.self in
    let noted_old = g.N.Notes.noted old.node.notes in
    let noted_new = g.N.Notes.noted new.node.notes in
    let why = c.in_err-evaluate.field-0.0 in
    kept_fault (Live (Node why)) (NotMadeOf (a_keeper_gives g.K.Keeper.last g.K.Keeper.raise_gives) old (Reads c.args.reading) noted_old noted_new) c.from_residual.result c.from_residual.ensures.1
    (record {
      cycle = new.cycle;
      stops = stops_by_one g.K.Keeper.last g.K.Keeper.raise_gives old.node.keeper old.plant.value old.resource old.cycle new.cycle c.args.reading old.field old.node.state why noted_old noted_new c.requires.kept c.in_err-evaluate.ensures.stopped;
    })

pub returns-clause-made : goal.returns-clause-made
returns-clause-made g c =
    let old = c.args.node.now in
    let new = c.evaluate.new.self in
    let noted_old = g.N.Notes.noted old.node.notes in
    let noted_new = g.N.Notes.noted new.node.notes in
    let asked = c.in_ok-evaluate.field-0 in
    let raising = a_keeper_gives g.K.Keeper.last g.K.Keeper.raise_gives in
    let done = done_by_one g.K.Keeper.last g.K.Keeper.raise_gives old.node.keeper old.plant.value old.resource asked
    (answering old.node.state new.node.state old.field new.field noted_old noted_new (string_bytes c.clear.new.self) (string_bytes c.evaluate.new.out)) c.requires.kept c.in_ok-evaluate.ensures.done in
    record {
      same = c.in_ok-evaluate.ensures.setting;
      made = record {
        asked = asked;
        asks = c.in_ok-evaluate.ensures.asks;
        done = subst (λ from. IsDone raising old.plant.value old.resource asked (answering old.node.state new.node.state old.field new.field noted_old noted_new from (string_bytes c.evaluate.new.out))) c.clear.ensures.bytes done;
        field_is = c.in_ok-evaluate.ensures.field;
      };
    }
