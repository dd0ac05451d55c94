use Rattle.std.proofs.Common.{ℕ, List, sym, subst}
use Rattle.std.specs.Prelude.{string_bytes}
use Rattle.lists.proofs.Results.{kept_fault}
use Rattle.live_node.specs.declared.live_stop.LiveStop.TheVariants.{Node}
use Rattle.live_node.specs.NodeAnswers.{a_keeper_gives}
use Rattle.cycle.specs.Origins.{verdict_of, word_of_line}
use Rattle.field_node.specs.FieldAnswers.{Answering, answering, IsAnsweredFrom, IsUnanswered}
use Rattle.field_node.specs.FieldNodes.{inlets_of}
use Rattle.node_loop.specs.declared.loop_stop.LoopStop.TheVariants.{Live}
use Rattle.node_loop.specs.Given.{Takes}
use Rattle.node_loop.specs.Turns.{AnswersLine, Makes}
use Rattle.node_loop.specs.Loops.{setting_of, condition_of}
use Rattle.node_loop.specs.Steps.Following.{NotMadeOf}
use Rattle.node_loop.proofs.ByOne.{from_by_one, unanswered_from_one}
use Rattle.node_loop.proofs.looping.push_answer.Goals as goal

pub returns-in_err-do_line-in-Line-default-clause-stopped : goal.returns-in_err-do_line-in-Line-default-clause-stopped
returns-in_err-do_line-in-Line-default-clause-stopped g c =
    let raising = a_keeper_gives g.K.Keeper.last g.K.Keeper.raise_gives in
    let old = c.args.node.now in
    let noted_old = g.N.Notes.noted old.node.notes in
    let noted_new = g.N.Notes.noted c.do_line.new.self.node.notes in
    let inlets = inlets_of old.has_field old.cycle in
    let why = c.in_err-do_line-in-Line-default.field-0.0 in
    let line = c.as_slice.result.now in
    let of_keeper = unanswered_from_one g.K.Keeper.last g.K.Keeper.raise_gives old.node.keeper (verdict_of inlets c.args.origin (word_of_line line)) old.node.state line why noted_old noted_new c.requires.kept c.in_err-do_line-in-Line-default.ensures.stopped in
    let of_line = subst (λ l. IsUnanswered raising (verdict_of inlets c.args.origin (word_of_line l)) old.node.state l why noted_old noted_new) c.as_slice.ensures.value of_keeper in
    kept_fault (Live (Node why)) (NotMadeOf raising old (Takes c.args.origin c.args.told.now) noted_old noted_new) c.from_residual.result c.from_residual.ensures.1
    (subst (λ told. NotMadeOf raising old (Takes c.args.origin told) noted_old noted_new (Live (Node why))) (sym c.in-Line-default.is-0) of_line)

pub returns-in_ok-do_line-in-Line-default-clause-made : goal.returns-in_ok-do_line-in-Line-default-clause-made
returns-in_ok-do_line-in-Line-default-clause-made g c =
    let raising = a_keeper_gives g.K.Keeper.last g.K.Keeper.raise_gives in
    let old = c.args.node.now in
    let new = c.do_line.new.self in
    let noted_old = g.N.Notes.noted old.node.notes in
    let noted_new = g.N.Notes.noted new.node.notes in
    let inlets = inlets_of old.has_field old.cycle in
    let line = c.as_slice.result.now in
    let text = string_bytes c.do_line.new.out in
    let before = string_bytes c.clear.new.self in
    let a : List ℕ → Answering = λ from. answering old.node.state new.node.state old.field new.field noted_old noted_new from text in
    let of_keeper = from_by_one g.K.Keeper.last g.K.Keeper.raise_gives old.node.keeper (verdict_of inlets c.args.origin (word_of_line line)) line (a before) c.requires.kept c.in_ok-do_line-in-Line-default.ensures.answered in
    let of_line = subst (λ l. IsAnsweredFrom raising (verdict_of inlets c.args.origin (word_of_line l)) l (a before)) c.as_slice.ensures.value of_keeper in
    let answered = subst (λ from. IsAnsweredFrom raising (verdict_of inlets c.args.origin (word_of_line c.in-Line-default.line.items)) c.in-Line-default.line.items (a from)) c.clear.ensures.bytes of_line in
    let made : AnswersLine raising (setting_of old) (condition_of old noted_old) (condition_of new noted_new) c.args.origin c.in-Line-default.line.items text = record { answered = answered; cycle_is = c.in_ok-do_line-in-Line-default.ensures.cycle } in
    record {
      same = c.in_ok-do_line-in-Line-default.ensures.setting;
      made = subst (λ told. Makes raising (setting_of old) (condition_of old noted_old) (condition_of new noted_new) (Takes c.args.origin told) text) (sym c.in-Line-default.is-0) made;
    }
