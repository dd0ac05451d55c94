-- A line that was read is answered, and its answer waits; or the node stopped.
use Rattle.std.specs.Prelude.{string_bytes}
use Rattle.std.proofs.Common.{subst}
use Rattle.lists.proofs.Results.{kept_fault}
use Rattle.live_node.specs.declared.live_stop.LiveStop.TheVariants.{Node, Memory}
use Rattle.live_node.specs.NodeAnswers.{a_keeper_gives, IsAnswered}
use Rattle.live_node.specs.Stops.{NotesUnanswered, StopsWithin}
use Rattle.live_node.specs.Steps.Answering.{stop_of}
use Rattle.live_node.specs.Steps.ByOne.{answered_by_one, unanswered_by_one}
use Rattle.live_node.specs.TakenLines.{Takes}
use Rattle.live_node.proofs.NextAnswered.{next_answered, next_too_long}
use Rattle.live_node.proofs.Stopping.{stops_unread, stops_unanswered, stops_unrefused}
use Rattle.text_lines.proofs.Sending.{on_err}
use Rattle.live_node.proofs.Outliving.{same_failure}
use Rattle.live_node.proofs.answering.do_next.Goals as goal

pub returns-in_err-take_line-clause-stopped : goal.returns-in_err-take_line-clause-stopped
returns-in_err-take_line-clause-stopped g c =
    let raising = a_keeper_gives g.K.Keeper.last g.K.Keeper.raise_gives in
    let s = c.args.node.now.state in
    let given = g.L.LineSource.left c.args.source.now in
    let left = g.L.LineSource.left c.take_line.new.source in
    let noted = g.N.Notes.noted c.args.node.now.notes in
    let why = c.in_err-take_line.field-0.0 in
    kept_fault (stop_of why) (StopsWithin raising s given left noted noted) c.from_residual.result c.from_residual.ensures.1 (stops_unread raising s given left noted why c.in_err-take_line.ensures.fault)

pub returns-in_err-do_line-in-Line-clause-stopped : goal.returns-in_err-do_line-in-Line-clause-stopped
returns-in_err-do_line-in-Line-clause-stopped g c =
    let raising = a_keeper_gives g.K.Keeper.last g.K.Keeper.raise_gives in
    let s = c.args.node.now.state in
    let given = g.L.LineSource.left c.args.source.now in
    let left = g.L.LineSource.left c.take_line.new.source in
    let line = c.take_line.new.line.items in
    let noted_old = g.N.Notes.noted c.args.node.now.notes in
    let noted_new = g.N.Notes.noted c.do_line.new.node.notes in
    let why = c.in_err-do_line-in-Line.field-0.0 in
    let taken = subst (Takes given left line) c.in-Line.is c.in_ok-take_line.ensures.ok in
    let of_keeper = unanswered_by_one g.K.Keeper.last g.K.Keeper.raise_gives c.args.node.now.keeper s c.as_slice-line.result.now why noted_old noted_new c.requires.kept c.in_err-do_line-in-Line.ensures.stopped in
    let part = subst (λ l. NotesUnanswered raising s l why noted_old noted_new) c.as_slice-line.ensures.value of_keeper in
    kept_fault (Node why) (StopsWithin raising s given left noted_old noted_new) c.from_residual-in_err-do_line-in-Line.result c.from_residual-in_err-do_line-in-Line.ensures.1
    (stops_unanswered raising s given left noted_old noted_new line c.in-Line.fed why taken part)

pub returns-in_ok-do_line-in-Line-clause-done : goal.returns-in_ok-do_line-in-Line-clause-done
returns-in_ok-do_line-in-Line-clause-done g c =
    let raising = a_keeper_gives g.K.Keeper.last g.K.Keeper.raise_gives in
    let s = c.args.node.now.state in
    let last = c.do_line.new.node.state in
    let given = g.L.LineSource.left c.args.source.now in
    let left = g.L.LineSource.left c.take_line.new.source in
    let line = c.take_line.new.line.items in
    let noted_old = g.N.Notes.noted c.args.node.now.notes in
    let noted_new = g.N.Notes.noted c.do_line.new.node.notes in
    let waited = string_bytes c.args.room.now.waiting in
    let waiting = string_bytes c.do_line.new.waiting in
    let taken = subst (Takes given left line) c.in-Line.is c.in_ok-take_line.ensures.ok in
    let of_keeper = answered_by_one g.K.Keeper.last g.K.Keeper.raise_gives c.args.node.now.keeper s last c.as_slice-line.result.now noted_old noted_new waited waiting c.requires.kept c.in_ok-do_line-in-Line.ensures.answered in
    let answered = subst (λ l. IsAnswered raising s last l noted_old noted_new waited waiting) c.as_slice-line.ensures.value of_keeper in
    next_answered raising s last given left noted_old noted_new line waited waiting c.in-Line.fed taken answered

pub returns-in_ok-refuse_long-in-TooLong-clause-done : goal.returns-in_ok-refuse_long-in-TooLong-clause-done
returns-in_ok-refuse_long-in-TooLong-clause-done g c =
    let raising = a_keeper_gives g.K.Keeper.last g.K.Keeper.raise_gives in
    let s = c.args.node.now.state in
    let given = g.L.LineSource.left c.args.source.now in
    let left = g.L.LineSource.left c.take_line.new.source in
    let line = c.take_line.new.line.items in
    let taken = subst (Takes given left line) c.in-TooLong.is c.in_ok-take_line.ensures.ok in
    next_too_long raising s given left (g.N.Notes.noted c.args.node.now.notes) line (string_bytes c.args.room.now.waiting) (string_bytes c.refuse_long.new.waiting) c.in-TooLong.fed taken c.in_ok-refuse_long-in-TooLong.ensures.refused

pub returns-in_err-refuse_long-in-TooLong-clause-stopped : goal.returns-in_err-refuse_long-in-TooLong-clause-stopped
returns-in_err-refuse_long-in-TooLong-clause-stopped g c =
    let raising = a_keeper_gives g.K.Keeper.last g.K.Keeper.raise_gives in
    let s = c.args.node.now.state in
    let given = g.L.LineSource.left c.args.source.now in
    let left = g.L.LineSource.left c.take_line.new.source in
    let line = c.take_line.new.line.items in
    let noted = g.N.Notes.noted c.args.node.now.notes in
    let taken = subst (Takes given left line) c.in-TooLong.is c.in_ok-take_line.ensures.ok in
    kept_fault Memory (StopsWithin raising s given left noted noted) c.from_residual-in_err-refuse_long-in-TooLong.result c.from_residual-in_err-refuse_long-in-TooLong.ensures.1 (stops_unrefused raising s given left noted line c.in-TooLong.fed taken)

pub returns-in_ok-do_line-in-Line-clause-keeps : goal.returns-in_ok-do_line-in-Line-clause-keeps
returns-in_ok-do_line-in-Line-clause-keeps g c = λ done. c.in_ok-do_line-in-Line.ensures.keeps

pub returns-in_err-do_line-in-Line-clause-keeps : goal.returns-in_err-do_line-in-Line-clause-keeps
returns-in_err-do_line-in-Line-clause-keeps g c = λ unfailed.
    absurd (same_failure (Unit {0}) (Node c.in_err-do_line-in-Line.field-0.0) c.from_residual-in_err-do_line-in-Line.result c.from_residual-in_err-do_line-in-Line.ensures.1 unfailed)

pub returns-in_err-do_line-in-Line-clause-rest : goal.returns-in_err-do_line-in-Line-clause-rest
returns-in_err-do_line-in-Line-clause-rest g c = on_err _ c.in_err-do_line-in-Line.ensures.rest
