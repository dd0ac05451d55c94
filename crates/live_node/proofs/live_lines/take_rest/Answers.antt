use Rattle.std.proofs.Common.{true, false, ◌++◌, sym, subst}
use Rattle.std.proofs.KnownBytes.{Consumes-trans}
use Rattle.text_lines.specs.Lines.{Gives}
use Rattle.live_node.specs.Steps.LineTaking.{HasPut}
use Rattle.live_node.specs.TakenLines.{TakesWithin}
use Rattle.lists.proofs.Results.{kept_fault}
use Rattle.live_node.proofs.LineTaking.{plain_both, begins_more, within_some, within_given, held_more, held_within, rest_taken, fed_end, whole_end, last_end}
use Rattle.live_node.proofs.live_lines.take_rest.Goals as goal

pub returns-in-Line-clause-ok : goal.returns-in-Line-clause-ok
returns-in-Line-clause-ok g c =
    let given = g.L.LineSource.left c.args.source.now in
    let mid = g.L.LineSource.left c.loop.source in
    let left = g.L.LineSource.left c.take_line.new.self in
    let piece = c.take_line.new.line.items in
    let begun = c.args.line.now.items in
    let new = c.put_piece.new.line.items in
    let now = c.in_ok-too_long.too_long in
    let so_far = c.loop.invariant in
    let put = subst (λ p. HasPut c.loop.line.items new p c.loop.too_long now) c.as_slice.ensures.value c.in_ok-too_long.ensures.put in
    let gives = subst (Gives mid left piece) c.in-Line.is c.in_ok-given.ensures.ok in
    rest_taken now true given left begun new (so_far.0 ++ piece) c.taken.result (plain_both so_far.0 piece so_far.1 gives.0)
    (held_more c.loop.too_long now begun c.loop.line.items new so_far.0 piece so_far.3 put)
    (held_within c.loop.too_long now c.loop.line.items new piece so_far.4 put)
    (fed_end given mid left so_far.0 piece so_far.2 gives.2) c.taken.ensures

pub returns-in-LastLine-clause-ok : goal.returns-in-LastLine-clause-ok
returns-in-LastLine-clause-ok g c =
    let given = g.L.LineSource.left c.args.source.now in
    let mid = g.L.LineSource.left c.loop.source in
    let left = g.L.LineSource.left c.take_line.new.self in
    let piece = c.take_line.new.line.items in
    let begun = c.args.line.now.items in
    let new = c.put_piece.new.line.items in
    let now = c.in_ok-too_long.too_long in
    let so_far = c.loop.invariant in
    let put = subst (λ p. HasPut c.loop.line.items new p c.loop.too_long now) c.as_slice.ensures.value c.in_ok-too_long.ensures.put in
    let gives = last_end mid left piece c.in_ok-given.given c.in-LastLine.is c.in_ok-given.ensures.ok in
    rest_taken now false given left begun new (so_far.0 ++ piece) c.taken-in-LastLine.result (plain_both so_far.0 piece so_far.1 gives.0)
    (held_more c.loop.too_long now begun c.loop.line.items new so_far.0 piece so_far.3 put)
    (held_within c.loop.too_long now c.loop.line.items new piece so_far.4 put)
    (whole_end given mid left so_far.0 piece false so_far.2 (gives.1, gives.2)) c.taken-in-LastLine.ensures

pub loop-preserved : goal.loop-preserved
loop-preserved g c =
    let given = g.L.LineSource.left c.args.source.now in
    let mid = g.L.LineSource.left c.loop.source in
    let left = g.L.LineSource.left c.take_line.new.self in
    let piece = c.take_line.new.line.items in
    let begun = c.args.line.now.items in
    let new = c.put_piece.new.line.items in
    let now = c.in_ok-too_long.too_long in
    let so_far = c.loop.invariant in
    let put = subst (λ p. HasPut c.loop.line.items new p c.loop.too_long now) c.as_slice.ensures.value c.in_ok-too_long.ensures.put in
    let gives = subst (Gives mid left piece) c.in-TooLong.is c.in_ok-given.ensures.ok in (
      so_far.0 ++ piece,
      plain_both so_far.0 piece so_far.1 gives.0,
      Consumes-trans given mid left so_far.0 piece so_far.2 gives.2,
      held_more c.loop.too_long now begun c.loop.line.items new so_far.0 piece so_far.3 put,
      held_within c.loop.too_long now c.loop.line.items new piece so_far.4 put,
    )

pub returns-in_err-given-clause-fault : goal.returns-in_err-given-clause-fault
returns-in_err-given-clause-fault g c =
    let given = g.L.LineSource.left c.args.source.now in
    let mid = g.L.LineSource.left c.loop.source in
    let left = g.L.LineSource.left c.take_line.new.self in
    let so_far = c.loop.invariant in
    let why = c.in_err-given.field-0.0 in
    kept_fault why (λ found. TakesWithin 0 found given left) c.from_residual.result c.from_residual.ensures.1
    (within_some 0 why given left (begins_more given mid left so_far.0 so_far.1 so_far.2 c.in_err-given.ensures.fault))

pub returns-in_err-too_long-clause-fault : goal.returns-in_err-too_long-clause-fault
returns-in_err-too_long-clause-fault g c =
    let given = g.L.LineSource.left c.args.source.now in
    let mid = g.L.LineSource.left c.loop.source in
    let left = g.L.LineSource.left c.take_line.new.self in
    let so_far = c.loop.invariant in
    let why = c.in_err-too_long.field-0.0 in
    kept_fault why (λ found. TakesWithin 0 found given left) c.from_residual-in_err-too_long.result c.from_residual-in_err-too_long.ensures.1
    (subst (λ found. TakesWithin 0 found given left) (sym c.in_err-too_long.ensures.fault) (within_given given mid left so_far.0 _ c.in_ok-given.given so_far.1 so_far.2 c.in_ok-given.ensures.ok))

pub returns-clause-fault : goal.returns-clause-fault
returns-clause-fault g c =
    let so_far = c.loop.invariant in
    (so_far.0, so_far.1, so_far.2)
