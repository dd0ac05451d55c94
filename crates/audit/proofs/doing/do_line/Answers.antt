use Rattle.std.proofs.Common.{◌≡◌, Some, length, slice_get, refl, subst}
use Rattle.std.specs.Option.{option_copied}
use Rattle.std.proofs.lemmas.Option.{slice_get_read}
use Rattle.audit.specs.declared.standing.Standing.{Standing}
use Rattle.audit.specs.Steps.Following.{IsFollowing}
use Rattle.audit.proofs.Comings.{tried_next, rested}
use Rattle.audit.proofs.doing.do_line.Goals as goal

pub returns-in_ok-standing-in-Going-clause-follows :
    goal.returns-in_ok-standing-in-Going-clause-follows
returns-in_ok-standing-in-Going-clause-follows c = λ plant n follows.
    let lines = c.args.lines.now in
    let trail = c.args.trail.now in
    let line = c.in-Some.line.now in
    let at : slice_get lines trail.at ≡ Some line = slice_get_read lines (length lines) trail.at line refl c.in-Some.ensures.lookup.3.0 c.in-Some.ensures.lookup.1 in
    tried_next plant c.args.book.now c.do_item.new.book n lines line c.in-Going.station trail c.note.new.self c.in_ok-standing-in-Going.standing (option_copied c.item_at-next.result) c.ticket-ticket.result c.is_start.result c.do_item.new.past
    c.in_ok-standing-in-Going.outcome c.note.result at c.item_at-next.ensures c.ticket-ticket.ensures c.is_start.ensures c.in_ok-standing-in-Going.ensures.comes c.in_ok-standing-in-Going.ensures.leaves c.note.ensures c.in_ok-standing-in-Going.ensures.left
    (subst (λ (x : Standing). IsFollowing plant c.args.book.now n lines x trail) c.in-Going.is follows)

pub returns-in_ok-standing-in-Going-clause-rests : goal.returns-in_ok-standing-in-Going-clause-rests
returns-in_ok-standing-in-Going-clause-rests c = λ isnt.
    rested c.args.book.now c.do_item.new.book c.is_start.result c.in_ok-standing-in-Going.outcome _ c.note.new.self c.note.result c.in_ok-standing-in-Going.ensures.leaves c.note.ensures isnt
