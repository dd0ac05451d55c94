use Rattle.audit.proofs.GoingOn.{heard_going}
use Rattle.audit.proofs.answering.hear.Goals as goal

pub returns-clause-going : goal.returns-clause-going
returns-clause-going c = heard_going c.args.book.now c.args.station.now c.hear.new.self c.args.of c.args.incarnation c.in_ok-hear.field-0 (c.can_be_heard.ensures.0 c.if-not-can_be_heard.false) c.in_ok-hear.ensures.ok c.requires
