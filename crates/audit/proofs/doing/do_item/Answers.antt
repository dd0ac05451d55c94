use Rattle.std.proofs.Common.{List, sym, subst}
use Rattle.std.specs.Prelude.{IfOk}
use Rattle.std.specs.Option.{option_copied}
use Rattle.std.proofs.lemmas.Result.{IfOk-weaker}
use Rattle.std_blocks.specs.declared.value.Value.{Value}
use Rattle.audit.specs.declared.item.Item.{Item}
use Rattle.audit.specs.declared.item.Item.TheVariants.{Message, Hello}
use Rattle.audit.specs.Steps.Following.{HasStarted, Comes}
use Rattle.audit.proofs.Comings.{started_comes, restarted_comes}
use Rattle.audit.proofs.Leavings.{left_taken, left_heard}
use Rattle.audit.proofs.doing.do_item.Goals as goal

pub returns-in_ok-outcome-in-Message-clause-left :
    goal.returns-in_ok-outcome-in-Message-clause-left
returns-in_ok-outcome-in-Message-clause-left c =
    left_taken c.args.station c.receive.new.station (Message c.in-Message.message) c.in-Message.message c.in_ok-outcome-in-Message.outcome c.args.past.now.left.items c.args.book.now c.in_ok-outcome-in-Message.ensures.meets c.requires.left

pub returns-in_ok-outcome-in-Hello-clause-left : goal.returns-in_ok-outcome-in-Hello-clause-left
returns-in_ok-outcome-in-Hello-clause-left c =
    left_heard c.args.station c.hear.new.station (Hello c.in-Hello.resource c.in-Hello.incarnation) c.in-Hello.resource c.in-Hello.incarnation c.in_ok-outcome-in-Hello.outcome c.args.past.now.left.items c.args.book.now c.in_ok-outcome-in-Hello.ensures.meets c.requires.left

pub returns-in-Evaluate-clause-comes : goal.returns-in-Evaluate-clause-comes
returns-in-Evaluate-clause-comes c =
    subst (λ (i : Item). IfOk c.evaluate.result (λ r. Comes c.evaluate.new.book c.args.ticket (option_copied c.args.next) i c.args.station r.0 r.1)) (sym c.in-Evaluate.is) c.evaluate.ensures.comes

pub returns-in-Start-clause-comes : goal.returns-in-Start-clause-comes
returns-in-Start-clause-comes c =
    let started = subst (λ (kept : List (List Value)). IfOk c.start.result (λ r. HasStarted c.start.new.book c.in-Start.incarnation kept c.args.station r.0 r.1)) c.as_slice.ensures.value c.start.ensures.started in
    subst (λ (i : Item). IfOk c.start.result (λ r. Comes c.start.new.book c.args.ticket (option_copied c.args.next) i c.args.station r.0 r.1)) (sym c.in-Start.is)
    (IfOk-weaker c.start.result _ _ (λ r h. started_comes c.start.new.book c.args.ticket (option_copied c.args.next) c.in-Start.incarnation c.in-Start.kept c.args.station r.0 r.1 h) started)

pub returns-in-Restart-clause-comes : goal.returns-in-Restart-clause-comes
returns-in-Restart-clause-comes c =
    subst (λ (i : Item). IfOk c.restart.result (λ r. Comes c.restart.new.book c.args.ticket (option_copied c.args.next) i c.args.station r.0 r.1)) (sym c.in-Restart.is)
    (IfOk-weaker c.restart.result _ _ (λ r h. restarted_comes c.restart.new.book c.args.ticket (option_copied c.args.next) c.in-Restart.incarnation c.args.station r.0 r.1 h) c.restart.ensures.risen)
