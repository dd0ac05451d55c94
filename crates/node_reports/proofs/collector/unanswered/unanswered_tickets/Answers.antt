-- One more command is listed where it asks to evaluate and its place isn't marked.
use Rattle.std.proofs.Common.{◌≡◌, ◌<◌, ◌++◌, true, false, get_or, List, [], ◌∷◌, Some, take, slice_get, length, refl, ap, sym, ◌∙◌, subst, arith}
use Rattle.std.proofs.lemmas.List.{append-nil, get_or_read, take_all}
use Rattle.std.proofs.lemmas.Option.{slice_get_read}
use Rattle.node_reports.specs.Reports.{is_unanswered, unanswered_of}
use Rattle.std.specs.List.Sorted.{IsStrictlyIncreasing}
use Rattle.node_reports.specs.declared.command.Command.{Command}
use Rattle.node_reports.proofs.Collecting.{unanswered_is, unanswered-more}
use Rattle.node_reports.proofs.Numbered.{unanswered_rise}
use Rattle.node_reports.proofs.collector.unanswered.unanswered_tickets.Goals as goal
use Rattle.node_reports.proofs.collector.unanswered.unanswered_tickets.Goals.{then-is_left+in_ok-push, else-is_left}

pub loop-k-preserved : goal.loop-k-preserved
loop-k-preserved g c =
    let x = c.index-commands-k.result in
    let marks = c.in_ok-answered.ensures in
    let many = marks.many in
    let within : c.loop-k.k < length c.args.commands.now = omega arith in
    let at : slice_get c.args.commands.now c.loop-k.k ≡ Some x = slice_get_read _ _ c.loop-k.k x refl within c.index-commands-k.is in
    let marked : c.index-is_answered.result.now ≡ get_or c.in_ok-answered.answered.items c.loop-k.k false =
    get_or_read c.in_ok-answered.answered.items c.loop-k.k c.index-is_answered.result.now (omega arith) c.index-is_answered.ensures false in
    let left : is_unanswered c.args.entries.now x ≡ c.is_left.result =
    unanswered_is c.args.commands.now c.args.entries.now c.in_ok-answered.answered.items c.loop-k.k x c.index-is_answered.result.now c.requires marks at marked ∙ sym c.is_left.ensures in
    elim c.if-is_left.branch [
      | then-is_left+in_ok-push w ↦
          w.tickets-is ∙ w.in_ok-push.ensures ∙ ap (λ ts. ts ++ x.ticket ∷ []) c.loop-k.invariant
          ∙ sym (unanswered-more c.args.commands.now c.args.entries.now c.loop-k.k x true at (left ∙ w.if-is_left.true))
      | else-is_left w ↦
          w.tickets-is ∙ c.loop-k.invariant ∙ sym (append-nil (unanswered_of (take c.loop-k.k c.args.commands.now) c.args.entries.now))
          ∙ sym (unanswered-more c.args.commands.now c.args.entries.now c.loop-k.k x false at (left ∙ w.if-is_left.false))
    ]

pub returns-clause-rising : goal.returns-clause-rising
returns-clause-rising g c =
    let all : take c.loop-k.k c.args.commands.now ≡ c.args.commands.now = take_all _ _ (omega arith) in
    subst IsStrictlyIncreasing (sym (c.loop-k.invariant ∙ ap (λ (cs : List Command). unanswered_of cs c.args.entries.now) all)) (unanswered_rise c.args.commands.now c.args.entries.now c.requires)
