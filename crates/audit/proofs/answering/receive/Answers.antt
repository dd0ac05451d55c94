use Rattle.std.proofs.Common.{◌∙◌, refl}
use Rattle.audit.proofs.Comings.{would_take, is_other}
use Rattle.audit.proofs.GoingOn.{received_going}
use Rattle.audit.proofs.answering.receive.Goals as goal

pub returns-clause-going : goal.returns-clause-going
returns-clause-going c =
    received_going c.args.book.now c.args.station.now c.receive.new.self c.in-Some.entry.now c.in_ok-receive.field-0 c.in-Some.ensures.listed (rw c.in_ok-try_clone.ensures at c.in_ok-receive.ensures.ok) c.requires

pub returns-then-not-same-clause-meets : goal.returns-then-not-same-clause-meets
returns-then-not-same-clause-meets c =
    let takes = would_take c.args.station.now c.messages.result.now c.args.message.now (c.messages.ensures.same ∙ c.core.ensures) c.messages.ensures.whole c.in-Taken.ensures in (
      refl,
      is_other c.args.book.now.book c.args.station.now c.args.message.now c.in-Some.entry.now c.name-name.result c.name-name.ensures takes c.in-Some.ensures (λ same.
          let all = c.same.ensures.1 (c.message.ensures ∙ same) in
          let not = c.if-not-same.true in
          absurd cc),
    )
