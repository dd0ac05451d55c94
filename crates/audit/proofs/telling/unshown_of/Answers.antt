use Rattle.std.proofs.Common.{◌≡◌, List, Option, Some, length, slice_get, refl, sym, subst}
use Rattle.std.specs.Option.{option_copied}
use Rattle.std.proofs.lemmas.Option.{slice_get_read}
use Rattle.audit.specs.declared.line.Line.{Line}
use Rattle.audit.specs.Reasons.{Course}
use Rattle.audit.specs.Steps.Settled.{IsReasonFor}
use Rattle.audit.proofs.Tellings.{told_stop, told_need, maker_is, come_to, waiting_unmet}
use Rattle.audit.proofs.telling.unshown_of.Goals as goal

pub reason_of-reason-requires : goal.reason_of-reason-requires
reason_of-reason-requires c =
    come_to c.args.book.now c.args.followers.now c.resource-maker.result c.present.result (option_copied c.follower_at.result) c.requires.stand c.follower_at.ensures c.present.ensures

pub returns-in-Stops : goal.returns-in-Stops
returns-in-Stops c =
    let f = c.args.follower.now in
    let line = c.in_ok-place.field-0.now in
    let got = c.in_ok-place.ensures.lookup in
    let at : slice_get f.lines.items f.trail.at ≡ Some line =
    subst (λ (ls : List Line). slice_get ls f.trail.at ≡ Some line) c.deref.ensures.value
    (slice_get_read c.deref.result.now (length c.deref.result.now) f.trail.at line refl got.3.0 got.1) in
    told_stop c.args.book.now c.args.followers.now f line c.in-Stops.reason c.requires.stand c.requires.many at c.in-Stops.is

pub returns-in-Waits : goal.returns-in-Waits
returns-in-Waits c =
    let f = c.args.follower.now in
    let line = c.in_ok-place.field-0.now in
    let got = c.in_ok-place.ensures.lookup in
    let at : slice_get f.lines.items f.trail.at ≡ Some line =
    subst (λ (ls : List Line). slice_get ls f.trail.at ≡ Some line) c.deref.ensures.value
    (slice_get_read c.deref.result.now (length c.deref.result.now) f.trail.at line refl got.3.0 got.1) in
    told_need c.args.book.now c.args.followers.now f line c.in-Waits.need c.reason_of-reason.result c.requires.stand at c.in-Waits.is
    (waiting_unmet c.args.book.now f line c.in-Waits.need at c.in-Waits.is c.requires.settled)
    (subst (λ (maker : Option Course). IsReasonFor maker c.in-Waits.need c.reason_of-reason.result)
    (sym (maker_is c.args.followers.now c.in-Waits.need (option_copied c.follower_at.result) c.resource-maker.result (sym c.resource-maker.ensures) (sym c.follower_at.ensures)))
    c.reason_of-reason.ensures)
