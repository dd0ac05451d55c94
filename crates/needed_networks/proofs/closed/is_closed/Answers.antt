use Rattle.std.proofs.Common.{List, false, get_or, subst}
use Rattle.declared_names.specs.declared.declarations.Declaration.{Declaration}
use Rattle.needed_networks.specs.Needs.{IsPlaced}
use Rattle.needed_networks.proofs.Placing.{placed_more}
use Rattle.needed_networks.proofs.closed.is_closed.Goals as goal

pub loop-k-preserved : goal.loop-k-preserved
loop-k-preserved c =
    let l = c.args.ladder.now in
    let idle = c.args.idle.now in
    let found = c.in-Some.ensures in
    let placed = c.is_placed.ensures c.if-not-is_placed.false found.0 found.2 in
    let marked = subst (λ on. IsPlaced c.declarations.result.now idle found.0 on) c.has_mark.ensures placed in
    placed_more l.declarations idle c.args.omitted.now l.networks c.loop-k.k found.0 c.loop-k.invariant found.1
    (subst (λ (ds : List Declaration). IsPlaced ds idle found.0 (get_or c.args.omitted.now c.loop-k.k false)) c.declarations.ensures.list marked)
