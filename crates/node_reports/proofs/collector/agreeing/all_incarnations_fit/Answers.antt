-- Those of one more entry fit.
use Rattle.std.proofs.Common.{get_or, below_more, subst, refl}
use Rattle.std.proofs.lemmas.List.{get_or_read_under}
use Rattle.node_reports.proofs.Remaking.{HasIncarnation}
use Rattle.node_reports.proofs.collector.agreeing.all_incarnations_fit.Goals as goal

pub loop-k-preserved : goal.loop-k-preserved
loop-k-preserved c =
    λ i d lt. below_more (λ i. HasIncarnation (get_or c.args.entries.now i d)) c.loop-k.k (λ i low. c.loop-k.invariant i d low)
    (subst HasIncarnation (get_or_read_under _ _ _ _ d c.index-entries-k.is c.loop-k-test.true refl) c.incarnations_fit.ensures) i lt
