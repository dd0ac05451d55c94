use Rattle.std.proofs.Common.{◌∙◌, ap, map, sym, take}
use Rattle.std.specs.Borrow.{Bor}
use Rattle.plant.specs.StandsFor.{firsts}
use Rattle.plant.specs.Steps.Drafts.{all_taken}
use Rattle.plant.specs.Steps.FedUses.{FedUseValue, feeds_in}
use Rattle.plant.proofs.FedUses.{taken_more}
use Rattle.plant.proofs.sources.producers.producers_of.Goals as goal

pub loop-run-preserved : goal.loop-run-preserved
loop-run-preserved c =
    let fed = c.args.fed.now in
    let i = c.loop-run.run-index in
    let before = all_taken (feeds_in (map (λ (u : Bor FedUseValue). u.now) (take i fed))) in
    rw c.feeds.ensures at (c.in_ok-push_all_taken.ensures before c.loop-run.invariant) ∙ ap firsts (sym (taken_more fed i c.run-item.result c.loop-run-test.true c.run-item.is))
