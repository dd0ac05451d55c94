-- One more resource.
use Rattle.std.proofs.Common.{arith, rules, ◌≡◌, ℕ, ◌++◌, List, [], ◌∷◌, length, ap, sym, subst, ◌∙◌, append_assoc}
use Rattle.std.specs.Vec.Iter.{into_iter_items}
use Rattle.std.proofs.lemmas.List.{length-append, length-map, map_push}
use Rattle.std_blocks.specs.declared.value.Value.{Value}
use Rattle.node.specs.Steps.Working.{WorkerValue, IsWorkerFor, AreOpened, firsts_of_workers, openings_of_raised, openings_of_workers, lasts_of}
use Rattle.node.proofs.Alls.{all_push}
use Rattle.node.proofs.Firsts.{next_first}
use Rattle.node.proofs.threads.preparing.make_workers.Goals as goal

pub loop-one-preserved : goal.loop-one-preserved
loop-one-preserved g c =
    let was = c.loop-one.invariant in
    let made = c.in_ok-worker.ensures.made in
    let first_of : WorkerValue → ℕ = λ (w : WorkerValue). w.first in
    let opening_of : WorkerValue → List (List Value) = λ (w : WorkerValue). w.opening in
    let last = g.K.Keeper.last c.in-Some.one.keeper in
    let workers : List WorkerValue = c.loop-one.workers.items in
    let rest : List ℕ = lasts_of g.K.Keeper.last (into_iter_items c.next.new.self) in
    let others : List (List (List Value)) = openings_of_raised (into_iter_items c.next.new.self) in
    let rest_is : into_iter_items c.loop-one.one-iterator ≡ c.in-Some.one ∷ into_iter_items c.next.new.self = search rules in
    let are : c.args.firsts.now ≡ firsts_of_workers workers ++ last ∷ rest = was.1 ∙ ap (λ rs. firsts_of_workers workers ++ lasts_of g.K.Keeper.last rs) rest_is in
    let counted : c.len-resource.result ≡ length (firsts_of_workers workers) =
    (let len = c.len-resource.ensures in let long = c.loop-one.workers.ok.0 in let mapped = length-map workers first_of in omega (arith, len, long, mapped)) in
    let next = next_first c.args.firsts.now (firsts_of_workers workers) rest last c.len-resource.result are counted in
    let opened = subst (AreOpened g.K.Keeper.kept_gives c.args.plant.now.value (length workers)) rest_is was.2 in (
      all_push (IsWorkerFor c.args.plant.now.value c.args.firsts.now c.args.max_number) _ c.in_ok-worker.worker _ c.in-Ok.ensures.items was.0
          (ap (λ (w : WorkerValue). w.plant) made, ap (λ (w : WorkerValue). w.firsts) made, ap (λ (w : WorkerValue). w.max_number) made),
      are
          ∙ ap (λ (n : ℕ). firsts_of_workers workers ++ n ∷ rest) (sym (ap first_of made ∙ next.1))
          ∙ sym (append_assoc (firsts_of_workers workers) (c.in_ok-worker.worker.first ∷ []) rest)
          ∙ ap (λ (ns : List ℕ). ns ++ rest) (sym (ap firsts_of_workers c.in-Ok.ensures.items ∙ map_push first_of workers c.in_ok-worker.worker)),
      subst (λ (n : ℕ). AreOpened g.K.Keeper.kept_gives c.args.plant.now.value n (into_iter_items c.next.new.self))
          (sym (ap length c.in-Ok.ensures.items ∙ length-append workers (c.in_ok-worker.worker ∷ []))) opened.1,
      was.3
          ∙ ap (λ rs. openings_of_workers workers ++ openings_of_raised rs) rest_is
          ∙ ap (λ (o : List (List Value)). openings_of_workers workers ++ o ∷ others) (sym (ap opening_of made))
          ∙ sym (append_assoc (openings_of_workers workers) (c.in_ok-worker.worker.opening ∷ []) others)
          ∙ ap (λ (os : List (List (List Value))). os ++ others) (sym (ap openings_of_workers c.in-Ok.ensures.items ∙ map_push opening_of workers c.in_ok-worker.worker)),
    )
