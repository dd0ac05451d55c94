-- One more thread.
use Rattle.std.proofs.Common.{rules, ◌≡◌, ℕ, List, [], ◌∷◌, ◌++◌, map, ap, sym, ◌∙◌, append_assoc}
use Rattle.std.specs.Vec.Iter.{into_iter_items}
use Rattle.std.specs.declared.thread.PromisedHandle.{PromisedHandle}
use Rattle.std.proofs.lemmas.List.{map_push}
use Rattle.std_blocks.specs.declared.value.Value.{Value}
use Rattle.node.specs.declared.threads.ended.Ended.{Ended}
use Rattle.node.specs.declared.threads.lawful_for.LawfulFor.{LawfulFor}
use Rattle.node.specs.Steps.Working.{WorkerValue, IsWorkerFor, IsPromisedFor, firsts_of_workers, first_promised, openings_of_workers, opening_promised}
use Rattle.node.proofs.Alls.{all_push, all_tail}
use Rattle.node.proofs.threads.starting.start_all.Goals as goal

pub loop-worker-preserved : goal.loop-worker-preserved
loop-worker-preserved g c =
    let was = c.loop-worker.invariant in
    let first_of : PromisedHandle (Ended g.row.K.Denot) LawfulFor → ℕ = first_promised in
    let handles = c.loop-worker.handles.items in
    let rest : List ℕ = firsts_of_workers (into_iter_items c.next.new.self) in
    let openings : List (List (List Value)) = openings_of_workers (into_iter_items c.next.new.self) in
    let rest_is : into_iter_items c.loop-worker.worker-iterator ≡ c.in-Some.worker ∷ into_iter_items c.next.new.self = search rules in (
      all_tail (IsWorkerFor c.args.desk.plant.now c.args.desk.firsts.now c.args.max_number) _ _ _ rest_is was.0,
      all_push (λ (h : PromisedHandle (Ended g.row.K.Denot) LawfulFor). IsPromisedFor c.args.desk.plant.now c.args.desk.firsts.now c.args.max_number h.promise) handles c.in_ok-handle.handle c.push.new.self.items c.in-Ok.ensures.items was.1 c.in_ok-handle.ensures.promised,
      was.2
          ∙ ap (λ (ws : List WorkerValue). map first_of handles ++ firsts_of_workers ws) rest_is
          ∙ ap (λ (n : ℕ). map first_of handles ++ n ∷ rest) (sym c.in_ok-handle.ensures.first)
          ∙ sym (append_assoc (map first_of handles) (first_of c.in_ok-handle.handle ∷ []) rest)
          ∙ ap (λ (ns : List ℕ). ns ++ rest) (sym (map_push first_of handles c.in_ok-handle.handle))
          ∙ ap (λ (hs : List (PromisedHandle (Ended g.row.K.Denot) LawfulFor)). map first_of hs ++ rest) (sym c.in-Ok.ensures.items),
      was.3
          ∙ ap (λ (ws : List WorkerValue). map opening_promised handles ++ openings_of_workers ws) rest_is
          ∙ ap (λ (o : List (List Value)). map opening_promised handles ++ o ∷ openings) (sym c.in_ok-handle.ensures.opening)
          ∙ sym (append_assoc (map opening_promised handles) (opening_promised c.in_ok-handle.handle ∷ []) openings)
          ∙ ap (λ (os : List (List (List Value))). os ++ openings) (sym (map_push opening_promised handles c.in_ok-handle.handle))
          ∙ ap (λ (hs : List (PromisedHandle (Ended g.row.K.Denot) LawfulFor)). map opening_promised hs ++ openings) (sym c.in-Ok.ensures.items),
    )
