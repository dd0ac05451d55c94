-- One more journal, and its keeper.
use Rattle.std.proofs.Common.{rules, ◌≡◌, ◌∷◌, ◌++◌, [], List, ap, sym, ◌∙◌, append_assoc}
use Rattle.std.specs.Vec.Iter.{into_iter_items}
use Rattle.node.specs.declared.threads.ended.Ended.{Ended}
use Rattle.node_reports.specs.declared.journal.Journal.{Journal}
use Rattle.node.specs.Steps.Keeping.{IsLeftKept}
use Rattle.node.specs.Steps.Working.{journals_of_ended}
use Rattle.node.proofs.Alls.{all_head, all_tail}
use Rattle.node.proofs.Kept.{all_push_left}
use Rattle.node.proofs.threads.joining.part.Goals as goal

pub loop-one-preserved : goal.loop-one-preserved
loop-one-preserved g c =
    let rest = into_iter_items c.next.new.self in
    let rest_is : into_iter_items c.loop-one.one-iterator ≡ c.in-Some.one ∷ rest = search rules in
    let last = g.K.Keeper.last in
    let tells = g.K.Keeper.kept_gives in (
      c.loop-one.invariant.0
          ∙ ap (λ (es : List (Ended g.row.K.Denot)). c.loop-one.journals.items ++ journals_of_ended es) rest_is
          ∙ sym (append_assoc c.loop-one.journals.items (c.in-Some.one.journal ∷ []) (journals_of_ended rest))
          ∙ ap (λ (js : List Journal). js ++ journals_of_ended rest) (sym c.in-Ok.ensures.items),
      λ plant all.
          let was = c.loop-one.invariant.1 plant all in (
            all_tail (IsLeftKept last tells plant) c.in-Some.one rest (into_iter_items c.loop-one.one-iterator) rest_is was.0,
            all_push_left last tells plant c.loop-one.faults.items c.append-in-loop-one.new.faults.items c.loop-one.keepers.items c.push-in-loop-one.new.self.items c.loop-one.journals.items c.push.new.self.items c.in-Some.one
                c.in_ok-append-2.ensures.before c.in_ok-append-2.ensures.noted c.in_ok-append-2.ensures.whole c.in-Ok-push.ensures.items c.in-Ok.ensures.items
                (all_head (IsLeftKept last tells plant) c.in-Some.one rest (into_iter_items c.loop-one.one-iterator) rest_is was.0) was.1,
          ),
    )
