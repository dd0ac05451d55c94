use Rattle.power_flow.specs.StateValue.{IsSame}
use Rattle.lists.proofs.Alike.{alike_as_told}
use Rattle.evaluation.proofs.task_state.are_same_states.Goals as goal

pub returns : goal.returns
returns c =
    let alike = alike_as_told IsSame _ _ _ c.are_same.ensures (λ s t told answer. rw (← answer.shows.0, ← answer.shows.1) answer.says.met) in (
      λ on. let all = alike.0 on in record { many = all.many; each = λ i s t at found. all.each s t (i, at, found) },
      λ same. alike.1 (record { many = same.many; each = λ s t at. same.each at.0 s t at.1 at.2 }),
    )
