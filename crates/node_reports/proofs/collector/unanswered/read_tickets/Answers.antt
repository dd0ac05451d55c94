use Rattle.std.proofs.Common.{◌≡◌, ℕ, ◌<◌, length, map, inl, inr, sym, ap, ◌∙◌, arith}
use Rattle.std.proofs.lemmas.List.{same_lists, length-map, get_or-map}
use Rattle.std.proofs.lemmas.Option.{slice_get_cases}
use Rattle.evaluation.specs.Meaning.{Evaluated}
use Rattle.node_reports.proofs.collector.unanswered.read_tickets.Goals as goal

pub returns : goal.returns
returns g c =
    let xs = c.args.entries.now in
    let f : Evaluated → ℕ = λ x. x.ticket in
    let long : length c.for_each_mut.new.s ≡ length xs = omega (arith, c.for_each_mut.auto.s, c.requires) in
    same_lists c.for_each_mut.new.s (map f xs) (long ∙ sym (length-map xs f)) (λ k d lt. elim (slice_get_cases xs k).1 [
      | inl w ↦
          let within : k < length c.args.tickets.now = omega (arith, w.1, c.requires) in
          let step = (c.for_each_mut.ensures k d within).1 in
          sym step.left ∙ step.call w.0 w.2 ∙ ap f (sym w.3) ∙ sym (get_or-map f xs k w.0 d w.1)
      | inr past ↦ absurd (omega (arith, lt, long, past.0))
    ])
