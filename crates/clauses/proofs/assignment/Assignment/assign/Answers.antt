use Rattle.std.proofs.Common.{◌≡◌, ◌≤◌, ◌∙◌, ap, length, set, sym, Some}
use Rattle.std.proofs.lemmas.List.{length-map, set_past}
use Rattle.clauses.specs.Steps.Assignments.{known, known_in}
use Rattle.clauses.proofs.Known.{assigned_known, past_end}
use Rattle.clauses.proofs.assignment.Assignment.assign.Goals as goal
use Rattle.clauses.proofs.assignment.Assignment.assign.Goals.{in-Some, in_default}

pub returns : goal.returns
returns c =
    let round = c.self.inside.round in
    let entries = c.self.inside.assigned.items in
    let was : known round entries ≡ c.args.self.now = c.self.view_is in
    elim c.match-get_mut.branch [
      | in-Some w ↦ rw w.self-inside-is
          (assigned_known round entries c.args.variable c.args.value ∙ ap (λ values. set values c.args.variable (Some c.args.value)) was)
      | in_default w ↦ rw w.self-inside-is
          (let past : length (known round entries) ≤ c.args.variable =
          past_end _ _ _ (c.self.inside.assigned.ok.0 ∙ sym (length-map entries (known_in round))) w.in_default.ensures.variant.1 in
          was ∙ sym (ap (λ values. set values c.args.variable (Some c.args.value)) (sym was) ∙ set_past _ _ _ past ∙ was))
    ]
