use Rattle.std.proofs.Common.{◌≡◌, ℕ, inl, inr, List, Bool, refl, sym, ap, ◌∙◌}
use Rattle.scan_steps.specs.declared.step.Step.{Step}
use Rattle.scan_steps.specs.declared.step.Step.TheVariants as step
use Rattle.scan_steps.specs.Steps.Contacts.{first_of, second_of, rows_over}
use Rattle.scan_steps.specs.Steps.Passing.{Pass, pass_of, read_memories}
use Rattle.scan_steps.proofs.PairSteps.{pair_keeps}
use Rattle.scan_steps.proofs.passing.obey.Goals as goal

pub returns-in-JoinedPair : goal.returns-in-JoinedPair
returns-in-JoinedPair c =
    let pair = c.in-JoinedPair.pair in
    let places = c.in-JoinedPair.places in
    let slots = c.args.slots.now in
    let memories = c.args.memories.now in
    let links = c.args.links.now in
    let results = c.args.results.now in
    let of_rows : List Bool → Pass = λ rows. pass_of rows memories links results in
    let read = c.read_joined_pair.ensures.2 memories (read_memories (first_of pair places) slots memories) in
    let later = read_memories (second_of pair places) slots (read_memories (first_of pair places) slots memories) in
    let kept : List Bool → Pass = λ m. pass_of c.read_joined_pair.new.rows m links results in
    rw c.in-JoinedPair.is
    (of_rows c.read_joined_pair.ensures.0, (c.read_joined_pair.ensures.1, refl, refl, refl), ap kept (sym (pair_keeps pair places slots memories)) ∙ ap (λ rows. pass_of rows later links results) read)

pub returns-in-PairOver : goal.returns-in-PairOver
returns-in-PairOver c =
    let pair = rows_over c.in-PairOver.row in
    let places = c.in-PairOver.places in
    let slots = c.args.slots.now in
    let memories = c.args.memories.now in
    let links = c.args.links.now in
    let results = c.args.results.now in
    let of_rows : List Bool → Pass = λ rows. pass_of rows memories links results in
    let read = c.read_pair_over.ensures.2 memories (read_memories (first_of pair places) slots memories) in
    let later = read_memories (second_of pair places) slots (read_memories (first_of pair places) slots memories) in
    let kept : List Bool → Pass = λ m. pass_of c.read_pair_over.new.rows m links results in
    rw c.in-PairOver.is
    (of_rows c.read_pair_over.ensures.0, (c.read_pair_over.ensures.1, refl, refl, refl), ap kept (sym (pair_keeps pair places slots memories)) ∙ ap (λ rows. pass_of rows later links results) read)

-- the number of a step of a box
abbrev number_of : Step → ℕ
number_of (step.Box k) = k
number_of (step.BoxCoil k row coil) = k
number_of s = 0

pub returns-in-BoxCoil : goal.returns-in-BoxCoil
returns-in-BoxCoil c =
    let memories = c.args.memories.now in
    let links = c.args.links.now in
    let same : c.in-Box.number ≡ c.in-BoxCoil.field-0 = elim c.in-Box.is [
      | inl e ↦ sym (ap number_of e) ∙ ap number_of c.in-BoxCoil.is
      | inr e ↦ sym (ap number_of e.2) ∙ ap number_of c.in-BoxCoil.is
    ] in
    let stepped = rw same at (c.obey_box.ensures memories links) in
    rw c.in-BoxCoil.is (pass_of c.obey_box.new.rows memories links c.obey_box.new.results, stepped, refl)
