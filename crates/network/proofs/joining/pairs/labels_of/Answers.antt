use Rattle.std.proofs.Common.{◌≡◌, ◌∙◌, ◌<◌, ◌↔◌, ℕ, slice_index, length, ap, arith}
use Rattle.network.specs.Steps.Joined.{Joined}
use Rattle.network.proofs.Joined.LinkedPairs.{labels_are, all_within, written_over}
use Rattle.network.proofs.joining.pairs.labels_of.Goals as goal

pub settle_labels-requires-clause-within : goal.settle_labels-requires-clause-within
settle_labels-requires-clause-within c = rw (c.deref.ensures.value, c.deref_mut.ensures.value)
    (all_within c.args.elements.now c.in_ok-pairs.pairs.items (length c.args.elements.now) (length c.in_ok-labels.labels.items) (c.in_ok-labels.ensures.long ∙ c.len.ensures) c.in_ok-pairs.ensures)

pub returns-clause-labels : goal.returns-clause-labels
returns-clause-labels c = λ g sound are.
    let es = c.args.elements.now in
    let pairs = c.in_ok-pairs.pairs.items in
    let labels = c.settle_labels.new.labels in
    let items = c.in_ok-labels.labels.items in
    let before : length c.deref_mut.result.now ≡ length es = ap length c.deref_mut.ensures.value ∙ c.in_ok-labels.ensures.long ∙ c.len.ensures in
    let long' : length labels ≡ length items = c.settle_labels.ensures.long ∙ ap length c.deref_mut.ensures.value in
    let long : length labels ≡ length es = long' ∙ c.in_ok-labels.ensures.long ∙ c.len.ensures in
    let joined = rw c.deref.ensures.value at c.settle_labels.ensures.joined in
    let tell : (i j : ℕ) → i < length es → j < length es → (slice_index labels i ≡ slice_index labels j) ↔ Joined pairs i j = λ i j lt lt'. joined i j (omega arith) (omega arith) in
    rw (written_over c.in_ok-labels.labels.len labels items long' (omega (arith, c.in_ok-labels.labels.ok.0)))
    (labels_are g sound es are pairs c.in_ok-pairs.ensures labels long
    (λ k lt. (let l = c.settle_labels.ensures.label k (omega arith) in omega arith)) tell)

pub returns-clause-long : goal.returns-clause-long
returns-clause-long c =
    let es = c.args.elements.now in
    let labels = c.settle_labels.new.labels in
    let items = c.in_ok-labels.labels.items in
    let before : length c.deref_mut.result.now ≡ length es = ap length c.deref_mut.ensures.value ∙ c.in_ok-labels.ensures.long ∙ c.len.ensures in
    let long' : length labels ≡ length items = c.settle_labels.ensures.long ∙ ap length c.deref_mut.ensures.value in
    let long : length labels ≡ length es = long' ∙ c.in_ok-labels.ensures.long ∙ c.len.ensures in
    rw (written_over c.in_ok-labels.labels.len labels items long' (omega (arith, c.in_ok-labels.labels.ok.0))) long

pub returns-clause-within : goal.returns-clause-within
returns-clause-within c =
    let es = c.args.elements.now in
    let labels = c.settle_labels.new.labels in
    let items = c.in_ok-labels.labels.items in
    let before : length c.deref_mut.result.now ≡ length es = ap length c.deref_mut.ensures.value ∙ c.in_ok-labels.ensures.long ∙ c.len.ensures in
    let long' : length labels ≡ length items = c.settle_labels.ensures.long ∙ ap length c.deref_mut.ensures.value in
    rw (written_over c.in_ok-labels.labels.len labels items long' (omega (arith, c.in_ok-labels.labels.ok.0)))
    (λ k lt. (let l = c.settle_labels.ensures.label k (omega arith) in omega arith))
