use Rattle.std.proofs.Common.{◌≡◌, ◌∙◌, ◌++◌, ℕ, List, Option, take, drop, length, ap, sym, arith}
use Rattle.std.proofs.Math.Seq.{take-append_seam}
use Rattle.network.proofs.Joined.LaidOut.{laid_out}
use Rattle.network.proofs.Listed.Sharing.{rail_row}
use Rattle.network.proofs.Ordered.Ranking.{ranks_are}
use Rattle.network.proofs.order.ranks.ranks_of.Goals as goal

-- a list whose first elements are written over, all of them
written : (new items : List (Option ℕ)) (n : ℕ) → length new ≡ n → take n (new ++ drop (length new) items) ≡ new
written new items n all = ap (λ k. take k (new ++ drop (length new) items)) (sym all) ∙ take-append_seam new (drop (length new) items)

pub labels_of-requires : goal.labels_of-requires
labels_of-requires c = rw c.rows-rows.ensures.rows (laid_out c.args.drawing.now c.requires.sound c.args.elements.now c.requires.elements)

pub takers_of-requires : goal.takers_of-requires
takers_of-requires c = rw c.rows-rows.ensures.rows (laid_out c.args.drawing.now c.requires.sound c.args.elements.now c.requires.elements)

pub tops_of-requires-clause-rows : goal.tops_of-requires-clause-rows
tops_of-requires-clause-rows c = λ k p at.
    let r = (rail_row c.args.drawing.now c.requires.sound p (c.requires.rails.each k p at)).1 in
    let long = c.in_ok-takers.ensures.long in
    let rows = c.rows-rows.ensures.rows in
    omega arith

pub tops_of-requires-clause-owners : goal.tops_of-requires-clause-owners
tops_of-requires-clause-owners c = λ r t at.
    let w = c.in_ok-takers.ensures.takers.found r t at in
    rw c.deref.ensures.value (let lt = w.2 in let long = c.in_ok-labels.ensures.long in omega arith)

pub tops_of-requires-clause-within : goal.tops_of-requires-clause-within
tops_of-requires-clause-within c =
    rw (c.deref_mut.ensures.value, c.deref.ensures.value)
    (λ k lt. let within = c.in_ok-labels.ensures.within k (omega (arith, lt, c.in_ok-labels.ensures.long)) in
    omega (arith, within, c.in_ok-table.ensures.long, c.len.ensures, c.in_ok-labels.ensures.long))

pub entries_of-requires : goal.entries_of-requires
entries_of-requires c =
    let table = c.deref-2.ensures.value ∙ written c.tops_of.new.table c.in_ok-table.table.items c.in_ok-table.table.len (c.tops_of.auto.table ∙ c.deref_mut.ensures.len) in
    rw (table, c.deref-3.ensures.value)
    (λ k lt. let within = c.in_ok-labels.ensures.within k (omega (arith, lt, c.in_ok-labels.ensures.long)) in
    omega (arith, within, c.tops_of.auto.table, ap length c.deref_mut.ensures.value, c.in_ok-table.ensures.long, c.len.ensures, c.in_ok-labels.ensures.long))

pub returns : goal.returns
returns c =
    let g = c.args.drawing.now in
    let sound = c.requires.sound in
    let es = c.args.elements.now in
    let are = c.requires.elements in
    let labels = c.in_ok-labels.ensures.labels g sound are in
    let takers = rw c.left-column.ensures at c.in_ok-takers.ensures.takers in
    let count : c.in_ok-tops.tops.len ≡ length c.in_ok-tops.tops.items = omega (arith, c.in_ok-tops.tops.ok.0) in
    let table = c.deref-2.ensures.value ∙ written c.tops_of.new.table c.in_ok-table.table.items c.in_ok-table.table.len (c.tops_of.auto.table ∙ c.deref_mut.ensures.len) in
    rw (c.len-2.ensures, count) (ranks_are g sound es are c.in_ok-labels.labels.items labels
    c.in_ok-tops.tops.items ((rw c.deref.ensures.value at c.in_ok-tops.ensures.tops) g es sound are c.requires.rails takers labels)
    c.tops_of.new.table c.in_ok-tops.ensures.table
    c.in_ok-ranks.ranks.items (rw (table, c.deref-3.ensures.value) at c.in_ok-ranks.ensures))
