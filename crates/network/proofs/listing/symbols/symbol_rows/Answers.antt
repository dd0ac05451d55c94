use Rattle.network.proofs.listing.symbols.symbol_rows.Goals.{then-symbols-k, else-symbols-k}
use Rattle.network.proofs.listing.symbols.symbol_rows.Goals as goal

pub loop-k-preserved : goal.loop-k-preserved
loop-k-preserved g c = elim c.if-symbols-k.branch [
  | then-symbols-k w ↦ (λ p inside. c.loop-k.invariant p (w.expect.ensures p (rw (← w.rows-is) inside)))
  | else-symbols-k w ↦ (λ p inside. c.loop-k.invariant p (rw (← w.rows-is) inside))
]
