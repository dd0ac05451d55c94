use Rattle.network.proofs.listing.symbols.symbols_of.Goals as goal

pub returns : goal.returns
returns c = record {
  contacts = λ p inside. absurd (c.in_ok-symbol_rows.ensures p inside);
  coils = λ p inside. absurd (c.in_ok-symbol_rows-2.ensures p inside);
  boxes = rw (← c.boxes.ensures, ← c.in_ok-boxes.ensures, ← c.deref.ensures.value) c.in_ok-index_of.ensures;
}
