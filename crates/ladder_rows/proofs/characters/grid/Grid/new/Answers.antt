use Rattle.std.proofs.Common.{◌≡◌, arith}
use Rattle.ladder_rows.specs.Rows.{width}
use Rattle.ladder_rows.proofs.Rows.Limits.{beyond_first}
use Rattle.ladder_rows.proofs.characters.grid.Grid.new.Goals as goal
use Rattle.ladder_rows.proofs.characters.grid.Grid.new.Goals.{then-len-gt2001-via-then-len-gt2001, then-len-gt2001-via-else-len-gt2001+then-last-gt240}

pub returns-then-len-gt2001-clause-first : goal.returns-then-len-gt2001-clause-first
returns-then-len-gt2001-clause-first c =
    rw (c.first_beyond.ensures, c.deref-then-len-gt2001.ensures.value) (beyond_first c.args.rows.items (λ low narrow. elim c.then-len-gt2001.branch [
      | then-len-gt2001-via-then-len-gt2001 w ↦ absurd (omega (arith, low, c.len.ensures, w.if-len-gt2001.true))
      | then-len-gt2001-via-else-len-gt2001+then-last-gt240 w ↦
          let e : c.width-last.result ≡ width c.args.rows.items = rw c.deref.ensures.value at c.width-last.ensures in
          absurd (omega (arith, narrow, e, w.if-last-gt240.true))
    ]))
