-- One file more.
use Rattle.std.proofs.Common.{◌≡◌, ◌∙◌, ◌+◌, Vec, Global, ap, sym, subst, true, false}
use Rattle.journal_rows.specs.declared.rows.Row.{Row}
use Rattle.journal_rows.specs.Rows.{is_further, HaveRows}
use Rattle.journal_rows.proofs.GoingOn.{text_at, is_there, rows_more, rows_same}
use Rattle.journal_rows.proofs.rows.rows_of.Goals as goal
use Rattle.journal_rows.proofs.rows.rows_of.Goals.{then-not-is_further+in_ok-row_from+in_ok-push, else-not-is_further}

pub loop-first-preserved : goal.loop-first-preserved
loop-first-preserved c =
    let texts = c.args.texts.now in
    let first = c.loop-first.first in
    let at = is_there texts first c.loop-first-test.true in
    elim c.if-not-is_further.branch [
      | then-not-is_further+in_ok-row_from+in_ok-push w ↦
          let is : is_further (text_at texts first).now ≡ false = let e = c.is_further.ensures in let n = w.if-not-is_further.true in cc in
          rows_more texts first c.loop-first.rows.items c.if-not-is_further.rows.items (text_at texts first) _ c.loop-first.invariant at is w.in_ok-row_from.ensures
          (ap (λ (v : Vec Row Global). v.items) w.rows-is ∙ w.in_ok-push.ensures.items)
      | else-not-is_further w ↦
          let is : is_further (text_at texts first).now ≡ true = let e = c.is_further.ensures in let n = w.if-not-is_further.false in cc in
          subst (λ (v : Vec Row Global). HaveRows texts (first + 1) v.items) (sym w.rows-is)
          (rows_same texts first c.loop-first.rows.items (text_at texts first) c.loop-first.invariant at is)
    ]
