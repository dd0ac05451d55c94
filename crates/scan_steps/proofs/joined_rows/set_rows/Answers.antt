use Rattle.std.proofs.lemmas.Bool.{cases_lt}
use Rattle.std.proofs.Common.{◌≡◌, ℕ, ◌+◌, ◌<◌, ◌≤◌, ◌⊎◌, inl, inr, arith}
use Rattle.scan_steps.proofs.joined_rows.set_rows.Goals as goal

pub returns-clause-within : goal.returns-clause-within
returns-clause-within c = λ r ge le. c.loop-row.invariant.within r ge (omega arith)

pub returns-clause-outside : goal.returns-clause-outside
returns-clause-outside c = λ r out. c.loop-row.invariant.outside r (elim out [ inl lt ↦ inl lt | inr gt ↦ past r gt c.loop-row.invariant.bound ])
  where
    past : (r : ℕ) → c.args.last < r → (c.loop-row.row ≤ c.args.last + 1) ⊎ (c.loop-row.row ≡ c.args.first) → (r < c.args.first) ⊎ (c.loop-row.row ≤ r)
    past r gt (inl bound) = inr (omega arith)
    past r gt (inr same) = elim (cases_lt r c.args.first) [ inl lt ↦ inl lt | inr ge ↦ inr (omega arith) ]
