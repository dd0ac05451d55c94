use Rattle.std.proofs.Common.{◌≡◌, IfOk, Result, Ok, Err, String, Global, codes, List, ℕ, Bor, map, string_bytes, ap, ◌∙◌}
use Rattle.std.specs.List.{join_by}
use Rattle.std.specs.declared.alloc.AllocError.{AllocError}
use Rattle.mistakes.specs.Emptied.{rows_left, without_rows}
use Rattle.mistakes.proofs.Joining.{join-map}
use Rattle.mistakes.proofs.emptied.without_rows.Goals as goal

pub returns : goal.returns
returns c = by c.join.result c.join.ensures.ok where
  f : Bor (List ℕ) → List ℕ
  f row = row.now

  wanted : List ℕ
  wanted = without_rows c.args.first c.args.count c.args.rail (map f c.args.rows.now)

  by : (r : Result (String Global) AllocError) → IfOk r (λ t. string_bytes t ≡ join_by (λ row. row.now) (codes "\n") c.deref.result.now) → IfOk r (λ t. string_bytes t ≡ wanted)
  by (Ok t) e =
      e ∙ join-map (λ row. row.now) (codes "\n") c.deref.result.now
      ∙ ap (join_by (λ (row : List ℕ). row) (codes "\n"))
      (ap (map f) c.deref.ensures.value ∙ c.in_ok-rows_left.ensures
      ∙ ap (λ b. rows_left c.args.first c.args.count c.args.rail b (map f c.args.rows.now)) (c.as_str.ensures.value ∙ c.in_ok-bare.ensures))
  by (Err e) f = tt
