use Rattle.std.proofs.Common.{◌≡◌, IfOk, Result, Ok, Err, String, Global, codes, List, ℕ, map, string_bytes, ap, ◌∙◌}
use Rattle.std.specs.List.{join_by}
use Rattle.std.specs.declared.alloc.AllocError.{AllocError}
use Rattle.text_commands.specs.Comments.{without_comments}
use Rattle.text_commands.proofs.Joining.{join-map}
use Rattle.text_commands.proofs.comments.without_comments.Goals as goal

pub returns : goal.returns
returns c = by c.join.result c.join.ensures.ok where
  by : (r : Result (String Global) AllocError) → IfOk r (λ t. string_bytes t ≡ join_by (λ row. row.now) (codes "\n") c.deref.result.now) → IfOk r (λ t. string_bytes t ≡ without_comments c.args.text.now)
  by (Ok t) e = e ∙ join-map (λ row. row.now) (codes "\n") c.deref.result.now ∙ ap (join_by (λ (row : List ℕ). row) (codes "\n")) (ap (map (λ row. row.now)) c.deref.ensures.value ∙ c.in_ok-emptied_rows.ensures)
  by (Err e) f = tt
