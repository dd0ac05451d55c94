use Rattle.std.proofs.Common.{ℕ, List, Bor, ap, fold, map, string_bytes, ◌∙◌}
use Rattle.std.proofs.lemmas.List.{take_all}
use Rattle.guidance.specs.Explaining.{remark}
use Rattle.guidance.specs.Steps.Explained.{and_remark}
use Rattle.guidance.proofs.Told.{remarks_told}
use Rattle.guidance.proofs.explanation.push_remarks.Goals as goal

pub returns : goal.returns
returns c =
    c.loop-kind.invariant
    ∙ (ap (λ xs. fold (and_remark c.args.occasion c.args.name.now) (string_bytes c.args.text.now) (map (λ (r : Bor (List ℕ) × Bor (List ℕ)). remark r.0.now r.1.now) xs)) (take_all c.loop-kind.kind-index c.remarks-kind-items.result.now c.loop-kind-test.false)
    ∙ (ap (λ rs. fold (and_remark c.args.occasion c.args.name.now) (string_bytes c.args.text.now) rs) c.remarks-kind-items.ensures
    ∙ remarks_told c.args.occasion c.args.name.now (string_bytes c.args.text.now)))
