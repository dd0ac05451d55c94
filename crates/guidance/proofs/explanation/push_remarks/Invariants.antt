use Rattle.std.proofs.Common.{◌≡◌, fold, map, take, string_bytes}
use Rattle.guidance.specs.Explaining.{remark}
use Rattle.guidance.specs.Steps.Explained.{and_remark}
use Rattle.guidance.proofs.explanation.push_remarks.Given as goal

abbrev pub invariant-loop-kind : goal.invariant-loop-kind
invariant-loop-kind l = string_bytes l.text ≡ fold (and_remark l.occasion l.name) (string_bytes l.initial.text) (map (λ r. remark r.0.now r.1.now) (take l.kind-index l.kind-items))
