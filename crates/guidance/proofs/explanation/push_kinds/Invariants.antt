use Rattle.std.proofs.Common.{◌≡◌, ◌++◌, map, take, string_bytes}
use Rattle.std.specs.List.{flat_map}
use Rattle.guidance.specs.Explaining.{remark, remark_line}
use Rattle.guidance.proofs.explanation.push_kinds.Given as goal

abbrev pub invariant-loop-kind : goal.invariant-loop-kind
invariant-loop-kind l =
    string_bytes l.text ≡ string_bytes l.initial.text ++ flat_map (remark_line l.occasion) (map (λ r. remark r.0.now r.1.now) (take l.kind-index l.kind-items))
