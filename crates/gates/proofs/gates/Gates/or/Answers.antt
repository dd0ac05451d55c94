use Rattle.std.proofs.Common.{◌≡◌, Bool, true, false, not, ◌&&◌, ◌||◌, refl, ap, ◌∙◌}
use Rattle.gates.specs.Signals.{signal_value}
use Rattle.gates.proofs.gates.Gates.or.Goals as goal

either : (a b : Bool) → not (not a && not b) ≡ (a || b)
either true b = refl
either false true = refl
either false false = refl

pub returns : goal.returns
returns c = λ v agrees.
    let built = c.in_ok-neither.ensures v agrees in
    let neither = built.1 ∙ ap (λ on. on && signal_value v c.negated-2.result) (c.negated.ensures v)
    ∙ ap (λ on. not (signal_value v c.args.left) && on) (c.negated-2.ensures v) in
    (built.0, c.negated-3.ensures v ∙ ap not neither ∙ either (signal_value v c.args.left) (signal_value v c.args.right))
