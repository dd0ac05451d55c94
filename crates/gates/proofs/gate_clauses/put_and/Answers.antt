use Rattle.std.proofs.Common.{◌≡◌, ◌&&◌, true, not, ◌∙◌}
use Rattle.clauses.specs.Clauses.{clause_value}
use Rattle.gates.specs.Signals.{signal_value}
use Rattle.gates.proofs.AndLaws.{and_first, and_second, and_third}
use Rattle.gates.proofs.ClausesPut.{put_behind, three_true, two_true}
use Rattle.gates.proofs.gate_clauses.put_and.Goals as goal

pub returns : goal.returns
returns c =
    put_behind c.args.clauses.now.items c.put_clause-2.new.clauses.items c.put_clause-3.new.clauses.items
    (λ v. signal_value v c.args.itself ≡ (signal_value v c.args.left && signal_value v c.args.right))
    (λ v. clause_value v c.in_ok-needs_no_more.needs_no_more.items ≡ true)
    (λ v is all. (
      three_true v c.literal-is.result c.literal-left_is_not.result c.literal-right_is_not.result
          (signal_value v c.args.itself) (not (signal_value v c.args.left)) (not (signal_value v c.args.right))
          c.in_ok-needs_no_more.needs_no_more.items c.in_ok-needs_no_more.ensures.items (c.literal-is.ensures v)
          (c.literal-left_is_not.ensures v ∙ c.negated-2.ensures v) (c.literal-right_is_not.ensures v ∙ c.negated-3.ensures v)
          (and_third (signal_value v c.args.itself) (signal_value v c.args.left) (signal_value v c.args.right) is),
      c.in_ok-put_clause-2.ensures v
          (two_true v c.literal-is_not.result c.literal-right_is.result
          (not (signal_value v c.args.itself)) (signal_value v c.args.right)
          c.in_ok-needs_right.needs_right.items c.in_ok-needs_right.ensures.items
          (c.literal-is_not.ensures v ∙ c.negated.ensures v) (c.literal-right_is.ensures v)
          (and_second (signal_value v c.args.itself) (signal_value v c.args.left) (signal_value v c.args.right) is))
          (c.in_ok-put_clause.ensures v
          (two_true v c.literal-is_not.result c.literal-left_is.result
          (not (signal_value v c.args.itself)) (signal_value v c.args.left)
          c.in_ok-needs_left.needs_left.items c.in_ok-needs_left.ensures.items
          (c.literal-is_not.ensures v ∙ c.negated.ensures v) (c.literal-left_is.ensures v)
          (and_first (signal_value v c.args.itself) (signal_value v c.args.left) (signal_value v c.args.right) is))
          all),
    ))
    c.put_clause-3.result c.put_clause-3.ensures
