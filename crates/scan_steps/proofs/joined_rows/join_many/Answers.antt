use Rattle.std.proofs.Common.{sym, ◌∙◌}
use Rattle.scan_steps.proofs.joined_rows.join_many.Goals as goal

pub returns : goal.returns
returns c = record {
  long = c.set_rows.ensures.long;
  within = λ r ge le.
      let here = c.set_rows.ensures.within r ge le in
      (λ on. c.is_any_on-on.ensures.0 (sym here ∙ on), λ some. here ∙ c.is_any_on-on.ensures.1 some);
  outside = c.set_rows.ensures.outside;
}
