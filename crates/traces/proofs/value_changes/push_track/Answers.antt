use Rattle.std.proofs.Common.{◌++◌, ap, ◌∙◌, string_bytes, option_map}
use Rattle.traces.specs.ValueChanges.{scope_lines}
use Rattle.traces.proofs.Dumping.{two_parts}
use Rattle.traces.proofs.value_changes.push_track.Goals as goal

pub returns : goal.returns
returns c =
    let entered = c.in_ok-push_scope.ensures ∙ ap (λ s. string_bytes c.args.text.now ++ scope_lines (option_map (λ s. s.now) c.args.before) s) c.scope.ensures in
    two_parts _ _ _ _ _ entered c.in_ok-push_variable.ensures
