-- One more step.
use Rattle.std.proofs.Common.{◌≡◌, ◌∙◌, ◌++◌, ◌<◌, List, ℕ, Some, length, take, slice_get, refl, ap, sym, arith, append_assoc}
use Rattle.std.specs.List.{filter_map}
use Rattle.std.specs.Option.{option_to_list}
use Rattle.std.proofs.lemmas.Option.{slice_get_read}
use Rattle.node_reports.specs.Reports.{restarted_in}
use Rattle.node_reports.proofs.Collecting.{numbers-more}
use Rattle.node_reports.proofs.collector.hearings.push_all.Goals as goal

pub loop-k-preserved : goal.loop-k-preserved
loop-k-preserved c =
    let s = c.index-steps-k.result in
    let within : c.loop-k.k < length c.args.steps.now = omega arith in
    let at : slice_get c.args.steps.now c.loop-k.k ≡ Some s = slice_get_read _ _ c.loop-k.k s refl within c.index-steps-k.is in
    c.in_ok-push_restarted.ensures ∙ ap (λ (l : List ℕ). l ++ option_to_list (restarted_in s)) c.loop-k.invariant ∙ append_assoc c.args.incarnations.now (filter_map restarted_in (take c.loop-k.k c.args.steps.now)) (option_to_list (restarted_in s))
    ∙ ap (λ (l : List ℕ). c.args.incarnations.now ++ l) (sym (numbers-more restarted_in c.args.steps.now c.loop-k.k s at))
