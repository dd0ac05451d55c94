use Rattle.std.proofs.Common.{ℕ, List, length, ap, ◌∙◌, subst}
use Rattle.verifying.specs.Steps.Marks.{AreMarksOf}
use Rattle.verifying.proofs.verify_command.graph_marks.Goals as goal

pub returns : goal.returns
returns c =
    let places = c.in_ok-places.places.items in
    let marks = c.in_ok-marks.marks.items in
    let marked = subst (λ n. AreMarksOf places n marks) c.len.ensures (subst (λ ps. AreMarksOf ps c.len.result marks) c.deref.ensures.value c.in_ok-marks.ensures) in
    record {
      marks = subst (λ (ps : List ℕ). AreMarksOf ps (length c.args.declarations.now) marks) c.in_ok-places.ensures marked;
      rails = c.in_ok-rails.ensures.items ∙ c.rails.ensures;
      count = ap length c.networks-networks.ensures.networks;
    }
