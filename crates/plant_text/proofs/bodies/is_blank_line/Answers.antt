use Rattle.std.proofs.Common.{◌≡◌, ◌∙◌, List, ℕ, subst, ap}
use Rattle.words.specs.Lines.{without_last}
use Rattle.plant_text.specs.Spelling.{first_line}
use Rattle.plant_text.specs.Steps.Gaps.{IsBehindGap}
use Rattle.plant_text.proofs.BodyLines.{gap_both}
use Rattle.plant_text.proofs.bodies.is_blank_line.Goals as goal

pub returns : goal.returns
returns c =
    let line : c.without_return.result.now ≡ without_last 13 (first_line c.args.text.now) = c.without_return.ensures ∙ ap (without_last 13) c.first_line.ensures in
    gap_both (without_last 13 (first_line c.args.text.now)) c.behind_gap.result.now c.is_empty.result (subst (λ (x : List ℕ). IsBehindGap x c.behind_gap.result.now) line c.behind_gap.ensures) c.is_empty.ensures
