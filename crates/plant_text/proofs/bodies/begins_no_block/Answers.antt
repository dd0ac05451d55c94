use Rattle.std.proofs.Common.{◌≡◌, not, false, sym, ap, ◌∙◌}
use Rattle.std.proofs.lemmas.Bool.{not-true}
use Rattle.plant_text.specs.Words.{keyword}
use Rattle.plant_text.specs.Steps.Lexing.{begins_block}
use Rattle.plant_text.proofs.BodyLines.{begins_none, begins_none_found}
use Rattle.plant_text.proofs.bodies.begins_no_block.Goals as goal

pub returns : goal.returns
returns c = (
  λ h.
      let found : begins_block (keyword c.letters.result.now) ≡ false = sym (ap begins_block c.keyword.ensures) ∙ sym c.begins_block.ensures ∙ not-true c.begins_block.result h in
      begins_none c.args.text.now c.behind_gap.result.now c.behind_gap.ensures (sym (ap (λ x. begins_block (keyword x)) c.letters.ensures) ∙ found),
  λ none.
      ap not (c.begins_block.ensures ∙ ap begins_block c.keyword.ensures ∙ ap (λ x. begins_block (keyword x)) c.letters.ensures ∙ begins_none_found c.args.text.now c.behind_gap.result.now c.behind_gap.ensures none),
)
