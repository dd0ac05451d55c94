use Rattle.std.proofs.Common.{length, rules, sym, ◌∙◌}
use Rattle.std.proofs.lemmas.Slice.Eq.{slice_eq-Decides}
use Rattle.text_commands.proofs.SecondDrawings.{in_parts}
use Rattle.text_commands.proofs.second_drawing.joined.are_joined_rails.Goals as goal

pub returns-then-eq : goal.returns-then-eq
returns-then-eq c = λ on.
    let one = slice_eq-Decides (λ a b. search rules) _ _ _ c.eq.ensures in
    let two = slice_eq-Decides (λ a b. search rules) _ _ _ c.eq-then-eq.ensures in
    in_parts (length c.args.first.now) c.args.rails.now c.args.first.now c.args.second.now (sym c.split_at.ensures.front ∙ one.0 c.if-eq.true) (sym c.split_at.ensures.back ∙ two.0 on)
