use Rattle.std.proofs.Common.{◌≡◌, ◌∷◌, rules, sym}
use Rattle.plant_text.specs.declared.token.Token.TheVariants as token
use Rattle.plant_grammar.specs.Steps.Lines.{behind}
use Rattle.plant_grammar.proofs.grammar.reader.Reader.block_type.Goals as goal

pub returns-in-Some-Block-clause-bodies : goal.returns-in-Some-Block-clause-bodies
returns-in-Some-Block-clause-bodies c =
    let next : c.args.self.now.words ≡ token.Block c.in-Some-Block.block ∷ behind c.args.self.now.words = search rules in
    sym (c.advance.ensures.bodies (token.Block c.in-Some-Block.block) (behind c.args.self.now.words) next)
