use Rattle.std.proofs.Common.{◌≡◌, ◌∷◌, rules, sym}
use Rattle.plant_text.specs.declared.token.Token.TheVariants as token
use Rattle.plant_grammar.specs.Steps.Lines.{behind}
use Rattle.plant_grammar.proofs.grammar.reader.Reader.name.Goals as goal

pub returns-in_ok-try_copy-in-Some-Name-clause-bodies : goal.returns-in_ok-try_copy-in-Some-Name-clause-bodies
returns-in_ok-try_copy-in-Some-Name-clause-bodies c =
    let next : c.args.self.now.words ≡ token.Name c.in-Some-Name.text ∷ behind c.args.self.now.words = search rules in
    sym (c.advance.ensures.bodies (token.Name c.in-Some-Name.text) (behind c.args.self.now.words) next)
