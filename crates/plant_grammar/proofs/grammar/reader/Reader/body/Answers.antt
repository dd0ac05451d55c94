use Rattle.std.proofs.Common.{◌≡◌, ◌∷◌, rules}
use Rattle.plant_text.specs.declared.token.Token.TheVariants as token
use Rattle.plant_grammar.specs.Steps.Lines.{behind}
use Rattle.plant_grammar.proofs.grammar.reader.Reader.body.Goals as goal

pub returns-in_ok-body-in-Some-Body-clause-bodies : goal.returns-in_ok-body-in-Some-Body-clause-bodies
returns-in_ok-body-in-Some-Body-clause-bodies c =
    let next : c.args.self.now.words ≡ token.Body c.in-Some-Body.text ∷ behind c.args.self.now.words = search rules in
    c.advance.ensures.bodies (token.Body c.in-Some-Body.text) (behind c.args.self.now.words) next
