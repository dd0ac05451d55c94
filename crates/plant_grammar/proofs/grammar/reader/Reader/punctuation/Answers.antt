use Rattle.std.proofs.Common.{rules, sym}
use Rattle.plant_text.specs.declared.token.Token.TheVariants as token
use Rattle.plant_grammar.specs.Steps.Lines.{IsWordNext}
use Rattle.plant_grammar.proofs.grammar.reader.Reader.punctuation.Goals as goal

pub returns-clause-bodies : goal.returns-clause-bodies
returns-clause-bodies c =
    let next : IsWordNext (token.Punctuation c.args.punctuation) c.args.self.now.words = search rules in
    sym (c.advance.ensures.bodies (token.Punctuation c.args.punctuation) next.0 next.1)
