use Rattle.std.proofs.Common.{rules, sym}
use Rattle.plant_text.specs.declared.token.Token.TheVariants as token
use Rattle.plant_grammar.specs.Steps.Lines.{IsWordNext}
use Rattle.plant_grammar.proofs.grammar.reader.Reader.keyword.Goals as goal

pub returns-clause-bodies : goal.returns-clause-bodies
returns-clause-bodies c =
    let next : IsWordNext (token.Keyword c.args.keyword) c.args.self.now.words = search rules in
    sym (c.advance.ensures.bodies (token.Keyword c.args.keyword) next.0 next.1)
