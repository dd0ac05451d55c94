use Rattle.std.proofs.Common.{ap, subst, sym}
use Rattle.plant_grammar.specs.Steps.Lines.{ReaderValue, HasLinesOf}
use Rattle.plant_grammar.proofs.ReadLines.{kept_behind}
use Rattle.plant_grammar.proofs.grammar.reader.Reader.advance.Goals as goal

pub returns-in-len1-up-clause-left : goal.returns-in-len1-up-clause-left
returns-in-len1-up-clause-left c = (λ all h. kept_behind c.self.inside.words.now c.self.inside.last all c.in-len1-up.len_at_least (subst (HasLinesOf all) (sym c.self.view_is) h), ap (λ (r : ReaderValue). r.last) c.self.view_is)
