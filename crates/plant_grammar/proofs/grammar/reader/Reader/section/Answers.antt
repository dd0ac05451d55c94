use Rattle.std.proofs.Common.{[], ◌∷◌, refl}
use Rattle.lists.proofs.Results.{kept_fault}
use Rattle.plant_grammar.specs.Steps.Expected.{ASection, GetsStuck}
use Rattle.plant_grammar.proofs.UnexpectedWords.{section_stuck}
use Rattle.plant_grammar.specs.Steps.SoundWords.{IsNothing}
use Rattle.plant_grammar.proofs.grammar.reader.Reader.section.Goals as goal

pub returns-in_err-keyword-3-clause-stuck : goal.returns-in_err-keyword-3-clause-stuck
returns-in_err-keyword-3-clause-stuck c =
    let fault = c.in_err-keyword-3.field-0.0 in
    kept_fault fault (GetsStuck IsNothing (ASection ∷ []) c.args.self.now) c.from_residual-in_err-keyword-3.result c.from_residual-in_err-keyword-3.ensures.1
    (section_stuck IsNothing refl [] c.args.self.now fault c.in_err-keyword-3.ensures.err.0 (c.if-sees_keyword.ensures.no refl) (c.if-sees_keyword-2.ensures.no refl) c.in_err-keyword-3.ensures.other)
