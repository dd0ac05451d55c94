use Rattle.std.proofs.Common.{◌∷◌, [], refl}
use Rattle.lists.proofs.Results.{kept_fault}
use Rattle.plant_grammar.specs.Steps.Expected.{AName, GetsStuck}
use Rattle.plant_grammar.proofs.UnexpectedWords.{name_stuck}
use Rattle.plant_grammar.specs.Steps.SoundWords.{IsNothing}
use Rattle.plant_grammar.proofs.grammar.reader.Reader.known_task.Goals as goal

pub returns-in_err-name-clause-stuck : goal.returns-in_err-name-clause-stuck
returns-in_err-name-clause-stuck c =
    let fault = c.in_err-name.field-0.0 in
    kept_fault fault (GetsStuck IsNothing (AName ∷ []) c.args.self.now) c.from_residual.result c.from_residual.ensures.1
    (name_stuck IsNothing refl [] c.args.self.now fault c.in_err-name.ensures.err c.in_err-name.ensures.other)
