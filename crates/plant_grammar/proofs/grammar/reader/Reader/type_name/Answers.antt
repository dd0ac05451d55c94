use Rattle.std.proofs.Common.{[], ◌∷◌, refl}
use Rattle.lists.proofs.Results.{kept_fault}
use Rattle.declared_names.specs.declared.declarations.Kind.TheVariants as kind
use Rattle.plant_grammar.specs.Steps.Expected.{AType, GetsStuck}
use Rattle.plant_grammar.proofs.UnexpectedWords.{type_stuck}
use Rattle.plant_grammar.specs.Steps.SoundWords.{IsNothing}
use Rattle.plant_grammar.proofs.grammar.reader.Reader.type_name.Goals as goal

pub returns-in_err-kind-clause-stuck : goal.returns-in_err-kind-clause-stuck
returns-in_err-kind-clause-stuck c =
    let fault = c.in_err-kind.field-0.0 in
    kept_fault fault (GetsStuck IsNothing (AType ∷ []) c.args.self.now) c.from_residual.result c.from_residual.ensures.1
    (type_stuck IsNothing refl [] c.args.self.now fault c.in_err-kind.ensures.err (c.if-not-sees_block_type.ensures.no refl)
    (c.in_err-kind.ensures.other kind.Int) (c.in_err-kind.ensures.other kind.Time) (c.in_err-kind.ensures.other kind.Bool))
