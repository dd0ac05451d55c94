use Rattle.std.proofs.Common.{inl, subst, MatchOption}
use Rattle.console.specs.Warned.{ArePlantWarnings, IsNoPlantEither}
use Rattle.console.proofs.warned.tell_plant.Goals as goal

pub returns-in-Ok : goal.returns-in-Ok
returns-in-Ok g c =
    let text = c.args.text.now in
    inl (c.in-Ok-Some.warnings, subst (λ told. MatchOption told (IsNoPlantEither text) (ArePlantWarnings c.args.time text)) c.in-Ok-Some.field-0-is c.in-Ok-Some.ensures, c.is_plant_quiet.ensures)
