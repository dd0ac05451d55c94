use Rattle.std.proofs.Common.{refl, Some, [], ◌∷◌}
use Rattle.std.proofs.lemmas.Result.{IfErr-weaker}
use Rattle.plant_grammar.proofs.WalkedResources.{stuck_in_output}
use Rattle.plant_text.specs.declared.token.Punctuation.TheVariants as mark
use Rattle.plant_grammar.specs.declared.grammar.tree.SourceName.{SourceName}
use Rattle.plant_grammar.specs.JudgedWords.{judged_source}
use Rattle.plant_grammar.specs.Steps.Expected.{Mark, AName}
use Rattle.plant_grammar.specs.Steps.SoundWords.{BeginsSound, BeginsOutput}
use Rattle.plant_grammar.proofs.ExpectedWords.{stuck_told}
use Rattle.plant_grammar.proofs.SoundFronts.{output_of_source}
use Rattle.plant_grammar.proofs.grammar.reader.Reader.source.Goals as goal

pub returns-else-sees_address-clause-stuck : goal.returns-else-sees_address-clause-stuck
returns-else-sees_address-clause-stuck c =
    IfErr-weaker c.output.result _ _ (λ fault stuck. stuck_in_output (BeginsSound (judged_source (Some c.args.kind)) (λ (s : SourceName). Unit {0})) c.args.self.now fault (c.if-sees_address.ensures.no refl)
    (stuck_told (BeginsSound (judged_source (Some c.args.kind)) (λ (s : SourceName). Unit {0})) BeginsOutput (AName ∷ Mark mark.Dot ∷ AName ∷ Mark mark.Dot ∷ AName ∷ []) c.args.self.now fault (λ w b. output_of_source (Some c.args.kind) w b) stuck)) c.output.ensures.stuck
