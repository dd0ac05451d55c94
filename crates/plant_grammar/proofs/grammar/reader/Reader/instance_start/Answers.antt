use Rattle.plant_grammar.proofs.ReadLines.{line_before}
use Rattle.plant_grammar.proofs.RefusedNames.{both_told}
use Rattle.plant_grammar.proofs.RefusedPlaces.{instance_named}
use Rattle.std.proofs.Common.{◌∷◌, [], refl, subst, sym, List}
use Rattle.lists.proofs.Results.{kept_fault}
use Rattle.std.proofs.lemmas.Result.{IfErr-weaker}
use Rattle.plant_text.specs.declared.token.Keyword.TheVariants as key
use Rattle.plant_grammar.specs.Steps.Expected.{Key, AName, GetsStuck}
use Rattle.plant_grammar.proofs.UnexpectedWords.{key_stuck}
use Rattle.plant_grammar.proofs.StuckBehind.{stuck_after_key}
use Rattle.plant_text.specs.declared.token.Token.{Token}
use Rattle.plant_grammar.specs.Grammar.{key_word}
use Rattle.plant_grammar.specs.Steps.SoundWords.{BeginWords, IsNothing}
use Rattle.plant_grammar.proofs.ExpectedWords.{stuck_told}
use Rattle.plant_grammar.proofs.grammar.reader.Reader.instance_start.Goals as goal

pub returns-clause-names : goal.returns-clause-names
returns-clause-names c programs =
    let a = c.args in
    both_told c.instance_name.result _ _ _
    (λ fault tells line all h of. instance_named fault.kind a.tally.now.instances a.tally.now.binds programs a.before.now a.self.now.words c.keyword.new.self.words (line_before all c.keyword.new.self fault.line (c.in_ok-keyword.ensures.left.0 all h) (line of)) c.in_ok-keyword.ensures.ok tells of)
    c.instance_name.ensures.tells c.instance_name.ensures.line

pub returns-in_err-keyword-clause-stuck : goal.returns-in_err-keyword-clause-stuck
returns-in_err-keyword-clause-stuck c =
    let fault = c.in_err-keyword.field-0.0 in
    kept_fault fault (GetsStuck (BeginWords (key_word key.Program ∷ [])) (Key key.Program ∷ AName ∷ []) c.args.self.now) c.from_residual.result c.from_residual.ensures.1
    (key_stuck (BeginWords (key_word key.Program ∷ [])) (key_word key.Program ∷ [], refl) key.Program (AName ∷ []) c.args.self.now fault c.in_err-keyword.ensures.err.0 c.in_err-keyword.ensures.other)

pub returns-clause-stuck : goal.returns-clause-stuck
returns-clause-stuck c =
    IfErr-weaker c.instance_name.result _ _ (λ fault stuck. stuck_after_key (BeginWords (key_word key.Program ∷ [])) key.Program (AName ∷ []) c.args.self.now c.keyword.new.self fault c.in_ok-keyword.ensures.ok c.in_ok-keyword.ensures.left
    (stuck_told (λ w. BeginWords (key_word key.Program ∷ []) (key_word key.Program ∷ w)) IsNothing (AName ∷ []) c.keyword.new.self fault (λ w none. subst (λ (v : List Token). BeginWords (key_word key.Program ∷ []) (key_word key.Program ∷ v)) (sym none) ([], refl)) stuck)) c.instance_name.ensures.stuck
