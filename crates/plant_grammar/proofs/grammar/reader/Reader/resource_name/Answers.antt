use Rattle.std.proofs.Common.{◌≡◌, ◌≢◌, ◌≤◌, ◌<◌, ◌∷◌, ℕ, List, length, rules, [], refl}
use Rattle.plant_text.specs.declared.token.Token.{Token}
use Rattle.plant_text.specs.declared.token.Token.TheVariants as token
use Rattle.plant_grammar.specs.declared.grammar_fault.GrammarFaultKind.TheVariants.{Memory}
use Rattle.plant_grammar.specs.Steps.NamesRead.{IsNew}
use Rattle.plant_grammar.proofs.NewNames.{new_allowed}
use Rattle.lists.proofs.Results.{kept_fault}
use Rattle.plant_grammar.specs.declared.grammar.tree.Resource.{Resource}
use Rattle.plant_grammar.specs.Steps.Declaring.{TellsOfResource}
use Rattle.plant_grammar.proofs.RefusedNames.{tells_next}
use Rattle.plant_grammar.specs.Steps.Expected.{AName, GetsStuck}
use Rattle.plant_grammar.proofs.UnexpectedWords.{name_stuck}
use Rattle.plant_grammar.specs.Steps.SoundWords.{IsNothing}
use Rattle.plant_grammar.proofs.grammar.reader.Reader.resource_name.Goals as resource_name_goals

pub returns-in_err-check_new-clause-tells : resource_name_goals.returns-in_err-check_new-clause-tells
returns-in_err-check_new-clause-tells c =
    let fault = c.in_err-check_new.field-0.0 in
    kept_fault fault (TellsOfResource c.args.before.now c.args.self.now.words) c.from_residual-in_err-check_new.result c.from_residual-in_err-check_new.ensures.1
    (tells_next fault.kind (λ (x : Resource). x.name) (c.args.before.now) c.in_ok-name.name c.args.self.now.words c.name.new.self.words _ _ (16 ≤ length c.args.before.now) c.in_ok-name.ensures.ok
    c.is_resource.ensures.0 c.is_resource.ensures.1 (λ full. search rules) c.in_err-check_new.ensures.tells)

pub returns-in_err-check_new-clause-other : resource_name_goals.returns-in_err-check_new-clause-other
returns-in_err-check_new-clause-other c =
    let fault = c.in_err-check_new.field-0.0 in
    kept_fault fault (λ f. f.kind ≢ Memory → (name : List ℕ) (rest : List Token) → c.args.self.now.words ≡ token.Name name ∷ rest → IsNew (λ (x : Resource). x.name) (c.args.before.now) name → length c.args.before.now < 16 → ⊥) c.from_residual-in_err-check_new.result c.from_residual-in_err-check_new.ensures.1
    (λ known name rest e new few. new_allowed (λ (x : Resource). x.name) (c.args.before.now) c.in_ok-name.name name c.args.self.now.words c.name.new.self.words rest 16 (length c.args.before.now) _ _ fault.kind c.in_ok-name.ensures.ok e new few c.is_resource.ensures.0 (λ full. search rules) c.in_err-check_new.ensures.full)

pub returns-in_err-name-clause-stuck : resource_name_goals.returns-in_err-name-clause-stuck
returns-in_err-name-clause-stuck c =
    let fault = c.in_err-name.field-0.0 in
    kept_fault fault (GetsStuck IsNothing (AName ∷ []) c.args.self.now) c.from_residual.result c.from_residual.ensures.1
    (name_stuck IsNothing refl [] c.args.self.now fault c.in_err-name.ensures.err c.in_err-name.ensures.other)
