use Rattle.std.proofs.Common.{◌≡◌, ◌≢◌, ◌≤◌, ◌<◌, ◌+◌, [], ◌∷◌, ℕ, List, length, subst, refl}
use Rattle.lists.proofs.Results.{kept_fault}
use Rattle.declared_names.specs.Names.{IsDeclared}
use Rattle.plant_text.specs.declared.token.Token.{Token}
use Rattle.plant_text.specs.declared.token.Token.TheVariants as token
use Rattle.plant_grammar.specs.declared.grammar_fault.GrammarFaultKind.TheVariants.{Memory}
use Rattle.plant_grammar.specs.Steps.NamesRead.{IsNew}
use Rattle.plant_grammar.specs.Steps.Expected.{AName, GetsStuck}
use Rattle.plant_grammar.proofs.UnexpectedWords.{name_stuck}
use Rattle.plant_grammar.specs.Steps.Declaring.{TellsOfVariable}
use Rattle.plant_grammar.proofs.NewNames.{one_name}
use Rattle.plant_grammar.proofs.RefusedPlaces.{variable_told}
use Rattle.plant_grammar.specs.Steps.SoundWords.{IsNothing}
use Rattle.plant_grammar.proofs.grammar.reader.Reader.variable.Goals as goal

pub returns-in_err-check-clause-other : goal.returns-in_err-check-clause-other
returns-in_err-check-clause-other c =
    let fault = c.in_err-check.field-0.0 in
    kept_fault fault (λ f. f.kind ≢ Memory → (name : List ℕ) (rest : List Token) → c.args.self.now.words ≡ token.Name name ∷ rest → (IsDeclared c.args.variables.now name → ⊥) → IsNew (λ (n : List ℕ). n) c.args.before.now name → length c.args.variables.now + length c.args.before.now < 1000 → ⊥) c.from_residual-in_err-check.result c.from_residual-in_err-check.ensures.1
    (λ known name rest e apart new few.
    let same = one_name c.in_ok-name.name name c.args.self.now.words c.name.new.self.words rest c.in_ok-name.ensures.ok e in
    c.in_err-check.ensures.other (subst (λ n. IsDeclared c.args.variables.now n → ⊥) same apart) (subst (λ n. IsNew (λ (m : List ℕ). m) c.args.before.now n) same new) few)

pub returns-in_err-check-clause-tells : goal.returns-in_err-check-clause-tells
returns-in_err-check-clause-tells c =
    let fault = c.in_err-check.field-0.0 in
    kept_fault fault (TellsOfVariable c.args.variables.now c.args.before.now c.args.self.now.words) c.from_residual-in_err-check.result c.from_residual-in_err-check.ensures.1
    (variable_told fault.kind c.args.variables.now c.args.before.now c.in_ok-name.name c.args.self.now.words c.name.new.self.words (1000 ≤ length c.args.variables.now + length c.args.before.now) c.in_ok-name.ensures.ok c.in_err-check.ensures.tells)

pub returns-in_err-name-clause-stuck : goal.returns-in_err-name-clause-stuck
returns-in_err-name-clause-stuck c =
    let fault = c.in_err-name.field-0.0 in
    kept_fault fault (GetsStuck IsNothing (AName ∷ []) c.args.self.now) c.from_residual.result c.from_residual.ensures.1 (name_stuck IsNothing refl [] c.args.self.now fault c.in_err-name.ensures.err c.in_err-name.ensures.other)

pub returns-in_err-check-clause-stuck : goal.returns-in_err-check-clause-stuck
returns-in_err-check-clause-stuck c =
    let fault = c.in_err-check.field-0.0 in
    kept_fault fault (GetsStuck IsNothing (AName ∷ []) c.args.self.now) c.from_residual-in_err-check.result c.from_residual-in_err-check.ensures.1 (λ syntax behind. absurd (c.in_err-check.ensures.named syntax))
