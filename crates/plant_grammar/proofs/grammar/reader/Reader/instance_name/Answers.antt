use Rattle.std.proofs.Common.{◌≡◌, ◌≢◌, ◌≤◌, ◌<◌, ◌∷◌, ℕ, List, [], true, arith, refl}
use Rattle.std.specs.List.{flat_map}
use Rattle.lists.proofs.Results.{kept_fault}
use Rattle.plant_text.specs.declared.token.Token.{Token}
use Rattle.plant_text.specs.declared.token.Token.TheVariants as token
use Rattle.plant_grammar.specs.declared.grammar_fault.GrammarFaultKind.TheVariants.{Memory}
use Rattle.plant_grammar.specs.declared.grammar.tree.Use.{Use}
use Rattle.plant_grammar.specs.Lawful.{use_of}
use Rattle.plant_grammar.specs.Steps.NamesRead.{IsNew}
use Rattle.plant_grammar.specs.Steps.Declaring.{TellsOfInstance}
use Rattle.plant_grammar.proofs.NewNames.{new_allowed}
use Rattle.plant_grammar.proofs.RefusedNames.{too_many_next}
use Rattle.plant_grammar.specs.Steps.Expected.{AName, GetsStuck}
use Rattle.plant_grammar.proofs.UnexpectedWords.{name_stuck}
use Rattle.plant_grammar.specs.Steps.SoundWords.{IsNothing}
use Rattle.plant_grammar.proofs.grammar.reader.Reader.instance_name.Goals as goal

pub returns-in_err-check_new-clause-other : goal.returns-in_err-check_new-clause-other
returns-in_err-check_new-clause-other c =
    let fault = c.in_err-check_new.field-0.0 in
    let before = flat_map use_of c.args.before.now in
    kept_fault fault (λ f. f.kind ≢ Memory → (name : List ℕ) (rest : List Token) → c.args.self.now.words ≡ token.Name name ∷ rest → IsNew (λ (u : Use). u.instance) (flat_map use_of c.args.before.now) name → c.args.tally.now.instances < 64 → ⊥) c.from_residual-in_err-check_new.result c.from_residual-in_err-check_new.ensures.1
    (λ known name rest e new few. new_allowed (λ (u : Use). u.instance) before c.in_ok-name.name name c.args.self.now.words c.name.new.self.words rest 64 c.args.tally.now.instances _ _ fault.kind c.in_ok-name.ensures.ok e new few c.is_instance.ensures.0 (λ full. absurd cc) c.in_err-check_new.ensures.full)

pub returns-in_err-add_instance-clause-tells : goal.returns-in_err-add_instance-clause-tells
returns-in_err-add_instance-clause-tells c =
    let fault = c.in_err-add_instance.field-0.0 in
    let told = c.in_err-add_instance.ensures.err in
    kept_fault fault (TellsOfInstance c.args.before.now c.args.tally.now.instances c.args.self.now.words) c.from_residual-in_err-add_instance.result c.from_residual-in_err-add_instance.ensures.1
    (too_many_next fault.kind (λ (u : Use). u.instance) (flat_map use_of c.args.before.now) c.in_ok-name.name c.args.self.now.words c.name.new.self.words (64 ≤ c.args.tally.now.instances) told.0 c.in_ok-name.ensures.ok
    (λ taken. let twice : c.is_instance.result ≡ true = c.is_instance.ensures.1 taken in let once = c.in_ok-check_new.ensures.ok.0 in absurd cc) (omega (arith, told.2)))

pub returns-in_err-name-clause-stuck : goal.returns-in_err-name-clause-stuck
returns-in_err-name-clause-stuck c =
    let fault = c.in_err-name.field-0.0 in
    kept_fault fault (GetsStuck IsNothing (AName ∷ []) c.args.self.now) c.from_residual.result c.from_residual.ensures.1
    (name_stuck IsNothing refl [] c.args.self.now fault c.in_err-name.ensures.err c.in_err-name.ensures.other)
