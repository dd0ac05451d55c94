use Rattle.std.proofs.Common.{◌≢◌, arith}
use Rattle.plant_grammar.specs.Lawful.{declared_as, MayBeDeclared}
use Rattle.lists.proofs.Results.{kept_fault}
use Rattle.plant_grammar.specs.declared.grammar_fault.GrammarFaultKind.TheVariants.{Memory}
use Rattle.plant_grammar.proofs.AddedNames.{add_allowed}
use Rattle.plant_grammar.proofs.grammar.variables.Variables.add_list.Goals as goal

pub returns-in_err-add-clause-other : goal.returns-in_err-add-clause-other
returns-in_err-add-clause-other c =
    let fault = c.in_err-add.field-0.0 in
    let list = c.args.list.now in
    let old = c.args.self.now in
    kept_fault fault (λ f. f.kind ≢ Memory → MayBeDeclared old list.names.items → ⊥) c.from_residual.result c.from_residual.ensures.1
    (λ known may. let m = add_allowed old c.loop-name.self (declared_as c.args.section list.type_name) list.names.items c.deref-name-items.result.now c.loop-name.name-index c.name-item.result c.deref-name-items.ensures.value c.loop-name.invariant (omega (arith, c.loop-name-test.true)) c.name-item.is may in
    c.in_err-add.ensures.other known m.0 m.1)
