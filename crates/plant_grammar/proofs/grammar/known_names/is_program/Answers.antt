use Rattle.std.proofs.Common.{rules, ◌≡◌, Bool, is_some}
use Rattle.std.specs.List.{find}
use Rattle.plant_grammar.specs.Grammar.{TextValue}
use Rattle.plant_grammar.specs.declared.grammar.tree.Program.{Program}
use Rattle.plant_grammar.specs.Names.{is_named}
use Rattle.plant_grammar.proofs.FoundTypes.{found_any_of}
use Rattle.plant_grammar.proofs.grammar.known_names.is_program.Goals as goal

pub returns : goal.returns
returns c =
    let is : Program → Bool = λ p. is_named c.args.name.now p.name in
    let same : c.is_some.result ≡ is_some (find (λ (t : TextValue). is t.program) c.args.texts.now) = search rules in
    rw same (found_any_of (λ (t : TextValue). t.program) is c.args.texts.now)
