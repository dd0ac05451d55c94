use Rattle.std.proofs.Common.{rules, ◌<◌, length}
use Rattle.plant_grammar.proofs.ProgramVariables.{variables_more}
use Rattle.plant_grammar.proofs.grammar.variables.Variables.add.Goals as goal

pub invariant_of-self : goal.invariant_of-self
invariant_of-self c =
    let room : length c.self.inside.declarations < 1000 = search rules in
    variables_more c.self.inside.declarations c.add.new.self c.as_str.result.now c.args.declared c.add.result c.add.ensures.ok c.add.ensures.twice c.add.ensures.err c.self.invariant room
