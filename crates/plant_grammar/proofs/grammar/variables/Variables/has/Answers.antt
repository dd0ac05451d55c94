use Rattle.plant_grammar.proofs.grammar.variables.Variables.has.Goals as goal

pub returns : goal.returns
returns c = rw (c.is_some.ensures, c.position.ensures, c.as_str.ensures, ← c.self.view_is) (c.declared_names_have_places.ensures c.self.inside.declarations c.args.name.now)
