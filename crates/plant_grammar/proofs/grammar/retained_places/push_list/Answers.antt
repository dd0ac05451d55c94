use Rattle.plant_grammar.proofs.RetainedPlaces.{sections_start, name_more, names_all}
use Rattle.plant_grammar.proofs.grammar.retained_places.push_list.Goals as goal

pub loop-init : goal.loop-init
loop-init c = sections_start c.args.sections.now.items

pub loop-preserved : goal.loop-preserved
loop-preserved c =
    name_more c.args.section c.args.list.now.names.items c.loop.index c.args.sections.now.items c.loop.sections.items c.push.new.self.items (rw c.deref-items.ensures.value at c.loop-test.true) c.loop.invariant c.in_ok-push.ensures.items

pub returns : goal.returns
returns c = names_all c.args.section c.args.list.now c.loop.index c.args.sections.now.items c.loop.sections.items (rw c.deref-items.ensures.value at c.loop-test.false) c.loop.invariant
