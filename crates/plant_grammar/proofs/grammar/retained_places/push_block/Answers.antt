use Rattle.plant_grammar.proofs.RetainedPlaces.{sections_start, list_more, lists_all}
use Rattle.plant_grammar.proofs.grammar.retained_places.push_block.Goals as goal

pub loop-list-init : goal.loop-list-init
loop-list-init c = sections_start c.args.sections.now.items

pub loop-list-preserved : goal.loop-list-preserved
loop-list-preserved c =
    let items = c.deref-list-items.ensures.value in
    list_more c.args.block.now.section c.args.block.now.lists.items c.loop-list.list-index c.list-item.result c.args.sections.now.items c.loop-list.sections.items c.push_list.new.sections.items
    (rw items at c.loop-list-test.true) (rw items at c.list-item.is) c.loop-list.invariant c.in_ok-push_list.ensures

pub returns : goal.returns
returns c = lists_all c.args.block.now c.loop-list.list-index c.args.sections.now.items c.loop-list.sections.items (rw c.deref-list-items.ensures.value at c.loop-list-test.false) c.loop-list.invariant
