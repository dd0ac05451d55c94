use Rattle.std.proofs.Common.{◌<◌, IsTrue, arith}
use Rattle.std.proofs.lemmas.Option.{slice_get_within}
use Rattle.plant_grammar.specs.Names.{is_named}
use Rattle.plant.proofs.FoldedNames.{at_index, none_more}
use Rattle.plant.proofs.named.find_named.Goals as goal

pub returns-then-is_named : goal.returns-then-is_named
returns-then-is_named g c =
    let found = c.index-items-k.result in
    let named : IsTrue (is_named c.args.name.now (g.T.Named.name_of found)) = cc in
    (found, at_index g.T.Named.name_of c.args.items.now c.args.name.now c.loop-k.k found c.loop-k-test.true c.index-items-k.is named)

pub loop-k-preserved : goal.loop-k-preserved
loop-k-preserved g c =
    let no = c.if-is_named.false in
    none_more g.T.Named.name_of c.args.items.now c.args.name.now c.loop-k.k c.index-items-k.result c.index-items-k.is (λ named. cc) c.loop-k.invariant

pub returns : goal.returns
returns g c = λ k x at.
    let within = slice_get_within c.args.items.now k x at.stands in
    let less : k < c.loop-k.k = omega arith in
    c.loop-k.invariant k x less at
