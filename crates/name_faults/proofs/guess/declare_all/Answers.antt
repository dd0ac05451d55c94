use Rattle.std.proofs.Common.{◌+◌, List, sym, subst, arith}
use Rattle.declared_names.specs.declared.declarations.Declaration.{Declaration}
use Rattle.name_faults.proofs.GuessedNames.{FirstsTo, FirstsTo-more, FirstsTo-all}
use Rattle.name_faults.proofs.guess.declare_all.Goals as goal

pub loop-name_use-preserved : goal.loop-name_use-preserved
loop-name_use-preserved c =
    subst (λ (ds : List Declaration). FirstsTo c.args.uses.now ds (c.loop-name_use.name_use-index + 1)) (sym c.in_ok-declare.ensures)
    (FirstsTo-more c.args.uses.now c.loop-name_use.declarations c.loop-name_use.name_use-index c.name_use-item.result
    c.loop-name_use-test.true (sym c.name_use-item.is) c.loop-name_use.invariant)

pub returns : goal.returns
returns c = FirstsTo-all c.args.uses.now c.loop-name_use.declarations c.loop-name_use.name_use-index (omega arith) c.loop-name_use.invariant
