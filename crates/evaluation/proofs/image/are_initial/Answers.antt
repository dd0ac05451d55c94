use Rattle.std.proofs.Common.{refl, sym, arith}
use Rattle.std.proofs.lemmas.Option.{slice_get_within}
use Rattle.declared_names.specs.Kinds.{value_first}
use Rattle.evaluation.proofs.MappedLists.{map_by_each}
use Rattle.evaluation.proofs.image.are_initial.Goals as goal

pub returns : goal.returns
returns c = (
  λ _. sym (map_by_each value_first c.args.kinds.now c.args.values.now (omega arith)
      (λ k kind v at found. let lt = slice_get_within c.args.kinds.now k kind at in c.loop-i.invariant k kind v (omega arith) at found)),
  λ _. refl,
)
