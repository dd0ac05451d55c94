use Rattle.std.proofs.Common.{refl, arith}
use Rattle.std.proofs.lemmas.Option.{slice_get_within}
use Rattle.declared_names.specs.Kinds.{kind_of}
use Rattle.evaluation.proofs.MappedLists.{map_by_each}
use Rattle.evaluation.proofs.image.have_kinds.Goals as goal

pub returns : goal.returns
returns c = (
  λ _. map_by_each kind_of c.args.values.now c.args.kinds.now (omega arith)
      (λ k v kind at found. let lt = slice_get_within c.args.values.now k v at in c.loop-i.invariant k v kind (omega arith) at found),
  λ _. refl,
)
