use Rattle.std.proofs.Common.{◌≡◌, All, vec_len}
use Rattle.plc_main.proofs.run_keepers.memory_keepers.Given as goal

abbrev pub invariant-loop-resource : goal.invariant-loop-resource
invariant-loop-resource l = (vec_len l.keepers ≡ l._resource) × All (λ k. k.last ≡ 0) l.keepers.items
