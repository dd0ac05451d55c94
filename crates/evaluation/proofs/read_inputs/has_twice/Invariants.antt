use Rattle.std.proofs.Common.{◌↔◌, ℕ, IsTrue}
use Rattle.std.specs.BTreeSet.{contains}
use Rattle.std.specs.Ordering.{nat_cmp}
use Rattle.evaluation.proofs.FieldInputs.{HasKey, KeysApart}
use Rattle.evaluation.proofs.read_inputs.has_twice.Given as goal

abbrev pub invariant-loop-input : goal.invariant-loop-input
invariant-loop-input l = record {
  known : (x : ℕ) → IsTrue (contains nat_cmp l.known x) ↔ HasKey l.inputs l.input-index x;
  apart : KeysApart l.inputs l.input-index;
}
