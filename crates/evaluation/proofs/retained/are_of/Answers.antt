use Rattle.std.proofs.Common.{◌≡◌, ℕ, Some, slice_get, get_or, refl, arith, subst, false, IsTrue}
use Rattle.std.proofs.lemmas.Option.{slice_get_within, slice_get-get_or}
use Rattle.lists.proofs.Places.{one_more}
use Rattle.std_blocks.specs.declared.value.Value.{Value}
use Rattle.std_blocks.specs.declared.value.Value.TheVariants.{Bool as On}
use Rattle.declared_names.specs.declared.declarations.Kind.TheVariants as kind
use Rattle.declared_names.specs.Kinds.{kind_of}
use Rattle.task_codes.specs.declared.retained_variable.RetainedVariable.{RetainedVariable}
use Rattle.evaluation.proofs.RetainedStates.{kinds_at_each, kind_at}
use Rattle.evaluation.proofs.retained.are_of.Goals as goal

abbrev no_value : Value
no_value = On false

abbrev no_variable : RetainedVariable
no_variable = record { program = 0; place = 0; kind = kind.Bool }

pub returns-then-not-is_of : goal.returns-then-not-is_of
returns-then-not-is_of c = (
  λ h. absurd cc,
  λ e.
      let xs = c.args.values.now in
      let vs = c.args.variables.now in
      let k = c.loop-i.i in
      let at : slice_get xs k ≡ Some (get_or xs k no_value) = slice_get-get_or xs k no_value (omega arith) in
      let found : slice_get vs k ≡ Some (get_or vs k no_variable) = slice_get-get_or vs k no_variable (omega arith) in
      subst IsTrue c.if-not-is_of.true (c.is_of.ensures.1 (kind_at xs vs e k (get_or xs k no_value) (get_or vs k no_variable) at found)),
)

pub loop-i-preserved : goal.loop-i-preserved
loop-i-preserved c =
    let xs = c.args.values.now in
    let vs = c.args.variables.now in
    let k = c.loop-i.i in
    let at : slice_get xs k ≡ Some (get_or xs k no_value) = slice_get-get_or xs k no_value (omega arith) in
    let found : slice_get vs k ≡ Some (get_or vs k no_variable) = slice_get-get_or vs k no_variable (omega arith) in
    one_more (λ (k : ℕ) (x : Value) (v : RetainedVariable). kind_of x ≡ v.kind) xs vs k (get_or xs k no_value) (get_or vs k no_variable) at found (c.is_of.ensures.0 c.if-not-is_of.false) c.loop-i.invariant

pub returns : goal.returns
returns c = (
  λ _. kinds_at_each c.args.values.now c.args.variables.now (omega arith)
      (λ k x v at found. let lt = slice_get_within c.args.values.now k x at in c.loop-i.invariant k x v (omega arith) at found),
  λ _. refl,
)
