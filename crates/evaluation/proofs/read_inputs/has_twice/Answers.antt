use Rattle.std.proofs.Common.{◌≡◌, ℕ, Some, slice_get, get_or, Bool, true, false, cond, not, nat_cmp, refl, sym, ap, arith, ◌∙◌}
use Rattle.std.proofs.lemmas.Option.{slice_get-get_or}
use Rattle.std.specs.BTreeSet.{contains}
use Rattle.std.specs.BTreeMap.{is_at}
use Rattle.evaluation.specs.declared.field_input.FieldInput.{FieldInput}
use Rattle.evaluation.specs.declared.field_input.FieldInput.TheVariants.{Bit}
use Rattle.evaluation.specs.Steps.InputWords.{key_of}
use Rattle.evaluation.proofs.FieldInputs.{HasKey, known_more, keys_more, apart_all, not_apart}
use Rattle.evaluation.proofs.read_inputs.has_twice.Goals as goal

abbrev none : FieldInput
none = Bit 0 false

not_false : (b : Bool) → not b ≡ false → b ≡ true
not_false true e = refl
not_false false e = absurd cc

not_true : (b : Bool) → not b ≡ true → b ≡ true → ⊥
not_true true e h = cc
not_true false e h = cc

pub loop-input-preserved : goal.loop-input-preserved
loop-input-preserved c =
    let inputs = c.args.inputs.now in
    let n = c.loop-input.input-index in
    let i = get_or inputs n none in
    let at : slice_get inputs n ≡ Some i = slice_get-get_or inputs n none c.loop-input-test.true in
    let key : c.key.result ≡ key_of i = c.key.ensures in
    let fresh : not (contains nat_cmp c.loop-input.known (key_of i)) ≡ true =
    ap (λ (k : ℕ). not (contains nat_cmp c.loop-input.known k)) (sym key) ∙ sym c.in_ok-insert.ensures.added ∙ c.if-not-branch.false in
    record {
      known = λ x. known_more inputs n x i (contains nat_cmp c.loop-input.known x) (contains nat_cmp c.insert.new.self x) at
          ((c.in_ok-insert.ensures.updates).0 x ∙ ap (λ (k : ℕ). cond (is_at (nat_cmp k) x) true (contains nat_cmp c.loop-input.known x)) key) (c.loop-input.invariant.known x);
      apart = keys_more inputs n i at (λ h. not_true (contains nat_cmp c.loop-input.known (key_of i)) fresh ((c.loop-input.invariant.known (key_of i)).1 h)) c.loop-input.invariant.apart;
    }

pub returns-then-not-branch : goal.returns-then-not-branch
returns-then-not-branch c =
    let inputs = c.args.inputs.now in
    let n = c.loop-input.input-index in
    let i = get_or inputs n none in
    let at : slice_get inputs n ≡ Some i = slice_get-get_or inputs n none c.loop-input-test.true in
    let key : c.key.result ≡ key_of i = c.key.ensures in
    let found : not (contains nat_cmp c.loop-input.known (key_of i)) ≡ false =
    ap (λ (k : ℕ). not (contains nat_cmp c.loop-input.known k)) (sym key) ∙ sym c.in_ok-insert.ensures.added ∙ c.if-not-branch.true in
    let has : HasKey inputs n (key_of i) = (c.loop-input.invariant.known (key_of i)).0 (not_false (contains nat_cmp c.loop-input.known (key_of i)) found) in
    (λ h. absurd cc, λ apart. absurd (not_apart inputs n i at has apart))

pub returns : goal.returns
returns c = (λ _. apart_all c.args.inputs.now c.loop-input.input-index c.loop-input.invariant.apart (omega arith), λ _. refl)
