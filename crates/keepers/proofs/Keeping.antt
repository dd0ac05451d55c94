-- What may be told once values were kept.
use Rattle.std.proofs.Common.{arith, ◌≡◌, ◌≢◌, ◌⊎◌, ℕ, zero, suc, ◌+◌, ◌/◌, ◌%◌, ◌<◌, ◌≤◌, ◌^◌, ◌++◌, ◌∷◌, [], false, List, length, Result, Ok, Err, OnOk, OnErr, inl, inr, refl, sym, ap, subst, ◌∙◌}
use Rattle.std.specs.Prelude.{codes, ◌==◌, if◌then◌else◌}
use Rattle.std.specs.Fmt.{digit_glyph, digits, digits_onto, decimal}
use Rattle.std.proofs.lemmas.Bool.{cases_lt, ne_eqb}
use Rattle.std.proofs.lemmas.Fmt.{length-decimal-le, decimal_is_IsNumeral, decimal_is_IsNumeral_wide}
use Rattle.std.proofs.lemmas.List.{length-append, append_cancel_left, append_cancel_right}
use Rattle.std.specs.Str.Parse.{digits_value}
use Rattle.std_blocks.specs.declared.value.Value.{Value}
use Rattle.task_codes.specs.CodeValue.{CodeValue}
use Rattle.keepers.specs.declared.keeper_fault.KeeperFault.{KeeperFault}
use Rattle.keepers.specs.declared.keeper_fault.KeeperFault.TheVariants as fault
use Rattle.keepers.specs.Keepers.{KeepsEither, KeepsOthers}
use Rattle.keepers.specs.KeptNumbers.{temporary_file}
use Rattle.keepers.specs.KnownFiles.{KnownFile, Replacing, Holds, AreOthersKept, IsKeptOrReplaced, IsStored, MayStore}
use Rattle.keepers.specs.KnownFiles.KnownFile.{Unknown, Missing, Holding, Broken}
use Rattle.keepers.specs.KeptRetained.{KeepsValues, IsToldOf, retained_file, retained_text, tells_of}

-- a file that holds the text of values keeps them
holding_keeps : (file : KnownFile) (code : CodeValue) (values : List Value) → Holds file (retained_text code values) → KeepsValues file code values
holding_keeps Unknown code values held = tt
holding_keeps Missing code values held = absurd held
holding_keeps (Holding bytes) code values held = held
holding_keeps Broken code values held = absurd held

-- so they may be told
pub stored_told : (answers : Replacing) (old new : List ℕ → KnownFile) (resource resource_new : List ℕ) (task : ℕ) (code : CodeValue) (values : List Value) (r : Result (Unit {0}) KeeperFault)
    → IsStored answers old new (retained_file resource task) (temporary_file resource) (retained_text code values) r → resource_new ≡ resource
    → OnOk r (IsToldOf (new (retained_file resource_new task)) code (Ok values))
stored_told answers old new resource resource_new task code values (Ok done) stored is =
    subst (λ n. IsToldOf (new (retained_file n task)) code (Ok values)) (sym is) (holding_keeps (new (retained_file resource task)) code values stored.held)
stored_told answers old new resource resource_new task code values (Err e) stored is = tt

-- after a fault either what was told or these may be told
left_either : (old new : List ℕ → KnownFile) (resource : List ℕ) (task : ℕ) (code : CodeValue) (values : List Value) → IsKeptOrReplaced old new (retained_file resource task) (temporary_file resource) (retained_text code values)
    → KeepsEither (tells_of old resource) (tells_of new resource) task code values
left_either old new resource task code values (inl same) kept told = inl (subst (λ f. IsToldOf f code (Ok kept)) (sym same.same) told)
left_either old new resource task code values (inr replaced) kept told = inr (holding_keeps (new (retained_file resource task)) code values replaced.held)

pub stored_either : (answers : Replacing) (old new : List ℕ → KnownFile) (resource resource_new : List ℕ) (task : ℕ) (code : CodeValue) (values : List Value) (r : Result (Unit {0}) KeeperFault)
    → IsStored answers old new (retained_file resource task) (temporary_file resource) (retained_text code values) r → resource_new ≡ resource
    → OnErr r (KeepsEither (tells_of old resource) (tells_of new resource_new) task code values)
stored_either answers old new resource resource_new task code values (Ok done) stored is = tt
stored_either answers old new resource resource_new task code values (Err e) stored is =
    subst (λ n. KeepsEither (tells_of old resource) (tells_of new n) task code values) (sym is) (by e stored)
  where
    by : (e : KeeperFault) → IsStored answers old new (retained_file resource task) (temporary_file resource) (retained_text code values) (Err e) → KeepsEither (tells_of old resource) (tells_of new resource) task code values
    by fault.Unreadable stored = absurd stored
    by fault.Unwritable stored = left_either old new resource task code values stored.1
    by fault.Spent stored = absurd stored
    by fault.Memory (inl same) = λ kept told. inl (subst (λ (f : List ℕ → KnownFile). IsToldOf (f (retained_file resource task)) code (Ok kept)) (sym same) told)
    by fault.Memory (inr stored) = left_either old new resource task code values stored.1

-- and what keeping them answers is what it may answer
pub stored_may : (answers : Replacing) (old new : List ℕ → KnownFile) (name temporary bytes : List ℕ) (r : Result (Unit {0}) KeeperFault) → IsStored answers old new name temporary bytes r → MayStore answers name temporary bytes r
stored_may answers old new name temporary bytes (Ok done) stored = tt
stored_may answers old new name temporary bytes (Err fault.Unreadable) stored = absurd stored
stored_may answers old new name temporary bytes (Err fault.Unwritable) stored = stored.0
stored_may answers old new name temporary bytes (Err fault.Spent) stored = absurd stored
stored_may answers old new name temporary bytes (Err fault.Memory) stored = tt

power_some : (k : ℕ) → 0 < 10 ^ k
power_some zero = omega arith
power_some (suc k) = omega (arith, power_some k)

-- a number that is too long for its text has as many digits as fit there
long_digits : (k n : ℕ) (behind : List ℕ) → 10 ^ k ≤ n → length (digits_onto k 10 false n behind) ≡ k + length behind
long_digits zero n behind long = omega arith
long_digits (suc k) n behind long =
    let digit : ℕ = digit_glyph false (n % 10) in
    let some : 0 < 10 ^ k = power_some k in
    let more : (n / 10 == 0) ≡ false = ne_eqb (n / 10) 0 (λ e. omega (arith, long, some, e)) in
    ap (λ b. length (if b then digit ∷ behind else digits_onto k 10 false (n / 10) (digit ∷ behind))) more
    ∙ long_digits k (n / 10) (digit ∷ behind) (omega arith)
    ∙ omega arith

long_decimal : (n : ℕ) → 10 ^ 64 ≤ n → length (decimal n) ≡ 64
unfolding digits
long_decimal n long = long_digits 64 n [] long

-- the places of two tasks differ, and so do their texts
one_place : (other task : ℕ) → task < 2 ^ 64 → decimal other ≡ decimal task → other ≡ task
one_place other task small same = by (cases_lt other (10 ^ 64))
  where
    by : (other < 10 ^ 64) ⊎ (10 ^ 64 ≤ other) → other ≡ task
    by (inl less) = sym (decimal_is_IsNumeral_wide other less).1 ∙ ap (digits_value 10) same ∙ (decimal_is_IsNumeral task small).1
    by (inr long) = absurd (omega (arith, long_decimal other long, ap (λ (l : List ℕ). length l) same, length-decimal-le 20 task (omega arith) (omega (arith, small)) small))

one_file : (resource : List ℕ) (other task : ℕ) → task < 2 ^ 64 → retained_file resource other ≡ retained_file resource task → other ≡ task
one_file resource other task small same =
    one_place other task small
    (append_cancel_left (resource ++ codes ".") (decimal other) (decimal task)
    (append_cancel_right (resource ++ codes "." ++ decimal other) (resource ++ codes "." ++ decimal task) (codes ".ret") same))

-- a task's file isn't the one by way of which it is replaced
pub longer_name : (resource dot number ending short : List ℕ) → length dot ≡ 1 → length ending ≡ length short → resource ++ dot ++ number ++ ending ≡ resource ++ short → ⊥
longer_name resource dot number ending short one same is =
    let l = ap (λ n. length n) is in
    let a = length-append (resource ++ dot ++ number) ending in
    let b = length-append (resource ++ dot) number in
    let c = length-append resource dot in
    let e = length-append resource short in
    omega (arith, l, a, b, c, e, one, same)

-- so what replaces a task's file leaves those of the others
other_same : (old new : List ℕ → KnownFile) (resource : List ℕ) (task other : ℕ) → task < 2 ^ 64 → other ≢ task → AreOthersKept old new (retained_file resource task) (temporary_file resource)
    → new (retained_file resource other) ≡ old (retained_file resource other)
other_same old new resource task other small differs others =
    others (retained_file resource other)
    (λ is. differs (one_file resource other task small is))
    (λ is. longer_name resource (codes ".") (decimal other) (codes ".ret") (codes ".tmp") refl refl is)

left_same : (old new : List ℕ → KnownFile) (resource bytes : List ℕ) (task other : ℕ) → task < 2 ^ 64 → other ≢ task → IsKeptOrReplaced old new (retained_file resource task) (temporary_file resource) bytes
    → new (retained_file resource other) ≡ old (retained_file resource other)
left_same old new resource bytes task other small differs (inl kept) = other_same old new resource task other small differs kept.others
left_same old new resource bytes task other small differs (inr replaced) = other_same old new resource task other small differs replaced.others

stored_same : (answers : Replacing) (old new : List ℕ → KnownFile) (resource bytes : List ℕ) (task other : ℕ) (r : Result (Unit {0}) KeeperFault) → task < 2 ^ 64 → other ≢ task
    → IsStored answers old new (retained_file resource task) (temporary_file resource) bytes r → new (retained_file resource other) ≡ old (retained_file resource other)
stored_same answers old new resource bytes task other (Ok done) small differs stored = other_same old new resource task other small differs stored.others
stored_same answers old new resource bytes task other (Err fault.Unreadable) small differs stored = absurd stored
stored_same answers old new resource bytes task other (Err fault.Unwritable) small differs stored = left_same old new resource bytes task other small differs stored.1
stored_same answers old new resource bytes task other (Err fault.Spent) small differs stored = absurd stored
stored_same answers old new resource bytes task other (Err fault.Memory) small differs (inl same) = ap (λ f. f (retained_file resource other)) same
stored_same answers old new resource bytes task other (Err fault.Memory) small differs (inr stored) = left_same old new resource bytes task other small differs stored.1

pub stored_others : (answers : Replacing) (old new : List ℕ → KnownFile) (resource resource_new bytes : List ℕ) (task : ℕ) (r : Result (Unit {0}) KeeperFault) → task < 2 ^ 64
    → IsStored answers old new (retained_file resource task) (temporary_file resource) bytes r → resource_new ≡ resource
    → KeepsOthers (tells_of old resource) (tells_of new resource_new) task
stored_others answers old new resource resource_new bytes task r small stored is other code values differs before =
    subst (λ n. IsToldOf (new (retained_file n other)) code (Ok values)) (sym is)
    (subst (λ f. IsToldOf f code (Ok values)) (sym (stored_same answers old new resource bytes task other r small differs stored)) before)
