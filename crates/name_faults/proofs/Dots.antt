-- Names without a dot.
use Rattle.std.proofs.Common.{◌≡◌, ℕ, ◌+◌, ◌≤◌, List, [], Bool, true, false, Option, Some, None, cond, ltb, is_some, position, length, arith, refl, sym, ap, ◌∙◌}
use Rattle.std.specs.Bool.{OnFalse}
use Rattle.std.specs.List.{before_first, after_first, position_or_len}
use Rattle.std.proofs.lemmas.Bool.{ltb-false}
use Rattle.std.proofs.lemmas.List.{length-take, take_all, drop_all}
use Rattle.declared_names.specs.Names.{is_dot}
use Rattle.name_faults.specs.Lookup.{is_dotted}

-- a name whose first part is all of it has no dot
pub no_dot : (name : List ℕ) → is_dotted name ≡ false → (before_first is_dot name ≡ name) × (after_first is_dot name ≡ [])
no_dot name h =
    let n = position_or_len is_dot name in
    let long = ltb-false (length (before_first is_dot name)) (length name) h in
    let short = length-take n name in
    let past : length name ≤ n = omega arith in
    (take_all n name past, drop_all (n + 1) name (omega arith))

-- a name in which no dot is found
no_dot_found : (name : List ℕ) (o : Option ℕ) → o ≡ position is_dot name → is_some o ≡ false → (before_first is_dot name ≡ name) × (after_first is_dot name ≡ [])
no_dot_found name o at none = by (ltb (position_or_len is_dot name) (length name)) refl
  where
    n : ℕ
    n = position_or_len is_dot name

    by : (b : Bool) → ltb n (length name) ≡ b → (before_first is_dot name ≡ name) × (after_first is_dot name ≡ [])
    by false past = let long = ltb-false n (length name) past in (take_all n name (omega arith), drop_all (n + 1) name (omega arith))
    by true within =
        let there : is_some o ≡ true = ap is_some at ∙ ap (λ b. is_some (cond b (Some n) None)) within in
        let wrong : false ≡ true = sym none ∙ there in
        absurd cc

-- the same, by the answer
pub on_no_dot : (name : List ℕ) (o : Option ℕ) → o ≡ position is_dot name → (b : Bool) → b ≡ is_some o
    → OnFalse b (before_first is_dot name ≡ name) × OnFalse b (after_first is_dot name ≡ [])
on_no_dot name o at true is = (tt, tt)
on_no_dot name o at false is = no_dot_found name o at (sym is)
