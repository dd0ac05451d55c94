-- ANDs and what is built of them.
use Rattle.std.proofs.Common.{◌≡◌, ◌&&◌, ◌||◌, Bool, true, false, not, cond, refl, sym}

pub and_comm : (a b : Bool) → (a && b) ≡ (b && a)
and_comm true true = refl
and_comm true false = refl
and_comm false true = refl
and_comm false false = refl

pub and_itself : (a : Bool) → a ≡ (a && a)
and_itself true = refl
and_itself false = refl

pub and_not : (a : Bool) → (a && not a) ≡ false
and_not true = refl
and_not false = refl

pub not_and : (a : Bool) → (not a && a) ≡ false
not_and true = refl
not_and false = refl

pub and_true : (a : Bool) → (a && true) ≡ a
and_true true = refl
and_true false = refl

pub and_false : (a : Bool) → (a && false) ≡ false
and_false true = refl
and_false false = refl

-- two signals of one variable
pub and_signs : (l r b : Bool) → l ≡ r → cond l (not b) b ≡ (cond l (not b) b && cond r (not b) b)
and_signs true true b e = and_itself (not b)
and_signs true false b e = absurd (cc)
and_signs false true b e = absurd (cc)
and_signs false false b e = and_itself b

pub and_opposite : (l r b : Bool) → (l ≡ r → ⊥) → false ≡ (cond l (not b) b && cond r (not b) b)
and_opposite true true b e = absurd (e refl)
and_opposite true false b e = sym (not_and b)
and_opposite false true b e = sym (and_not b)
and_opposite false false b e = absurd (e refl)

-- OR by AND
pub or_by : (a b : Bool) → not (not a && not b) ≡ (a || b)
or_by true true = refl
or_by true false = refl
or_by false true = refl
or_by false false = refl

-- a choice by AND and OR
pub choice_by : (c t e : Bool) → ((c && t) || (not c && e)) ≡ cond c t e
choice_by true true e = refl
choice_by true false e = refl
choice_by false t true = refl
choice_by false t false = refl

pub chosen_by : (c t e x n y : Bool) → x ≡ (c && t) → n ≡ not c → y ≡ (n && e) → (x || y) ≡ cond c t e
chosen_by c t e x n y p q r = let h = choice_by c t e in cc

-- the three clauses of an AND
pub and_first : (k l r : Bool) → k ≡ (l && r) → (not k || (l || false)) ≡ true
and_first true true r e = refl
and_first true false r e = absurd (cc)
and_first false l r e = refl

pub and_second : (k l r : Bool) → k ≡ (l && r) → (not k || (r || false)) ≡ true
and_second true l true e = refl
and_second true true false e = absurd (cc)
and_second true false false e = absurd (cc)
and_second false l r e = refl

pub and_third : (k l r : Bool) → k ≡ (l && r) → (k || (not l || (not r || false))) ≡ true
and_third true l r e = refl
and_third false true true e = absurd (cc)
and_third false true false e = refl
and_third false false r e = refl
