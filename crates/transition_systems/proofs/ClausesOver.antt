-- Clauses over bits, and over the signals of bits.
use Rattle.std.proofs.Common.{◌≡◌, ℕ, ◌+◌, ◌<◌, ◌||◌, Bool, true, false, not, cond, List, [], ◌∷◌, ◌++◌, length, get_or, take, refl, ap, sym, ◌∙◌, zero, suc, arith}
use Rattle.std.proofs.lemmas.List.{get_or-map, take_more}
use Rattle.std.proofs.lemmas.Bool.{or_from}
use Rattle.clauses.specs.declared.literal.Literal.{Literal}
use Rattle.clauses.specs.Clauses.{clause_value, literal_value}
use Rattle.gates.specs.declared.signal.Signal.{Signal}
use Rattle.gates.specs.Signals.{bit_of, signal_value}
use Rattle.transition_systems.specs.Systems.{bits_at}

-- the literal of the signal of a bit
pub over_value : (v : ℕ → Bool) (signals : List Signal) (literal l : Literal) (s : Signal) (negated : Bool) → literal.variable < length signals
    → s ≡ get_or signals literal.variable s → literal.is_negated ≡ negated
    → literal_value v l ≡ cond negated (not (signal_value v s)) (signal_value v s)
    → literal_value v l ≡ literal_value (bit_of (bits_at v signals)) literal
over_value v signals literal l s negated lt is sign e =
    let bit : bit_of (bits_at v signals) literal.variable ≡ signal_value v s =
    get_or-map (signal_value v) signals literal.variable s false lt ∙ ap (signal_value v) (sym is) in
    e ∙ ap (λ b. cond negated (not b) b) (sym bit)
    ∙ ap (λ n. cond n (not (bit_of (bits_at v signals) literal.variable)) (bit_of (bits_at v signals) literal.variable)) (sym sign)

pub or_false : (a : Bool) → (a || false) ≡ a
or_false true = refl
or_false false = refl

or_assoc : (a b c : Bool) → (a || (b || c)) ≡ ((a || b) || c)
or_assoc true b c = refl
or_assoc false b c = refl

-- a literal more
pub clause_push : (v : ℕ → Bool) (clause : List Literal) (l : Literal) → clause_value v (clause ++ l ∷ []) ≡ (clause_value v clause || literal_value v l)
clause_push v [] l = or_false (literal_value v l)
clause_push v (m ∷ clause) l =
    ap (λ b. literal_value v m || b) (clause_push v clause l) ∙ or_assoc (literal_value v m) (clause_value v clause) (literal_value v l)

pub clause_more : (v : ℕ → Bool) (clause : List Literal) (i : ℕ) (d : Literal) → i < length clause
    → clause_value v (take (i + 1) clause) ≡ (clause_value v (take i clause) || literal_value v (get_or clause i d))
clause_more v clause i d lt = ap (clause_value v) (take_more clause i d lt) ∙ clause_push v (take i clause) (get_or clause i d)

pub over_more : (v w : ℕ → Bool) (over clause : List Literal) (i : ℕ) (d found : Literal) → i < length clause
    → clause_value v over ≡ clause_value w (take i clause) → literal_value v found ≡ literal_value w (get_or clause i d)
    → clause_value v (over ++ found ∷ []) ≡ clause_value w (take (i + 1) clause)
over_more v w over clause i d found lt same e =
    clause_push v over found ∙ ap (λ b. b || literal_value v found) same
    ∙ ap (λ b. clause_value w (take i clause) || b) e ∙ sym (clause_more w clause i d lt)

-- a clause is TRUE where a literal of it is
pub true_at : (v : ℕ → Bool) (clause : List Literal) (k : ℕ) (d : Literal) → k < length clause → literal_value v (get_or clause k d) ≡ true
    → clause_value v clause ≡ true
true_at v [] k d lt e = absurd (omega arith)
true_at v (l ∷ clause) zero d lt e = ap (λ b. b || clause_value v clause) e
true_at v (l ∷ clause) (suc k) d lt e = ap (λ b. literal_value v l || b) (true_at v clause k d (omega arith) e) ∙ or_true (literal_value v l)
  where
    or_true : (a : Bool) → (a || true) ≡ true
    or_true true = refl
    or_true false = refl

-- no literal so far is TRUE, nor the next one
pub false_more : (v : ℕ → Bool) (clause : List Literal) (i : ℕ) (d : Literal) → i < length clause → clause_value v (take i clause) ≡ false
    → literal_value v (get_or clause i d) ≡ false → clause_value v (take (i + 1) clause) ≡ false
false_more v clause i d lt so_far next =
    clause_more v clause i d lt ∙ or_from (clause_value v (take i clause)) (literal_value v (get_or clause i d)) so_far next

-- what is TRUE where its negation isn't
pub false_of_not : (a : Bool) → (not a || false) ≡ true → a ≡ false
false_of_not true h = absurd (cc)
false_of_not false h = refl
