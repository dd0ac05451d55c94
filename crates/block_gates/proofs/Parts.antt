-- Blocks by their signals.
use Rattle.std.proofs.Common.{◌≡◌, ℕ, ◌≤◌, List, [], ◌∷◌, Bool, length, get_or, drop, map, refl, ap, arith}
use Rattle.gates.specs.declared.signal.Signal.{Signal}
use Rattle.gates.specs.Signals.{signal_value}
use Rattle.block_gates.specs.declared.instance.EncodedInstance.{EncodedInstance}
use Rattle.block_gates.specs.declared.instance.EncodedInstance.TheVariants as block
use Rattle.block_gates.specs.Blocks.{outputs_at, state_at, type_of}
use Rattle.block_gates.specs.Signals.{instance_signals, outputs_of, signals_of, state_of}

pub so_many : (i : EncodedInstance) → length (instance_signals i) ≡ signals_of (type_of i)
so_many (block.SR q1) = refl
so_many (block.RS q1) = refl
so_many (block.CTU c) = let e = c.count.many in omega (arith, e)
so_many (block.CTD c) = let e = c.count.many in omega (arith, e)
so_many (block.CTUD c) = let e = c.count.many in omega (arith, e)
so_many (block.TP t) = let e = t.elapsed.many in omega (arith, e)
so_many (block.TON t) = let e = t.elapsed.many in omega (arith, e)
so_many (block.TOF t) = let e = t.elapsed.many in omega (arith, e)

pub state_read : (v : ℕ → Bool) (i : EncodedInstance) → state_at v i ≡ state_of (type_of i) (map (signal_value v) (instance_signals i))
state_read v (block.SR q1) = refl
state_read v (block.RS q1) = refl
state_read v (block.CTU c) = refl
state_read v (block.CTD c) = refl
state_read v (block.CTUD c) = refl
state_read v (block.TP t) = refl
state_read v (block.TON t) = refl
state_read v (block.TOF t) = refl

pub outputs_read : (v : ℕ → Bool) (i : EncodedInstance) → outputs_at v i ≡ outputs_of (type_of i) (map (signal_value v) (instance_signals i))
outputs_read v (block.SR q1) = refl
outputs_read v (block.RS q1) = refl
outputs_read v (block.CTU c) = refl
outputs_read v (block.CTD c) = refl
outputs_read v (block.CTUD c) = refl
outputs_read v (block.TP t) = refl
outputs_read v (block.TON t) = refl
outputs_read v (block.TOF t) = refl

-- a list by its first items and the others
pub only_one : (xs : List Signal) (a : Signal) → length xs ≡ 1 → (get_or xs 0 a ∷ []) ≡ xs
only_one [] a long = absurd (omega arith)
only_one (x ∷ []) a long = refl
only_one (x ∷ y ∷ xs) a long = absurd (omega arith)

pub first_two : (xs rest : List Signal) (a b : Signal) → 2 ≤ length xs → rest ≡ drop 2 xs → (get_or xs 0 a ∷ get_or xs 1 b ∷ rest) ≡ xs
first_two [] rest a b le e = absurd (omega (arith, le))
first_two (x ∷ []) rest a b le e = absurd (omega (arith, le))
first_two (x ∷ y ∷ xs) rest a b le e = ap (λ l. x ∷ y ∷ l) e

pub first_four : (xs rest : List Signal) (a b c d : Signal) → 4 ≤ length xs → rest ≡ drop 4 xs
    → (get_or xs 0 a ∷ get_or xs 1 b ∷ get_or xs 2 c ∷ get_or xs 3 d ∷ rest) ≡ xs
first_four [] rest a b c d le e = absurd (omega (arith, le))
first_four (x ∷ []) rest a b c d le e = absurd (omega (arith, le))
first_four (x ∷ y ∷ []) rest a b c d le e = absurd (omega (arith, le))
first_four (x ∷ y ∷ z ∷ []) rest a b c d le e = absurd (omega (arith, le))
first_four (x ∷ y ∷ z ∷ w ∷ xs) rest a b c d le e = ap (λ l. x ∷ y ∷ z ∷ w ∷ l) e
