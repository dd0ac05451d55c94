-- Words bit by bit.
use Rattle.std.specs.Prelude.{◌≡◌, ℕ, zero, suc, ◌+◌, ◌<◌, ◌≤◌, ◌⊎◌, List, Bool, map, if◌then◌else◌}
use Rattle.gates.specs.declared.signal.Signal.{Signal}
use Rattle.gates.specs.Signals.{bit_of, signal_value}

-- a bit of a word, FALSE beyond its last
abbrev pub bit_at : (ℕ → Bool) → List Signal → ℕ → Bool
bit_at v word = bit_of (map (signal_value v) word)

-- what a bit counts alone
abbrev pub digit : Bool → ℕ
digit b = if b then 1 else 0

-- what the bit at a place counts
abbrev pub weight : ℕ → ℕ
weight zero = 1
weight (suc n) = weight n + weight n

-- the number that the first bits make
abbrev pub low_value : (ℕ → Bool) → ℕ → ℕ
low_value b zero = 0
low_value b (suc n) = low_value b n + (if b n then weight n else 0)

-- the second number has the bit of this weight negated, above which neither has any
abbrev pub IsFlipped : ℕ → ℕ → ℕ → Type 0
IsFlipped w a b = ((a < w) × (b ≡ a + w)) ⊎ ((w ≤ a) × (b + w ≡ a))
