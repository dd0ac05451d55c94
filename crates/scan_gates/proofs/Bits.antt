-- Lists of signals, and their values.
use Rattle.std.proofs.Common.{◌≡◌, ℕ, ◌+◌, ◌<◌, ◌≤◌, ◌≢◌, ◌⊎◌, ◌↔◌, inl, inr, List, Bool, true, false, ◌||◌, length, get_or, set, arith, refl, sym, ap, ◌∙◌}
use Rattle.std.proofs.lemmas.Bool.{cases_eq}
use Rattle.std.proofs.lemmas.List.{map-set, get_or-map, length-map, get_or-set_same, get_or-set_other}
use Rattle.gates.specs.declared.signal.Signal.{Signal}
use Rattle.gates.specs.Signals.{signal_value}
use Rattle.scan_steps.specs.Conducting.{bit_at}
use Rattle.scan_gates.specs.Encoded.{bits_at}

-- there is a value for each signal
pub bits_long : (v : ℕ → Bool) (signals : List Signal) → length (bits_at v signals) ≡ length signals
bits_long v signals = length-map signals (signal_value v)

pub bits_as_long : (v : ℕ → Bool) (new old : List Signal) → length new ≡ length old → length (bits_at v new) ≡ length (bits_at v old)
bits_as_long v new old long = bits_long v new ∙ long ∙ sym (bits_long v old)

-- the value at k is that of the signal at k
pub bit_there : (v : ℕ → Bool) (signals : List Signal) (k : ℕ) (d : Signal) → k < length signals → bit_at (bits_at v signals) k ≡ signal_value v (get_or signals k d)
bit_there v signals k d lt = get_or-map (signal_value v) signals k d false lt

-- a signal that is put somewhere puts its value there
pub bits_set : (v : ℕ → Bool) (signals : List Signal) (k : ℕ) (s : Signal) (on : Bool) → signal_value v s ≡ on → bits_at v (set signals k s) ≡ set (bits_at v signals) k on
bits_set v signals k s on is = map-set (signal_value v) signals k s ∙ ap (set (bits_at v signals) k) is

pub bit_set_same : (v : ℕ → Bool) (signals : List Signal) (k : ℕ) (s : Signal) → k < length signals → bit_at (bits_at v (set signals k s)) k ≡ signal_value v s
bit_set_same v signals k s lt =
    let long = bits_long v signals in
    ap (λ bits. bit_at bits k) (bits_set v signals k s (signal_value v s) refl) ∙ get_or-set_same (bits_at v signals) k (signal_value v s) false (omega arith)

pub bit_set_other : (v : ℕ → Bool) (signals : List Signal) (k j : ℕ) (s : Signal) → j ≢ k → bit_at (bits_at v (set signals k s)) j ≡ bit_at (bits_at v signals) j
bit_set_other v signals k j s ne =
    ap (λ bits. bit_at bits j) (bits_set v signals k s (signal_value v s) refl) ∙ get_or-set_other (bits_at v signals) k j (signal_value v s) false ne

-- some state from the first row on, before the end, is ON
abbrev pub IsAnyOn : List Bool → ℕ → ℕ → Type 0
IsAnyOn bits first end = (k : ℕ) × (first ≤ k) × (k < end) × (bit_at bits k ≡ true)

pub either_on : (a b : Bool) → (a || b) ≡ true → (a ≡ true) ⊎ (b ≡ true)
either_on true b on = inl refl
either_on false b on = inr on

pub first_on : (a b : Bool) → a ≡ true → (a || b) ≡ true
first_on true b on = refl
first_on false b on = absurd (cc)

pub second_on : (a b : Bool) → b ≡ true → (a || b) ≡ true
second_on true b on = refl
second_on false b on = on

-- one more row
pub any_more : (bits : List Bool) (on s : Bool) (first row : ℕ) → first ≤ row → (on ≡ true) ↔ IsAnyOn bits first row → s ≡ (on || bit_at bits row)
    → (s ≡ true) ↔ IsAnyOn bits first (row + 1)
any_more bits on s first row le was is = (there, back)
  where
    there : s ≡ true → IsAnyOn bits first (row + 1)
    there h = elim (either_on on (bit_at bits row) (sym is ∙ h)) [
      | inl a ↦ let k = was.0 a in (k.0, k.1, omega (arith, k.2), k.3)
      | inr b ↦ (row, le, omega arith, b)
    ]

    back : IsAnyOn bits first (row + 1) → s ≡ true
    back (k, ge, lt, at) = is ∙ elim (cases_eq k row) [
      | inl e ↦ second_on on (bit_at bits row) (ap (bit_at bits) (sym e) ∙ at)
      | inr ne ↦ first_on on (bit_at bits row) (was.1 (k, ge, omega arith, at))
    ]

-- no row is before the first
pub any_none : (bits : List Bool) (on : Bool) (first : ℕ) → on ≡ false → (on ≡ true) ↔ IsAnyOn bits first first
any_none bits on first off = (λ h. absurd (let no = sym off ∙ h in cc), λ (k, ge, lt, at). absurd (omega arith))

-- all rows are looked at
pub any_all : (bits : List Bool) (on : Bool) (first row last : ℕ) → (on ≡ true) ↔ IsAnyOn bits first row → last + 1 ≤ row → (row ≤ last + 1) ⊎ (row ≡ first)
    → (on ≡ true) ↔ ((k : ℕ) × (first ≤ k) × (k ≤ last) × (bit_at bits k ≡ true))
any_all bits on first row last was past bound = (there, back)
  where
    there : on ≡ true → (k : ℕ) × (first ≤ k) × (k ≤ last) × (bit_at bits k ≡ true)
    there h =
        let k = was.0 h in
        let ge = k.1 in
        let lt = k.2 in
        (k.0, k.1, elim bound [ inl le ↦ omega arith | inr same ↦ absurd (omega arith) ], k.3)

    back : (k : ℕ) × (first ≤ k) × (k ≤ last) × (bit_at bits k ≡ true) → on ≡ true
    back (k, ge, le, at) = was.1 (k, ge, omega arith, at)

-- one more row has the state
pub set_more : (v : ℕ → Bool) (rows : List Signal) (first row : ℕ) (on : Signal) → row < length rows
    → ((k : ℕ) → first ≤ k → k < row → bit_at (bits_at v rows) k ≡ signal_value v on)
    → (k : ℕ) → first ≤ k → k < row + 1 → bit_at (bits_at v (set rows row on)) k ≡ signal_value v on
set_more v rows first row on in' was k ge lt = elim (cases_eq k row) [
  | inl e ↦ ap (bit_at (bits_at v (set rows row on))) e ∙ bit_set_same v rows row on in'
  | inr ne ↦ bit_set_other v rows row k on ne ∙ was k ge (omega arith)
]
