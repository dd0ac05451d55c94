-- The test is passed just where none is below.
use Rattle.std.proofs.Common.{◌≡◌, ℕ, zero, suc, List, [], ◌∷◌, ◌<◌, ◌≤◌, arith, inl, inr, ◌⊎◌, Bool, true, false, refl, sym, length}
use Rattle.std.specs.Prelude.{slice_index}
use Rattle.std.proofs.lemmas.Bool.{cases_lt}
use Rattle.book.specs.Steps.Deciding.{none_below}
use Rattle.book.proofs.Deciding.{none-below}
use Rattle.book.proofs.book.heard.none_below.Goals as goal

decided : (b : Bool) → (b ≡ true → ⊥) → false ≡ b
decided true h = absurd (h refl)
decided false h = refl

beyond : (xs : List ℕ) (n : ℕ) → length xs ≤ n → slice_index xs n ≡ 0
beyond [] n far = refl
beyond (x ∷ xs) zero far = absurd (omega (arith, far))
beyond (x ∷ xs) (suc n) far = beyond xs n (omega (arith, far))

pub returns-then-numbers-k : goal.returns-then-numbers-k
returns-then-numbers-k c =
    decided (none_below c.args.lows.now c.args.numbers.now)
    (λ e. let low = ((none-below c.args.lows.now c.args.numbers.now).holds e).1 c.loop-k.k in omega (arith, low, c.if-numbers-k.true))

pub returns : goal.returns
returns c = sym ((none-below c.args.lows.now c.args.numbers.now).passes (sym c.if-lows-numbers.false, λ n. by n (cases_lt n (length c.args.lows.now)))) where
  by : (n : ℕ) → (n < length c.args.lows.now) ⊎ (length c.args.lows.now ≤ n) → slice_index c.args.lows.now n ≤ slice_index c.args.numbers.now n
  by n (inl within) = c.loop-k.invariant n (omega (arith, within, c.loop-k-test.false))
  by n (inr far) = let none = beyond c.args.lows.now n far in omega (arith, none)
