-- Walks of power, and the places that they make ON.
use Rattle.std.proofs.Common.{ℕ, ◌≤◌, inl, inr, List, [], ◌∷◌, Bool, IsTrue, arith}
use Rattle.drawings.specs.declared.place.Place.{Place}
use Rattle.network.specs.Links.{Diagram, Passes}
use Rattle.power_flow.specs.Power.{IsWalk, SymbolEndsAt, IsOn}

-- a step never goes left
pub passes_column : (d : Diagram) (p q : Place) → Passes d p q → p.column ≤ q.column
passes_column d p q (inl right) = let e = right.column in omega arith
passes_column d p q (inr upright) = let e = upright.column in omega arith

-- a source is ON
pub on_source : (d : Diagram) (conducts : ℕ → Bool) (IsSource : Place → Type 0) (p : Place) → IsSource p → IsOn d conducts IsSource p
on_source d conducts IsSource p s = record { passed = []; walk = s; conduct = tt }

-- where state passes from a place that is ON, out of no symbol that does not conduct, the next place is ON
pub on_step : (d : Diagram) (conducts : ℕ → Bool) (IsSource : Place → Type 0) (p q : Place) → IsOn d conducts IsSource p → Passes d p q
    → ((k : ℕ) → SymbolEndsAt d k p → IsTrue (conducts k)) → IsOn d conducts IsSource q
on_step d conducts IsSource p q on passes lets =
    record { passed = p ∷ on.passed; walk = (passes, on.walk); conduct = (lets, on.conduct) }

-- a walk stays a walk where its source, which lies no further to the right than its end, is a source too
walk_sources : (d : Diagram) (S S' : Place → Type 0) (p : Place) (passed : List Place)
    → ((q : Place) → q.column ≤ p.column → S q → S' q) → IsWalk d S (p ∷ passed) → IsWalk d S' (p ∷ passed)
walk_sources d S S' p [] same walk = same p (omega arith) walk
walk_sources d S S' q (p ∷ passed) same walk =
    let back = passes_column d p q walk.0 in
    (walk.0, walk_sources d S S' p passed (λ r le s. same r (omega arith) s) walk.1)

-- the power at a place depends on the sources of its column and the columns on its left alone
pub on_sources : (d : Diagram) (conducts : ℕ → Bool) (S S' : Place → Type 0) (p : Place)
    → ((q : Place) → q.column ≤ p.column → S q → S' q) → IsOn d conducts S p → IsOn d conducts S' p
on_sources d conducts S S' p same on =
    record { passed = on.passed; walk = walk_sources d S S' p on.passed same on.walk; conduct = on.conduct }
