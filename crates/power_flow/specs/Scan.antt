use Rattle.std.specs.Prelude.{◌≡◌, ℕ, List, [], ◌∷◌, Bool, length, take, drop}
use Rattle.network.specs.Links.{Diagram}
use Rattle.declared_names.specs.declared.declarations.Declaration.{Declaration}
use Rattle.scan_steps.specs.declared.slot.Slot.{Slot}
use Rattle.power_flow.specs.Meaning.{NetworkMeaning, moment}
pub use Rattle.network.specs.GraphValue.{AreWide}

-- the boxes of each network are wide
abbrev pub AllAreWide : List Diagram → Type 0
AllAreWide [] = Unit {0}
AllAreWide (d ∷ networks) = AreWide d × AllAreWide networks

-- A scan: the meanings of the networks, one after the other. The slots go from one to the next, and each has its own
-- part of the memories.
abbrev pub ScanMeaning : List Declaration → ℕ → List Diagram → List Slot → List Bool → List Slot → List Bool → Type 0
ScanMeaning ds dt [] slots ms slots' ms' = (slots' ≡ slots) × (ms' ≡ ms)
ScanMeaning ds dt (d ∷ networks) slots ms slots' ms' =
    let n = length d.elements in
    (mid : List Slot) × NetworkMeaning ds d dt (moment slots (take n ms)) (moment mid (take n ms'))
    × ScanMeaning ds dt networks mid (drop n ms) slots' (drop n ms')
