-- What of a node's notes is on the disk.
use Rattle.std.specs.Prelude.{◌≡◌, ℕ, ◌+◌, ◌++◌, ◌⊎◌, List, Option, Some, None}
use Rattle.keepers.specs.Keepers.{Telling, TellsNoMore}

-- what is known stays, and more may stand behind it
abbrev pub Grows : Option (List ℕ) → Option (List ℕ) → Type 0
Grows None new = Unit {0}
Grows (Some xs) None = ⊥
Grows (Some xs) (Some ys) = (more : List ℕ) × (ys ≡ xs ++ more)

-- a keeper keeps nothing new, unless all that is noted is on the disk
abbrev pub IsNotedFirst : Telling → Telling → Option (List ℕ) → Option (List ℕ) → Type 0
IsNotedFirst before now noted synced = TellsNoMore before now ⊎ Grows noted synced

-- nothing was noted, or one line more is done
abbrev pub IsIdleOrDone : {N : Type 0} → N → N → ℕ → ℕ → Type 0
IsIdleOrDone old new before after = (new ≡ old) ⊎ (after ≡ before + 1)
