-- What a file of notes has on the disk, as far as it is known.
use Rattle.std.specs.Prelude.{◌≡◌, ℕ, List, Option}
use Rattle.live_node.specs.declared.file_notes.Synced.{Synced}
use Rattle.live_node.specs.declared.file_notes.Synced.TheVariants.{All, Less, Unknown}

-- all that it holds is there; or it may be brought there; or nobody knows, since of what is lost a system tells but once
abbrev pub IsSynced : Option (List ℕ) → Option (List ℕ) → Type 0 → Synced → Type 0
IsSynced holds kept sound All = sound × (kept ≡ holds)
IsSynced holds kept sound Less = sound
IsSynced holds kept sound Unknown = Unit {0}
