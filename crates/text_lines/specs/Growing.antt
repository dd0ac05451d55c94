-- A text that grows at its end.
use Rattle.std.specs.Prelude.{◌≡◌, ℕ, ◌++◌, List, String, string_bytes}

-- this stands behind what was there
abbrev pub GrowsBy : {A : Type 0} → String A → String A → List ℕ → Type 0
GrowsBy {A} old new more = string_bytes new ≡ string_bytes old ++ more
