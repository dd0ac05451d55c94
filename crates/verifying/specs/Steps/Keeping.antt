-- The places that are kept where runs may restart.
use Rattle.std.specs.Prelude.{ℕ, List, Option}
use Rattle.std.specs.Global.{Vec}
use Rattle.std.specs.Option.{option_map}

-- without where they lie in memory
abbrev pub places_kept : Option (Vec ℕ) → Option (List ℕ)
places_kept places = option_map (λ (v : Vec ℕ). v.items) places
