-- The items of a list that may be missing.
use Rattle.std.specs.Prelude.{List, [], Option, Some, None}

-- the items of a list that may be missing
abbrev pub items_or_none : {A : Type 0} → Option (List A) → List A
items_or_none None = []
items_or_none (Some xs) = xs
