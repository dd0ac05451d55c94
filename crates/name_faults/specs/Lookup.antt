use Rattle.std.specs.Prelude.{ℕ, List, Bool, Option, nat_lt, slice_get, length}
use Rattle.std.specs.Option.{option_and_then, option_map}
use Rattle.std.specs.List.{before_first}
use Rattle.declared_names.specs.declared.declarations.Declaration.{Declaration}
use Rattle.declared_names.specs.declared.declarations.Declared.{Declared}
use Rattle.declared_names.specs.Names.{place_of, is_dot}

-- what is declared at a name
unfoldable pub declared_at : List Declaration → List ℕ → Option Declared
declared_at ds name = option_map (λ (e : Declaration). e.declared) (option_and_then (slice_get ds) (place_of ds name))

-- a name with a dot: its first part isn't all of it
abbrev pub is_dotted : List ℕ → Bool
is_dotted name = nat_lt (length (before_first is_dot name)) (length name)
