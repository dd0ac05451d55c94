-- Names are declared one use after the other.
use Rattle.std.specs.Prelude.{ℕ, Bool, List, [], ◌∷◌, ◌++◌, if◌then◌else◌}
use Rattle.std.specs.List.{list_any}
use Rattle.std.specs.Str.{str_eq_ignore_ascii_case}
use Rattle.declared_names.specs.declared.declarations.Declaration.{Declaration}
use Rattle.name_faults.specs.declared.name_use.NameUse.{NameUse}
use Rattle.name_faults.specs.Guess.{declaration_of}

-- a declaration has the name, in either case
abbrev pub has_name : List ℕ → Declaration → Bool
has_name name d = str_eq_ignore_ascii_case d.name name

-- the declarations with that of a use behind them, unless its name is declared already
abbrev pub declared_with : List Declaration → NameUse → List Declaration
declared_with ds u = if list_any (has_name u.name) ds then ds else ds ++ declaration_of u ∷ []
