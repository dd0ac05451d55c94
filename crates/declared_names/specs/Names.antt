use Rattle.std.specs.Prelude.{◌≡◌, ℕ, List, Bool, ◌==◌, Option, Some, slice_get, position, IsTrue, Any}
use Rattle.std.specs.Str.{str_eq_ignore_ascii_case}
use Rattle.declared_names.specs.declared.declarations.Declaration.{Declaration}
use Rattle.declared_names.specs.declared.declarations.Declared.{Declared}

-- the place of a declared name, without regard to case
unfoldable pub place_of : List Declaration → List ℕ → Option ℕ
place_of declarations name = position (λ e. str_eq_ignore_ascii_case e.name name) declarations

-- the name is declared, in either case
abbrev pub IsDeclared : List Declaration → List ℕ → Type 0
IsDeclared ds name = Any (λ e. IsTrue (str_eq_ignore_ascii_case e.name name)) ds

-- at this place a name is declared as this
abbrev pub IsDeclaredAt : List Declaration → ℕ → List ℕ → Declared → Type 0
IsDeclaredAt ds place name declared = slice_get ds place ≡ Some (record { name = name; declared = declared })

-- names of one place are equal, in either case
abbrev pub HasOneNameAPlace : List Declaration → Type 0
HasOneNameAPlace ds = (a b : List ℕ) (k : ℕ) → place_of ds a ≡ Some k → place_of ds b ≡ Some k
    → IsTrue (str_eq_ignore_ascii_case a b)

-- the character is a dot
abbrev pub is_dot : ℕ → Bool
is_dot c = c == 46
