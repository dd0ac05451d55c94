use Rattle.std.specs.Prelude.{◌≡◌, ℕ, List}
use Rattle.std.specs.List.{AllByRecursion}
use Rattle.std.specs.Str.{str_to_ascii_lowercase}
use Rattle.std.specs.declared.vec.Vec.{Vec}
use Rattle.declared_names.specs.declared.declarations.Declaration.{Declaration}

-- each entry stands at its name in small letters
abbrev pub AreFolded : {A : Type 0} → List (Vec ℕ A × Declaration) → Type 0
AreFolded {A} entries =
    AllByRecursion (λ (e : Vec ℕ A × Declaration). e.0.items ≡ str_to_ascii_lowercase e.1.name) entries
