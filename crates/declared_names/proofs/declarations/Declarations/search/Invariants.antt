use Rattle.std.proofs.Common.{◌≡◌, ℕ, ◌<◌, false, get_or}
use Rattle.std.specs.Str.{str_eq_ignore_ascii_case}
use Rattle.declared_names.specs.declared.declarations.Declaration.{Declaration}
use Rattle.declared_names.proofs.declarations.Declarations.search.Given as goal

abbrev pub invariant-loop-i : goal.invariant-loop-i
invariant-loop-i l = (k : ℕ) (d : Declaration) → k < l.i → str_eq_ignore_ascii_case (get_or l.self k d).name l.name ≡ false
