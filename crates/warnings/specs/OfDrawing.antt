-- The warnings of a drawing.
use Rattle.std.specs.Prelude.{ℕ, ◌++◌, List}
use Rattle.std.specs.List.Sorted.{IsPermutation, IsSortedBy}
use Rattle.network.specs.declared.element.Element.{Element}
use Rattle.network.specs.GraphValue.{GraphValue}
use Rattle.warnings.specs.declared.warning.Warning.{Warning}
use Rattle.warnings.specs.Found.{doubles, mistyped, all_elements, is_told_before}
use Rattle.warnings.specs.Presets.{presets}

-- all that is warned of in these elements, with so many milliseconds from each scan to the next, or 0 where none are given
unfoldable pub found : ℕ → ℕ → List Element → List Warning
found dt first_line elements = doubles first_line elements ++ mistyped first_line elements ++ presets dt first_line elements

-- The warnings of a drawing with this time between scans: those of all its elements, in the order of their evaluation, each
-- once; told by line and then column.
pub record AreWarnings (dt : ℕ) (graph : GraphValue) (warnings : List Warning) : Type 0 where
  pub all : IsPermutation (found dt graph.first_line (all_elements graph)) warnings
  pub sorted : IsSortedBy is_told_before warnings
