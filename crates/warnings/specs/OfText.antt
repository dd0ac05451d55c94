-- The warnings of a text.
use Rattle.std.specs.Prelude.{◌⊎◌, ℕ, List}
use Rattle.ladder_rows.specs.Rows.{rows_of}
use Rattle.ladder_text.specs.Places.{layout_of}
use Rattle.ladder_text.specs.Faults.{IsWellDrawn, IsIllDrawn}
use Rattle.ladder_text.specs.Picture.{picture_of}
use Rattle.drawings.specs.Picture.{Picture}
use Rattle.network.specs.GraphValue.{GraphValue}
use Rattle.network.specs.Networks.{AreNetworks, HasFaultlessNetworks}
use Rattle.warnings.specs.declared.warning.Warning.{Warning}
use Rattle.warnings.specs.OfDrawing.{AreWarnings}

-- what is drawn in a text that begins on this line
abbrev pub drawn_in : ℕ → List ℕ → Picture
drawn_in first_line text = picture_of first_line (layout_of (rows_of text))

-- a text that begins on this line is a drawing with these networks
pub record AreNetworksOf (first_line : ℕ) (text : List ℕ) (graph : GraphValue) : Type 0 where
  pub drawn : IsWellDrawn (rows_of text)
  pub networks : AreNetworks (drawn_in first_line text) graph
  pub faultless : HasFaultlessNetworks (drawn_in first_line text)

-- a text that begins on this line is no drawing, or one whose networks have a fault
abbrev pub HasNoNetworks : ℕ → List ℕ → Type 0
HasNoNetworks first_line text = IsIllDrawn (rows_of text) ⊎ (HasFaultlessNetworks (drawn_in first_line text) → ⊥)

-- a text is a drawing with networks, and these are its warnings with this time between scans
abbrev pub AreWarningsOf : ℕ → List ℕ → List Warning → Type 0
AreWarningsOf dt text warnings = (graph : GraphValue) × AreNetworksOf 1 text graph × AreWarnings dt graph warnings
