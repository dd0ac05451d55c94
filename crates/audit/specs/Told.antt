-- What is shown of journals is what they tell.
use Rattle.std.specs.Prelude.{◌≡◌, ℕ, zero, suc, ◌≤◌, ◌++◌, List, [], ◌∷◌, Option, Some, None, length, map, slice_get}
use Rattle.std.specs.Global.{Vec}
use Rattle.plant.specs.PlantValue.{PlantValue}
use Rattle.book.specs.Book.{BookValue}
use Rattle.node_reports.specs.Stations.{StationValue}
use Rattle.audit.specs.declared.journal_file.JournalFile.{JournalFile}
use Rattle.audit.specs.declared.line.Line.{Line}
use Rattle.audit.specs.declared.line.Place.{Place}
use Rattle.audit.specs.declared.reading.Readings.{Readings}
use Rattle.audit.specs.Readings.{AreReadings}
use Rattle.audit.specs.declared.auditing.Audited.{Audited}
use Rattle.audit.specs.declared.reason.Reason.{Reason}
use Rattle.audit.specs.declared.reason.Reason.TheVariants as reason
use Rattle.audit.specs.declared.reason.Unshown.{Unshown}
use Rattle.audit.specs.Lines.{StandsAt}
use Rattle.audit.specs.Reasons.{Course, IsReason}

-- If there is a line from which on a resource isn't shown, it is told, and why.
abbrev pub IsTold : BookValue → List Course → Option Line → StationValue → List Unshown → Type 0
IsTold book all None s unshown = unshown ≡ []
IsTold book all (Some line) s unshown =
    (why : Reason) × (unshown ≡ record { place = line.place; reason = why } ∷ []) × IsReason book all s line.item why

-- So many first lines of a resource are shown: it has done them, and its journal has what it did at them and nothing
-- else. The next line is told as the one that can't be shown.
pub record IsShown (plant : PlantValue) (book : BookValue) (all : List Course) (n : ℕ) (c : Course) (unshown : List Unshown)
    : Type 0 where
  pub within : c.shown ≤ length c.lines
  pub stands : StationValue
  pub reached : StandsAt plant n c.lines c.shown stands
  pub journal_is : c.journal ≡ stands.journal
  pub told : IsTold book all (slice_get c.lines c.shown) stands unshown

-- This is what is shown of each of the first resources, and what can't be is told in their order.
abbrev pub AreShown : PlantValue → BookValue → List Course → ℕ → List Unshown → Type 0
AreShown plant book all zero unshown = unshown ≡ []
AreShown plant book all (suc n) unshown =
    (before these : List Unshown) × (c : Course) × AreShown plant book all n before × (slice_get all n ≡ Some c)
    × IsShown plant book all n c these × (unshown ≡ before ++ these)

-- a file without a START
abbrev pub without_start : Place → Unshown
without_start place = record { place = place; reason = reason.Syntax }

-- the resource, if these are its lines and there are none
abbrev pub if_none : List Line → ℕ → List ℕ
if_none [] n = n ∷ []
if_none (line ∷ more) n = []

abbrev pub without_lines : Option (Vec Line) → ℕ → List ℕ
without_lines None n = []
without_lines (Some lines) n = if_none lines.items n

-- those of the first resources that have no lines
abbrev pub all_without : List (Vec Line) → ℕ → List ℕ
all_without all zero = []
all_without all (suc n) = all_without all n ++ without_lines (slice_get all n) n

-- What is shown is what the journals tell. Of each resource of the plant the first lines are shown, all of them unless
-- the next one is told as unshown; behind those that are told stand the first lines of the files without a START. The
-- resources of which there is no line are told.
pub record AreToldBy (plant : PlantValue) (files : List JournalFile) (r : Audited) : Type 0 where
  pub readings : Readings
  pub read : AreReadings plant files readings
  pub all : List Course
  pub many : length all ≡ length plant.resources
  pub lines_are : map (λ (c : Course). c.lines) all ≡ map (λ (v : Vec Line). v.items) readings.resources.items
  pub journals_are : r.journals ≡ map (λ (c : Course). c.journal) all
  pub unshown : List Unshown
  pub shown : AreShown plant r.book all (length all) unshown
  pub unshown_are : r.unshown.items ≡ unshown ++ map without_start readings.without_start.items
  pub without_are : r.without.items ≡ all_without readings.resources.items (length plant.resources)
