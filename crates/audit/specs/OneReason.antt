-- No two reasons are told of the same line.
use Rattle.std.specs.Prelude.{◌≡◌, ◌⊎◌, List}
use Rattle.book.specs.declared.book.misfit.Misfit.{Misfit}
use Rattle.book.specs.Book.{BookValue}
use Rattle.node_reports.specs.Stations.{StationValue}
use Rattle.audit.specs.declared.item.Item.{Item}
use Rattle.audit.specs.declared.reason.Reason.{Reason}
use Rattle.audit.specs.declared.reason.Reason.TheVariants as reason
use Rattle.audit.specs.Reasons.{Course, IsReason}

-- both are that an evaluation doesn't fit
abbrev pub AreMisfits : Reason → Reason → Type 0
AreMisfits why other = (a b : Misfit) × (why ≡ reason.Misfit a) × (other ≡ reason.Misfit b)

-- Why a line can't be shown is one thing, whatever was shown: two reasons of a line are the same, or both are misfits.
abbrev pub OneReason : Type 0
OneReason =
    (book : BookValue) (all : List Course) (s : StationValue) (item : Item) (why other : Reason)
    → IsReason book all s item why → IsReason book all s item other → (why ≡ other) ⊎ AreMisfits why other
