-- What the resources of an audit were handed, and of what they heard.
use Rattle.std.specs.Prelude.{◌≡◌, List, All, Contains, Some, slice_get}
use Rattle.evaluation.specs.Meaning.{Evaluated}
use Rattle.node_reports.specs.declared.journal.Journal.{Journal}
use Rattle.node_reports.specs.Journals.{received}
use Rattle.node_reports.specs.declared.step.Step.{Step}
use Rattle.node_reports.specs.declared.step.Step.TheVariants.{Took, Made, Restarted, Heard}
use Rattle.audit.specs.Reasons.{CanHaveBeenIn}

-- Each evaluation that a resource received is an entry: nothing was delivered that wasn't made.
abbrev pub AreDelivered : List Evaluated → List Journal → Type 0
AreDelivered entries journals = All (λ (j : Journal). All (Contains entries) (received j.steps)) journals

-- where a step hears of a resource's incarnation, it can have been in it
abbrev pub HearsTruly : List Journal → Step → Type 0
HearsTruly journals (Took x) = Unit {0}
HearsTruly journals (Made x) = Unit {0}
HearsTruly journals (Restarted ticket incarnation) = Unit {0}
HearsTruly journals (Heard of incarnation) =
    (maker : Journal) → slice_get journals of ≡ Some maker → CanHaveBeenIn maker incarnation

-- Each incarnation of which a resource heard is one in which the other resource was, or lies before its first START that
-- was given.
abbrev pub AreHeardTruly : List Journal → Type 0
AreHeardTruly journals = All (λ (j : Journal). All (HearsTruly journals) j.steps) journals
