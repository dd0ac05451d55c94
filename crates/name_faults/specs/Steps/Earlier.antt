-- The first fault is sought two by two.
use Rattle.std.specs.Prelude.{◌≡◌, ◌⊎◌, Option, Some, None}
use Rattle.name_faults.specs.declared.finding.Finding.{Finding}
use Rattle.name_faults.specs.Findings.{ComesNoLater}

-- the earlier one of two faults
abbrev pub IsEarlierFinding : Option Finding → Option Finding → Option Finding → Type 0
IsEarlierFinding None other answer = answer ≡ other
IsEarlierFinding (Some f) None answer = answer ≡ Some f
IsEarlierFinding (Some f) (Some g) answer = (ComesNoLater f g × (answer ≡ Some f))
    ⊎ (ComesNoLater g f × (answer ≡ Some g))
