-- What is told of a claim that is looked at by induction.
use Rattle.std.specs.Prelude.{◌≢◌, ℕ, List, [], Bool, length}
use Rattle.std.specs.List.{AllZip}
use Rattle.transition_systems.specs.declared.system.TransitionSystem.{TransitionSystem}
use Rattle.transition_systems.specs.Certificates.{AreInductive}
use Rattle.ladder_systems.specs.LadderSystems.{IsSystemOf}
use Rattle.power_flow.specs.Meaning.{Moment}
use Rattle.verifying.specs.Runs.{HasRun, SetupValue, IsOn, Runs}
use Rattle.verifying.specs.Verdicts.{Never, NeverWithin}
use Rattle.certified_claims.specs.Certificates.{IsSizeOf}
use Rattle.certified_claims.specs.declared.verdict.Certified.{Certified}
use Rattle.certified_claims.specs.declared.verdict.CertifiedVerdict.{CertifiedVerdict}
use Rattle.certified_claims.specs.declared.verdict.CertifiedVerdict.TheVariants.{Holds, Fails, Undecided}
use Rattle.certified_claims.specs.declared.verdict.Meeting.{Meeting}
use Rattle.certified_claims.specs.declared.verdict.Meeting.TheVariants.{Met, Unmet, Unknown}

-- the run of these rows sets the variable
pub record Sets (u : SetupValue) (place : ℕ) (rows : List (List Bool)) : Type 0 where
  pub last : Moment
  pub run : Runs u rows last
  pub on : IsOn last place

-- clauses that are inductive in the system of the setup, where it is bad that the variable is TRUE; and they have this size
pub record IsShown (u : SetupValue) (place : ℕ) (c : Certified) : Type 0 where
  pub system : TransitionSystem
  pub is : IsSystemOf u place system
  pub inductive : AreInductive system c.clauses.items
  pub size : IsSizeOf c.clauses.items (length system.state.items) c.size

-- What a verdict says of the variable at a place, where a setup is looked at in the place of the whole: no run whatsoever of
-- the whole sets it, and a certificate shows it; or this run does; or none of so many scans or fewer does.
abbrev pub IsCertified : SetupValue → SetupValue → ℕ → CertifiedVerdict → Type 0
IsCertified whole searched place (Holds certified) = Never whole place × IsShown searched place certified
IsCertified whole searched place (Fails rows) = Sets whole place rows.items
IsCertified whole searched place (Undecided depth) = NeverWithin whole depth place

-- a verdict for each place
abbrev pub AreCertified : SetupValue → SetupValue → List ℕ → List CertifiedVerdict → Type 0
AreCertified whole searched places verdicts = AllZip (IsCertified whole searched) places verdicts

-- whether there is a run of a scan or more: one, if anything is given; or none; or nothing is said
abbrev pub IsMeeting : SetupValue → Meeting → Type 0
IsMeeting u Met = u.given ≢ [] → HasRun u
IsMeeting u Unmet = HasRun u → ⊥
IsMeeting u Unknown = Unit {0}
