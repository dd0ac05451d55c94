-- A text that grows by that of a verdict.
use Rattle.std.specs.Prelude.{◌≡◌, ℕ, ◌++◌, List}
use Rattle.verifying.specs.Runs.{SetupValue}
use Rattle.verifying.specs.Steps.Adding.{AreWholeRows}
use Rattle.certified_claims.specs.CertifiedLines.{IsCertifiedText}
use Rattle.certified_claims.specs.declared.verdict.CertifiedVerdict.{CertifiedVerdict}
use Rattle.certified_claims.specs.declared.verdict.CertifiedVerdict.TheVariants.{Holds, Fails, Undecided}
use Rattle.certified_claims.specs.declared.verdict.Scope.{Scope}

pub record AddsCertifiedText (u : SetupValue) (file : List ℕ) (scope : Scope) (name : List ℕ) (verdict : CertifiedVerdict) (old new : List ℕ) : Type 0 where
  pub text : List ℕ
  pub is : IsCertifiedText u file scope name verdict text
  pub added : new ≡ old ++ text

-- each row of a run has all its digits
abbrev pub FitsSetup : SetupValue → CertifiedVerdict → Type 0
FitsSetup u (Holds certified) = Unit {0}
FitsSetup u (Fails rows) = AreWholeRows u rows.items
FitsSetup u (Undecided depth) = Unit {0}
