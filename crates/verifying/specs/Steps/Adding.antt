-- A text that grows by that of a verdict.
use Rattle.std.specs.Prelude.{◌≡◌, ℕ, ◌++◌, List, Bool, All, length}
use Rattle.verifying.specs.declared.verdict.Tally.{Tally}
use Rattle.verifying.specs.declared.verdict.Verdict.{Verdict}
use Rattle.verifying.specs.declared.verdict.Verdict.TheVariants.{Holds, Fails, Undecided}
use Rattle.verifying.specs.Runs.{SetupValue, width}
use Rattle.verifying.specs.VerdictLines.{IsFailText, IsVerdictText}

pub record AddsFailText (u : SetupValue) (file name : List ℕ) (rows : List (List Bool)) (old new : List ℕ) : Type 0 where
  pub text : List ℕ
  pub is : IsFailText u file name rows text
  pub added : new ≡ old ++ text

pub record AddsVerdictText (u : SetupValue) (file : List ℕ) (t : Tally) (name : List ℕ) (verdict : Verdict) (old new : List ℕ) : Type 0 where
  pub text : List ℕ
  pub is : IsVerdictText u file t name verdict text
  pub added : new ≡ old ++ text

-- each row has all its digits
abbrev pub AreWholeRows : SetupValue → List (List Bool) → Type 0
AreWholeRows u rows = All (λ (row : List Bool). length row ≡ width u) rows

abbrev pub FitsSetup : SetupValue → Verdict → Type 0
FitsSetup u Holds = Unit {0}
FitsSetup u (Fails rows) = AreWholeRows u rows.items
FitsSetup u (Undecided depth) = Unit {0}
