-- What two evaluations by one code are compared by.
use Rattle.std.specs.Prelude.{◌≡◌, List, All}
use Rattle.plant.specs.PlantValue.{PlantValue}
use Rattle.evaluation.specs.States.{AreSame}
use Rattle.evaluation.specs.Meaning.{Evaluated}
use Rattle.node_reports.specs.declared.journal.Journal.{Journal}
use Rattle.node_reports.specs.Codes.{AreOfPlant}
use Rattle.node_reports.specs.Journals.{made}

-- the same was asked of both, of the same state before, waiting places aside
pub record AreAskedAlike (x y : Evaluated) : Type 0 where
  pub ticket : x.ticket ≡ y.ticket
  pub name : x.name ≡ y.name
  pub heard : x.heard ≡ y.heard
  pub dt : x.dt ≡ y.dt
  pub inputs : x.inputs ≡ y.inputs
  pub takes : x.takes ≡ y.takes
  pub before : AreSame x.before y.before

-- each of these that is of one task with y is by y's code
abbrev pub AreByCodeOf : Evaluated → List Evaluated → Type 0
AreByCodeOf y xs = All (λ (x : Evaluated). x.name.task ≡ y.name.task → x.code ≡ y.code) xs

-- and so is each that one of these journals made
abbrev pub MadeByCodeOf : List Journal → Evaluated → Type 0
MadeByCodeOf journals y = All (λ (j : Journal). AreByCodeOf y (made j.steps)) journals

-- what each of these journals made is by the plant's codes
abbrev pub MadeOfPlant : PlantValue → List Journal → Type 0
MadeOfPlant plant journals = All (λ (j : Journal). AreOfPlant plant (made j.steps)) journals
