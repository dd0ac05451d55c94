-- Steps of the proofs: the parts of a word.
use Rattle.std.specs.Prelude.{◌≡◌, ℕ, ◌+◌, List, Option, Some, None, drop, take}
use Rattle.evaluation.specs.InputTexts.{sign_of}
use Rattle.plant.specs.PlantValue.{PlantValue}
use Rattle.tested_schedules.specs.declared.expectation.Expectation.{Expectation}
use Rattle.tested_schedules.specs.declared.finding.Parts.{Parts}
use Rattle.tested_schedules.specs.Expectations.{expected_at}

-- the parts before and behind the first `=`
abbrev pub ArePartsAt : List ℕ → ℕ → Parts → Type 0
ArePartsAt word sign parts = (parts.name.now ≡ take sign word) × (parts.value.now ≡ drop (sign + 1) word)

-- the parts of a word; none if it has no `=`
abbrev pub IsParted : List ℕ → Option Parts → Type 0
IsParted word None = sign_of word ≡ None
IsParted word (Some parts) = (sign : ℕ) × (sign_of word ≡ Some sign) × ArePartsAt word sign parts

-- these parts of a word expect it
abbrev pub IsExpectedOf : PlantValue → List ℕ → List ℕ → Expectation → Type 0
IsExpectedOf plant name written x = expected_at plant name written x.task x.place ≡ Some x.value
