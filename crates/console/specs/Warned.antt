-- Warnings of a command.
use Rattle.std.specs.Prelude.{◌≡◌, ◌⊎◌, ◌&&◌, ◌==◌, ℕ, if◌then◌else◌, List, [], ◌∷◌, Bool, true, false, Option, Some, None}
use Rattle.std.specs.Borrow.{Bor}
use Rattle.text_commands.specs.Comments.{without_comments}
use Rattle.warnings.specs.OfPlant.{AreWarningsOfPlant, IsNoPlant}
use Rattle.warnings.specs.OfText.{AreWarningsOf, HasNoNetworks}
use Rattle.warnings.specs.declared.of_plant.PlantWarnings.{PlantWarnings}
use Rattle.warnings.specs.declared.scan_time.ScanTime.{ScanTime}
use Rattle.warnings.specs.declared.warning.Warning.{Warning}
use Rattle.console.specs.declared.request.Strictness.{Strictness}
use Rattle.console.specs.declared.request.Strictness.TheVariants.{Told, Strict, Silent}
use Rattle.console.specs.declared.request.TextRequest.{TextRequest}
use Rattle.console.specs.declared.request.TextRequest.TheVariants.{Eval, Check, Plan}

-- a list has nothing
abbrev pub is_none : {X : Type 0} → List X → Bool
is_none [] = true
is_none (x ∷ more) = false

-- the warnings of the text of a drawing with this time between scans: as it is; or, where it is no drawing, with its comments
-- emptied
abbrev pub AreDrawingWarnings : ℕ → List ℕ → List Warning → Type 0
AreDrawingWarnings dt text warnings =
    AreWarningsOf dt text warnings ⊎ (HasNoNetworks 1 text × AreWarningsOf dt (without_comments text) warnings)

-- it is no drawing, either way
abbrev pub IsNoDrawing : List ℕ → Type 0
IsNoDrawing text = HasNoNetworks 1 text × HasNoNetworks 1 (without_comments text)

-- whether nothing is warned of in the text of a drawing with this time between scans
abbrev pub IsDrawingQuiet : ℕ → List ℕ → Bool → Type 0
IsDrawingQuiet dt text quiet =
    ((warnings : List Warning) × AreDrawingWarnings dt text warnings × (quiet ≡ is_none warnings))
    ⊎ (IsNoDrawing text × (quiet ≡ true))

-- nothing is warned of in the drawings and at the instances of a plant
abbrev pub is_plant_quiet : PlantWarnings → Bool
is_plant_quiet told = is_none told.bodies.items && is_none told.unbound.items && is_none told.far.items

-- the same of the text of a plant, with this time between evaluations
abbrev pub ArePlantWarnings : ScanTime → List ℕ → PlantWarnings → Type 0
ArePlantWarnings time text told =
    AreWarningsOfPlant time text told ⊎ (IsNoPlant text × AreWarningsOfPlant time (without_comments text) told)

abbrev pub IsNoPlantEither : List ℕ → Type 0
IsNoPlantEither text = IsNoPlant text × IsNoPlant (without_comments text)

abbrev pub IsPlantQuiet : ScanTime → List ℕ → Bool → Type 0
IsPlantQuiet time text quiet =
    ((told : PlantWarnings) × ArePlantWarnings time text told × (quiet ≡ is_plant_quiet told))
    ⊎ (IsNoPlantEither text × (quiet ≡ true))

-- so many milliseconds from each evaluation to the next, of all programs
abbrev pub time_of_all : ℕ → ScanTime
time_of_all dt = record { dt = dt; program = None }

-- of a program type what is warned of in its plant, where the time is that of this program type alone
abbrev pub IsLadderQuiet : Option (Bor (List ℕ)) → ℕ → List ℕ → Bool → Type 0
IsLadderQuiet None dt text quiet = IsDrawingQuiet dt text quiet
IsLadderQuiet (Some name) dt text quiet = IsPlantQuiet (record { dt = dt; program = Some name }) text quiet

-- what is warned of in the text of a request, where no time between scans is judged; a plan is told without warnings
abbrev pub IsQuiet : TextRequest → List ℕ → Bool → Type 0
IsQuiet (Eval drawing dt view color files strictness words program restarts second) text quiet = IsLadderQuiet program 0 text quiet
IsQuiet (Check plant strictness) text quiet = IsPlantQuiet (time_of_all 0) text quiet
IsQuiet (Plan plant until form) text quiet = quiet ≡ true

-- where something is warned of it is 1 in place of 0
abbrev pub strict_status : Bool → ℕ → ℕ
strict_status quiet status = if quiet then status else (if status == 0 then 1 else status)

-- the status behind warnings, where it was this one before them; it is 3 for want of memory
abbrev pub EndsWarned : (Bool → Type 0) → Strictness → ℕ → ℕ → Type 0
EndsWarned quiet_is Silent before status = status ≡ before
EndsWarned quiet_is Told before status = (status ≡ before) ⊎ (status ≡ 3)
EndsWarned quiet_is Strict before status =
    ((quiet : Bool) × quiet_is quiet × (status ≡ strict_status quiet before)) ⊎ (status ≡ 3)
