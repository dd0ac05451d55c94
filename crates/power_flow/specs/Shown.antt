-- What is shown of a scan: which elements have power in it.
use Rattle.std.specs.Prelude.{◌≡◌, ℕ, List, [], ◌∷◌, Bool, length, take, drop}
use Rattle.network.specs.Links.{Diagram}
use Rattle.declared_names.specs.declared.declarations.Declaration.{Declaration}
use Rattle.scan_steps.specs.declared.slot.Slot.{Slot}
use Rattle.power_flow.specs.Meaning.{Moment, moment, NetworkMeaning, AreLinks}
use Rattle.power_flow.specs.StateValue.{StateValue}
use Rattle.power_flow.specs.LadderValue.{LadderValue}

-- Each element's first place has power in the network's meaning exactly where it is shown.
pub record ShowsNetwork (ds : List Declaration) (d : Diagram) (dt : ℕ) (old new : Moment) (shown : List Bool)
    : Type 0 where
  pub meaning : NetworkMeaning ds d dt old new
  pub power : AreLinks ds d old meaning.between shown

-- A scan, with what is shown of its networks, one after the other: of each as much as it has elements.
abbrev pub ShowsPower : List Declaration → ℕ → List Diagram → List Slot → List Bool → List Slot → List Bool → List Bool
    → Type 0
ShowsPower ds dt [] slots ms slots' ms' shown = (slots' ≡ slots) × (ms' ≡ ms) × (shown ≡ [])
ShowsPower ds dt (d ∷ networks) slots ms slots' ms' shown =
    let n = length d.elements in
    (mid : List Slot) × ShowsNetwork ds d dt (moment slots (take n ms)) (moment mid (take n ms')) (take n shown)
    × ShowsPower ds dt networks mid (drop n ms) slots' (drop n ms') (drop n shown)

-- this is shown of a scan of the ladder that leads from one state to the other
abbrev pub ShowsScan : LadderValue → ℕ → StateValue → StateValue → List Bool → Type 0
ShowsScan l dt old new shown =
    ShowsPower l.declarations dt l.networks old.slots old.memories new.slots new.memories shown
