-- What is shown is of a scan: `text_commands` cites it too.
use Rattle.std.specs.Prelude.{ℕ, List, [], ◌∷◌, Bool, length, drop}
use Rattle.network.specs.Links.{Diagram}
use Rattle.declared_names.specs.declared.declarations.Declaration.{Declaration}
use Rattle.scan_steps.specs.declared.slot.Slot.{Slot}
use Rattle.power_flow.specs.Scan.{ScanMeaning}
use Rattle.power_flow.specs.Shown.{ShowsPower}

pub shows_scan : (ds : List Declaration) (dt : ℕ) (networks : List Diagram) (slots : List Slot) (ms : List Bool) (slots' : List Slot) (ms' shown : List Bool)
    → ShowsPower ds dt networks slots ms slots' ms' shown → ScanMeaning ds dt networks slots ms slots' ms'
shows_scan ds dt [] slots ms slots' ms' shown h = (h.0, h.1)
shows_scan ds dt (d ∷ networks) slots ms slots' ms' shown h =
    (h.0, h.1.meaning, shows_scan ds dt networks h.0 (drop (length d.elements) ms) slots' (drop (length d.elements) ms') (drop (length d.elements) shown) h.2)
