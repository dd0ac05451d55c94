-- Scans follow one another in a trace.
use Rattle.std.proofs.Common.{◌≡◌, ℕ, ◌+◌, ◌<◌, ◌++◌, List, [], ◌∷◌, Bool, false, All, length, take, sum_by, get_or, ap, ◌∙◌}
use Rattle.std.proofs.lemmas.List.{length-append, length-map, map-append, take_more, append-nil}
use Rattle.std.proofs.lemmas.List.Concat.{flat_map-append}
use Rattle.std.specs.List.{flat_map}
use Rattle.network.specs.Links.{Diagram}
use Rattle.declared_names.specs.declared.declarations.Declaration.{Declaration}
use Rattle.scan_steps.specs.declared.slot.Slot.{Slot}
use Rattle.power_flow.specs.LadderValue.{LadderValue}
use Rattle.power_flow.specs.StateValue.{StateValue}
use Rattle.power_flow.specs.Scan.{ScanMeaning}
use Rattle.text_commands.specs.Restarts.{GivenValue, first_slots}
use Rattle.text_commands.specs.Trace.{IsTrace}
use Rattle.text_commands.specs.Steps.Opening.{IsOpened}
use Rattle.text_commands.specs.Steps.Testing.{slots_of}
use Rattle.text_commands.proofs.Scanning.{begun_at, scan_more}

-- before the first scan there is no state
pub trace_begun : (ds : List Declaration) (networks : List Diagram) (dt : ℕ) (given : GivenValue) (states : List StateValue) (slots : List Slot) (memories : List Bool)
    → states ≡ [] → slots ≡ first_slots ds → length memories ≡ sum_by (λ d. length d.elements) networks → All (λ m. m ≡ false) memories
    → IsTrace ds networks dt given (slots_of states) slots memories
trace_begun ds networks dt given states slots memories none e long off = rw none (begun_at ds networks dt given slots memories e long off)

-- one scan more
pub trace_more : (l : LadderValue) (dt : ℕ) (given : GivenValue) (k : ℕ) (states states' : List StateValue) (s set scanned copy : StateValue)
    → IsTrace l.declarations l.networks dt given (slots_of states) s.slots s.memories → length states ≡ k → IsOpened l given k s set
    → ScanMeaning l.declarations dt l.networks set.slots set.memories scanned.slots scanned.memories → copy ≡ scanned → states' ≡ states ++ copy ∷ []
    → IsTrace l.declarations l.networks dt given (slots_of states') scanned.slots scanned.memories
trace_more l dt given k states states' s set scanned copy before long is meaning same more =
    let many : length (slots_of states) ≡ k = length-map states (λ (t : StateValue). t.slots) ∙ long in
    rw (more, same, map-append (λ (t : StateValue). t.slots) states (scanned ∷ [])) (scan_more l dt given k (slots_of states) s set scanned before many is meaning)

pub one_longer : (states states' : List StateValue) (copy : StateValue) (k : ℕ) → length states ≡ k → states' ≡ states ++ copy ∷ [] → length states' ≡ k + 1
one_longer states states' copy k long more = ap length more ∙ length-append states (copy ∷ []) ∙ ap (λ n. n + 1) long

-- what each state adds, one state more
pub states_more : {A : Type 0} (f : List Slot → List A) (states : List StateValue) (i : ℕ) (d : StateValue) → i < length states
    → flat_map f (slots_of (take (i + 1) states)) ≡ flat_map f (slots_of (take i states)) ++ f (get_or states i d).slots
states_more f states i d lt =
    let x = get_or states i d in
    ap (λ (l : List StateValue). flat_map f (slots_of l)) (take_more states i d lt)
    ∙ ap (flat_map f) (map-append (λ (t : StateValue). t.slots) (take i states) (x ∷ []))
    ∙ flat_map-append f (slots_of (take i states)) (x.slots ∷ [])
    ∙ ap (λ l. flat_map f (slots_of (take i states)) ++ l) (append-nil (f x.slots))
