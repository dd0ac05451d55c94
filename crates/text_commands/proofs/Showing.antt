-- Scans follow one another, and so do their lines and drawings.
use Rattle.std.proofs.Common.{◌≡◌, ℕ, ◌+◌, ◌≤◌, ◌++◌, List, [], ◌∷◌, Bool, false, Option, All, length, take, sum_by, sym, ap, ◌∙◌, subst, arith}
use Rattle.std.proofs.lemmas.List.{length-append, map-append}
use Rattle.std.proofs.Math.Seq.{take-append-add, take-length}
use Rattle.std.proofs.KnownBytes.{Appends-nil, Appends-trans}
use Rattle.std.specs.Io.KnownBytes.{Appends}
use Rattle.power_flow.specs.Steps.ShownScans.{shows_scan}
use Rattle.text_lines.specs.Sending.{SendsLess}
use Rattle.text_lines.specs.declared.send_fault.SendFault.TheVariants.{Write, Memory}
use Rattle.network.specs.Links.{Diagram}
use Rattle.declared_names.specs.declared.declarations.Declaration.{Declaration}
use Rattle.scan_steps.specs.declared.slot.Slot.{Slot}
use Rattle.power_flow.specs.StateValue.{StateValue}
use Rattle.power_flow.specs.LadderValue.{LadderValue}
use Rattle.power_flow.specs.Shown.{ShowsPower}
use Rattle.text_commands.specs.Restarts.{GivenValue, first_slots, memories_off, opened_memories}
use Rattle.text_commands.specs.Shown.{IsShown}
use Rattle.text_commands.specs.Shown.IsShown.{begun, after}
use Rattle.text_commands.specs.Trace.{IsTrace}
use Rattle.text_commands.specs.Trace.IsTrace.{begun as no_scan, after as next_scan}
use Rattle.text_commands.specs.Steps.Opening.{IsOpened}
use Rattle.text_commands.specs.Steps.Testing.{slots_of}
use Rattle.text_commands.specs.Steps.Showing.{IsShownScan, StopsShown}
use Rattle.text_commands.proofs.KeptVariables.{off_all}
use Rattle.text_commands.proofs.Scanning.{opened}

-- scans that are shown are a trace
pub shown_traced : (drawing : List ℕ) (color : Bool) (ds : List Declaration) (networks : List Diagram) (dt : ℕ) (given : GivenValue) (states : List (List Slot)) (slots : List Slot) (memories : List Bool)
    (text : List ℕ) → IsShown drawing color ds networks dt given states slots memories text → IsTrace ds networks dt given states slots memories
shown_traced drawing color ds networks dt given states slots memories text begun = no_scan
shown_traced drawing color ds networks dt given states slots memories text (after {states = before_states} {slots = s} {slots' = t} {memories = m} {memories' = o} {text = before_text} on before shows) =
    let k = length before_states in
    next_scan (shown_traced drawing color ds networks dt given before_states s m before_text before) (shows_scan ds dt networks (opened ds given k s) (opened_memories networks given k m) t o on shows)

-- before the first scan nothing is shown
pub shown_begun : (drawing : List ℕ) (color : Bool) (ds : List Declaration) (networks : List Diagram) (dt : ℕ) (given : GivenValue) (slots : List Slot) (memories : List Bool)
    → slots ≡ first_slots ds → length memories ≡ sum_by (λ d. length d.elements) networks → All (λ m. m ≡ false) memories
    → IsShown drawing color ds networks dt given [] slots memories []
shown_begun drawing color ds networks dt given slots memories e long off = rw (e, off_all memories _ long off) begun

-- the next scan, with its line and its drawing
pub shown_more : (drawing : List ℕ) (color : Bool) (l : LadderValue) (dt : ℕ) (given : GivenValue) (k : ℕ) (states : List (List Slot)) (s set scanned : StateValue) (text more : List ℕ)
    → IsShown drawing color l.declarations l.networks dt given states s.slots s.memories text → length states ≡ k → IsOpened l given k s set → IsShownScan drawing color l dt set scanned more
    → IsShown drawing color l.declarations l.networks dt given (states ++ scanned.slots ∷ []) scanned.slots scanned.memories (text ++ more)
shown_more drawing color l dt given k states s set scanned text more before long is shows =
    let slots = subst (λ (ss : List Slot). ShowsPower l.declarations dt l.networks ss set.memories scanned.slots scanned.memories shows.0) is.slots shows.1 in
    let here = subst (λ (ms : List Bool). ShowsPower l.declarations dt l.networks (opened l.declarations given k s.slots) ms scanned.slots scanned.memories shows.0) is.memories slots in
    let there = subst (λ (n : ℕ). ShowsPower l.declarations dt l.networks (opened l.declarations given n s.slots) (opened_memories l.networks given n s.memories) scanned.slots scanned.memories shows.0) (sym long) here in
    rw shows.2 (after shows.0 before there)

pub one_state_more : (states : List (List Slot)) (slots : List Slot) (k : ℕ) → length states ≡ k → length (states ++ slots ∷ []) ≡ k + 1
one_state_more states slots k long = length-append states (slots ∷ []) ∙ ap (λ n. n + 1) long

-- the states of a trace, one more
pub slots_more : (states states' : List StateValue) (scanned copy : StateValue) → copy ≡ scanned → states' ≡ states ++ copy ∷ [] → slots_of states' ≡ slots_of states ++ scanned.slots ∷ []
slots_more states states' scanned copy same more = rw (more, same) (map-append (λ (t : StateValue). t.slots) states (scanned ∷ []))

-- where memory was refused, the whole text of some scans went out
pub shown_behind : (drawing : List ℕ) (color : Bool) (ds : List Declaration) (networks : List Diagram) (dt : ℕ) (given : GivenValue) (states : List (List Slot)) (slots : List Slot) (memories : List Bool)
    (text : List ℕ) (scans : ℕ) (old new : Option (List ℕ)) → length states ≤ scans → IsShown drawing color ds networks dt given states slots memories text → Appends old new text
    → StopsShown drawing color ds networks dt given scans Memory old new
shown_behind drawing color ds networks dt given states slots memories text scans old new few shown appended = record {
  made = record { states = states; slots = slots; memories = memories; text = text; shown = shown; few = few };
  stopped = (length text, rw (take-length text) appended);
}

pub shown_at_first : (drawing : List ℕ) (color : Bool) (ds : List Declaration) (networks : List Diagram) (dt : ℕ) (given : GivenValue) (scans : ℕ) (old : Option (List ℕ))
    → StopsShown drawing color ds networks dt given scans Memory old old
shown_at_first drawing color ds networks dt given scans old =
    shown_behind drawing color ds networks dt given [] (first_slots ds) (memories_off networks) [] scans old old (omega arith) begun (Appends-nil old)

-- a part of the last text was written, and not all of it
pub shown_within : (drawing : List ℕ) (color : Bool) (ds : List Declaration) (networks : List Diagram) (dt : ℕ) (given : GivenValue) (states : List (List Slot)) (slots : List Slot) (memories : List Bool)
    (text more : List ℕ) (scans : ℕ) (old mid new : Option (List ℕ)) → length states ≤ scans → IsShown drawing color ds networks dt given states slots memories (text ++ more) → Appends old mid text
    → SendsLess more mid new → StopsShown drawing color ds networks dt given scans Write old new
shown_within drawing color ds networks dt given states slots memories text more scans old mid new few shown before less =
    let long = length-append text more in
    record {
      made = record { states = states; slots = slots; memories = memories; text = text ++ more; shown = shown; few = few };
      stopped = (length text + less.0, (let lt = less.1 in omega arith), rw (take-append-add text more less.0) (Appends-trans old mid new text (take less.0 more) before less.2));
    }
