-- Scans that are written line by line.
use Rattle.std.proofs.Common.{◌≡◌, ℕ, ◌+◌, ◌≤◌, ◌++◌, List, [], ◌∷◌, Bool, false, Option, All, length, take, sum_by, sym, ap, ◌∙◌, subst, arith}
use Rattle.std.specs.List.{flat_map}
use Rattle.std.proofs.lemmas.List.{append-nil, length-append}
use Rattle.std.proofs.lemmas.List.Concat.{flat_map-append}
use Rattle.std.proofs.Math.Seq.{take-append-add, take-length}
use Rattle.std.proofs.KnownBytes.{Appends-nil, Appends-trans}
use Rattle.std.specs.Io.KnownBytes.{Appends}
use Rattle.text_lines.specs.Sending.{SendsLess}
use Rattle.text_lines.specs.declared.send_fault.SendFault.TheVariants.{Write, Memory}
use Rattle.network.specs.Links.{Diagram}
use Rattle.declared_names.specs.declared.declarations.Declaration.{Declaration}
use Rattle.scan_steps.specs.declared.slot.Slot.{Slot}
use Rattle.power_flow.specs.LadderValue.{LadderValue}
use Rattle.power_flow.specs.StateValue.{StateValue}
use Rattle.power_flow.specs.Scan.{ScanMeaning}
use Rattle.text_commands.specs.Series.{set_before}
use Rattle.text_commands.specs.Restarts.{GivenValue, first_slots, memories_off, opened_memories, opened_slots}
use Rattle.text_commands.specs.Steps.Opening.{IsOpened}
use Rattle.text_commands.proofs.KeptVariables.{off_all}
use Rattle.text_commands.specs.Lines.{line_of}
use Rattle.text_commands.specs.EvalText.{StopsScans}
use Rattle.text_commands.specs.Trace.{IsTrace}
use Rattle.text_commands.specs.Trace.IsTrace.{begun, after}

-- before the first scan there is no state
pub begun_at : (ds : List Declaration) (networks : List Diagram) (dt : ℕ) (given : GivenValue) (slots : List Slot) (memories : List Bool)
    → slots ≡ first_slots ds → length memories ≡ sum_by (λ d. length d.elements) networks → All (λ m. m ≡ false) memories
    → IsTrace ds networks dt given [] slots memories
begun_at ds networks dt given slots memories e long off = rw (e, off_all memories _ long off) begun

-- what stands at the names before a scan, after so many
abbrev pub opened : List Declaration → GivenValue → ℕ → List Slot → List Slot
opened ds given k slots = set_before given.rows k (opened_slots ds given k slots)

-- the next scan
pub scan_more : (l : LadderValue) (dt : ℕ) (given : GivenValue) (k : ℕ) (states : List (List Slot)) (s set scanned : StateValue)
    → IsTrace l.declarations l.networks dt given states s.slots s.memories → length states ≡ k → IsOpened l given k s set → ScanMeaning l.declarations dt l.networks set.slots set.memories scanned.slots scanned.memories
    → IsTrace l.declarations l.networks dt given (states ++ scanned.slots ∷ []) scanned.slots scanned.memories
scan_more l dt given k states s set scanned before long is meaning =
    let slots = subst (λ (ss : List Slot). ScanMeaning l.declarations dt l.networks ss set.memories scanned.slots scanned.memories) is.slots meaning in
    let here = subst (λ (ms : List Bool). ScanMeaning l.declarations dt l.networks (opened l.declarations given k s.slots) ms scanned.slots scanned.memories) is.memories slots in
    after before (subst (λ (n : ℕ). ScanMeaning l.declarations dt l.networks (opened l.declarations given n s.slots) (opened_memories l.networks given n s.memories) scanned.slots scanned.memories) (sym long) here)

-- the lines with that of one scan more
pub lines_more : (ds : List Declaration) (states : List (List Slot)) (slots : List Slot) (line : List ℕ) → line ≡ line_of ds slots
    → flat_map (line_of ds) (states ++ slots ∷ []) ≡ flat_map (line_of ds) states ++ line
lines_more ds states slots line is =
    flat_map-append (line_of ds) states (slots ∷ []) ∙ ap (λ l. flat_map (line_of ds) states ++ l) (append-nil (line_of ds slots) ∙ sym is)

-- where memory was refused, the whole text of some scans went out
pub stopped_behind : (ds : List Declaration) (networks : List Diagram) (dt : ℕ) (given : GivenValue) (scans : ℕ) (states : List (List Slot)) (slots : List Slot) (memories : List Bool)
    (old new : Option (List ℕ)) → length states ≤ scans → IsTrace ds networks dt given states slots memories → Appends old new (flat_map (line_of ds) states) → StopsScans ds networks dt given scans Memory old new
stopped_behind ds networks dt given scans states slots memories old new few trace appended = record {
  made = record { states = states; slots = slots; memories = memories; trace = trace; few = few };
  stopped = (length (flat_map (line_of ds) states), rw (take-length (flat_map (line_of ds) states)) appended);
}

pub stopped_at_first : (ds : List Declaration) (networks : List Diagram) (dt : ℕ) (given : GivenValue) (scans : ℕ) (old : Option (List ℕ)) → StopsScans ds networks dt given scans Memory old old
stopped_at_first ds networks dt given scans old = stopped_behind ds networks dt given scans [] (first_slots ds) (memories_off networks) old old (omega arith) begun (Appends-nil old)

-- a part of the last line was written, and not all of it
pub stopped_within : (ds : List Declaration) (networks : List Diagram) (dt : ℕ) (given : GivenValue) (scans : ℕ) (states : List (List Slot)) (slots : List Slot) (memories : List Bool) (line : List ℕ)
    (old mid new : Option (List ℕ)) → length (states ++ slots ∷ []) ≤ scans → IsTrace ds networks dt given (states ++ slots ∷ []) slots memories → line ≡ line_of ds slots
    → Appends old mid (flat_map (line_of ds) states) → SendsLess line mid new → StopsScans ds networks dt given scans Write old new
stopped_within ds networks dt given scans states slots memories line old mid new few trace is before less =
    let text = flat_map (line_of ds) states in
    let whole = lines_more ds states slots line is in
    let long = length-append text line in
    record {
      made = record { states = states ++ slots ∷ []; slots = slots; memories = memories; trace = trace; few = few };
      stopped = rw whole (length text + less.0, (let lt = less.1 in omega arith), rw (take-append-add text line less.0) (Appends-trans old mid new text (take less.0 line) before less.2));
    }
