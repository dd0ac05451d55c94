-- A node stops: what was noted and written for the line that it read last.
use Rattle.std.proofs.Common.{◌≡◌, ◌⊎◌, Result, Ok, Err, IfErr, OnErr, inl, inr, ℕ, ◌<◌, true, false, Bool, List, [], Option, refl, sym, ap, subst, arith}
use Rattle.std.specs.Result.{IsErrAnd}
use Rattle.std.specs.Io.KnownBytes.{Appends}
use Rattle.std.proofs.KnownBytes.{Appends-nil, Consumes-nil, Keeps-refl}
use Rattle.std_blocks.specs.declared.value.Value.{Value}
use Rattle.task_codes.specs.declared.task_ref.TaskRef.{TaskRef}
use Rattle.plant.specs.PlantValue.{PlantValue}
use Rattle.evaluation.specs.declared.field_input.FieldInput.{FieldInput}
use Rattle.exchange_core.specs.MessageCoreValue.{MessageCoreValue}
use Rattle.exchange_core.specs.Openings.{AreOpeningOf}
use Rattle.keepers.specs.Keepers.{Telling, TellsNoMore}
use Rattle.keepers.specs.Openings.{TellsOpening}
use Rattle.keepers.specs.declared.keeper_fault.KeeperFault.{KeeperFault}
use Rattle.keepers.specs.declared.keeper_fault.KeeperFault.TheVariants as keeping
use Rattle.lists.proofs.Results.{kept_fault}
use Rattle.text_lines.specs.Sending.{SendsPart}
use Rattle.text_lines.proofs.Sending.{begins}
use Rattle.text_lines.specs.declared.read_fault.ReadFault.{ReadFault}
use Rattle.text_lines.specs.declared.read_fault.ReadFault.TheVariants as reading
use Rattle.live_node.specs.declared.node_line.NodeLine.{NodeLine}
use Rattle.live_node.specs.declared.node_line.NodeLine.TheVariants.{Evaluate, Restart}
use Rattle.live_node.specs.NodeJournal.{line_note, start_note, restart_note}
use Rattle.live_node.specs.NodeLines.{Spells}
use Rattle.live_node.specs.NodeValue.{NodeValue}
use Rattle.live_node.specs.NodeSteps.{IsNotRefused}
use Rattle.live_node.specs.declared.live_lines.TakenLine.TheVariants.{Line, TooLong}
use Rattle.live_node.specs.declared.live_stop.LiveStop.{LiveStop}
use Rattle.live_node.specs.declared.live_stop.LiveStop.TheVariants.{Node, Read, Write, Memory}
use Rattle.live_node.specs.declared.node_stop.NodeStop.{NodeStop}
use Rattle.live_node.specs.declared.node_stop.NodeStop.TheVariants as ends
use Rattle.live_node.specs.NodeAnswers.{Raising}
use Rattle.live_node.specs.Stops.{IsNotedAsked, NotesPart, NotesStart, NotesUnanswered, ReadsWhole, StopsBeginning, StopsWithin, StopsNode}
use Rattle.live_node.specs.Steps.Answering.{IsNotKeepers, NotesRestartPart, NotesUndone, NotesUnevaluated, NotesUnrisen, TellsNothing, stop_for, stop_of}
use Rattle.live_node.specs.Steps.Sent.{all_sent}
use Rattle.live_node.specs.TakenLines.{Takes, TakesLine, TakesWithin}
use Rattle.live_node.specs.Steps.Growing.{synced_same}

-- nothing is a beginning
pub none_sent : (text : List ℕ) (old : Option (List ℕ)) → SendsPart text old old
none_sent text old = begins text [] text old old refl (Appends-nil old)

-- a line that asks what can be done was noted in part
line_part : (raising : Raising) (s : NodeValue) (asked : NodeLine) (line : List ℕ) (old new : Option (List ℕ)) → Spells s.core.plant asked line → IsNotedAsked s asked → SendsPart (line_note line) old new → NotesPart raising s line old new
line_part raising s asked line old new read unrefused h = (line_note line, inl (record { asked = asked; read = read; unrefused = unrefused; note_is = refl }), h)

-- a line that asks for a restart
asked_part : (raising : Raising) (s : NodeValue) (resource : ℕ) (line : List ℕ) (old new : Option (List ℕ)) → Spells s.core.plant (Restart resource) line → NotesRestartPart raising s resource old new → NotesPart raising s line old new
asked_part raising s resource line old new asked h =
    (restart_note s.core.plant s.core.resource h.incarnation, inr (record { resource = resource; asked = asked; here = h.here; incarnation = h.incarnation; raised = h.raised; above = h.above; note_is = refl }), h.sent)

-- its keeper isn't raised
pub unraised : (raises : Result ℕ KeeperFault → Type 0) (tells : Telling) (plant : PlantValue) (n above : ℕ) (f : KeeperFault) (old : Option (List ℕ)) → raises (Err f) → StopsBeginning raises tells plant n above (stop_for f) old old
unraised raises tells plant n above keeping.Unreadable old given = (λ same. cc, inl given, Keeps-refl old)
unraised raises tells plant n above keeping.Unwritable old given = (λ same. cc, inl given, Keeps-refl old)
unraised raises tells plant n above keeping.Spent old given = (λ same. cc, inl given, Keeps-refl old)
unraised raises tells plant n above keeping.Memory old given = inl (Keeps-refl old)

-- it was raised, and tells nothing of a task
pub untold : (raises : Result ℕ KeeperFault → Type 0) (tells now : Telling) (plant : PlantValue) (n above i : ℕ) (why : NodeStop) (old : Option (List ℕ)) → raises (Ok i) → TellsNoMore tells now → TellsNothing now plant n why → StopsBeginning raises tells plant n above why old old
untold raises tells now plant n above i (ends.Keeper f) old raised stays (not_memory, (task, code, found, given)) =
    (not_memory, inr (record { incarnation = i; raised = raised; task = task; code = code; found = found; given = stays task code (Err f) given }), Keeps-refl old)
untold raises tells now plant n above i ends.Note old raised stays h = absurd h
untold raises tells now plant n above i ends.Memory old raised stays h = inl (Keeps-refl old)

-- a start was noted in part
pub start_part : (raises : Result ℕ KeeperFault → Type 0) (tells now : Telling) (plant : PlantValue) (n above i : ℕ) (opening : List (List Value)) (note : List ℕ) (old new : Option (List ℕ)) → raises (Ok i) → above < i → AreOpeningOf plant n opening
    → TellsNoMore tells now → TellsOpening now plant n opening → note ≡ start_note plant n i opening → SendsPart note old new → NotesStart raises tells plant n above old new
start_part raises tells now plant n above i opening note old new raised risen opens stays told is sent = record {
  incarnation = i;
  raised = raised;
  risen = risen;
  opening = opening;
  opens = opens;
  told = λ task code values found at. stays task code (Ok values) (told task code values found at);
  sent = subst (λ l. SendsPart l old new) is sent;
}

-- a start was noted, and memory is wanting for what it writes
pub start_unmade : {T : Type 0} (r : Result T NodeStop) (raises : Result ℕ KeeperFault → Type 0) (tells now : Telling) (plant : PlantValue) (n above i : ℕ) (opening : List (List Value)) (note : List ℕ) (old new : Option (List ℕ)) → IsErrAnd r (λ why. why ≡ ends.Memory)
    → raises (Ok i) → above < i → AreOpeningOf plant n opening → TellsNoMore tells now → TellsOpening now plant n opening → note ≡ start_note plant n i opening → Appends old new note → IfErr r (λ why. StopsBeginning raises tells plant n above why old new)
start_unmade r raises tells now plant n above i opening note old new is raised risen opens stays told noted appended =
    kept_fault ends.Memory (λ why. StopsBeginning raises tells plant n above why old new) r is
    (inr (start_part raises tells now plant n above i opening note old new raised risen opens stays told noted (all_sent note old new appended)))

-- a restart isn't answered
by_restart : (raising : Raising) (s : NodeValue) (resource : ℕ) (line : List ℕ) (why : NodeStop) (old new : Option (List ℕ)) → Spells s.core.plant (Restart resource) line → NotesUnrisen raising s resource why old new → NotesUnanswered raising s line why old new
by_restart raising s resource line (ends.Keeper f) old new asked h = absurd h
by_restart raising s resource line ends.Note old new asked h = asked_part raising s resource line old new asked h
by_restart raising s resource line ends.Memory old new asked (inl h) = inl h
by_restart raising s resource line ends.Memory old new asked (inr h) = inr (asked_part raising s resource line old new asked h)

pub restart_unanswered : {T : Type 0} (r : Result T NodeStop) (raising : Raising) (s : NodeValue) (resource : ℕ) (line : List ℕ) (old new : Option (List ℕ)) → Spells s.core.plant (Restart resource) line → IfErr r (λ why. NotesUnrisen raising s resource why old new)
    → IfErr r (λ why. NotesUnanswered raising s line why old new)
restart_unanswered (Ok x) raising s resource line old new asked h = tt
restart_unanswered (Err why) raising s resource line old new asked h = by_restart raising s resource line why old new asked h

-- an evaluation isn't answered
by_evaluation : (raising : Raising) (s : NodeValue) (t : TaskRef) (dt : ℕ) (inputs : List FieldInput) (line : List ℕ) (why : NodeStop) (old new : Option (List ℕ)) → Spells s.core.plant (Evaluate t dt inputs) line → NotesUnevaluated s.core t line why old new → NotesUnanswered raising s line why old new
by_evaluation raising s t dt inputs line (ends.Keeper f) old new asked h = (h.0, record { task = t; dt = dt; inputs = inputs; asked = asked; unrefused = h.1; noted = h.2 })
by_evaluation raising s t dt inputs line ends.Note old new asked h = line_part raising s (Evaluate t dt inputs) line old new asked h.0 h.1
by_evaluation raising s t dt inputs line ends.Memory old new asked (inl h) = inl h
by_evaluation raising s t dt inputs line ends.Memory old new asked (inr h) = inr (line_part raising s (Evaluate t dt inputs) line old new asked h.0 h.1)

pub evaluation_unanswered : {T : Type 0} (r : Result T NodeStop) (raising : Raising) (s : NodeValue) (t : TaskRef) (dt : ℕ) (inputs : List FieldInput) (line : List ℕ) (old new : Option (List ℕ)) → Spells s.core.plant (Evaluate t dt inputs) line → IfErr r (λ why. NotesUnevaluated s.core t line why old new)
    → IfErr r (λ why. NotesUnanswered raising s line why old new)
evaluation_unanswered (Ok x) raising s t dt inputs line old new asked h = tt
evaluation_unanswered (Err why) raising s t dt inputs line old new asked h = by_evaluation raising s t dt inputs line why old new asked h

-- what a line asks isn't done
by_asked : (raising : Raising) (s : NodeValue) (asked : NodeLine) (line : List ℕ) (why : NodeStop) (old new : Option (List ℕ)) → Spells s.core.plant asked line → NotesUndone s asked line why old new → NotesUnanswered raising s line why old new
by_asked raising s asked line (ends.Keeper f) old new read h = absurd h
by_asked raising s asked line ends.Note old new read h = line_part raising s asked line old new read h.0 h.1
by_asked raising s asked line ends.Memory old new read (inl h) = inl h
by_asked raising s asked line ends.Memory old new read (inr h) = inr (line_part raising s asked line old new read h.0 h.1)

pub undone_unanswered : {T : Type 0} (r : Result T NodeStop) (raising : Raising) (s : NodeValue) (asked : NodeLine) (line : List ℕ) (old new : Option (List ℕ)) → Spells s.core.plant asked line → IfErr r (λ why. NotesUndone s asked line why old new)
    → IfErr r (λ why. NotesUnanswered raising s line why old new)
undone_unanswered (Ok x) raising s asked line old new read h = tt
undone_unanswered (Err why) raising s asked line old new read h = by_asked raising s asked line why old new read h

-- for want of memory nothing was noted of a line
pub none_unanswered : {T : Type 0} (r : Result T NodeStop) (raising : Raising) (s : NodeValue) (line : List ℕ) (old : Option (List ℕ)) → IsErrAnd r (λ why. why ≡ ends.Memory) → IfErr r (λ why. NotesUnanswered raising s line why old old)
none_unanswered r raising s line old is = kept_fault ends.Memory (λ why. NotesUnanswered raising s line why old old) r is (inl (Keeps-refl old))

pub none_unevaluated : {T : Type 0} (r : Result T NodeStop) (core : MessageCoreValue) (t : TaskRef) (line : List ℕ) (old : Option (List ℕ)) → IsErrAnd r (λ why. why ≡ ends.Memory) → IfErr r (λ why. NotesUnevaluated core t line why old old)
none_unevaluated r core t line old is = kept_fault ends.Memory (λ why. NotesUnevaluated core t line why old old) r is (inl (Keeps-refl old))

pub none_undone : {T : Type 0} (r : Result T NodeStop) (s : NodeValue) (asked : NodeLine) (line : List ℕ) (old : Option (List ℕ)) → IsErrAnd r (λ why. why ≡ ends.Memory) → IfErr r (λ why. NotesUndone s asked line why old old)
none_undone r s asked line old is = kept_fault ends.Memory (λ why. NotesUndone s asked line why old old) r is (inl (Keeps-refl old))

pub none_unrisen : {T : Type 0} (r : Result T NodeStop) (raising : Raising) (s : NodeValue) (n : ℕ) (old : Option (List ℕ)) → IsErrAnd r (λ why. why ≡ ends.Memory) → IfErr r (λ why. NotesUnrisen raising s n why old old)
none_unrisen r raising s n old is = kept_fault ends.Memory (λ why. NotesUnrisen raising s n why old old) r is (inl (Keeps-refl old))

-- nor of a restart that is refused
pub unraised_unrisen : {T : Type 0} (r : Result T NodeStop) (raising : Raising) (s : NodeValue) (n : ℕ) (old : Option (List ℕ)) → IfErr r (λ why. why ≡ ends.Memory) → IfErr r (λ why. NotesUnrisen raising s n why old old)
unraised_unrisen (Ok x) raising s n old is = tt
unraised_unrisen (Err why) raising s n old is = subst (λ found. NotesUnrisen raising s n found old old) (sym is) (inl (Keeps-refl old))

-- a restart to which the keeper was raised was noted in part
by_part : (raising : Raising) (s : NodeValue) (n : ℕ) (why : NodeStop) (old new : Option (List ℕ)) → IsNotKeepers why → NotesRestartPart raising s n old new → NotesUnrisen raising s n why old new
by_part raising s n (ends.Keeper f) old new own part = absurd own
by_part raising s n ends.Note old new own part = part
by_part raising s n ends.Memory old new own part = inr part

pub restart_unrisen : {T : Type 0} (r : Result T NodeStop) (raising : Raising) (s : NodeValue) (n i : ℕ) (old new : Option (List ℕ)) → n ≡ s.core.resource → raising s.core.incarnation (Ok i) → s.core.incarnation < i → IfErr r IsNotKeepers
    → OnErr r (SendsPart (restart_note s.core.plant s.core.resource i) old new) → IfErr r (λ why. NotesUnrisen raising s n why old new)
restart_unrisen (Ok x) raising s n i old new here raised above own part = tt
restart_unrisen (Err why) raising s n i old new here raised above own part =
    by_part raising s n why old new own (record { here = here; incarnation = i; raised = raised; above = above; sent = part })

-- an evaluation that isn't noted whole
pub part_unevaluated : {T : Type 0} (why : NodeStop) (r : Result T NodeStop) (core : MessageCoreValue) (t : TaskRef) (line : List ℕ) (old new : Option (List ℕ)) → IsErrAnd r (λ found. found ≡ why) → IsNotKeepers why → IsNotRefused core t → SendsPart (line_note line) old new
    → IfErr r (λ found. NotesUnevaluated core t line found old new)
part_unevaluated why r core t line old new is own unrefused part = kept_fault why (λ found. NotesUnevaluated core t line found old new) r is (by why own)
  where
    by : (found : NodeStop) → IsNotKeepers found → NotesUnevaluated core t line found old new
    by (ends.Keeper f) own = absurd own
    by ends.Note own = (unrefused, part)
    by ends.Memory own = inr (unrefused, part)

-- a line that isn't noted whole
pub part_undone : {T : Type 0} (why : NodeStop) (r : Result T NodeStop) (s : NodeValue) (asked : NodeLine) (line : List ℕ) (old new : Option (List ℕ)) → IsErrAnd r (λ found. found ≡ why) → IsNotKeepers why → IsNotedAsked s asked → SendsPart (line_note line) old new
    → IfErr r (λ found. NotesUndone s asked line found old new)
part_undone why r s asked line old new is own unrefused part = kept_fault why (λ found. NotesUndone s asked line found old new) r is (by why own)
  where
    by : (found : NodeStop) → IsNotKeepers found → NotesUndone s asked line found old new
    by (ends.Keeper f) own = absurd own
    by ends.Note own = (unrefused, part)
    by ends.Memory own = inr (unrefused, part)

-- one whose values the keeper doesn't keep, or isn't asked to
pub unkept : {T : Type 0} (why : NodeStop) (r : Result T NodeStop) (core : MessageCoreValue) (t : TaskRef) (line : List ℕ) (old new : Option (List ℕ)) → IsErrAnd r (λ found. found ≡ why)
    → (why ≡ stop_for keeping.Unwritable) ⊎ IsNotKeepers why → IsNotRefused core t → Appends old new (line_note line) → IfErr r (λ found. NotesUnevaluated core t line found old new)
unkept why r core t line old new is (inl same) unrefused noted =
    kept_fault why (λ found. NotesUnevaluated core t line found old new) r is (subst (λ found. NotesUnevaluated core t line found old new) (sym same) (refl, unrefused, noted))
unkept why r core t line old new is (inr own) unrefused noted = part_unevaluated why r core t line old new is own unrefused (all_sent (line_note line) old new noted)

-- what was noted before a keeper was asked still is
pub noted_then : {N : Type 0} (noted : N → Option (List ℕ)) (first then last : N) (line : List ℕ) → noted last ≡ noted then → Appends (noted first) (noted then) (line_note line) → Appends (noted first) (noted last) (line_note line)
noted_then noted first then last line same h = subst (λ n. Appends (noted first) n (line_note line)) (sym same) h

-- why nothing is kept: the keeper's cause, or another one
pub keeper_stop : {T : Type 0} (f : KeeperFault) (r : Result T NodeStop) → IsErrAnd r (λ found. found ≡ stop_for f) → (f ≡ keeping.Unwritable) ⊎ (f ≡ keeping.Memory) → IfErr r (λ stop. (stop ≡ stop_for keeping.Unwritable) ⊎ IsNotKeepers stop)
keeper_stop f r is (inl same) = kept_fault (stop_for f) (λ stop. (stop ≡ stop_for keeping.Unwritable) ⊎ IsNotKeepers stop) r is (inl (ap stop_for same))
keeper_stop f r is (inr same) = kept_fault (stop_for f) (λ stop. (stop ≡ stop_for keeping.Unwritable) ⊎ IsNotKeepers stop) r is (inr (subst (λ k. IsNotKeepers (stop_for k)) (sym same) tt))

pub other_stop : {T : Type 0} (why : NodeStop) (r : Result T NodeStop) → IsErrAnd r (λ found. found ≡ why) → IsNotKeepers why → IfErr r (λ stop. (stop ≡ stop_for keeping.Unwritable) ⊎ IsNotKeepers stop)
other_stop why r is own = kept_fault why (λ stop. (stop ≡ stop_for keeping.Unwritable) ⊎ IsNotKeepers stop) r is (inr own)

-- a whole line was read
whole_read : (given left : Option (List ℕ)) (line : List ℕ) (fed : Bool) → TakesLine given left line fed → ReadsWhole line given left
whole_read given left line true t = inl t.2
whole_read given left line false t = inr t.2

-- the next line can't be read
pub stops_unread : (raising : Raising) (s : NodeValue) (given left noted : Option (List ℕ)) (found : ReadFault) → TakesWithin 1000001 found given left → StopsWithin raising s given left noted noted (stop_of found)
stops_unread raising s given left noted reading.Read t = record { line = t.0; plain = t.1; read = t.2; leaves = Keeps-refl noted }
stops_unread raising s given left noted reading.Memory (inl t) = record { line = t.0; plain = t.1; read = inl t.2; leaves = Keeps-refl noted }
stops_unread raising s given left noted reading.Memory (inr t) = record { line = t.0; plain = t.2; read = inr (omega (arith, t.1), t.3); leaves = Keeps-refl noted }

-- a line isn't answered
pub stops_unanswered : (raising : Raising) (s : NodeValue) (given left noted_old noted_new : Option (List ℕ)) (line : List ℕ) (fed : Bool) (why : NodeStop) → Takes given left line (Line fed) → NotesUnanswered raising s line why noted_old noted_new
    → StopsWithin raising s given left noted_old noted_new (Node why)
stops_unanswered raising s given left noted_old noted_new line fed why t h = record { line = line; plain = t.1.0; read = whole_read given left line fed t.1; leaves = (t.0, h) }

-- a line is too long, and there is no memory for the refusal
pub stops_unrefused : (raising : Raising) (s : NodeValue) (given left noted : Option (List ℕ)) (line : List ℕ) (fed : Bool) → Takes given left line (TooLong fed) → StopsWithin raising s given left noted noted Memory
stops_unrefused raising s given left noted line true t = record { line = t.0; plain = t.2.0; read = inr (omega (arith, t.1), t.2.2); leaves = Keeps-refl noted }
stops_unrefused raising s given left noted line false t = record { line = t.0; plain = t.2.0; read = inl t.2.2.0; leaves = Keeps-refl noted }

-- no line more is read
pub stops_endless : (raising : Raising) (s : NodeValue) (given noted : Option (List ℕ)) → StopsWithin raising s given given noted noted Read
stops_endless raising s given noted = record { line = []; plain = λ j d lt. absurd (omega (arith, lt)); read = Consumes-nil given; leaves = Keeps-refl noted }

-- before the first line
pub stops_at_start : (raising : Raising) (first : NodeValue) (begun : List ℕ) (given noted synced from to : Option (List ℕ)) (stop : LiveStop) → stop ≡ Write → synced ≡ noted → SendsPart begun from to → StopsNode raising first begun given given noted noted synced from to stop
stops_at_start raising first begun given noted synced from to stop is all sent =
    inl (record { cause = is; unread = Consumes-nil given; unnoted = Keeps-refl noted; synced_are = synced_same noted synced all; sent = sent })
