-- Lines that were done one after the other, and answered together.
use Rattle.std.proofs.Common.{◌≡◌, ◌⊎◌, Result, Ok, Err, IfErr, OnOk, inl, inr, ℕ, ◌++◌, true, false, Bool, List, [], ◌∷◌, Option, Some, None, refl, sym, ap, ◌∙◌, subst, append_assoc, append-nil}
use Rattle.std.specs.Prelude.{reverse}
use Rattle.std.specs.List.{AllByRecursion, flat_map}
use Rattle.std.specs.Result.{IsErrAnd}
use Rattle.std.specs.Io.KnownBytes.{Appends, Consumes, Keeps, append_known}
use Rattle.std.proofs.KnownBytes.{Appends-nil, Appends-trans, Consumes-trans, Keeps-refl}
use Rattle.std.proofs.lemmas.List.{reverse-append}
use Rattle.std.proofs.lemmas.List.Concat.{flat_map-append}
use Rattle.lists.proofs.Results.{kept_fault}
use Rattle.text_lines.specs.Lines.{HasNoFeed}
use Rattle.world.proofs.LinesRead.{fed}
use Rattle.live_node.specs.declared.live_stop.LiveStop.{LiveStop}
use Rattle.live_node.specs.declared.live_stop.LiveStop.TheVariants.{Node, Read, Write, Memory}
use Rattle.live_node.specs.declared.node_stop.NodeStop.{NodeStop}
use Rattle.live_node.specs.declared.node_stop.NodeStop.TheVariants as ends
use Rattle.live_node.specs.NodeValue.{NodeValue}
use Rattle.live_node.specs.NodeAnswers.{Raising}
use Rattle.live_node.specs.LiveNode.{HaveAnswered, WritesNode}
use Rattle.live_node.specs.Keeping.{HasNotFailed}
use Rattle.live_node.specs.Stops.{IsNodes, LeavesLine, LeavesUntold, ReadsNoLine, StopsNode, StopsTogether, StopsWithin}
use Rattle.live_node.specs.Syncing.{Grows}
use Rattle.live_node.specs.Steps.Answering.{HasAnsweredNext, IsUnwritten}
use Rattle.live_node.specs.Steps.Growing.{grows_trans, keeps_grow, synced_same}
use Rattle.live_node.specs.Steps.Unanswered.{unanswered_noted}
use Rattle.live_node.specs.Steps.Together.{HasAnsweredTogether, HasDone, Stands, StandsAtEnd, StopsAtThem, StopsBehindDone, told_cause}
use Rattle.live_node.proofs.Standing.{fed_each, lines_answered, more_written, read_fed, stands_ended, stands_first}
use Rattle.live_node.proofs.Stopping.{stops_endless}

-- these lines and those
whole_both : (lines more : List (List ℕ)) → AllByRecursion HasNoFeed lines → AllByRecursion HasNoFeed more → AllByRecursion HasNoFeed (lines ++ more)
whole_both [] more p q = q
whole_both (line ∷ lines) more p q = (p.0, whole_both lines more p.1 q)

answered_behind : (raising : Raising) (first mid last : NodeValue) (before behind : List (List ℕ)) (notes text more_notes more_text : List ℕ) → HaveAnswered raising first before mid notes text → HaveAnswered raising mid behind last more_notes more_text
    → HaveAnswered raising first (behind ++ before) last (notes ++ more_notes) (text ++ more_text)
answered_behind raising first mid last before [] notes text more_notes more_text h m =
    let n : notes ++ more_notes ≡ notes = ap (λ l. notes ++ l) m.1 ∙ append-nil notes in
    let t : text ++ more_text ≡ text = ap (λ l. text ++ l) m.2 ∙ append-nil text in
    subst (λ s. HaveAnswered raising first before s (notes ++ more_notes) (text ++ more_text)) (sym m.0)
    (subst (λ l. HaveAnswered raising first before mid l (text ++ more_text)) (sym n) (subst (HaveAnswered raising first before mid notes) (sym t) h))
answered_behind raising first mid last before (line ∷ behind) notes text more_notes more_text h (s, early, early_text, note, answer, m, a, notes_are, text_is) = (
  s,
  notes ++ early,
  text ++ early_text,
  note,
  answer,
  answered_behind raising first mid s before behind notes text early early_text h m,
  a,
  ap (λ l. notes ++ l) notes_are ∙ sym (append_assoc notes early note),
  ap (λ l. text ++ l) text_is ∙ sym (append_assoc text early_text answer),
)

pub stands_both : (raising : Raising) (first mid last : NodeValue) (begun : List ℕ) (lines more : List (List ℕ)) (given now left noted_old noted_mid noted_new from written to : Option (List ℕ)) → Stands raising first mid begun lines given now noted_old noted_mid from written
    → Stands raising mid last [] more now left noted_mid noted_new written to → Stands raising first last begun (lines ++ more) given left noted_old noted_new from to
stands_both raising first mid last begun lines more given now left noted_old noted_mid noted_new from written to s m = record {
  whole = whole_both lines more s.whole m.whole;
  read =
      subst (Consumes given left) (sym (flat_map-append (λ line. line ++ 10 ∷ []) lines more))
      (Consumes-trans given now left (flat_map (λ line. line ++ 10 ∷ []) lines) (flat_map (λ line. line ++ 10 ∷ []) more) s.read m.read);
  notes = s.notes ++ m.notes;
  text = s.text ++ m.text;
  answered =
      subst (λ ls. HaveAnswered raising first ls last (s.notes ++ m.notes) (s.text ++ m.text)) (sym (reverse-append lines more))
      (answered_behind raising first mid last (reverse lines) (reverse more) s.notes s.text m.notes m.text s.answered m.answered);
  noted = Appends-trans noted_old noted_mid noted_new s.notes m.notes s.noted m.noted;
  written = more_written from written to begun s.text m.text s.written m.written;
}

-- nothing was done
pub stands_none : (raising : Raising) (s : NodeValue) (given noted from : Option (List ℕ)) → Stands raising s s [] [] given given noted noted from from
stands_none raising s given noted from = stands_first raising s [] given noted from from (Appends-nil from)

-- what waited was written
stands_written : (raising : Raising) (first last : NodeValue) (lines : List (List ℕ)) (given left noted_old noted_new from to : Option (List ℕ)) (waiting : List ℕ) → Stands raising first last [] lines given left noted_old noted_new (Some []) (Some waiting) → Appends from to waiting
    → Stands raising first last [] lines given left noted_old noted_new from to
stands_written raising first last lines given left noted_old noted_new from to waiting s h = record {
  whole = s.whole;
  read = s.read;
  notes = s.notes;
  text = s.text;
  answered = s.answered;
  noted = s.noted;
  written = subst (Appends from to) s.written h;
}

known_behind : (from : Option (List ℕ)) (bs : List ℕ) → Appends from (append_known from bs) bs
known_behind None bs = tt
known_behind (Some x) bs = refl

known_kept : (from to : Option (List ℕ)) (bs waiting : List ℕ) → Appends from to waiting → waiting ≡ bs → Keeps (append_known from bs) to
known_kept None to bs waiting h is = tt
known_kept (Some x) None bs waiting h is = absurd h
known_kept (Some x) (Some y) bs waiting h is = h ∙ ap (λ l. x ++ l) is

known_more : (from to : Option (List ℕ)) (bs more waiting : List ℕ) → Appends from to waiting → waiting ≡ bs ++ more → Appends (append_known from bs) to more
known_more None to bs more waiting h is = tt
known_more (Some x) None bs more waiting h is = absurd h
known_more (Some x) (Some y) bs more waiting h is = h ∙ ap (λ l. x ++ l) is ∙ sym (append_assoc x bs more)

last_written : (raising : Raising) (mid new : NodeValue) (now left noted noted_new from to : Option (List ℕ)) (bs waiting : List ℕ) → HasAnsweredNext raising mid new now left noted noted_new (Some bs) (Some waiting) false → Appends from to waiting
    → HasAnsweredNext raising mid new now left noted noted_new (append_known from bs) to false
last_written raising mid new now left noted noted_new from to bs waiting (inl e) h =
    inl (record { same = e.same; none = e.none; end = e.end; unnoted = e.unnoted; unwritten = known_kept from to bs waiting h e.unwritten })
last_written raising mid new now left noted noted_new from to bs waiting (inr a) h = inr (record {
  line = a.line;
  taken = a.taken;
  note = a.note;
  text = a.text;
  answered = a.answered;
  noted = a.noted;
  written = known_more from to bs a.text waiting h a.written;
})

at_end : (raising : Raising) (old mid new : NodeValue) (lines : List (List ℕ)) (given now left noted_old noted noted_new written from to : Option (List ℕ)) (waiting : List ℕ) → Stands raising old mid [] lines given now noted_old noted (Some []) written
    → HasAnsweredNext raising mid new now left noted noted_new written (Some waiting) false → Appends from to waiting → StandsAtEnd raising old new given left noted_old noted_new from to
at_end raising old mid new lines given now left noted_old noted noted_new None from to waiting s n h = absurd s.written
at_end raising old mid new lines given now left noted_old noted noted_new (Some bs) from to waiting s n h = record {
  lines = lines;
  mid = mid;
  now = now;
  noted = noted;
  written = append_known from bs;
  stands = stands_written raising old mid lines given now noted_old noted from (append_known from bs) bs s (known_behind from bs);
  last = last_written raising mid new now left noted noted_new from to bs waiting n h;
}

-- lines were done, and then answered
pub told_done : (raising : Raising) (old new : NodeValue) (given left noted_old noted_new from to : Option (List ℕ)) (waiting : List ℕ) (more : Bool) → HasDone raising old new given left noted_old noted_new waiting more → Appends from to waiting
    → HasAnsweredTogether raising old new given left noted_old noted_new from to more
told_done raising old new given left noted_old noted_new from to waiting true d h = (d.0, stands_written raising old new d.0 given left noted_old noted_new from to waiting d.1 h)
told_done raising old new given left noted_old noted_new from to waiting false d h =
    at_end raising old d.mid new d.lines given d.now left noted_old d.noted noted_new d.written from to waiting d.stands d.last h

line_noted : (raising : Raising) (s : NodeValue) (stop : LiveStop) (line : List ℕ) (old new : Option (List ℕ)) → LeavesLine raising s stop line old new → Grows old new
line_noted raising s (Node why) line old new h = unanswered_noted raising s line why old new h.1
line_noted raising s Read line old new h = keeps_grow old new h
line_noted raising s Write line old new h = absurd h
line_noted raising s Memory line old new h = keeps_grow old new h

-- lines were done and answered, and the node stopped at the next one
pub told_stop : (raising : Raising) (old : NodeValue) (given left noted_old noted_new synced from to : Option (List ℕ)) (waiting : List ℕ) (stop : LiveStop) → StopsBehindDone raising old given left noted_old noted_new waiting stop → synced ≡ noted_new → Appends from to waiting
    → StopsAtThem raising old given left noted_old noted_new synced from to stop
told_stop raising old given left noted_old noted_new synced from to waiting stop d is h =
    record {
      lines = d.lines;
      last = d.last;
      now = d.now;
      noted = d.noted;
      written = to;
      stands = stands_written raising old d.last d.lines given d.now noted_old d.noted from to waiting d.stands h;
      synced_are = subst (Grows d.noted) (sym is) (line_noted raising d.last stop d.stops.line d.noted noted_new d.stops.leaves);
      stops = inl (d.stops, Keeps-refl to, is);
    }

-- what stands before those that weren't answered
at_them : (raising : Raising) (old : NodeValue) (given left noted_old noted_new synced from to : Option (List ℕ)) (stop : LiveStop) → Grows noted_old synced → StopsTogether raising old given left noted_old noted_new synced from to stop
    → StopsAtThem raising old given left noted_old noted_new synced from to stop
at_them raising old given left noted_old noted_new synced from to stop grown h = record {
  lines = [];
  last = old;
  now = given;
  noted = noted_old;
  written = from;
  stands = stands_none raising old given noted_old from;
  synced_are = grown;
  stops = inr h;
}

-- no more is read
pub reads_no_more : (raising : Raising) (s : NodeValue) (left noted : Option (List ℕ)) → ReadsNoLine raising s left left noted noted
reads_no_more raising s left noted = inl (stops_endless raising s left noted)

-- lines were done, and not told
pub untold_done : (raising : Raising) (old new : NodeValue) (given left noted_old noted_new synced from to : Option (List ℕ)) (waiting : List ℕ) (more : Bool) (stop : LiveStop) → HasDone raising old new given left noted_old noted_new waiting more → Grows noted_old synced
    → LeavesUntold stop waiting noted_new synced from to → StopsAtThem raising old given left noted_old noted_new synced from to stop
untold_done raising old new given left noted_old noted_new synced from to waiting true stop (lines, s) grown leaves =
    at_them raising old given left noted_old noted_new synced from to stop grown (record {
      bytes = fed lines;
      now = left;
      read = read_fed given left lines s.read;
      whole = inl (lines, fed_each lines);
      last = new;
      notes = s.notes;
      text = s.text;
      done = lines_answered raising old new lines s.notes s.text s.whole s.answered;
      noted_mid = noted_new;
      noted = s.noted;
      untold = stop;
      leaves = subst (λ t. LeavesUntold stop t noted_new synced from to) s.written leaves;
      stops = inr (refl, reads_no_more raising new left noted_new);
    })
untold_done raising old new given left noted_old noted_new synced from to waiting false stop d grown leaves =
    let w : WritesNode raising old new [] given left noted_old noted_new (Some []) (Some waiting) =
    stands_ended raising old d.mid new [] d.lines given d.now left noted_old d.noted noted_new (Some []) d.written (Some waiting) d.stands d.last in
    at_them raising old given left noted_old noted_new synced from to stop grown (record {
      bytes = w.bytes;
      now = left;
      read = w.read;
      whole = inr w.end;
      last = new;
      notes = w.notes;
      text = w.text;
      done = w.answered;
      noted_mid = noted_new;
      noted = w.noted;
      untold = stop;
      leaves = subst (λ t. LeavesUntold stop t noted_new synced from to) w.written leaves;
      stops = inr (refl, reads_no_more raising new left noted_new);
    })

less_noted : (stop : LiveStop) (text : List ℕ) (noted noted_new synced from to : Option (List ℕ)) → Grows noted noted_new → LeavesUntold stop text noted_new synced from to → LeavesUntold stop text noted synced from to
less_noted (Node why) text noted noted_new synced from to grown h = h
less_noted Read text noted noted_new synced from to grown h = h
less_noted Write text noted noted_new synced from to grown h = (grows_trans noted noted_new synced grown h.0, h.1)
less_noted Memory text noted noted_new synced from to grown h = h

-- lines were done, the node stopped at the next one, and they weren't told
untold_stop : (raising : Raising) (old : NodeValue) (given left noted_old noted_new synced from to : Option (List ℕ)) (waiting : List ℕ) (stop untold told : LiveStop) (d : StopsBehindDone raising old given left noted_old noted_new waiting stop) → Grows noted_old synced
    → LeavesUntold untold waiting noted_new synced from to → (IsNodes told × StopsWithin raising d.last d.now left d.noted noted_new told) ⊎ ((told ≡ untold) × ReadsNoLine raising d.last d.now left d.noted noted_new)
    → StopsAtThem raising old given left noted_old noted_new synced from to told
untold_stop raising old given left noted_old noted_new synced from to waiting stop untold told d grown leaves stops =
    let more = line_noted raising d.last stop d.stops.line d.noted noted_new d.stops.leaves in
    at_them raising old given left noted_old noted_new synced from to told grown (record {
      bytes = fed d.lines;
      now = d.now;
      read = read_fed given d.now d.lines d.stands.read;
      whole = inl (d.lines, fed_each d.lines);
      last = d.last;
      notes = d.stands.notes;
      text = d.stands.text;
      done = lines_answered raising old d.last d.lines d.stands.notes d.stands.text d.stands.whole d.stands.answered;
      noted_mid = d.noted;
      noted = d.stands.noted;
      untold = untold;
      leaves = less_noted untold d.stands.text d.noted noted_new synced from to more (subst (λ t. LeavesUntold untold t noted_new synced from to) d.stands.written leaves);
      stops = stops;
    })

by_cause : (raising : Raising) (old : NodeValue) (given left noted_old noted_new synced from to : Option (List ℕ)) (waiting : List ℕ) (stop untold : LiveStop) → StopsBehindDone raising old given left noted_old noted_new waiting stop → Grows noted_old synced
    → LeavesUntold untold waiting noted_new synced from to → StopsAtThem raising old given left noted_old noted_new synced from to (told_cause stop (Err untold))
by_cause raising old given left noted_old noted_new synced from to waiting (Node why) untold d grown leaves =
    untold_stop raising old given left noted_old noted_new synced from to waiting (Node why) untold (Node why) d grown leaves (inl (tt, d.stops))
by_cause raising old given left noted_old noted_new synced from to waiting Read untold d grown leaves =
    untold_stop raising old given left noted_old noted_new synced from to waiting Read untold untold d grown leaves (inr (refl, inl d.stops))
by_cause raising old given left noted_old noted_new synced from to waiting Write untold d grown leaves = absurd d.stops.read
by_cause raising old given left noted_old noted_new synced from to waiting Memory untold d grown leaves =
    untold_stop raising old given left noted_old noted_new synced from to waiting Memory untold untold d grown leaves (inr (refl, inr d.stops))

-- what waits isn't written
pub unwritten_told : {T : Type 0} (r : Result T LiveStop) (text : List ℕ) (noted synced from to : Option (List ℕ)) → synced ≡ noted → IfErr r (IsUnwritten text from to) → IfErr r (λ stop. LeavesUntold stop text noted synced from to)
unwritten_told (Ok x) text noted synced from to all h = tt
unwritten_told (Err stop) text noted synced from to all h = subst (λ s. LeavesUntold s text noted synced from to) (sym h.0) (synced_same noted synced all, h.1)

pub unsynced_told : {T : Type 0} (r : Result T LiveStop) (why : NodeStop) (text : List ℕ) (noted synced from : Option (List ℕ)) → why ≡ ends.Note → IsErrAnd r (λ stop. stop ≡ Node why) → IfErr r (λ stop. LeavesUntold stop text noted synced from from)
unsynced_told r why text noted synced from is stop = kept_fault (Node why) (λ stop. LeavesUntold stop text noted synced from from) r stop (is, Keeps-refl from)

told_itself : (stop : LiveStop) (x : Unit {0}) → told_cause stop (Ok x) ≡ stop
told_itself (Node why) x = refl
told_itself Read x = refl
told_itself Write x = refl
told_itself Memory x = refl

-- the node stopped, and what waits was told, or wasn't
pub stop_after : (r : Result (Unit {0}) LiveStop) (raising : Raising) (old : NodeValue) (given left noted_old noted_new noted_now synced from to : Option (List ℕ)) (waiting : List ℕ) (stop : LiveStop) → StopsBehindDone raising old given left noted_old noted_new waiting stop
    → Grows noted_old synced → noted_now ≡ noted_new → OnOk r (Appends from to waiting) → OnOk r (synced ≡ noted_now) → IfErr r (λ why. LeavesUntold why waiting noted_now synced from to) → StopsAtThem raising old given left noted_old noted_now synced from to (told_cause stop r)
stop_after (Ok x) raising old given left noted_old noted_new noted_now synced from to waiting stop d grown same told all untold =
    subst (StopsAtThem raising old given left noted_old noted_now synced from to) (sym (told_itself stop x))
    (subst (λ n. StopsAtThem raising old given left noted_old n synced from to stop) (sym same) (told_stop raising old given left noted_old noted_new synced from to waiting stop d (all ∙ same) told))
stop_after (Err why) raising old given left noted_old noted_new noted_now synced from to waiting stop d grown same told all untold =
    subst (λ n. StopsAtThem raising old given left noted_old n synced from to (told_cause stop (Err why))) (sym same)
    (by_cause raising old given left noted_old noted_new synced from to waiting stop why d grown (subst (λ n. LeavesUntold why waiting n synced from to) same untold))

-- where the cause that is told isn't the node's own, the node's isn't
pub unfailed_before : (T : Type 0) (stop : LiveStop) (told : Result (Unit {0}) LiveStop) → HasNotFailed {T = T} (Err (told_cause stop told)) → HasNotFailed {T = T} (Err stop)
unfailed_before T (Node why) told h = h
unfailed_before T Read told h = tt
unfailed_before T Write told h = tt
unfailed_before T Memory told h = tt

-- behind lines that were answered before
pub stops_behind : (raising : Raising) (first mid : NodeValue) (begun : List ℕ) (lines : List (List ℕ)) (given now left noted_old noted_mid noted_new synced from written to : Option (List ℕ)) (stop : LiveStop) → Stands raising first mid begun lines given now noted_old noted_mid from written
    → StopsAtThem raising mid now left noted_mid noted_new synced written to stop → StopsNode raising first begun given left noted_old noted_new synced from to stop
stops_behind raising first mid begun lines given now left noted_old noted_mid noted_new synced from written to stop s h =
    let b = stands_both raising first mid h.last begun lines h.lines given now h.now noted_old noted_mid h.noted from written h.written s h.stands in
    inr (record {
      lines = lines ++ h.lines;
      whole = b.whole;
      now = h.now;
      read = b.read;
      last = h.last;
      notes = b.notes;
      text = b.text;
      answered = b.answered;
      noted_mid = h.noted;
      noted = b.noted;
      synced_are = h.synced_are;
      mid = h.written;
      written = b.written;
      stops = h.stops;
    })

-- and nothing more was left
pub ended_behind : (raising : Raising) (first mid last : NodeValue) (begun : List ℕ) (lines : List (List ℕ)) (given now left noted_old noted_mid noted_new from written to : Option (List ℕ)) → Stands raising first mid begun lines given now noted_old noted_mid from written
    → StandsAtEnd raising mid last now left noted_mid noted_new written to → WritesNode raising first last begun given left noted_old noted_new from to
ended_behind raising first mid last begun lines given now left noted_old noted_mid noted_new from written to s e =
    let b = stands_both raising first mid e.mid begun lines e.lines given now e.now noted_old noted_mid e.noted from written e.written s e.stands in
    stands_ended raising first e.mid last begun (lines ++ e.lines) given e.now left noted_old e.noted noted_new from e.written to b e.last

-- and no line more is read
pub stops_endlessly : (raising : Raising) (first last : NodeValue) (begun : List ℕ) (lines : List (List ℕ)) (given left noted_old noted_new synced from to : Option (List ℕ)) → Stands raising first last begun lines given left noted_old noted_new from to → synced ≡ noted_new
    → StopsNode raising first begun given left noted_old noted_new synced from to Read
stops_endlessly raising first last begun lines given left noted_old noted_new synced from to s all = inr (record {
  lines = lines;
  whole = s.whole;
  now = left;
  read = s.read;
  last = last;
  notes = s.notes;
  text = s.text;
  answered = s.answered;
  noted_mid = noted_new;
  noted = s.noted;
  synced_are = synced_same noted_new synced all;
  mid = to;
  written = s.written;
  stops = inl (stops_endless raising last left noted_new, Keeps-refl to, all);
})
