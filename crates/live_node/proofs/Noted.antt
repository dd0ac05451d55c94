-- A line that is answered is noted whole, or changes nothing.
use Rattle.std.proofs.Common.{◌≡◌, ◌⊎◌, Result, Ok, Err, IfErr, OnOk, inl, inr, ℕ, ◌++◌, ◌∙◌, List, [], Option, sym, ap, subst, arith}
use Rattle.live_node.specs.NodeValue.{NodeValue}
use Rattle.live_node.specs.NodeAnswers.{Raising, IsAnswered}
use Rattle.live_node.specs.declared.node_stop.NodeStop.{NodeStop}
use Rattle.live_node.specs.declared.node_stop.NodeStop.TheVariants as ends
use Rattle.live_node.specs.Stops.{IsNoteOf, NotesPart, NotesUnanswered}
use Rattle.live_node.specs.Steps.Sent.{all_sent}
use Rattle.live_node.specs.Steps.Unanswered.{noted_or_same}
use Rattle.live_node.specs.Syncing.{IsIdleOrDone}

-- where it changed something, its note was begun
pub note_begun : (raising : Raising) (old new : NodeValue) (line : List ℕ) (noted_old noted_new : Option (List ℕ)) (out_old out_new : List ℕ) → IsAnswered raising old new line noted_old noted_new out_old out_new → (new ≡ old → ⊥) → NotesPart raising old line noted_old noted_new
note_begun raising old new line noted_old noted_new out_old out_new h changed = by (noted_or_same raising old new line h.note h.text h.answers)
  where
    by : ((new ≡ old) × (h.note ≡ [])) ⊎ IsNoteOf raising old line h.note → NotesPart raising old line noted_old noted_new
    by (inl none) = absurd (changed none.0)
    by (inr is) = (h.note, is, all_sent h.note noted_old noted_new h.noted)

-- an answer was put behind those that wait
pub held_answer : (raising : Raising) (old new : NodeValue) (line : List ℕ) (noted_old noted_new : Option (List ℕ)) (none answer waiting held : List ℕ) → IsAnswered raising old new line noted_old noted_new none answer → none ≡ [] → held ≡ waiting ++ answer
    → IsAnswered raising old new line noted_old noted_new waiting held
held_answer raising old new line noted_old noted_new none answer waiting held h is behind = record {
  note = h.note;
  text = h.text;
  answers = h.answers;
  noted = h.noted;
  written = behind ∙ ap (λ l. waiting ++ l) (h.written ∙ ap (λ l. l ++ h.text) is);
}

-- its note didn't come to the disk, or it did
pub unsynced : {T : Type 0} (r : Result T NodeStop) (raising : Raising) (old new : NodeValue) (line : List ℕ) (noted_old noted_mid noted_new : Option (List ℕ)) (out_old out_new : List ℕ) → IfErr r (λ why. why ≡ ends.Note) → IsAnswered raising old new line noted_old noted_mid out_old out_new
    → noted_new ≡ noted_mid → (new.lines ≡ old.lines → ⊥) → IfErr r (λ why. NotesUnanswered raising old line why noted_old noted_new)
unsynced (Ok x) raising old new line noted_old noted_mid noted_new out_old out_new is h same changed = tt
unsynced (Err why) raising old new line noted_old noted_mid noted_new out_old out_new is h same changed =
    subst (λ found. NotesUnanswered raising old line found noted_old noted_new) (sym is)
    (subst (NotesPart raising old line noted_old) (sym same) (note_begun raising old new line noted_old noted_mid out_old out_new h (λ e. changed (ap (λ (s : NodeValue). s.lines) e))))

pub answered_then : {T : Type 0} (r : Result T NodeStop) (raising : Raising) (old new last : NodeValue) (line : List ℕ) (noted_old noted_mid noted_new : Option (List ℕ)) (out_old out_new : List ℕ) → IsAnswered raising old new line noted_old noted_mid out_old out_new → noted_new ≡ noted_mid → last ≡ new
    → OnOk r (IsAnswered raising old last line noted_old noted_new out_old out_new)
answered_then (Ok x) raising old new last line noted_old noted_mid noted_new out_old out_new h same is =
    subst (λ s. IsAnswered raising old s line noted_old noted_new out_old out_new) (sym is) (subst (λ n. IsAnswered raising old new line noted_old n out_old out_new) (sym same) h)
answered_then (Err why) raising old new last line noted_old noted_mid noted_new out_old out_new h same is = tt

-- where nothing was noted, all that was on the disk still is
pub idle_synced : {N : Type 0} (noted synced : N → Option (List ℕ)) (old new : N) (before after : ℕ) → IsIdleOrDone old new before after → after ≡ before → synced old ≡ noted old → synced new ≡ noted new
idle_synced noted synced old new before after (inl h) same all = subst (λ n. synced n ≡ noted n) (sym h) all
idle_synced noted synced old new before after (inr h) same all = absurd (omega (arith, h, same))

pub synced_then : {T : Type 0} (r : Result T NodeStop) (before now : Type 0) → OnOk r now → OnOk r (before → now)
synced_then (Ok x) before now h = λ all. h
synced_then (Err why) before now h = tt
