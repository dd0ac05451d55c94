-- The signals of a ladder's states, as they are made.
use Rattle.std.proofs.Common.{◌≡◌, ℕ, ◌++◌, List, [], ◌∷◌, Bool, false, length, replicate, sum_by, sym, ap, ◌∙◌, subst}
use Rattle.std.proofs.lemmas.List.{length-replicate}
use Rattle.network.specs.Links.{Diagram}
use Rattle.declared_names.specs.declared.declarations.Declaration.{Declaration}
use Rattle.scan_steps.specs.Slots.{AreSlotsOf}
use Rattle.scan_steps.specs.declared.slot.Slot.{Slot}
use Rattle.gates.specs.declared.gates.Gate.{Gate}
use Rattle.gates.specs.declared.gates.Gate.TheVariants.{Off}
use Rattle.gates.specs.declared.signal.Signal.{Signal}
use Rattle.gates.specs.Gates.{Agrees}
use Rattle.gates.specs.Signals.{signal_value}
use Rattle.power_flow.specs.LadderValue.{LadderValue}
use Rattle.scan_gates.specs.declared.encoded.EncodedSlot.{EncodedSlot}
use Rattle.scan_gates.specs.Encoded.{bits_at, slots_at}
use Rattle.scan_gates.specs.States.{AreLike, state_signals}
use Rattle.text_commands.specs.Restarts.{first_slots, memories_off}
use Rattle.ladder_systems.specs.Remembering.{marked, memory_marks}
use Rattle.ladder_systems.specs.Steps.States.{AreOf, AreQuiet, none, off}
use Rattle.ladder_systems.specs.Steps.LadderStates.{AreStateSignals}
use Rattle.ladder_systems.proofs.FirstState.{none_agrees, off_at_none}
use Rattle.ladder_systems.proofs.Parts.{moment_same}
use Rattle.ladder_systems.proofs.Pushing.{state_signals-append}
use Rattle.ladder_systems.proofs.Quiet.{marked-map, marks_long, quiet_off, quiet_same}
use Rattle.ladder_systems.proofs.Shapes.{DeclaredAreLike, KindsAreShapes, first_declared}

-- states are just what the values of their signals say
abbrev pub StatesAreSignals : Type 0
StatesAreSignals = (v w : ℕ → Bool) (a b : List EncodedSlot) (m n : List Signal) → AreLike a b → bits_at v (state_signals a m) ≡ bits_at w (state_signals b n)
    → (slots_at v a ≡ slots_at w b) × (bits_at v m ≡ bits_at w n)

-- what stands before the first scan is as declared
pub first_of : (none_yet : List Gate) (ds : List Declaration) (first : List EncodedSlot) → none_yet ≡ Off ∷ [] → ((v : ℕ → Bool) → Agrees v none_yet → slots_at v first ≡ first_slots ds)
    → AreOf ds first
first_of none_yet ds first empty first_are =
    let Agreed : List Gate → Type 0 = λ g. Agrees none g in
    let First : List Slot → Type 0 = λ s. AreSlotsOf ds s in
    subst First (sym (first_are none (subst Agreed (sym empty) none_agrees))) (first_declared ds)

-- where those that are marked are the same and the others OFF, all memories are
pub memories_same : (marks : List Bool) (v w : ℕ → Bool) (m n : List Signal) → AreQuiet marks (bits_at v m) → AreQuiet marks (bits_at w n)
    → bits_at v (marked marks m) ≡ bits_at w (marked marks n) → bits_at v m ≡ bits_at w n
memories_same marks v w m n one two is =
    quiet_same marks (bits_at v m) (bits_at w n) one two (sym (marked-map (signal_value v) marks m) ∙ is ∙ marked-map (signal_value w) marks n)

pub state_made : StatesAreSignals → KindsAreShapes → DeclaredAreLike → (l : LadderValue) (none_yet gates : List Gate) (first slots : List EncodedSlot)
    (memories named bits : List Signal) (at_first : List Bool)
    → none_yet ≡ Off ∷ [] → ((v : ℕ → Bool) → Agrees v none_yet → slots_at v first ≡ first_slots l.declarations)
    → AreLike first slots → named ≡ state_signals slots [] → length memories ≡ length (memory_marks l.networks)
    → ((v : ℕ → Bool) → Agrees v gates → AreQuiet (memory_marks l.networks) (bits_at v memories))
    → bits ≡ named ++ marked (memory_marks l.networks) memories
    → at_first ≡ bits_at none (state_signals first (marked (memory_marks l.networks) (replicate (length (memory_marks l.networks)) off)))
    → AreStateSignals l gates slots memories bits at_first
state_made law kinds alike l none_yet gates first slots memories named bits at_first empty first_are like named_are many quiet is firsts =
    let marks = memory_marks l.networks in
    let whole : bits ≡ state_signals slots (marked marks memories) =
    is ∙ ap (λ n. n ++ marked marks memories) named_are ∙ sym (state_signals-append slots (marked marks memories)) in
    let Agreed : List Gate → Type 0 = λ g. Agrees none g in
    let at_none = first_are none (subst Agreed (sym empty) none_agrees) in
    let began : AreOf l.declarations first = first_of none_yet l.declarations first empty first_are in
    let of : AreOf l.declarations slots = kinds none none l.declarations first slots like began in
    let Quiet : List Bool → Type 0 = λ b. AreQuiet marks b in
    let off_quiet : AreQuiet marks (bits_at none (replicate (length marks) off)) = subst Quiet (sym (off_at_none (length marks))) (quiet_off marks) in
    record {
      states = record { of = of; many = many ∙ marks_long l.networks ∙ sym (length-replicate (sum_by (λ (d : Diagram). length d.elements) l.networks) false) };
      bits_are = whole;
      quiet = quiet;
      at_first = λ v agrees at.
          let same = law v none slots first (marked marks memories) (marked marks (replicate (length marks) off)) (alike none none l.declarations slots first of began)
          (ap (bits_at v) (sym whole) ∙ at ∙ firsts) in
          moment_same (slots_at v slots) (first_slots l.declarations) (bits_at v memories) (memories_off l.networks) (same.0 ∙ at_none)
          (memories_same marks v none memories (replicate (length marks) off) (quiet v agrees) off_quiet same.1 ∙ off_at_none (length marks) ∙ ap (λ n. replicate n false) (marks_long l.networks));
    }
