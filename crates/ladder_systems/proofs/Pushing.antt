-- Slots and signals that are pushed, one after the other.
use Rattle.std.proofs.Common.{◌≡◌, ℕ, ◌+◌, ◌<◌, ◌++◌, List, [], ◌∷◌, Bool, true, false, ◌&&◌, not, if◌then◌else◌, Some, length, get_or, take, drop, replicate, map, slice_get, sym, ap, ◌∙◌, refl, subst, arith}
use Rattle.std.specs.Option.{option_map}
use Rattle.std.proofs.Math.Seq.{take-append_seam}
use Rattle.std.proofs.lemmas.List.Elements.{AllZip-push}
use Rattle.std.specs.List.{flat_map}
use Rattle.std.proofs.lemmas.List.{append_assoc, at_drop_more, length-take, map-append, map_push, replicate_more, take_more}
use Rattle.drawings.specs.declared.place.Place.{Place}
use Rattle.power_flow.specs.declared.steps.circuit.Circuit.{Circuit}
use Rattle.power_flow.specs.Steps.Circuit.{circuit_diagram}
use Rattle.ladder_systems.specs.Remembering.{marked, memory_marks, remembers}
use Rattle.ladder_systems.specs.Steps.States.{AreQuiet}
use Rattle.ladder_systems.proofs.Quiet.{quiet_append}
use Rattle.lists.proofs.Places.{element_at, some_same}
use Rattle.std.proofs.lemmas.Option.{get_or_from_slice_get}
use Rattle.declared_names.specs.declared.declarations.Declaration.{Declaration}
use Rattle.declared_names.specs.declared.declarations.Declared.{Declared}
use Rattle.gates.specs.declared.signal.Signal.{Signal}
use Rattle.gates.specs.Signals.{signal_value}
use Rattle.scan_steps.specs.First.{slot_first}
use Rattle.scan_steps.specs.Slots.{variable_at}
use Rattle.scan_steps.specs.declared.slot.Slot.{Slot}
use Rattle.scan_gates.specs.declared.encoded.EncodedSlot.{EncodedSlot}
use Rattle.scan_gates.specs.Encoded.{bits_at, slot_at, slots_at}
use Rattle.scan_gates.specs.States.{AreLike, IsLike, slot_signals, state_signals}
use Rattle.text_commands.specs.Restarts.{first_slots, restarted}
use Rattle.text_commands.specs.Series.{set_value}

-- one more name of the declarations
pub first_more : (v : ℕ → Bool) (ds : List Declaration) (k : ℕ) (w : Declared) (done : List EncodedSlot) (s : EncodedSlot) → k < length ds
    → Some w ≡ option_map (λ (d : Declaration). d.declared) (slice_get ds k) → slots_at v done ≡ first_slots (take k ds) → slot_at v s ≡ slot_first w
    → slots_at v (done ++ s ∷ []) ≡ first_slots (take (k + 1) ds)
first_more v ds k w done s lt found was is =
    let there = element_at ds k lt in
    let e = there.0 in
    let same : w ≡ e.declared = some_same (found ∙ ap (option_map (λ (d : Declaration). d.declared)) there.1) in
    let here = get_or_from_slice_get ds k e e there.1 in
    map_push (slot_at v) done s ∙ ap (λ l. l ++ slot_at v s ∷ []) was ∙ ap (λ x. first_slots (take k ds) ++ x ∷ []) (is ∙ ap slot_first (same ∙ ap (λ (d : Declaration). d.declared) (sym here)))
    ∙ sym (map_push (λ (d : Declaration). slot_first d.declared) (take k ds) (get_or ds k e)) ∙ ap first_slots (sym (take_more ds k e lt))

-- one more slot
pub slot_pushed : (v : ℕ → Bool) (xs ys : List EncodedSlot) (i : ℕ) (d s : EncodedSlot) → i < length xs → slots_at v ys ≡ slots_at v (take i xs) → slot_at v s ≡ slot_at v (get_or xs i d)
    → slots_at v (ys ++ s ∷ []) ≡ slots_at v (take (i + 1) xs)
slot_pushed v xs ys i d s lt was is =
    map_push (slot_at v) ys s ∙ ap (λ l. l ++ slot_at v s ∷ []) was ∙ ap (λ x. slots_at v (take i xs) ++ x ∷ []) is ∙ sym (map_push (slot_at v) (take i xs) (get_or xs i d))
    ∙ ap (slots_at v) (sym (take_more xs i d lt))

-- one more slot of two lists
pub chosen_more : (v : ℕ → Bool) (c : Bool) (fresh slots chosen : List EncodedSlot) (i : ℕ) (d e s : EncodedSlot) → i < length fresh → i < length slots
    → slots_at v chosen ≡ (if c then slots_at v (take i fresh) else slots_at v (take i slots))
    → slot_at v s ≡ (if c then slot_at v (get_or fresh i d) else slot_at v (get_or slots i e))
    → slots_at v (chosen ++ s ∷ []) ≡ (if c then slots_at v (take (i + 1) fresh) else slots_at v (take (i + 1) slots))
chosen_more v true fresh slots chosen i d e s lt less was is = slot_pushed v fresh chosen i d s lt was is
chosen_more v false fresh slots chosen i d e s lt less was is = slot_pushed v slots chosen i e s less was is

and_true : (a : Bool) → (a && true) ≡ a
and_true true = refl
and_true false = refl

and_false : (a : Bool) → (a && false) ≡ false
and_false true = refl
and_false false = refl

-- one more memory
pub cleared_more : (v : ℕ → Bool) (c n : Bool) (memories cleared : List Signal) (i : ℕ) (d s : Signal) → i < length memories
    → bits_at v cleared ≡ (if c then replicate i false else bits_at v (take i memories)) → signal_value v s ≡ (signal_value v (get_or memories i d) && n) → n ≡ not c
    → bits_at v (cleared ++ s ∷ []) ≡ (if c then replicate (i + 1) false else bits_at v (take (i + 1) memories))
cleared_more v true n memories cleared i d s lt was is off =
    map_push (signal_value v) cleared s ∙ ap (λ l. l ++ signal_value v s ∷ []) was
    ∙ ap (λ x. replicate i false ++ x ∷ []) (is ∙ ap (λ b. signal_value v (get_or memories i d) && b) off ∙ and_false (signal_value v (get_or memories i d)))
    ∙ replicate_more i false
cleared_more v false n memories cleared i d s lt was is off =
    map_push (signal_value v) cleared s ∙ ap (λ l. l ++ signal_value v s ∷ []) was
    ∙ ap (λ x. bits_at v (take i memories) ++ x ∷ []) (is ∙ ap (λ b. signal_value v (get_or memories i d) && b) off ∙ and_true (signal_value v (get_or memories i d)))
    ∙ sym (map_push (signal_value v) (take i memories) (get_or memories i d)) ∙ ap (bits_at v) (sym (take_more memories i d lt))

-- memories behind the signals of all names
pub state_signals-append : (slots : List EncodedSlot) (memories : List Signal) → state_signals slots memories ≡ state_signals slots [] ++ memories
state_signals-append [] memories = refl
state_signals-append (s ∷ slots) memories =
    ap (λ l. slot_signals s ++ l) (state_signals-append slots memories) ∙ sym (append_assoc (slot_signals s) (state_signals slots []) memories)

-- one more name
pub state_signals-push : (slots : List EncodedSlot) (s : EncodedSlot) → state_signals (slots ++ s ∷ []) [] ≡ state_signals slots [] ++ slot_signals s
state_signals-push [] s = nil (slot_signals s)
  where
    nil : (l : List Signal) → l ++ [] ≡ l
    nil [] = refl
    nil (x ∷ l) = ap (λ m. x ∷ m) (nil l)
state_signals-push (a ∷ slots) s =
    ap (λ l. slot_signals a ++ l) (state_signals-push slots s) ∙ sym (append_assoc (slot_signals a) (state_signals slots []) (slot_signals s))

-- one more name's signals
pub bits_more : (slots : List EncodedSlot) (i : ℕ) (d : EncodedSlot) → i < length slots → state_signals (take (i + 1) slots) [] ≡ state_signals (take i slots) [] ++ slot_signals (get_or slots i d)
bits_more slots i d lt = ap (λ l. state_signals l []) (take_more slots i d lt) ∙ state_signals-push (take i slots) (get_or slots i d)

-- those of a name that is pushed, behind others
pub made_more : (before bits later : List Signal) (made next : List EncodedSlot) (s : EncodedSlot) → bits ≡ before ++ state_signals made [] → later ≡ bits ++ slot_signals s
    → next ≡ made ++ s ∷ [] → later ≡ before ++ state_signals next []
made_more before bits later made next s was is pushed =
    is ∙ ap (λ l. l ++ slot_signals s) was ∙ append_assoc before (state_signals made []) (slot_signals s) ∙ ap (λ l. before ++ l) (sym (state_signals-push made s))
    ∙ ap (λ l. before ++ state_signals l []) (sym pushed)

-- the same where these are listed from the first name on
pub listed_more : (slots : List EncodedSlot) (bits later : List Signal) (i : ℕ) (d s : EncodedSlot) → i < length slots → s ≡ get_or slots i d → bits ≡ state_signals (take i slots) []
    → later ≡ bits ++ slot_signals s → later ≡ state_signals (take (i + 1) slots) []
listed_more slots bits later i d s lt same was is =
    is ∙ ap (λ l. l ++ slot_signals s) was ∙ ap (λ x. state_signals (take i slots) [] ++ slot_signals x) same ∙ sym (bits_more slots i d lt)

-- one more variable that is kept
pub kept_more : (kept : List ℕ) (i d : ℕ) (fresh next slots : List Slot) → i < length kept → next ≡ set_value fresh (get_or kept i d) (variable_at slots (get_or kept i d))
    → restarted (drop (i + 1) kept) next slots ≡ restarted (drop i kept) fresh slots
kept_more kept i d fresh next slots lt is =
    ap (λ l. restarted (drop (i + 1) kept) l slots) is ∙ sym (at_drop_more (λ l. restarted l fresh slots) kept i d lt)

-- one more slot that is like the other
pub like_pushed : (xs made later : List EncodedSlot) (i : ℕ) (d y : EncodedSlot) → i < length xs → AreLike (take i xs) made → IsLike (get_or xs i d) y → later ≡ made ++ y ∷ []
    → AreLike (take (i + 1) xs) later
like_pushed xs made later i d y lt was like is = rw (is, take_more xs i d lt) (AllZip-push IsLike (take i xs) made (get_or xs i d) y was like)

-- all of a vector is written
pub written : {X : Type 0} (n : ℕ) (new items : List X) → length new ≡ n → take n (new ++ drop (length new) items) ≡ new
written n new items long = ap (λ k. take k (new ++ drop (length new) items)) (sym long) ∙ take-append_seam new (drop (length new) items)

pub append_nil : {A : Type 0} (l : List A) → l ++ [] ≡ l
append_nil [] = refl
append_nil (x ∷ l) = ap (λ m. x ∷ m) (append_nil l)

-- one more mark
marked-push : {A : Type 0} (marks : List Bool) (mark : Bool) (xs : List A) (x : A) → length xs ≡ length marks → marked (marks ++ mark ∷ []) (xs ++ x ∷ []) ≡ marked marks xs ++ marked (mark ∷ []) (x ∷ [])
marked-push [] mark [] x long = refl
marked-push [] mark (y ∷ xs) x long = absurd cc
marked-push (m ∷ marks) mark [] x long = absurd cc
marked-push (true ∷ marks) mark (y ∷ xs) x long = ap (λ l. y ∷ l) (marked-push marks mark xs x (omega arith))
marked-push (false ∷ marks) mark (y ∷ xs) x long = marked-push marks mark xs x (omega arith)

pub marked_more : {A : Type 0} (marks : List Bool) (i : ℕ) (d : Bool) (before bits later xs next : List A) (x : A) → i < length marks → length xs ≡ i
    → bits ≡ before ++ marked (take i marks) xs → later ≡ bits ++ marked (get_or marks i d ∷ []) (x ∷ []) → next ≡ xs ++ x ∷ []
    → later ≡ before ++ marked (take (i + 1) marks) next
marked_more marks i d before bits later xs next x lt long was is pushed =
    let many : length xs ≡ length (take i marks) = simp length-take (omega (arith, long)) in
    is ∙ ap (λ l. l ++ marked (get_or marks i d ∷ []) (x ∷ [])) was ∙ append_assoc before (marked (take i marks) xs) (marked (get_or marks i d ∷ []) (x ∷ []))
    ∙ ap (λ l. before ++ l) (sym (marked-push (take i marks) (get_or marks i d) xs x many) ∙ ap (λ m. marked m (xs ++ x ∷ [])) (sym (take_more marks i d lt)) ∙ ap (marked (take (i + 1) marks)) (sym pushed))

-- so it is where both are taken from lists
pub marked_next : {A : Type 0} (marks : List Bool) (xs before bits later : List A) (i : ℕ) (d : Bool) (e : A) → i < length marks → length xs ≡ length marks
    → bits ≡ before ++ marked (take i marks) (take i xs) → later ≡ bits ++ marked (get_or marks i d ∷ []) (get_or xs i e ∷ [])
    → later ≡ before ++ marked (take (i + 1) marks) (take (i + 1) xs)
marked_next marks xs before bits later i d e lt long was is =
    let also : i < length xs = omega (arith, long) in
    marked_more marks i d before bits later (take i xs) (take (i + 1) xs) (get_or xs i e) lt (simp length-take (omega (arith, long))) was is (take_more xs i e also)

pub quiet_more : (v : ℕ → Bool) (marks : List Bool) (i : ℕ) (d : Bool) (xs next : List Signal) (x : Signal) → i < length marks → AreQuiet (take i marks) (bits_at v xs)
    → AreQuiet (get_or marks i d ∷ []) (bits_at v (x ∷ [])) → next ≡ xs ++ x ∷ [] → AreQuiet (take (i + 1) marks) (bits_at v next)
quiet_more v marks i d xs next x lt was here pushed =
    let Marks : List Bool → Type 0 = λ m. AreQuiet m (bits_at v next) in
    let Bits : List Bool → Type 0 = λ b. AreQuiet (take i marks ++ get_or marks i d ∷ []) b in
    subst Marks (sym (take_more marks i d lt))
    (subst Bits (sym (ap (bits_at v) pushed ∙ map-append (signal_value v) xs (x ∷ []))) (quiet_append (take i marks) (get_or marks i d ∷ []) (bits_at v xs) (bits_at v (x ∷ [])) was here))

-- the marks of circuits are those of their networks
pub marks_of : (rails : List Place) (circuits : List Circuit) → memory_marks (map (circuit_diagram rails) circuits) ≡ flat_map (λ (c : Circuit). map remembers c.elements.items) circuits
marks_of rails [] = refl
marks_of rails (c ∷ circuits) = ap (λ l. map remembers c.elements.items ++ l) (marks_of rails circuits)
