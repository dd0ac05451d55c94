-- Variables that are set before a scan.
use Rattle.std.proofs.Common.{◌≡◌, ℕ, suc, ◌+◌, ◌<◌, ◌≤◌, ◌++◌, List, [], ◌∷◌, Bool, true, false, if◌then◌else◌, Some, None, length, drop, replicate, set, get_or, refl, sym, ap, ◌∙◌, arith}
use Rattle.std.proofs.lemmas.List.{drop_all, get_or-map, length-map, length-replicate}
use Rattle.std.proofs.Math.Seq.{drop-cons}
use Rattle.std_blocks.specs.declared.value.Value.TheVariants.{Bool as BoolValue}
use Rattle.scan_steps.specs.declared.slot.Slot.{Slot}
use Rattle.scan_steps.specs.declared.slot.Slot.TheVariants.{Variable}
use Rattle.verifying.specs.declared.setup.Setting.{Setting}
use Rattle.gates.specs.declared.signal.Signal.{Signal}
use Rattle.gates.specs.Signals.{signal_value}
use Rattle.scan_gates.specs.Encoded.{bits_at}
use Rattle.power_flow.specs.Meaning.{Moment, moment}
use Rattle.text_commands.specs.Restarts.{first_slots, memories_off, restarted}
use Rattle.verifying.specs.Runs.{SetupValue, assigned, digits_of, opened, opened_by, restarts_in, settings_of, width}
use Rattle.ladder_systems.proofs.Parts.{moment_same}

pub assigned-append : (a b : List Setting) (slots : List Slot) → assigned (a ++ b) slots ≡ assigned b (assigned a slots)
assigned-append [] b slots = refl
assigned-append (s ∷ a) b slots = assigned-append a b (set slots s.place (Variable s.value))

-- the settings of a row from one place on, and from the next one on
pub row_next : (free : List ℕ) (row : List Bool) (i j d : ℕ) (on : Bool) (slots : List Slot) → i < length free → length free ≤ length row → j ≡ suc i → get_or row i false ≡ on
    → assigned (settings_of (drop j free) (drop j row)) (set slots (get_or free i d) (Variable (BoolValue on))) ≡ assigned (settings_of (drop i free) (drop i row)) slots
row_next free row i j d on slots within long e here =
    let also : i < length row = omega arith in
    rw (e, drop-cons free i d within, drop-cons row i false also, here) refl

-- the same by signals
pub row_next_of : (v : ℕ → Bool) (free : List ℕ) (row : List Signal) (i d : ℕ) (e : Signal) (slots next : List Slot) → i < length free → length free ≤ length row
    → next ≡ set slots (get_or free i d) (Variable (BoolValue (signal_value v (get_or row i e))))
    → assigned (settings_of (drop (i + 1) free) (drop (i + 1) (bits_at v row))) next ≡ assigned (settings_of (drop i free) (drop i (bits_at v row))) slots
row_next_of v free row i d e slots next within long is =
    let bits = length-map row (signal_value v) in
    let also : i < length row = omega arith in
    ap (assigned (settings_of (drop (i + 1) free) (drop (i + 1) (bits_at v row)))) is
    ∙ row_next free (bits_at v row) i (i + 1) d (signal_value v (get_or row i e)) slots within (omega arith) (omega arith) (get_or-map (signal_value v) row i e false also)

pub row_done : (free : List ℕ) (row : List Bool) (i : ℕ) (slots : List Slot) → length free ≤ i → assigned (settings_of (drop i free) (drop i row)) slots ≡ slots
row_done free row i slots past = rw (drop_all i free past) refl

-- the same with those that are held
pub held_next : (held : List Setting) (i j : ℕ) (d : Setting) (slots : List Slot) → i < length held → j ≡ suc i
    → assigned (drop j held) (set slots (get_or held i d).place (Variable (get_or held i d).value)) ≡ assigned (drop i held) slots
held_next held i j d slots within e = rw (e, drop-cons held i d within) refl

pub held_next_of : (held : List Setting) (i : ℕ) (d : Setting) (slots next : List Slot) → i < length held
    → next ≡ set slots (get_or held i d).place (Variable (get_or held i d).value) → assigned (drop (i + 1) held) next ≡ assigned (drop i held) slots
held_next_of held i d slots next within is = ap (assigned (drop (i + 1) held)) is ∙ held_next held i (i + 1) d slots within (omega arith)

pub held_done : (held : List Setting) (i : ℕ) (slots : List Slot) → length held ≤ i → assigned (drop i held) slots ≡ slots
held_done held i slots past = rw (drop_all i held past) refl

-- where runs may restart, and a row says so or not
pub opened_some : (u : SetupValue) (kept : List ℕ) (row : List Bool) (on : Bool) (s n : List Slot) (m k : List Bool) → u.restarts ≡ Some kept → restarts_in (length u.free) row ≡ on
    → s ≡ (if on then restarted kept (first_slots u.ladder.declarations) n else n) → m ≡ (if on then memories_off u.ladder.networks else k) → moment s m ≡ opened u row (moment n k)
opened_some u kept row true s n m k is at one two =
    moment_same s (restarted kept (first_slots u.ladder.declarations) n) m (memories_off u.ladder.networks) one two
    ∙ sym (ap (λ o. opened_by u o (restarts_in (length u.free) row) (moment n k)) is ∙ ap (λ b. opened_by u (Some kept) b (moment n k)) at)
opened_some u kept row false s n m k is at one two =
    moment_same s n m k one two ∙ sym (ap (λ o. opened_by u o (restarts_in (length u.free) row) (moment n k)) is ∙ ap (λ b. opened_by u (Some kept) b (moment n k)) at)

-- where they don't
pub opened_none : (u : SetupValue) (row : List Bool) (x : Moment) → u.restarts ≡ None → x ≡ opened u row x
opened_none u row x is = sym (ap (λ o. opened_by u o (restarts_in (length u.free) row) x) is)

-- the same by signals
pub opened_where : (v : ℕ → Bool) (u : SetupValue) (kept : List ℕ) (row : List Signal) (i : ℕ) (d : Signal) (first n s : List Slot) (k m : List Bool) (count : ℕ)
    → u.restarts ≡ Some kept → length row ≡ width u → i ≡ length u.free
    → s ≡ (if signal_value v (get_or row i d) then restarted kept first n else n) → m ≡ (if signal_value v (get_or row i d) then replicate count false else k)
    → first ≡ first_slots u.ladder.declarations → count ≡ length (memories_off u.ladder.networks) → moment s m ≡ opened u (bits_at v row) (moment n k)
opened_where v u kept row i d first n s k m count is long at one two same many =
    let digits : width u ≡ suc (length u.free) = ap (digits_of (length u.free)) is in
    let also : i < length row = omega arith in
    let on : restarts_in (length u.free) (bits_at v row) ≡ signal_value v (get_or row i d) = ap (λ j. restarts_in j (bits_at v row)) (sym at) ∙ get_or-map (signal_value v) row i d false also in
    let off : replicate count false ≡ memories_off u.ladder.networks = ap (λ j. replicate j false) (many ∙ length-replicate _ false) in
    opened_some u kept (bits_at v row) (signal_value v (get_or row i d)) s n m k is on
    (one ∙ ap (λ l. if signal_value v (get_or row i d) then restarted kept l n else n) same)
    (two ∙ ap (λ l. if signal_value v (get_or row i d) then l else k) off)
