-- Contacts that are read.
use Rattle.std.proofs.Common.{◌≡◌, ℕ, ◌+◌, ◌<◌, List, Bool, ◌&&◌, length, get_or, set, drop, sym, ap, ◌∙◌, subst}
use Rattle.std.proofs.lemmas.List.{at_drop_more}
use Rattle.gates.specs.declared.signal.Signal.{Signal}
use Rattle.gates.specs.Signals.{signal_value}
use Rattle.drawings.specs.declared.contact.ContactKind.{ContactKind}
use Rattle.scan_steps.specs.declared.source.Source.{Source}
use Rattle.scan_steps.specs.declared.slot.Slot.{Slot}
use Rattle.scan_steps.specs.declared.bound_contact.VariableContact.{VariableContact}
use Rattle.scan_steps.specs.Conducting.{bit_at, contact_conducts, contact_memory}
use Rattle.scan_steps.specs.Values.{is_true}
use Rattle.scan_steps.specs.Steps.Contacts.{ContactValue}
use Rattle.scan_steps.specs.Steps.Sources.{source_value}
use Rattle.scan_steps.specs.Steps.Passing.{read_rows, read_memories, behind_all, is_conducting}
use Rattle.scan_gates.specs.declared.contact.Contact.{Contact}
use Rattle.scan_gates.specs.Encoded.{bits_at}
use Rattle.scan_gates.specs.Steps.Pairs.{contact_value, IsPairReadBy}
use Rattle.scan_gates.proofs.Bits.{bits_set, bit_there}

-- the rows behind a contact
pub rows_read : (v : ℕ → Bool) (rows memories : List Signal) (slots : List Slot) (c : Contact) (d e behind conducting on : Signal) → c.row < length rows → c.memory < length memories
    → signal_value v behind ≡ (signal_value v (get_or rows c.row d) && signal_value v conducting)
    → signal_value v conducting ≡ contact_conducts c.kind (signal_value v on) (signal_value v (get_or memories c.memory e))
    → signal_value v on ≡ is_true (source_value slots c.source)
    → bits_at v (set rows c.row behind) ≡ read_rows (contact_value c) slots (bits_at v rows) (bits_at v memories)
rows_read v rows memories slots c d e behind conducting on row_in memory_in is conducts source =
    bits_set v rows c.row behind (bit_at (bits_at v rows) c.row && contact_conducts c.kind (is_true (source_value slots c.source)) (bit_at (bits_at v memories) c.memory))
    (is ∙ ap (λ b. b && signal_value v conducting) (sym (bit_there v rows c.row d row_in))
    ∙ ap (λ b. bit_at (bits_at v rows) c.row && b)
    (conducts ∙ ap (λ b. contact_conducts c.kind b (signal_value v (get_or memories c.memory e))) source
    ∙ ap (λ b. contact_conducts c.kind (is_true (source_value slots c.source)) b) (sym (bit_there v memories c.memory e memory_in))))

-- the memories behind it
pub memories_read : (v : ℕ → Bool) (memories : List Signal) (slots : List Slot) (c : Contact) (e next on : Signal) → c.memory < length memories
    → signal_value v next ≡ contact_memory c.kind (signal_value v on) (signal_value v (get_or memories c.memory e))
    → signal_value v on ≡ is_true (source_value slots c.source)
    → bits_at v (set memories c.memory next) ≡ read_memories (contact_value c) slots (bits_at v memories)
memories_read v memories slots c e next on memory_in is source =
    bits_set v memories c.memory next (contact_memory c.kind (is_true (source_value slots c.source)) (bit_at (bits_at v memories) c.memory))
    (is ∙ ap (λ b. contact_memory c.kind b (signal_value v (get_or memories c.memory e))) source
    ∙ ap (λ b. contact_memory c.kind (is_true (source_value slots c.source)) b) (sym (bit_there v memories c.memory e memory_in)))

-- the same contact, read in the same rows
pub same_read : (k w : ContactValue) (slots : List Slot) (new old mid memories later : List Bool) → k ≡ w → mid ≡ old
    → (new ≡ read_rows k slots mid memories) × (later ≡ read_memories k slots memories) → (new ≡ read_rows w slots old memories) × (later ≡ read_memories w slots memories)
same_read k w slots new old mid memories later same is read =
    (read.0 ∙ ap (λ c. read_rows c slots mid memories) same ∙ ap (λ rows. read_rows w slots rows memories) is, read.1 ∙ ap (λ c. read_memories c slots memories) same)

-- two contacts, one after the other
pub pair_read : (first second : ContactValue) (slots : List Slot) (rows memories mid between new later : List Bool)
    → (mid ≡ read_rows first slots rows memories) × (between ≡ read_memories first slots memories) → (new ≡ read_rows second slots mid between) × (later ≡ read_memories second slots between)
    → IsPairReadBy first second slots rows memories new later
pair_read first second slots rows memories mid between new later one two =
    (two.0 ∙ ap (λ r. read_rows second slots r between) one.0 ∙ ap (λ m. read_rows second slots (read_rows first slots rows memories) m) one.1, two.1 ∙ ap (read_memories second slots) one.1)

-- one more contact conducts, or doesn't
pub behind_more : (v : ℕ → Bool) (slots : List Slot) (contacts : List VariableContact) (i : ℕ) (d : VariableContact) (on here next : Signal) (all : Bool) → i < length contacts
    → behind_all slots (signal_value v on) (drop i contacts) ≡ all → signal_value v next ≡ (signal_value v on && signal_value v here)
    → signal_value v here ≡ is_conducting slots (get_or contacts i d) → behind_all slots (signal_value v next) (drop (i + 1) contacts) ≡ all
behind_more v slots contacts i d on here next all lt was is conducts =
    ap (λ b. behind_all slots b (drop (i + 1) contacts)) (is ∙ ap (λ b. signal_value v on && b) conducts)
    ∙ sym (at_drop_more (behind_all slots (signal_value v on)) contacts i d lt) ∙ was

-- the same two contacts
pub same_pair : (first one second two : ContactValue) (slots : List Slot) (rows memories new later : List Bool) → first ≡ one → second ≡ two
    → IsPairReadBy first second slots rows memories new later → IsPairReadBy one two slots rows memories new later
same_pair first one second two slots rows memories new later a b read =
    let One : ContactValue → Type 0 = λ k. IsPairReadBy k second slots rows memories new later in
    let Two : ContactValue → Type 0 = λ k. IsPairReadBy one k slots rows memories new later in
    subst Two b (subst One a read)

-- a contact by its parts
pub same_fields : (kind : ContactKind) (row : ℕ) (source : Source) (memory : ℕ) (c : ContactValue) → kind ≡ c.kind → row ≡ c.row → source ≡ c.source → memory ≡ c.memory
    → record { kind = kind; row = row; source = source; memory = memory } ≡ c
same_fields kind row source memory c one two three four =
    let of_kind : ContactKind → ContactValue = λ x. record { kind = x; row = row; source = source; memory = memory } in
    let of_row : ℕ → ContactValue = λ x. record { kind = c.kind; row = x; source = source; memory = memory } in
    let of_source : Source → ContactValue = λ x. record { kind = c.kind; row = c.row; source = x; memory = memory } in
    let of_memory : ℕ → ContactValue = λ x. record { kind = c.kind; row = c.row; source = c.source; memory = x } in
    ap of_kind one ∙ ap of_row two ∙ ap of_source three ∙ ap of_memory four
