-- What a scan does at the steps of a network, one after the other.
use Rattle.std.specs.Prelude.{◌≡◌, ℕ, ◌+◌, ◌<◌, ◌≤◌, ◌⊎◌, ◌↔◌, List, [], ◌∷◌, Bool, true, false, ◌&&◌, Some, All, slice_get, slice_set, length}
use Rattle.scan_steps.specs.declared.slot.Instance.{Instance}
use Rattle.scan_steps.specs.declared.slot.Slot.{Slot}
use Rattle.std_blocks.specs.declared.pins.PinsOut.{PinsOut}
use Rattle.scan_steps.specs.declared.bound_box.BoundBox.{BoundBox}
use Rattle.scan_steps.specs.declared.bound_box.BoundOutput.{BoundOutput}
use Rattle.scan_steps.specs.declared.step.Step.{Step}
use Rattle.scan_steps.specs.declared.step.Step.TheVariants as step
use Rattle.scan_steps.specs.declared.bound_contact.VariableContact.{VariableContact}
use Rattle.scan_steps.specs.Slots.{variable_at}
use Rattle.scan_steps.specs.Steps.Contacts.{ContactValue, plain_kind, contact_of, first_of, second_of, rows_over}
use Rattle.scan_steps.specs.declared.variable_pair.PairRows.{PairRows}
use Rattle.scan_steps.specs.declared.variable_pair.PairPlaces.{PairPlaces}
use Rattle.scan_steps.specs.Values.{is_true}
use Rattle.scan_steps.specs.Conducting.{bit_at, contact_conducts, contact_memory}
use Rattle.scan_steps.specs.Steps.Sources.{source_value}
use Rattle.scan_steps.specs.Steps.BoxSteps.{box_result, IsMarked, HasOutput}

-- what a scan works on: the states of the rows, the memories, the left links of the coils, and the results of the boxes
pub record Pass : Type 0 where
  pub rows : List Bool
  pub memories : List Bool
  pub links : List Bool
  pub results : List Instance

abbrev pub pass_of : List Bool → List Bool → List Bool → List Instance → Pass
pass_of rows memories links results = record { rows = rows; memories = memories; links = links; results = results }

-- the rows from first to last have one state: ON where any of them was
pub record AreJoined (first last : ℕ) (old new : List Bool) : Type 0 where
  pub long : length new ≡ length old
  pub within : (r : ℕ) → first ≤ r → r ≤ last
      → (bit_at new r ≡ true) ↔ ((k : ℕ) × (first ≤ k) × (k ≤ last) × (bit_at old k ≡ true))
  pub outside : (r : ℕ) → (r < first) ⊎ (last < r) → bit_at new r ≡ bit_at old r

-- the rows of the output pins show the outputs
pub record ArePinsShown (pins : List BoundOutput) (values : PinsOut) (old new : List Bool) : Type 0 where
  pub long : length new ≡ length old
  pub within : (r : ℕ) → HasOutput pins r → (bit_at new r ≡ true) ↔ IsMarked pins values r
  pub outside : (r : ℕ) → (HasOutput pins r → ⊥) → bit_at new r ≡ bit_at old r

-- so do those of a box
abbrev pub AreShown : BoundBox → Instance → List Bool → List Bool → Type 0
AreShown e i old new = ArePinsShown e.outputs.items i.outputs old new

-- the rows of output pins that are ON are turned on, and the others stay
abbrev pub AreMarked : List BoundOutput → PinsOut → List Bool → List Bool → Type 0
AreMarked pins values old new = (r : ℕ) → (bit_at new r ≡ true) ↔ ((bit_at old r ≡ true) ⊎ IsMarked pins values r)

-- state goes on in the row of a contact, if it conducts at this value of its name
abbrev pub rows_behind : ContactValue → Bool → List Bool → List Bool → List Bool
rows_behind c on rows memories =
    slice_set rows c.row (bit_at rows c.row && contact_conducts c.kind on (bit_at memories c.memory))

-- the memory of an edge contact becomes this value of its name
abbrev pub memories_behind : ContactValue → Bool → List Bool → List Bool
memories_behind c on memories = slice_set memories c.memory (contact_memory c.kind on (bit_at memories c.memory))

-- state goes on in the row of a contact that conducts
abbrev pub read_rows : ContactValue → List Slot → List Bool → List Bool → List Bool
read_rows c slots rows memories = rows_behind c (is_true (source_value slots c.source)) rows memories

-- the memory of an edge contact becomes its variable's value
abbrev pub read_memories : ContactValue → List Slot → List Bool → List Bool
read_memories c slots memories = memories_behind c (is_true (source_value slots c.source)) memories

-- a contact of the variable at a place is read, whatever the memories are: it keeps none
abbrev pub IsVariableRead : Bool → ℕ → ℕ → List Slot → List Bool → List Bool → Type 0
IsVariableRead negated row place slots old new = (memory : Bool)
    → new ≡ slice_set old row
    (bit_at old row && contact_conducts (plain_kind negated) (is_true (variable_at slots place)) memory)

-- a contact of a variable that follows the left rail is read: the state of its row is ON if it conducts, whatever the
-- memories are
abbrev pub IsReadAtRail : VariableContact → List Slot → List Bool → List Bool → Type 0
IsReadAtRail v slots old new = (memories : List Bool)
    → new ≡ read_rows (contact_of v) slots (slice_set old v.row true) memories

-- the contacts of a pair are read, one after the other, whatever the memories are
abbrev pub IsPairRead : PairRows → PairPlaces → List Slot → List Bool → List Bool → Type 0
IsPairRead rows places slots old new = (memories later : List Bool)
    → new ≡ read_rows (second_of rows places) slots (read_rows (first_of rows places) slots old memories) later

-- the rows from the first to the second contact of a pair are joined, and then the contacts are read
abbrev pub IsJoinedPairRead : PairRows → PairPlaces → List Slot → List Bool → List Bool → Type 0
IsJoinedPairRead rows places slots old new = (mid : List Bool) × AreJoined rows.first rows.second old mid
    × IsPairRead rows places slots mid new

-- nothing leads to the row below this one, this row and the next two are joined, and then a plain contact is read in
-- this one and in the third
abbrev pub IsPairOverRead : ℕ → PairPlaces → List Slot → List Bool → List Bool → Type 0
IsPairOverRead row places slots old new =
    IsJoinedPairRead (rows_over row) places slots (slice_set old (row + 1) false) new

-- what a contact leaves, that is read in these rows
abbrev pub after_contact : ContactValue → List Slot → List Bool → Pass → Pass
after_contact c slots rows a =
    record a { rows = read_rows c slots rows a.memories; memories = read_memories c slots a.memories }

-- what the contacts of a pair leave
abbrev pub after_pair : List Slot → PairRows → PairPlaces → Pass → Pass
after_pair slots rows places a =
    let first = first_of rows places in
    let second = second_of rows places in
    record a {
      rows = read_rows second slots (read_rows first slots a.rows a.memories) (read_memories first slots a.memories);
      memories = read_memories second slots (read_memories first slots a.memories);
    }

-- whether a contact of a variable conducts; it keeps no memory
abbrev pub is_conducting : List Slot → VariableContact → Bool
is_conducting slots v = contact_conducts (plain_kind v.negated) (is_true (variable_at slots v.place)) false

-- the state behind contacts of variables, one behind the other, by the state before them
abbrev pub behind_all : List Slot → Bool → List VariableContact → Bool
behind_all slots on [] = on
behind_all slots on (v ∷ contacts) = behind_all slots (on && is_conducting slots v) contacts

-- what a rung leaves: the state behind its contacts, in its row and at its coil
abbrev pub after_rung : List Slot → ℕ → ℕ → List VariableContact → Pass → Pass
after_rung slots row coil contacts a =
    let rows = slice_set a.rows row (behind_all slots true contacts) in
    record a { rows = rows; links = slice_set a.links coil (bit_at rows row) }

-- the rows from first to last of the first list are joined, and all else stays
abbrev pub AreRowsJoined : ℕ → ℕ → List Bool → Pass → Pass → Type 0
AreRowsJoined first last rows a b = AreJoined first last rows b.rows × (b.memories ≡ a.memories) × (b.links ≡ a.links)
    × (b.results ≡ a.results)

-- the box k is stepped, and its outputs are shown
pub record IsBoxObeyed (boxes : List BoundBox) (slots : List Slot) (dt k : ℕ) (a b : Pass) : Type 0 where
  pub box : BoundBox
  pub at : slice_get boxes k ≡ Some box
  pub results : b.results ≡ slice_set a.results k (box_result box slots dt a.rows)
  pub shown : AreShown box (box_result box slots dt a.rows) a.rows b.rows
  pub memories : b.memories ≡ a.memories
  pub links : b.links ≡ a.links

-- what a step leaves
abbrev pub IsObeyed : List BoundBox → List Slot → ℕ → Step → Pass → Pass → Type 0
IsObeyed boxes slots dt (step.Rail r) a b = b ≡ record a { rows = slice_set a.rows r true }
IsObeyed boxes slots dt (step.Off r) a b = b ≡ record a { rows = slice_set a.rows r false }
IsObeyed boxes slots dt (step.Upright first last) a b = AreRowsJoined first last a.rows a b
IsObeyed boxes slots dt (step.OffUpright r first last) a b = AreRowsJoined first last (slice_set a.rows r false) a b
IsObeyed boxes slots dt (step.Down r) a b = AreRowsJoined r (r + 1) (slice_set a.rows (r + 1) false) a b
IsObeyed boxes slots dt (step.Up r) a b = AreRowsJoined r (r + 1) (slice_set a.rows r false) a b
IsObeyed boxes slots dt (step.Contact c) a b = b ≡ after_contact c slots a.rows a
IsObeyed boxes slots dt (step.RailContact v) a b =
    b ≡ after_contact (contact_of v) slots (slice_set a.rows v.row true) a
IsObeyed boxes slots dt (step.Pair rows places) a b = b ≡ after_pair slots rows places a
IsObeyed boxes slots dt (step.JoinedPair rows places) a b = (mid : Pass)
    × AreRowsJoined rows.first rows.second a.rows a mid × (b ≡ after_pair slots rows places mid)
IsObeyed boxes slots dt (step.PairOver row places) a b = (mid : Pass)
    × AreRowsJoined row (row + 2) (slice_set a.rows (row + 1) false) a mid
    × (b ≡ after_pair slots (rows_over row) places mid)
IsObeyed boxes slots dt (step.Rung r k contacts) a b = b ≡ after_rung slots r k contacts a
IsObeyed boxes slots dt (step.Coil r k) a b = b ≡ record a { links = slice_set a.links k (bit_at a.rows r) }
IsObeyed boxes slots dt (step.Box k) a b = IsBoxObeyed boxes slots dt k a b
IsObeyed boxes slots dt (step.BoxCoil k r coil) a b = (mid : Pass) × IsBoxObeyed boxes slots dt k a mid
    × (b ≡ record mid { links = slice_set mid.links coil (bit_at mid.rows r) })

-- what steps leave, one after the other
abbrev pub ArePassed : List BoundBox → List Slot → ℕ → List Step → Pass → Pass → Type 0
ArePassed boxes slots dt [] a b = b ≡ a
ArePassed boxes slots dt (s ∷ steps) a b = (mid : Pass) × IsObeyed boxes slots dt s a mid
    × ArePassed boxes slots dt steps mid b

-- the numbers of a step stand for rows, memories, coils and boxes
abbrev pub IsStepIn : ℕ → ℕ → ℕ → ℕ → Step → Type 0
IsStepIn rows memories coils boxes (step.Rail row) = row < rows
IsStepIn rows memories coils boxes (step.Off row) = row < rows
IsStepIn rows memories coils boxes (step.Upright first last) = last < rows
IsStepIn rows memories coils boxes (step.OffUpright row first last) = (row < rows) × (last < rows)
IsStepIn rows memories coils boxes (step.Down row) = row + 1 < rows
IsStepIn rows memories coils boxes (step.Up row) = row + 1 < rows
IsStepIn rows memories coils boxes (step.Contact c) = (c.row < rows) × (c.memory < memories)
IsStepIn rows memories coils boxes (step.RailContact v) = (v.row < rows) × (v.memory < memories)
IsStepIn rows memories coils boxes (step.Pair pair places) =
    (pair.first < rows) × (places.memory < memories) × (pair.second < rows) × (places.memory + 1 < memories)
IsStepIn rows memories coils boxes (step.JoinedPair pair places) =
    (pair.first < rows) × (places.memory < memories) × (pair.second < rows) × (places.memory + 1 < memories)
IsStepIn rows memories coils boxes (step.PairOver row places) = (row + 2 < rows) × (places.memory + 1 < memories)
IsStepIn rows memories coils boxes (step.Rung row k contacts) =
    (row < rows) × All (λ (v : VariableContact). v.memory < memories) contacts × (k < coils)
IsStepIn rows memories coils boxes (step.Coil row k) = (row < rows) × (k < coils)
IsStepIn rows memories coils boxes (step.Box k) = k < boxes
IsStepIn rows memories coils boxes (step.BoxCoil k row coil) = (k < boxes) × (row < rows) × (coil < coils)
