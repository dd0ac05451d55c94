-- The contacts of a pair keep no memory.
use Rattle.std.proofs.Common.{◌≡◌, ℕ, List, Bool, true, false, ◌∙◌}
use Rattle.std.proofs.lemmas.List.{set-get_or}
use Rattle.scan_steps.specs.declared.slot.Slot.{Slot}
use Rattle.scan_steps.specs.declared.variable_pair.PairRows.{PairRows}
use Rattle.scan_steps.specs.declared.variable_pair.PairPlaces.{PairPlaces}
use Rattle.scan_steps.specs.Steps.Contacts.{variable_contact, first_of, second_of, is_first_negated, is_second_negated}
use Rattle.scan_steps.specs.Steps.Passing.{read_memories}

variable_keeps : (negated : Bool) (row place memory : ℕ) (slots : List Slot) (memories : List Bool) → read_memories (variable_contact negated row place memory) slots memories ≡ memories
variable_keeps false row place memory slots memories = set-get_or memories memory false
variable_keeps true row place memory slots memories = set-get_or memories memory false

first_keeps : (rows : PairRows) (places : PairPlaces) (slots : List Slot) (memories : List Bool) → read_memories (first_of rows places) slots memories ≡ memories
first_keeps rows places = variable_keeps (is_first_negated rows.negated) rows.first places.first places.memory

-- the memories are as before
pub pair_keeps : (rows : PairRows) (places : PairPlaces) (slots : List Slot) (memories : List Bool)
    → read_memories (second_of rows places) slots (read_memories (first_of rows places) slots memories) ≡ memories
pair_keeps rows places slots memories =
    variable_keeps (is_second_negated rows.negated) rows.second places.second _ slots (read_memories (first_of rows places) slots memories) ∙ first_keeps rows places slots memories
