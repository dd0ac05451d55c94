-- What the coils of a network store.
use Rattle.std.specs.Prelude.{ℕ, ◌+◌, List, [], ◌∷◌, ◌++◌, Bool, slice_set}
use Rattle.std.specs.Option.{option_map}
use Rattle.std_blocks.specs.declared.value.Value.{Value}
use Rattle.std_blocks.specs.declared.value.Value.TheVariants.{Bool as BoolValue}
use Rattle.scan_steps.specs.declared.step.BoundCoil.{BoundCoil}
use Rattle.scan_steps.specs.Conducting.{bit_at}
use Rattle.power_flow.specs.Meaning.{coil_value, coil_memory, store}

-- what a coil stores, by its left link and its memory
abbrev pub bound_store : BoundCoil → Bool → List Bool → List (ℕ × Value)
bound_store c link memories = store c.place (option_map BoolValue (coil_value c.kind link (bit_at memories c.memory)))

-- the memories once a coil has stored
abbrev pub bound_memory : BoundCoil → Bool → List Bool → List Bool
bound_memory c link memories = slice_set memories c.memory (coil_memory c.kind link (bit_at memories c.memory))

-- the stores of the coils from the number i on, in their order, by their left links and memories
abbrev pub bound_stores : List BoundCoil → ℕ → List Bool → List Bool → List (ℕ × Value)
bound_stores [] i links memories = []
bound_stores (c ∷ coils) i links memories =
    bound_store c (bit_at links i) memories
    ++ bound_stores coils (i + 1) links (bound_memory c (bit_at links i) memories)

-- the memories once these coils have stored
abbrev pub bound_memories : List BoundCoil → ℕ → List Bool → List Bool → List Bool
bound_memories [] i links memories = memories
bound_memories (c ∷ coils) i links memories =
    bound_memories coils (i + 1) links (bound_memory c (bit_at links i) memories)
