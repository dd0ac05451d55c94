-- Incarnations that are too high: one forged line would else make a node wait for what never comes.
use Rattle.std.specs.Prelude.{ℕ, ◌+◌, ◌&&◌, Bool, true, nat_lt, Option, Some, None, length, slice_index}
use Rattle.std.specs.List.{list_all, range_with_len}
use Rattle.plant.specs.PlantValue.{tasks_at}
use Rattle.evaluation.specs.Messages.{MessageValue}
use Rattle.exchange_core.specs.MessageCoreValue.{MessageCoreValue, held_of}

-- an incarnation is above a known one by more than 1,000,000
abbrev pub is_far : ℕ → ℕ → Bool
is_far incarnation known = nat_lt (known + 1000000) incarnation

-- it is so far above that of a message, if one is held
abbrev pub is_far_held : ℕ → Option MessageValue → Bool
is_far_held incarnation None = true
is_far_held incarnation (Some m) = is_far incarnation m.name.incarnation

-- it is so far above that of each message that is held from a resource
abbrev pub is_far_from_held : MessageCoreValue → ℕ → ℕ → Bool
is_far_from_held core of incarnation =
    list_all (λ k. is_far_held incarnation (held_of core (record { resource = of; task = k })))
    (range_with_len 0 (length (tasks_at core.plant of)))

-- An incarnation of a resource is too high: it is so far above the one of which was heard (0 before the first hello), and
-- above that of each message that is held from the resource.
abbrev pub is_too_high : MessageCoreValue → ℕ → ℕ → Bool
is_too_high core of incarnation =
    is_far incarnation (slice_index core.heard of) && is_far_from_held core of incarnation
