-- What is given to a loop: what its clock reads, and what its inputs tell.
use Rattle.std.specs.Prelude.{ℕ, Bool, true, false, List, ◌∷◌, Option, Some, None}
use Rattle.std.specs.Option.{option_map}
use Rattle.cycle.specs.declared.origin.Origin.{Origin}
use Rattle.cycle.specs.declared.origin.Origin.TheVariants.{Field, Neighbours}
use Rattle.node_loop.specs.declared.told.Told.{Told}
use Rattle.node_loop.specs.declared.told.Told.TheVariants.{Line, TooLong, End, Unread}

-- what a turn is about: what the clock read, in ms since the start; or what an input told
pub data Turn : Type 0 where
  Reads : ℕ → Turn
  Takes : Origin → Told → Turn

-- what was given, the newest first, and this one more, where that is known
abbrev pub with_turn : Turn → Option (List Turn) → Option (List Turn)
with_turn turn given = option_map (λ before. turn ∷ before) given

-- an input is at its end, or can't be read
abbrev pub is_end : Told → Bool
is_end (Line line) = false
is_end TooLong = false
is_end End = true
is_end (Unread why) = true

-- this input is the one whose end ends a loop
abbrev pub is_closing : Option Origin → Origin → Bool
is_closing None origin = false
is_closing (Some Field) Field = true
is_closing (Some Field) Neighbours = false
is_closing (Some Neighbours) Field = false
is_closing (Some Neighbours) Neighbours = true
