-- What stands at names as signals.
use Rattle.std.specs.Prelude.{◌≡◌, ℕ, List, [], ◌∷◌, Bool, true, false}
use Rattle.declared_names.specs.declared.declarations.Declaration.{Declaration}
use Rattle.gates.specs.declared.signal.Signal.{Signal}
use Rattle.scan_steps.specs.Slots.{AreSlotsOf}
use Rattle.scan_gates.specs.declared.encoded.EncodedSlot.{EncodedSlot}
use Rattle.scan_gates.specs.Encoded.{slots_at}

-- no variable is TRUE
abbrev pub none : ℕ → Bool
none k = false

-- variables of the kinds, and blocks of the types, that are declared stand at the names: where no variable is TRUE, and so
-- whatever the variables are
abbrev pub AreOf : List Declaration → List EncodedSlot → Type 0
AreOf ds slots = AreSlotsOf ds (slots_at none slots)

-- a memory for each mark, OFF where its element remembers nothing
abbrev pub AreQuiet : List Bool → List Bool → Type 0
AreQuiet [] [] = Unit {0}
AreQuiet [] (b ∷ memories) = ⊥
AreQuiet (mark ∷ marks) [] = ⊥
AreQuiet (true ∷ marks) (b ∷ memories) = AreQuiet marks memories
AreQuiet (false ∷ marks) (b ∷ memories) = (b ≡ false) × AreQuiet marks memories

-- the variable that is never TRUE
abbrev pub off : Signal
off = record { variable = 0; is_negated = false }
