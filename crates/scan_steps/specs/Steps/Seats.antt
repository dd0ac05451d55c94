-- Where the values and blocks of declared names stand: each kind in a list of its own.
use Rattle.std.specs.Prelude.{◌≡◌, ℕ, ◌+◌, ◌<◌, ◌⊎◌, ℤ, pos, List, [], ◌∷◌, Bool, true, false, Option, Some, None, length, slice_get, slice_set, slice_index_or}
use Rattle.std_blocks.specs.declared.value.Value.{Value}
use Rattle.std_blocks.specs.declared.value.Value.TheVariants as value
use Rattle.std_blocks.specs.declared.block_type.BlockType.TheVariants.{SR}
use Rattle.scan_steps.specs.declared.seat.Seat.{Seat}
use Rattle.scan_steps.specs.declared.seat.Seat.TheVariants as seat
use Rattle.scan_steps.specs.declared.slot.Instance.{Instance}
use Rattle.scan_steps.specs.declared.slot.Slot.{Slot}
use Rattle.scan_steps.specs.declared.slot.Slot.TheVariants.{Variable, Block}
use Rattle.scan_steps.specs.First.{instance_first}
use Rattle.scan_steps.specs.Conducting.{bit_at}

-- the values of each kind, and the blocks
pub record ListsValue : Type 0 where
  pub bits : List Bool
  pub ints : List ℤ
  pub times : List ℕ
  pub blocks : List Instance

abbrev pub no_lists : ListsValue
no_lists = record { bits = []; ints = []; times = []; blocks = [] }

-- what stands at a place with this seat
abbrev pub slot_at : ListsValue → ℕ → Seat → Slot
slot_at v place seat.Bool = Variable (value.Bool (bit_at v.bits place))
slot_at v place (seat.Int n) = Variable (value.Int (slice_index_or v.ints n (pos 0)))
slot_at v place (seat.Time n) = Variable (value.Time (slice_index_or v.times n 0))
slot_at v place (seat.Block n) = Block (slice_index_or v.blocks n (instance_first SR))

-- what stands at the places with these seats, from this place on
abbrev pub slots_from : ℕ → List Seat → ListsValue → List Slot
slots_from place [] v = []
slots_from place (s ∷ seats) v = slot_at v place s ∷ slots_from (place + 1) seats v

-- whether a value is of the kind that stands at a seat
abbrev pub is_kind_of : Seat → Value → Bool
is_kind_of seat.Bool (value.Bool b) = true
is_kind_of seat.Bool (value.Int n) = false
is_kind_of seat.Bool (value.Time t) = false
is_kind_of (seat.Int k) (value.Bool b) = false
is_kind_of (seat.Int k) (value.Int n) = true
is_kind_of (seat.Int k) (value.Time t) = false
is_kind_of (seat.Time k) (value.Bool b) = false
is_kind_of (seat.Time k) (value.Int n) = false
is_kind_of (seat.Time k) (value.Time t) = true
is_kind_of (seat.Block k) v = false

-- the lists once a value is put at a place with this seat
abbrev pub lists_put : ListsValue → ℕ → Seat → Value → ListsValue
lists_put v place seat.Bool (value.Bool b) = record v { bits = slice_set v.bits place b }
lists_put v place seat.Bool (value.Int n) = v
lists_put v place seat.Bool (value.Time t) = v
lists_put v place (seat.Int k) (value.Bool b) = v
lists_put v place (seat.Int k) (value.Int n) = record v { ints = slice_set v.ints k n }
lists_put v place (seat.Int k) (value.Time t) = v
lists_put v place (seat.Time k) (value.Bool b) = v
lists_put v place (seat.Time k) (value.Int n) = v
lists_put v place (seat.Time k) (value.Time t) = record v { times = slice_set v.times k t }
lists_put v place (seat.Block k) x = v

-- the block at this seat
abbrev pub block_in : ListsValue → Seat → Option Instance
block_in v seat.Bool = None
block_in v (seat.Int k) = None
block_in v (seat.Time k) = None
block_in v (seat.Block k) = slice_get v.blocks k

-- the lists once a block is put back at this seat
abbrev pub lists_put_block : ListsValue → Seat → Instance → ListsValue
lists_put_block v seat.Bool i = v
lists_put_block v (seat.Int k) i = v
lists_put_block v (seat.Time k) i = v
lists_put_block v (seat.Block k) i = record v { blocks = slice_set v.blocks k i }

-- what the seat at a place names is there; only a BOOL has its bit
abbrev pub IsInLists : ListsValue → ℕ → Seat → Type 0
IsInLists v place seat.Bool = Unit {0}
IsInLists v place (seat.Int n) = (n < length v.ints) × (bit_at v.bits place ≡ false)
IsInLists v place (seat.Time n) = (n < length v.times) × (bit_at v.bits place ≡ false)
IsInLists v place (seat.Block n) = (n < length v.blocks) × (bit_at v.bits place ≡ false)

-- each place has its seat, and no other place has the same value or block
pub record IsSeating (seats : List Seat) (v : ListsValue) : Type 0 where
  pub long : length v.bits ≡ length seats
  pub within : (k : ℕ) (s : Seat) → slice_get seats k ≡ Some s → IsInLists v k s
  pub apart : (j k : ℕ) (s : Seat) → slice_get seats j ≡ Some s → slice_get seats k ≡ Some s
      → (s ≡ seat.Bool) ⊎ (j ≡ k)

-- a BOOL stands at each place
abbrev pub AreBools : List Slot → Type 0
AreBools slots = (k : ℕ) (s : Slot) → slice_get slots k ≡ Some s → (on : Bool) × (s ≡ Variable (value.Bool on))
