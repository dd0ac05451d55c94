-- A contact as a scan reads it.
use Rattle.std.specs.Prelude.{ℕ, ◌+◌, Bool, true, false}
use Rattle.drawings.specs.declared.contact.ContactKind.{ContactKind}
use Rattle.drawings.specs.declared.contact.ContactKind.TheVariants.{Plain, Negated as NegatedKind}
use Rattle.std_blocks.specs.declared.pin.Field.TheVariants as field
use Rattle.scan_steps.specs.declared.bound_contact.Reads.{Reads}
use Rattle.scan_steps.specs.declared.bound_contact.Reads.TheVariants as reads
use Rattle.scan_steps.specs.declared.bound_contact.VariableContact.{VariableContact}
use Rattle.scan_steps.specs.declared.variable_pair.Negated.{Negated}
use Rattle.scan_steps.specs.declared.variable_pair.PairRows.{PairRows}
use Rattle.scan_steps.specs.declared.variable_pair.PairPlaces.{PairPlaces}
use Rattle.scan_steps.specs.declared.variable_pair.Negated.TheVariants.{Neither, First, Second, Both}
use Rattle.scan_steps.specs.declared.source.Source.{Source}
use Rattle.scan_steps.specs.declared.source.Source.TheVariants as source

-- a contact with its name bound: its row from the network's topmost row on, the source of its state, and the number of
-- its memory
pub record ContactValue : Type 0 where
  pub kind : ContactKind
  pub row : ℕ
  pub source : Source
  pub memory : ℕ

-- the source that is read at a place
abbrev pub contact_source : Reads → ℕ → Source
contact_source reads.Nothing place = source.Nothing
contact_source reads.Variable place = source.Variable place
contact_source (reads.Bit k) place = source.Output place (field.Bit k)
contact_source reads.Int place = source.Output place field.Int
contact_source reads.Time place = source.Output place field.Time

abbrev pub is_first_negated : Negated → Bool
is_first_negated Neither = false
is_first_negated First = true
is_first_negated Second = false
is_first_negated Both = true

abbrev pub is_second_negated : Negated → Bool
is_second_negated Neither = false
is_second_negated First = false
is_second_negated Second = true
is_second_negated Both = true

-- the kind of a contact that keeps no memory
abbrev pub plain_kind : Bool → ContactKind
plain_kind false = Plain
plain_kind true = NegatedKind

-- a contact of the variable at a place
abbrev pub variable_contact : Bool → ℕ → ℕ → ℕ → ContactValue
variable_contact negated row place memory =
    record { kind = plain_kind negated; row = row; source = source.Variable place; memory = memory }

-- the same contact as any other, in this row
abbrev pub in_row : ℕ → VariableContact → ContactValue
in_row row v = variable_contact v.negated row v.place v.memory

-- the same contact as any other
abbrev pub contact_of : VariableContact → ContactValue
contact_of v = variable_contact v.negated v.row v.place v.memory

-- the rows of two plain contacts, with one row between them
abbrev pub rows_over : ℕ → PairRows
rows_over row = record { negated = Neither; first = row; second = row + 2 }

-- the contacts of a pair
abbrev pub first_of : PairRows → PairPlaces → ContactValue
first_of rows places = variable_contact (is_first_negated rows.negated) rows.first places.first places.memory

abbrev pub second_of : PairRows → PairPlaces → ContactValue
second_of rows places = variable_contact (is_second_negated rows.negated) rows.second places.second (places.memory + 1)
