-- What the character in the middle of a contact or coil says.
use Rattle.std.specs.Prelude.{ℕ, [], ◌∷◌, ◌==◌, ◌||◌, Option}
use Rattle.words.specs.Chars.{first_that}
use Rattle.drawings.specs.declared.contact.ContactKind.{ContactKind}
use Rattle.drawings.specs.declared.contact.ContactKind.TheVariants as contact
use Rattle.drawings.specs.declared.coil.CoilKind.{CoilKind}
use Rattle.drawings.specs.declared.coil.CoilKind.TheVariants as coil

-- what the middle character of a contact says
unfoldable pub contact_kind : ℕ → Option ContactKind
contact_kind c = first_that (
    (c == 32, contact.Plain) ∷ (c == 47, contact.Negated)
    ∷ (c == 80 || c == 112, contact.Rise) ∷ (c == 78 || c == 110, contact.Fall) ∷ [])

-- what the middle character of a coil says
unfoldable pub coil_kind : ℕ → Option CoilKind
coil_kind c = first_that (
    (c == 32, coil.Plain) ∷ (c == 47, coil.Negated)
    ∷ (c == 83 || c == 115, coil.Set) ∷ (c == 82 || c == 114, coil.Reset)
    ∷ (c == 80 || c == 112, coil.Rise) ∷ (c == 78 || c == 110, coil.Fall) ∷ [])
