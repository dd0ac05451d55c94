-- Names, and what stands under a name.
use Rattle.std.specs.Prelude.{◌≡◌, ℕ, ◌<◌, Bool, IsTrue, List, length, slice_get, slice_index_or, Some}
use Rattle.std.specs.Str.{str_eq_ignore_ascii_case}

-- one name, whatever the case of its letters
abbrev pub is_named : List ℕ → List ℕ → Bool
is_named a b = str_eq_ignore_ascii_case a b

-- no two of the names are one name
abbrev pub AreNamesApart : List (List ℕ) → Type 0
AreNamesApart names =
    (j k : ℕ) (d : List ℕ) → j < length names → k < length names
    → IsTrue (is_named (slice_index_or names j d) (slice_index_or names k d)) → j ≡ k

-- x stands at place k of the list, under this name
pub record IsAt {A : Type 0} (name_of : A → List ℕ) (xs : List A) (name : List ℕ) (k : ℕ) (x : A) : Type 0 where
  pub stands : slice_get xs k ≡ Some x
  pub named : IsTrue (is_named name (name_of x))
