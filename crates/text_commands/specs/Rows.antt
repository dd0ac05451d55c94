-- What stands in words NAME=VALUES.
use Rattle.std.specs.Prelude.{ℕ, ◌<◌, ◌≤◌, ◌==◌, ◌||◌, List, Bool, true, false, IsTrue, All, length, map}
use Rattle.std.specs.Borrow.{Bor}
use Rattle.std.specs.List.{position_or_len, before_first, after_first}
use Rattle.declared_names.specs.declared.declarations.Declared.{Declared}
use Rattle.declared_names.specs.declared.declarations.Declared.TheVariants.{Input, Output, Local, Instance}
use Rattle.declared_names.specs.declared.declarations.Kind.{Kind}
use Rattle.declared_names.specs.declared.declarations.Kind.TheVariants as kind

abbrev pub is_equals : ℕ → Bool
is_equals c = c == 61

abbrev pub HasEquals : List ℕ → Type 0
HasEquals word = position_or_len is_equals word < length word

-- what stands in a word before its first `=`, and what behind it
abbrev pub name_in : List ℕ → List ℕ
name_in word = before_first is_equals word

abbrev pub digits_in : List ℕ → List ℕ
digits_in word = after_first is_equals word

-- 0 or 1
abbrev pub is_zero_or_one : ℕ → Bool
is_zero_or_one c = c == 48 || c == 49

abbrev pub is_bool_kind : Kind → Bool
is_bool_kind kind.Bool = true
is_bool_kind kind.Int = false
is_bool_kind kind.Time = false

-- a BOOL variable, and no instance of a block
abbrev pub is_bool : Declared → Bool
is_bool (Input k) = is_bool_kind k
is_bool (Output k) = is_bool_kind k
is_bool (Local k) = is_bool_kind k
is_bool (Instance block) = false

-- 1 to 1,000 digits 0 or 1
pub record AreDigits (digits : List ℕ) : Type 0 where
  pub some : 0 < length digits
  pub few : length digits ≤ 1000
  pub each : All (λ c. IsTrue (is_zero_or_one c)) digits

-- the texts of a list of words
abbrev pub texts : List (Bor (List ℕ)) → List (List ℕ)
texts words = map (λ w. w.now) words
