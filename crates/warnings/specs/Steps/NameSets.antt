-- Names in small letters.
use Rattle.std.specs.Prelude.{◌≡◌, ◌&&◌, ℕ, Bool, true, false, not, List, String}
use Rattle.std.specs.List.{list_any}
use Rattle.std.specs.Global.{Global}
use Rattle.std.specs.BTreeSet.{BTreeSet, contains_text}
use Rattle.std.specs.Str.{bytes_eq}
use Rattle.warnings.specs.Near.{is_near}
use Rattle.warnings.specs.Found.{small}

-- a set has the small letters of these names, and no others
abbrev pub AreSmall : List (List ℕ) → BTreeSet (String Global) → Type 0
AreSmall names set = (q : List ℕ) → contains_text set q ≡ list_any (λ name. bytes_eq (small name) q) names

-- each test is passed by one of a list just where it is by one of these names in small letters
abbrev pub AnswerAsSmall : List (List ℕ) → List (List ℕ) → Type 0
AnswerAsSmall names all = (p : List ℕ → Bool) → list_any p all ≡ list_any (λ name. p (small name)) names

-- a name in small letters is none of those that something stores into, and nearly one of all
abbrev pub is_strange : BTreeSet (String Global) → List (List ℕ) → List ℕ → Bool
is_strange stored names q = not (contains_text stored q) && list_any (is_near q) names

-- none of these names is strange
abbrev pub ArePlain : BTreeSet (String Global) → List (List ℕ) → BTreeSet (String Global) → Type 0
ArePlain stored names plain = (q : List ℕ) → contains_text plain q ≡ true → is_strange stored names q ≡ false
