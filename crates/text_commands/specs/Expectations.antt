-- What the words NAME==VALUES say, and words of both kinds together.
use Rattle.std.specs.Prelude.{◌≡◌, ℕ, ◌==◌, ◌⊎◌, List, Bool, false, not, Some, IsTrue, take, slice_get, slice_index, max}
use Rattle.std.specs.List.{AllZip, filter}
use Rattle.declared_names.specs.declared.declarations.Declaration.{Declaration}
use Rattle.text_commands.specs.declared.word_fault.WordFault.{WordFault}
use Rattle.text_commands.specs.declared.word_fault.WordFaultKind.{WordFaultKind}
use Rattle.text_commands.specs.Rows.{name_in, digits_in}
use Rattle.text_commands.specs.Series.{SeriesValue, IsSeries, SpellSettings, AreOfDistinct, IsRefusedSeries, IsRefusedSetting, scans_of}
use Rattle.text_commands.specs.Restarts.{GivenValue, last_restart}

-- right behind the first `=` of the word stands another one
abbrev pub is_expectation : List ℕ → Bool
is_expectation word = slice_index (digits_in word) 0 == 61

-- what stands behind the second `=`
abbrev pub expected_in : List ℕ → List ℕ
expected_in word = digits_in (digits_in word)

-- the word names a variable, and tells what it is to be after each of the first scans
abbrev pub IsExpected : List Declaration → List ℕ → SeriesValue → Type 0
IsExpected ds word series = IsSeries ds (name_in word) (expected_in word) series

-- The words NAME=VALUES set these variables, and the words NAME==VALUES tell what is expected, one by one. No two of
-- the one kind are of the same variable, nor of the other.
pub record SpellTest (ds : List Declaration) (words : List (List ℕ)) (rows expected : List SeriesValue) : Type 0 where
  pub set : SpellSettings ds (filter (λ w. not (is_expectation w)) words) rows
  pub each : AllZip (IsExpected ds) (filter is_expectation words) expected
  pub apart : AreOfDistinct expected

-- as many scans as the longest of all words has values, but at least one, and those up to the last restart
abbrev pub test_scans : GivenValue → List SeriesValue → ℕ
test_scans given expected = max (max (scans_of given.rows) (scans_of expected)) (last_restart given.restarts)

-- why a word of either kind is refused behind others
abbrev pub IsRefusedBehind : List Declaration → List SeriesValue → List SeriesValue → List ℕ → WordFaultKind → Type 0
IsRefusedBehind ds rows expected word fault =
    (IsTrue (is_expectation word) × IsRefusedSeries ds expected (name_in word) (expected_in word) fault)
    ⊎ ((is_expectation word ≡ false) × IsRefusedSetting ds rows word fault)

-- the fault is of the first word that is refused: those before it are words of a test
pub record IsFirstRefusedOf (ds : List Declaration) (words : List (List ℕ)) (fault : WordFault) : Type 0 where
  pub word : List ℕ
  pub at : slice_get words fault.number ≡ Some word
  pub rows : List SeriesValue
  pub expected : List SeriesValue
  pub before : SpellTest ds (take fault.number words) rows expected
  pub refused : IsRefusedBehind ds rows expected word fault.kind
