-- How much numbers and durations are.
use Rattle.std.specs.Prelude.{ℕ, zero, suc, ◌+◌, ◌-◌, ◌*◌, ◌==◌, List, [], ◌∷◌, drop, take_while, length, if◌then◌else◌, Option, Some, None, nat_le, codes}
use Rattle.words.specs.Chars.{is_digit_or_score, is_number, is_duration, is_duration_behind, unit_rank, part_unit, part_more, without_score}

-- a number with one more digit behind it; an underscore counts for nothing
abbrev pub with_digit : ℕ → ℕ → ℕ
with_digit n c = if c == 95 then n else 10 * n + (c - 48)

-- a number with more digits behind it
abbrev pub digits_value : ℕ → List ℕ → ℕ
digits_value n [] = n
digits_value n (c ∷ more) = digits_value (with_digit n c) more

-- how much a number is
abbrev pub number_value : List ℕ → ℕ
number_value w = digits_value 0 w

-- how many milliseconds a unit is, by its rank: d, h, m, s, ms
abbrev pub unit_length : ℕ → ℕ
unit_length rank =
    if rank == 1 then 86400000
    else (if rank == 2 then 3600000
    else (if rank == 3 then 60000
    else (if rank == 4 then 1000
    else 1)))

-- the milliseconds of the part that a text begins with, a number and a unit
abbrev pub part_value : List ℕ → ℕ
part_value w = number_value (take_while is_digit_or_score w) * unit_length (unit_rank (part_unit w))

-- the milliseconds of at most n parts
abbrev pub parts_value : ℕ → List ℕ → ℕ
parts_value zero w = 0
parts_value (suc n) w =
    part_value w + (if length (part_more w) == 0 then 0 else parts_value n (without_score (part_more w)))

-- how many milliseconds a duration is, behind T# or TIME#
unfoldable pub duration_value : List ℕ → ℕ
duration_value w =
    if is_duration_behind (codes "T#") 2 w then parts_value (length w) (drop 2 w)
    else parts_value (length w) (drop 5 w)

-- n, unless it is above the limit
abbrev pub limited : ℕ → ℕ → Option ℕ
limited most n = if nat_le n most then Some n else None

-- how much a word is that is a number up to a limit
unfoldable pub number_up_to : ℕ → List ℕ → Option ℕ
number_up_to most w = if is_number w then limited most (number_value w) else None

-- how many milliseconds a word is that is a duration up to a limit
unfoldable pub duration_up_to : ℕ → List ℕ → Option ℕ
duration_up_to most w = if is_duration w then limited most (duration_value w) else None
