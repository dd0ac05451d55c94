-- What a character or a word may be.
use Rattle.std.specs.Prelude.{zero, suc, unwrap_or, take_while, ℕ, ◌+◌, List, [], ◌∷◌, ◌==◌, if◌then◌else◌, length, slice_index_or, take, drop, position, Bool, true, false, ◌&&◌, ◌||◌, not, nat_lt, nat_le, Option, Some, None, codes, is_some}
use Rattle.std.specs.List.{list_any}
use Rattle.std.specs.Str.{str_eq_ignore_ascii_case}
use Rattle.std_blocks.specs.declared.block_type.BlockType.{BlockType}
use Rattle.std_blocks.specs.declared.block_type.BlockType.TheVariants.{SR, RS, CTU, CTD, CTUD, TP, TON, TOF}

-- low ≤ c ≤ high
abbrev pub between : ℕ → ℕ → ℕ → Bool
between low c high = nat_le low c && nat_le c high

-- an ASCII letter
abbrev pub is_letter : ℕ → Bool
is_letter c = between 65 c 90 || between 97 c 122

-- a decimal digit
abbrev pub is_digit : ℕ → Bool
is_digit c = between 48 c 57

-- a letter or a digit
abbrev pub is_letter_or_digit : ℕ → Bool
is_letter_or_digit c = is_letter c || is_digit c

-- letters, digits, `_`, `.`, `#`
abbrev pub is_word_char : ℕ → Bool
is_word_char c = is_letter c || is_digit c || c == 95 || c == 46 || c == 35

-- the same word, whatever the case of its letters
abbrev pub same_word : List ℕ → List ℕ → Bool
same_word a b = str_eq_ignore_ascii_case a b

-- what stands beside the first true test
abbrev pub first_that : {A : Type 0} → List (Bool × A) → Option A
first_that [] = None
first_that (x ∷ more) = if x.0 then Some x.1 else first_that more

-- the block type that a word names
unfoldable pub block_type : List ℕ → Option BlockType
block_type w = first_that (
    (same_word w (codes "SR"), SR) ∷ (same_word w (codes "RS"), RS)
    ∷ (same_word w (codes "CTU"), CTU) ∷ (same_word w (codes "CTD"), CTD) ∷ (same_word w (codes "CTUD"), CTUD)
    ∷ (same_word w (codes "TP"), TP) ∷ (same_word w (codes "TON"), TON) ∷ (same_word w (codes "TOF"), TOF) ∷ [])

-- the words for kinds and values
unfoldable pub is_value_word : List ℕ → Bool
is_value_word w = list_any (same_word w)
    (codes "BOOL" ∷ codes "INT" ∷ codes "TIME" ∷ codes "TRUE" ∷ codes "FALSE" ∷ [])

-- the words of a program
unfoldable pub is_program_word : List ℕ → Bool
is_program_word w = list_any (same_word w)
    (codes "PROGRAM" ∷ codes "END_PROGRAM" ∷ codes "VAR" ∷ codes "VAR_INPUT" ∷ codes "VAR_OUTPUT"
    ∷ codes "END_VAR" ∷ codes "RETAIN" ∷ [])

-- the words of a configuration
unfoldable pub is_resource_word : List ℕ → Bool
is_resource_word w = list_any (same_word w)
    (codes "CONFIGURATION" ∷ codes "END_CONFIGURATION" ∷ codes "RESOURCE" ∷ codes "END_RESOURCE" ∷ codes "ON" ∷ [])

-- the words of a task
unfoldable pub is_task_word : List ℕ → Bool
is_task_word w = list_any (same_word w) (codes "TASK" ∷ codes "WITH" ∷ codes "INTERVAL" ∷ codes "PRIORITY" ∷ [])

-- the reserved words, which are no names
unfoldable pub is_reserved : List ℕ → Bool
is_reserved w = is_some (block_type w) || is_value_word w || is_program_word w || is_resource_word w || is_task_word w

-- letters, digits and single underscores, no digit first and no underscore last
abbrev pub is_rest : List ℕ → Bool
is_rest [] = true
is_rest (c ∷ []) = is_letter_or_digit c
is_rest (c ∷ e ∷ more) = (is_letter_or_digit c || (c == 95 && not (e == 95))) && is_rest (e ∷ more)

-- an identifier: letters, digits and single underscores, no digit first and no underscore last
unfoldable pub is_identifier : List ℕ → Bool
is_identifier w = not (length w == 0) && not (is_digit (slice_index_or w 0 48)) && is_rest w

-- an identifier that is no reserved word
unfoldable pub is_plain_name : List ℕ → Bool
is_plain_name w = is_identifier w && not (is_reserved w)

-- one plain name, or two joined by the dot at i
abbrev pub is_name_with : List ℕ → Option ℕ → Bool
is_name_with w None = is_plain_name w
is_name_with w (Some i) = is_plain_name (take i w) && is_plain_name (drop (i + 1) w)

-- a plain name, or two joined by a dot
unfoldable pub is_name : List ℕ → Bool
is_name w = is_name_with w (position (λ c. c == 46) w)

-- digits and single underscores, a digit last
abbrev pub is_number_rest : List ℕ → Bool
is_number_rest [] = true
is_number_rest (c ∷ []) = is_digit c
is_number_rest (c ∷ e ∷ more) = (is_digit c || (c == 95 && is_digit e)) && is_number_rest (e ∷ more)

-- digits, with single underscores between them
abbrev pub is_number : List ℕ → Bool
is_number [] = false
is_number (c ∷ []) = is_digit c
is_number (c ∷ e ∷ more) = is_digit c && (is_digit e || e == 95) && is_number_rest (e ∷ more)

-- a digit or an underscore
abbrev pub is_digit_or_score : ℕ → Bool
is_digit_or_score c = is_digit c || c == 95

-- the units of a duration, the greatest first; 0 for anything else
abbrev pub unit_rank : List ℕ → ℕ
unit_rank u = unwrap_or (first_that (
    (same_word u (codes "d"), 1) ∷ (same_word u (codes "h"), 2) ∷ (same_word u (codes "m"), 3)
    ∷ (same_word u (codes "s"), 4) ∷ (same_word u (codes "ms"), 5) ∷ [])) 0

-- a text without an underscore that it begins with
abbrev pub without_score : List ℕ → List ℕ
without_score [] = []
without_score (c ∷ more) = if c == 95 then more else c ∷ more

-- what follows the digits that a text begins with
abbrev pub part_rest : List ℕ → List ℕ
part_rest w = drop (length (take_while is_digit_or_score w)) w

-- the unit behind the digits
abbrev pub part_unit : List ℕ → List ℕ
part_unit w = take_while is_letter (part_rest w)

-- what follows the unit
abbrev pub part_more : List ℕ → List ℕ
part_more w = drop (length (part_unit w)) (part_rest w)

-- a number and a unit below the one before
unfoldable pub is_part : ℕ → List ℕ → Bool
is_part above w = is_number (take_while is_digit_or_score w) && nat_lt above (unit_rank (part_unit w))

-- one or more parts of a duration, at most n, with at most one underscore between two
abbrev pub is_parts : ℕ → ℕ → List ℕ → Bool
is_parts zero above w = false
is_parts (suc n) above w = is_part above w
    && (length (part_more w) == 0 || is_parts n (unit_rank (part_unit w)) (without_score (part_more w)))

-- the parts of a whole duration
unfoldable pub has_parts : ℕ → List ℕ → Bool
has_parts n w = is_parts n 0 w

-- the parts of a duration behind the first n characters, which are p
unfoldable pub is_duration_behind : List ℕ → ℕ → List ℕ → Bool
is_duration_behind p n w = nat_le n (length w) && same_word (take n w) p && has_parts (length w) (drop n w)

-- a duration: `T#` or `TIME#` and its parts
unfoldable pub is_duration : List ℕ → Bool
is_duration w = is_duration_behind (codes "T#") 2 w || is_duration_behind (codes "TIME#") 5 w

-- a name, a number or a duration
unfoldable pub is_operand : List ℕ → Bool
is_operand w = is_name w || is_number w || is_duration w
