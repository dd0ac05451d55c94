-- What single words of a plant's text are.
use Rattle.std.specs.Prelude.{ℕ, ◌+◌, ◌==◌, ◌&&◌, ◌||◌, Bool, if◌then◌else◌, List, [], ◌∷◌, length, take_while, slice_index_or, codes, Option, Some, None, unwrap_or}
use Rattle.std.specs.Option.{option_map}
use Rattle.words.specs.Chars.{is_letter_or_digit, same_word, first_that, is_plain_name, block_type}
use Rattle.words.specs.Addresses.{address}
use Rattle.plant_text.specs.declared.token.Token.{Token}
use Rattle.plant_text.specs.declared.token.Token.TheVariants as token
use Rattle.plant_text.specs.declared.token.Keyword.{Keyword}
use Rattle.plant_text.specs.declared.token.Keyword.TheVariants as key
use Rattle.plant_text.specs.declared.token.Punctuation.{Punctuation}
use Rattle.plant_text.specs.declared.token.Punctuation.TheVariants.{Open, Close, Colon, Semicolon, Comma, Dot, Assign}
use Rattle.words.specs.Numbers.{number_up_to, duration_up_to}

-- a letter, a digit or an underscore
abbrev pub is_name_char : ℕ → Bool
is_name_char c = is_letter_or_digit c || c == 95

-- a character of a word that begins with a letter or a digit; `#` stands in durations
abbrev pub is_run_char : ℕ → Bool
is_run_char c = is_name_char c || c == 35

-- how long the word is that a text begins with: letters, digits, `_` and `#`, also behind `%`; or `:=`; or one character
abbrev pub front_len : List ℕ → ℕ
front_len [] = 0
front_len (c ∷ more) =
    if c == 58 && slice_index_or more 0 32 == 61 then 2
    else (if c == 37 then 1 + length (take_while is_run_char more)
    else (if is_run_char c then length (take_while is_run_char (c ∷ more)) else 1))

-- the first of two that there is
abbrev pub or_else : {A : Type 0} → Option A → Option A → Option A
or_else None other = other
or_else (Some x) other = Some x

-- the keywords of a program
unfoldable pub program_keyword : List ℕ → Option Keyword
program_keyword w = first_that (
    (same_word w (codes "PROGRAM"), key.Program) ∷ (same_word w (codes "END_PROGRAM"), key.EndProgram)
    ∷ (same_word w (codes "VAR"), key.Var) ∷ (same_word w (codes "VAR_INPUT"), key.VarInput)
    ∷ (same_word w (codes "VAR_OUTPUT"), key.VarOutput) ∷ (same_word w (codes "RETAIN"), key.Retain)
    ∷ (same_word w (codes "END_VAR"), key.EndVar) ∷ [])

-- the keywords of a configuration
unfoldable pub configuration_keyword : List ℕ → Option Keyword
configuration_keyword w = first_that (
    (same_word w (codes "CONFIGURATION"), key.Configuration)
    ∷ (same_word w (codes "END_CONFIGURATION"), key.EndConfiguration) ∷ (same_word w (codes "RESOURCE"), key.Resource)
    ∷ (same_word w (codes "END_RESOURCE"), key.EndResource) ∷ (same_word w (codes "ON"), key.On) ∷ [])

-- the keywords of a task, and those of kinds
unfoldable pub task_keyword : List ℕ → Option Keyword
task_keyword w = first_that (
    (same_word w (codes "TASK"), key.Task) ∷ (same_word w (codes "WITH"), key.With)
    ∷ (same_word w (codes "INTERVAL"), key.Interval) ∷ (same_word w (codes "PRIORITY"), key.Priority)
    ∷ (same_word w (codes "BOOL"), key.Bool) ∷ (same_word w (codes "INT"), key.Int)
    ∷ (same_word w (codes "TIME"), key.Time) ∷ [])

-- the keyword that a word is, in either case
unfoldable pub keyword : List ℕ → Option Keyword
keyword w = or_else (program_keyword w) (or_else (configuration_keyword w) (task_keyword w))

-- the punctuation that a word is
unfoldable pub punctuation : List ℕ → Option Punctuation
punctuation w = first_that (
    (same_word w (codes "("), Open) ∷ (same_word w (codes ")"), Close) ∷ (same_word w (codes ":"), Colon)
    ∷ (same_word w (codes ";"), Semicolon) ∷ (same_word w (codes ","), Comma) ∷ (same_word w (codes "."), Dot)
    ∷ (same_word w (codes ":="), Assign) ∷ [])

-- the name that a word is, if it is an identifier and isn't reserved
unfoldable pub name : List ℕ → Option Token
name w = if is_plain_name w then Some (token.Name w) else None

-- a keyword, a block type or punctuation
unfoldable pub fixed_word : List ℕ → Option Token
fixed_word w =
    or_else (option_map (λ k. token.Keyword k) (keyword w)) (
    or_else (option_map (λ b. token.Block b) (block_type w)) (option_map (λ p. token.Punctuation p) (punctuation w)))

-- a number up to 65535, a duration up to 2147483647 ms, or an address
unfoldable pub value_word : List ℕ → Option Token
value_word w =
    or_else (option_map (λ n. token.Number n) (number_up_to 65535 w)) (
    or_else (option_map (λ n. token.Duration n) (duration_up_to 2147483647 w))
    (option_map (λ a. token.Address a) (address w)))

-- what a word is, in either case: a fixed word, a value, a name, or unknown
unfoldable pub word_of : List ℕ → Token
word_of w = unwrap_or (or_else (fixed_word w) (or_else (value_word w) (name w))) token.Unknown
