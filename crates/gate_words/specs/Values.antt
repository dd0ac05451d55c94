-- The values of INTs and TIMEs that signals make.
use Rattle.std.specs.Prelude.{◌≡◌, ℕ, Bool, ℤ, pos, ◌+ℤ◌}
use Rattle.std.specs.Int.{cast_signed, w16}
use Rattle.gate_words.specs.declared.int_word.IntWord.{IntWord}
use Rattle.gate_words.specs.declared.time_word.TimeWord.{TimeWord}
use Rattle.gate_words.specs.Words.{word_value}

-- an INT is that of its sixteen bits
abbrev pub int_at : (ℕ → Bool) → IntWord → ℤ
int_at v word = cast_signed w16 (word_value v word.bits)

-- a TIME is the number of its bits
abbrev pub time_at : (ℕ → Bool) → TimeWord → ℕ
time_at v word = word_value v word.bits

-- an INT is more than the least one, -32768, by this number
abbrev pub IsRaised : ℤ → ℕ → Type 0
IsRaised z n = pos n ≡ z +ℤ pos 32768
