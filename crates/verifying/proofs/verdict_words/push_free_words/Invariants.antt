use Rattle.std.proofs.Common.{◌≡◌, ℕ, ◌++◌, string_bytes, take}
use Rattle.std.specs.List.{enumerate_from, flat_map}
use Rattle.verifying.specs.VerdictLines.{digits_of_free, input_word, name_at}
use Rattle.verifying.proofs.verdict_words.push_free_words.Given as goal

abbrev pub invariant-loop-input : goal.invariant-loop-input
invariant-loop-input l = string_bytes l.text ≡ string_bytes l.initial.text
    ++ flat_map (λ (e : ℕ × ℕ). input_word (name_at l.declarations e.1) (digits_of_free l.rows e.0)) (take l.input (enumerate_from 0 l.free))
