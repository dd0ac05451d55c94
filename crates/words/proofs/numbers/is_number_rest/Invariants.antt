use Rattle.std.proofs.Common.{◌≡◌, length}
use Rattle.words.specs.Chars.{is_number_rest}
use Rattle.words.proofs.numbers.is_number_rest.Given as goal

abbrev pub invariant-chars : goal.invariant-chars
invariant-chars l = is_number_rest l.rest ≡ is_number_rest l.word

abbrev pub decreases-chars : goal.decreases-chars
decreases-chars l = length l.rest
