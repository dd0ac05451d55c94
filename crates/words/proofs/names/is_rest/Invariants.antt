use Rattle.std.proofs.Common.{◌≡◌, length}
use Rattle.words.specs.Chars.{is_rest}
use Rattle.words.proofs.names.is_rest.Given as goal

abbrev pub invariant-chars : goal.invariant-chars
invariant-chars l = is_rest l.rest ≡ is_rest l.word

abbrev pub decreases-chars : goal.decreases-chars
decreases-chars l = length l.rest
