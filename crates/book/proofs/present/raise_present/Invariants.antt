-- The numbers before the place are raised, and the others are as they were.
use Rattle.std.proofs.Common.{◌≡◌, ℕ, ◌<◌, ◌≤◌, max, length}
use Rattle.std.specs.Prelude.{slice_index}
use Rattle.book.specs.Fits.{told_of}
use Rattle.book.proofs.present.raise_present.Given as goal

abbrev pub invariant-loop-resource : goal.invariant-loop-resource
invariant-loop-resource l =
    (length l.present.items ≡ length l.fn.present.items)
    × ((n : ℕ) → n < l.resource → slice_index l.present.items n ≡ max (told_of n l.evaluation) (slice_index l.fn.present.items n))
    × ((n : ℕ) → l.resource ≤ n → slice_index l.present.items n ≡ slice_index l.fn.present.items n)
