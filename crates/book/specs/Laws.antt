-- What holds of entries that fit.
use Rattle.std.specs.Prelude.{ℕ, List}
use Rattle.evaluation.specs.Meaning.{Evaluated}
use Rattle.book.specs.Fits.{AllFit, NeverFall}

-- where each entry fits those before it, takes that aren't of nothing never fall, over all incarnations of a resource
abbrev pub TakesNeverFall : Type 0
TakesNeverFall = (first : List ℕ) (entries : List Evaluated) → AllFit first entries → NeverFall entries
