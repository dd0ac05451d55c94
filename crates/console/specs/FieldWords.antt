-- The words ADDRESS=VALUE of the command line.
use Rattle.std.specs.Prelude.{ℕ, List, codes}
use Rattle.std.specs.Borrow.{Bor}
use Rattle.std.specs.List.{join_by}

-- the words as one text, parted by one blank
abbrev pub one_text_of : List (Bor (List ℕ)) → List ℕ
one_text_of words = join_by (λ (w : Bor (List ℕ)). w.now) (codes " ") words
