-- The line with which a further file of a journal begins.
use Rattle.std.specs.Prelude.{ℕ, ◌++◌, ◌==◌, ◌&&◌, Bool, true, false, List, [], ◌∷◌, codes}
use Rattle.std.specs.Fmt.{decimal}
use Rattle.scan_steps.specs.Digests.{all_mixed}

-- a text begins with these bytes
abbrev pub begins_with : List ℕ → List ℕ → Bool
begins_with [] text = true
begins_with (b ∷ bytes) [] = false
begins_with (b ∷ bytes) (c ∷ text) = b == c && begins_with bytes text

-- a number that is the same for equal texts, and mostly another one for others
abbrev pub digest_of : List ℕ → ℕ
digest_of text = all_mixed 0 text

-- the file's number, and the digest of the file before
abbrev pub continues_front : ℕ → ℕ → List ℕ
continues_front number digest = codes "CONTINUES " ++ decimal number ++ codes " " ++ decimal digest ++ codes " "

-- `CONTINUES n d R i;`: then the resource, and the incarnation in which the next line is noted
abbrev pub continues_line : ℕ → ℕ → List ℕ → ℕ → List ℕ
continues_line number digest resource incarnation =
    continues_front number digest ++ resource ++ codes " " ++ decimal incarnation ++ codes ";\n"
