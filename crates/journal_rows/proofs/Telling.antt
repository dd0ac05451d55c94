-- Of which file another one tells.
use Rattle.std.proofs.Common.{◌≡◌, ◌∙◌, ℕ, Bool, List, [], ◌∷◌, refl, sym, ap, map}
use Rattle.std.specs.Borrow.{Bor}
use Rattle.std.specs.List.{position, position_or_len}
use Rattle.std.proofs.lemmas.List.{length-map}
use Rattle.journal_rows.specs.ContinuesLine.{begins_with}
use Rattle.journal_rows.specs.LooseFiles.{Texts, digest_word}

-- what is looked for stands where it stands among what it is made of
pub position_or_len-map : {X Y : Type 0} (f : X → Y) (p : Y → Bool) (xs : List X) → position_or_len p (map f xs) ≡ position_or_len (λ x. p (f x)) xs
position_or_len-map f p [] = refl
position_or_len-map f p (x ∷ xs) = let e = position_or_len-map f p xs in cc

pub position-map : {X Y : Type 0} (f : X → Y) (p : Y → Bool) (xs : List X) → position p (map f xs) ≡ position (λ x. p (f x)) xs
position-map f p xs = let e = position_or_len-map f p xs in let l = length-map xs f in cc

-- what is found among the digests of files is found among these
pub told_by_digests : {W : Type 0} (bytes_of : W → List ℕ) (words : List W) (texts : Texts) (told : List ℕ) → map bytes_of words ≡ map (λ t. digest_word t.now) texts
    → position (λ w. begins_with (bytes_of w) told) words ≡ position (λ t. begins_with (digest_word t.now) told) texts
told_by_digests bytes_of words texts told same =
    sym (position-map bytes_of (λ b. begins_with b told) words) ∙ ap (position (λ b. begins_with b told)) same
    ∙ position-map (λ (t : Bor (List ℕ)). digest_word t.now) (λ b. begins_with b told) texts
