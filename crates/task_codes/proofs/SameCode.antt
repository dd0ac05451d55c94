-- Lists that are the same by what is found at each place.
use Rattle.std.proofs.Common.{◌≡◌, ℕ, suc, ◌<◌, List, [], ◌∷◌, length, slice_get, arith, refl}
use Rattle.lists.specs.Items.{items_or_none}

-- lists of lists of one length are equal where the lists found at each place are
pub same_by_items : {X : Type 0} (xs ys : List (List X)) → length xs ≡ length ys → ((k : ℕ) → k < length xs → items_or_none (slice_get xs k) ≡ items_or_none (slice_get ys k)) → xs ≡ ys
same_by_items [] [] l h = refl
same_by_items [] (y ∷ ys) l h = absurd (omega arith)
same_by_items (x ∷ xs) [] l h = absurd (omega arith)
same_by_items (x ∷ xs) (y ∷ ys) l h =
    let first : x ≡ y = h 0 (omega arith) in
    let rest : xs ≡ ys = same_by_items xs ys (omega arith) (λ k lt. h (suc k) (omega arith)) in
    cc
