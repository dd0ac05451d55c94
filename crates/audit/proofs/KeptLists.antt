-- Lists of items that are read one by one, where an item may be empty.
use Rattle.std.proofs.Common.{arith, ◌≡◌, ℕ, suc, ◌+◌, ◌≤◌, ◌++◌, ◌∷◌, [], List, length, take, drop, get_or, slice_get, Some, None, sym, ap, refl, ◌∙◌, append_assoc}
use Rattle.std.specs.List.{AllZip, flat_map, zip}
use Rattle.std.proofs.lemmas.List.{append-nil, take_all, take_more, drop_more}
use Rattle.std.proofs.lemmas.Slice.Zip.{length-zip, get_or-zip}
use Rattle.std.proofs.lemmas.Option.{none-some, some_pair_parts, slice_get_within, get_or_from_slice_get}
use Rattle.lists.proofs.Zips.{zip_at, zip_length}
use Rattle.text_lines.specs.Steps.Reading.{StopsAt, IsRead}

-- two lists of the same length whose elements at each place are related
pub all_zip : {A B : Type 0} (R : A → B → Type 0) (xs : List A) (ys : List B) → length ys ≡ length xs
    → ((k : ℕ) (x : A) (y : B) → slice_get xs k ≡ Some x → slice_get ys k ≡ Some y → R x y) → AllZip R xs ys
all_zip R [] [] many each = tt
all_zip R [] (y ∷ ys) many each = absurd (omega (arith, many))
all_zip R (x ∷ xs) [] many each = absurd (omega (arith, many))
all_zip R (x ∷ xs) (y ∷ ys) many each = (each 0 x y refl refl, all_zip R xs ys (omega (arith, many)) (λ k a b. each (suc k) a b))

module _ {A B : Type 0} (item : A × B → List ℕ) (starts : (e : A × B) (more : List ℕ) → StopsAt 32 more → StopsAt 32 (item e ++ more)) (IsSo : A → B → Type 0) (xs : List A) (text : List ℕ) where
  -- Of all items that the text can begin with, so many first ones were read, and the others are left.
  abbrev pub AreFirst : ℕ → List B → List ℕ → Type 0
  AreFirst k found rest =
      (ys : List B) (more : List ℕ) → AllZip IsSo xs ys → StopsAt 32 more → text ≡ flat_map item (zip xs ys) ++ more
      → (found ≡ take k ys) × (rest ≡ flat_map item (drop k (zip xs ys)) ++ more)

  stops : (es : List (A × B)) (more : List ℕ) → StopsAt 32 more → StopsAt 32 (flat_map item es ++ more)
  stops [] more ends = ends
  stops (e ∷ es) more ends = rw (append_assoc (item e) (flat_map item es) more) (starts e (flat_map item es ++ more) (stops es more ends))

  -- what stands before the next item
  next : (k : ℕ) (a : A) (b : B) (ys : List B) → AllZip IsSo xs ys → slice_get xs k ≡ Some a → slice_get ys k ≡ Some b → drop k (zip xs ys) ≡ (a, b) ∷ drop (k + 1) (zip xs ys)
  next k a b ys all at here =
      let within = slice_get_within xs k a at in
      let many = zip_length IsSo xs ys all in
      drop_more (zip xs ys) k (a, b) (omega (arith, within, many, length-zip xs ys))
      ∙ ap (λ e. e ∷ drop (k + 1) (zip xs ys)) (get_or-zip xs ys k (a, b) within (omega (arith, within, many)) ∙ ap (λ x. (x, get_or ys k b)) (get_or_from_slice_get xs k a a at) ∙ ap (λ y. (a, y)) (get_or_from_slice_get ys k b b here))

  pub first_more : (k : ℕ) (a : A) (found : List B) (rest : List ℕ) (b : B) (left : List ℕ) → slice_get xs k ≡ Some a → AreFirst k found rest
      → IsRead (λ y. item (a, y)) (IsSo a) 32 rest (Some (b, left)) → AreFirst (k + 1) (found ++ b ∷ []) left
  first_more k a found rest b left at before read =
      λ ys more all ends e.
      let was = before ys more all ends e in
      let here = zip_at IsSo xs ys all k a at in
      let y = here.0 in
      let others = drop (k + 1) (zip xs ys) in
      let tail = flat_map item others ++ more in
      let parted : rest ≡ item (a, y) ++ tail = was.1 ∙ ap (λ l. flat_map item l ++ more) (next k a y ys all at here.1) ∙ append_assoc (item (a, y)) (flat_map item others) more in
      let same = some_pair_parts b y left tail (read y tail here.2 (stops others more ends) parted) in
      let within = slice_get_within ys k y here.1 in (
        ap (λ l. l ++ b ∷ []) was.0 ∙ ap (λ v. take k ys ++ v ∷ []) (same.0 ∙ sym (get_or_from_slice_get ys k y y here.1)) ∙ sym (take_more ys k y within),
        same.1,
      )

  -- where the next item isn't there, there are no such items
  pub first_stuck : (k : ℕ) (a : A) (found : List B) (rest : List ℕ) → slice_get xs k ≡ Some a → AreFirst k found rest
      → IsRead (λ y. item (a, y)) (IsSo a) 32 rest None → (ys : List B) → AllZip IsSo xs ys → text ≡ flat_map item (zip xs ys) → ⊥
  first_stuck k a found rest at before none =
      λ ys all e.
      let was = before ys [] all tt (e ∙ sym (append-nil (flat_map item (zip xs ys)))) in
      let here = zip_at IsSo xs ys all k a at in
      let others = drop (k + 1) (zip xs ys) in
      let tail = flat_map item others ++ [] in
      let parted : rest ≡ item (a, here.0) ++ tail = was.1 ∙ ap (λ l. flat_map item l ++ []) (next k a here.0 ys all at here.1) ∙ append_assoc (item (a, here.0)) (flat_map item others) [] in
      none-some (here.0, tail) (none here.0 tail here.2 (stops others [] tt) parted)

  -- all were read
  pub first_all : (k : ℕ) (found : List B) (rest : List ℕ) → length xs ≤ k → AreFirst k found rest → (ys : List B) → AllZip IsSo xs ys → text ≡ flat_map item (zip xs ys) → found ≡ ys
  first_all k found rest end before =
      λ ys all e.
      let was = before ys [] all tt (e ∙ sym (append-nil (flat_map item (zip xs ys)))) in
      was.0 ∙ take_all k ys (omega (arith, end, zip_length IsSo xs ys all))
