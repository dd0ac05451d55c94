-- Tables of what is known.
use Rattle.std.proofs.Common.{◌≡◌, ℕ, zero, suc, ◌+◌, ◌<◌, ◌++◌, List, [], ◌∷◌, length, get_or, take, Option, Some, None, refl, ap, sym, ◌∙◌, replicate, add-one}
use Rattle.std.proofs.Math.ListN.{set}
use Rattle.std.specs.Prelude.{slice_get, map}
use Rattle.std.specs.Option.{option_map}
use Rattle.std.proofs.lemmas.List.{map-set, get_or-map, take_more, map-append}
use Rattle.std.proofs.lemmas.Option.{slice_get_within, get_or_from_slice_get}
use Rattle.lists.proofs.Tables.{cell_place}
use Rattle.task_codes.specs.declared.task_ref.TaskRef.{TaskRef}
use Rattle.lists.specs.Items.{items_or_none}
use Rattle.plant.specs.PlantValue.{ResourceValue, PlantValue, code_at}
use Rattle.task_codes.specs.CodeValue.{CodeValue}
use Rattle.exchange_core.specs.HeldMessages.{Table, IsShaped}
use Rattle.exchange_core.specs.Steps.KnowingMessages.{has_place}

-- one place of one row is written
pub rows-set : {X Y : Type 0} (f : X → List Y) (rows : List X) (i j : ℕ) (row changed : X) (v : Y) → i < length rows → row ≡ get_or rows i row → f changed ≡ set (f row) j v
    → map f (set rows i changed) ≡ set (map f rows) i (set (get_or (map f rows) i []) j v)
rows-set f rows i j row changed v h at change =
    map-set f rows i changed ∙ ap (set (map f rows) i) (change ∙ ap (λ r. set r j v) (ap f at ∙ sym (get_or-map f rows i row [] h)))

-- a task of the plant has a place
pub place_of_code : (plant : PlantValue) (table : Table) (p : TaskRef) (code : CodeValue) → IsShaped plant table → code_at plant p ≡ Some code → has_place table p
place_of_code plant table p code shaped found =
    cell_place (λ o. items_or_none (option_map (λ (r : ResourceValue). r.codes) o)) plant.resources table p.resource p.task code refl shaped found

-- the table is made row by row
pub replicate-one_more : {X : Type 0} (n : ℕ) (x : X) → replicate (n + 1) x ≡ replicate n x ++ x ∷ []
replicate-one_more n x = rw add-one (by n) where
  by : (n : ℕ) → replicate (suc n) x ≡ replicate n x ++ x ∷ []
  by zero = refl
  by (suc n) = ap (λ xs. x ∷ xs) (by n)

pub rows-more : {R X : Type 0} (items : R → List (Option X)) (rows : List R) (row : R) (rs : List ResourceValue) (i : ℕ) (r : ResourceValue) → slice_get rs i ≡ Some r
    → items row ≡ replicate (length r.codes) None → map items rows ≡ map (λ (r : ResourceValue). replicate (length r.codes) None) (take i rs)
    → map items (rows ++ row ∷ []) ≡ map (λ (r : ResourceValue). replicate (length r.codes) None) (take (i + 1) rs)
rows-more items rows row rs i r at made so_far =
    let is : get_or rs i r ≡ r = get_or_from_slice_get rs i r r at in
    map-append items rows (row ∷ [])
    ∙ rw (so_far, made, take_more rs i r (slice_get_within rs i r at), is) (sym (map-append (λ (r : ResourceValue). replicate (length r.codes) None) (take i rs) (r ∷ [])))
