-- The events of an entry, as they are listed one after the other.
use Rattle.std.proofs.Common.{◌≡◌, zero, suc, Some, reverse, ℕ, ◌+◌, true, false, cond, List, [], ◌∷◌, ◌++◌, take, ap, sym, ◌∙◌, arith, eqb}
use Rattle.std.specs.Prelude.{slice_get}
use Rattle.std.specs.List.{flat_map, enumerate_from}
use Rattle.std.proofs.lemmas.List.{append-nil, append_assoc, take_more, reverse-append}
use Rattle.std.proofs.lemmas.Option.{none-some, same_Some, slice_get_within, get_or_from_slice_get}
use Rattle.evaluation.specs.declared.name.Name.{Name}
use Rattle.evaluation.specs.Meaning.{Evaluated}
use Rattle.book.specs.Fits.{present_in}
use Rattle.world.specs.declared.event.Event.{Event}
use Rattle.world.specs.Schedule.{known_of, hearing_of, hearing}

-- the hearing of another resource
pub hearing-is : (first : List ℕ) (older : List Evaluated) (name : Name) (o i p k : ℕ) → p ≡ present_in first older o → k ≡ known_of first older name o → eqb o name.task.resource ≡ false
    → hearing first older name (o, i) ≡ hearing_of name.task.resource o p k i
hearing-is first older name o i p k present known other =
    ap (λ b. cond b [] (hearing_of name.task.resource o (present_in first older o) (known_of first older name o) i)) other
    ∙ ap (λ q. hearing_of name.task.resource o q (known_of first older name o) i) (sym present)
    ∙ ap (λ q. hearing_of name.task.resource o p q i) (sym known)

-- nothing is heard of itself
pub no-hearing : (first : List ℕ) (older : List Evaluated) (name : Name) (o i : ℕ) → eqb o name.task.resource ≡ true → hearing first older name (o, i) ≡ []
no-hearing first older name o i own = ap (λ b. cond b [] (hearing_of name.task.resource o (present_in first older o) (known_of first older name o) i)) own

-- one place more of a list with its places
place-more : (f : ℕ × ℕ → List Event) (xs : List ℕ) (j k x : ℕ) → slice_get xs k ≡ Some x → flat_map f (enumerate_from j (take (suc k) xs)) ≡ flat_map f (enumerate_from j (take k xs)) ++ f (j + k, x)
place-more f [] j k x e = absurd (none-some x e)
place-more f (y ∷ ys) j zero x e = append-nil (f (j, y)) ∙ ap (λ n. f (j, n)) (same_Some y x e) ∙ ap (λ n. f (n, x)) (omega arith)
place-more f (y ∷ ys) j (suc k) x e =
    ap (λ l. f (j, y) ++ l) (place-more f ys (j + 1) k x e)
    ∙ sym (append_assoc (f (j, y)) (flat_map f (enumerate_from (j + 1) (take k ys))) (f (j + 1 + k, x)))
    ∙ ap (λ n. (f (j, y) ++ flat_map f (enumerate_from (j + 1) (take k ys))) ++ f (n, x)) (omega arith)

pub places-more : (f : ℕ × ℕ → List Event) (xs : List ℕ) (k x : ℕ) → slice_get xs k ≡ Some x → flat_map f (enumerate_from 0 (take (k + 1) xs)) ≡ flat_map f (enumerate_from 0 (take k xs)) ++ f (k, x)
places-more f xs k x e =
    let next : k + 1 ≡ suc k = omega arith in
    let from : 0 + k ≡ k = omega arith in
    ap (λ n. flat_map f (enumerate_from 0 (take n xs))) next ∙ place-more f xs 0 k x e
    ∙ ap (λ n. flat_map f (enumerate_from 0 (take k xs)) ++ f (n, x)) from

-- one entry more
pub turned-more : (es : List Evaluated) (i : ℕ) (x : Evaluated) → slice_get es i ≡ Some x → reverse (take (i + 1) es) ≡ x ∷ reverse (take i es)
turned-more es i x e = ap reverse (take_more es i x (slice_get_within es i x e) ∙ ap (λ y. take i es ++ y ∷ []) (get_or_from_slice_get es i x x e)) ∙ reverse-append (take i es) (x ∷ [])
