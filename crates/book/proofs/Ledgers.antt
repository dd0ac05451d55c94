-- The rows of a book's tables.
use Rattle.std.proofs.Common.{◌≡◌, ◌⊎◌, inl, inr, ℕ, zero, suc, ◌+◌, ◌<◌, ◌≤◌, arith, Bool, true, false, cond, ◌&&◌, List, [], ◌∷◌, ◌++◌, map, take, drop, length, get_or, Option, Some, None, refl, ap, sym, ◌∙◌, subst, eqb}
use Rattle.std.proofs.Math.ListN.{set}
use Rattle.std.specs.Prelude.{is_some, OnErr, Result, Ok, Err}
use Rattle.std.specs.Ordering.{nat_cmp, ordering_then, ordering_index}
use Rattle.std.specs.declared.cmp.Ordering.{Ordering}
use Rattle.std.specs.declared.cmp.Ordering.TheVariants.{Less, Equal, Greater}
use Rattle.std.specs.List.{find, list_any, position, position_from}
use Rattle.std.specs.List.Sorted.{IsNonDecreasingBy, IsPartitionPoint}
use Rattle.std.proofs.lemmas.Iterator.Adapters.{position_from-zero}
use Rattle.std.proofs.lemmas.Bool.Decides.{nat_tests}
use Rattle.std.specs.List.{AllByRecursion}
use Rattle.std.proofs.lemmas.Bool.{false≢true, eq-eqb, eqb-true, and_parts, cases_lt}
use Rattle.task_codes.specs.declared.task_ref.TaskRef.{TaskRef}
use Rattle.evaluation.specs.declared.take.Take.{Take}
use Rattle.evaluation.specs.Last.{same_task}
use Rattle.book.specs.declared.book.ledger.place.Place.{Place}
use Rattle.book.specs.declared.book.ledger.task_places.TaskPlaces.{TaskPlaces}
use Rattle.book.specs.declared.book.ledger.taker.Taker.{Taker}
use Rattle.book.proofs.Deciding.{test-task}
use Rattle.book.specs.Steps.Ledger.{is_row, row_places, places_in, is_taker, row_place, taker_in, has_row, noted, pair_cmp, index_of, AreRising}

alike : (t u v : TaskRef) → same_task t u ≡ true → same_task t v ≡ same_task u v
alike t u v e = ap (λ w. same_task w v) ((test-task t u).holds e)

-- a task's row has one place more
pub places-more : (rows : List TaskPlaces) (i : ℕ) (d row : TaskPlaces) (t : TaskRef) (place : Place) → i < length rows → same_task (get_or rows i d).task t ≡ true
    → ((k : ℕ) → k < i → same_task (get_or rows k d).task t ≡ false) → row.task ≡ (get_or rows i d).task → row.places.items ≡ (get_or rows i d).places.items ++ place ∷ []
    → (u : TaskRef) → places_in (set rows i row) u ≡ cond (same_task t u) (places_in rows u ++ place ∷ []) (places_in rows u)
places-more [] i d row t place within own first same items u = absurd (omega (arith, within))
places-more (r ∷ rs) zero d row t place within own first same items u = by (same_task t u) refl where
  at : same_task r.task u ≡ same_task t u
  at = alike r.task t u own

  at_row : same_task row.task u ≡ same_task t u
  at_row = ap (λ v. same_task v u) same ∙ at

  by : (b : Bool) → same_task t u ≡ b → row_places (cond (same_task row.task u) (Some row) (find (is_row u) rs))
      ≡ cond (same_task t u) (row_places (cond (same_task r.task u) (Some r) (find (is_row u) rs)) ++ place ∷ []) (row_places (cond (same_task r.task u) (Some r) (find (is_row u) rs)))
  by true e = rw (at_row, at, e) items
  by false e = rw (at_row, at, e) refl
places-more (r ∷ rs) (suc i) d row t place within own first same items u =
    by (same_task r.task u) refl (same_task t u) refl (places-more rs i d row t place (omega (arith, within)) own (λ k h. first (suc k) (omega (arith, h))) same items u) where
      by : (a : Bool) → same_task r.task u ≡ a → (b : Bool) → same_task t u ≡ b
          → row_places (find (is_row u) (set rs i row)) ≡ cond b (row_places (find (is_row u) rs) ++ place ∷ []) (row_places (find (is_row u) rs))
          → row_places (cond a (Some r) (find (is_row u) (set rs i row))) ≡ cond b (row_places (cond a (Some r) (find (is_row u) rs)) ++ place ∷ []) (row_places (cond a (Some r) (find (is_row u) rs)))
      by true e true f ih = absurd (false≢true (sym (first zero (omega arith)) ∙ alike r.task u t e ∙ ap (λ v. same_task v t) (sym ((test-task t u).holds f)) ∙ (test-task t t).passes refl))
      by true e false f ih = refl
      by false e b f ih = ih

-- a row that keeps its places
pub places-kept : (rows : List TaskPlaces) (i : ℕ) (d row : TaskPlaces) → i < length rows → row.task ≡ (get_or rows i d).task → row.places.items ≡ (get_or rows i d).places.items
    → (u : TaskRef) → places_in (set rows i row) u ≡ places_in rows u
places-kept [] i d row within same items u = absurd (omega (arith, within))
places-kept (r ∷ rs) zero d row within same items u = by (same_task r.task u) refl where
  by : (b : Bool) → same_task r.task u ≡ b → row_places (cond (same_task row.task u) (Some row) (find (is_row u) rs)) ≡ row_places (cond (same_task r.task u) (Some r) (find (is_row u) rs))
  by true e = rw (same, e) items
  by false e = rw (same, e) refl
places-kept (r ∷ rs) (suc i) d row within same items u = by (same_task r.task u) (places-kept rs i d row (omega (arith, within)) same items u) where
  by : (a : Bool) → row_places (find (is_row u) (set rs i row)) ≡ row_places (find (is_row u) rs) → row_places (cond a (Some r) (find (is_row u) (set rs i row))) ≡ row_places (cond a (Some r) (find (is_row u) rs))
  by true ih = refl
  by false ih = ih

-- a new row, of a task that had none
pub places-new : (rows : List TaskPlaces) (row : TaskPlaces) (t : TaskRef) (place : Place) → ((k : ℕ) (d : TaskPlaces) → k < length rows → same_task (get_or rows k d).task t ≡ false) → row.task ≡ t → row.places.items ≡ place ∷ []
    → (u : TaskRef) → places_in (rows ++ row ∷ []) u ≡ cond (same_task t u) (places_in rows u ++ place ∷ []) (places_in rows u)
places-new [] row t place none own items u = by (same_task t u) refl where
  by : (b : Bool) → same_task t u ≡ b → row_places (cond (same_task row.task u) (Some row) None) ≡ cond b ([] ++ place ∷ []) []
  by true e = rw (own, e) items
  by false e = rw (own, e) refl
places-new (r ∷ rs) row t place none own items u =
    by (same_task r.task u) refl (same_task t u) refl (places-new rs row t place (λ k d h. none (suc k) d (omega (arith, h))) own items u) where
      by : (a : Bool) → same_task r.task u ≡ a → (b : Bool) → same_task t u ≡ b
          → row_places (find (is_row u) (rs ++ row ∷ [])) ≡ cond b (row_places (find (is_row u) rs) ++ place ∷ []) (row_places (find (is_row u) rs))
          → row_places (cond a (Some r) (find (is_row u) (rs ++ row ∷ []))) ≡ cond b (row_places (cond a (Some r) (find (is_row u) rs)) ++ place ∷ []) (row_places (cond a (Some r) (find (is_row u) rs)))
      by true e true f ih = absurd (false≢true (sym (none zero r (omega arith)) ∙ alike r.task u t e ∙ ap (λ v. same_task v t) (sym ((test-task t u).holds f)) ∙ (test-task t t).passes refl))
      by true e false f ih = refl
      by false e b f ih = ih

-- a new row that tells of nothing
pub taker-push : (rows : List Taker) (row : Taker) → row.index ≡ None → (n : ℕ) (q : TaskRef) → taker_in (rows ++ row ∷ []) n q ≡ taker_in rows n q
taker-push [] row none n q = by (is_taker n q row) where
  by : (b : Bool) → row_place (cond b (Some row) None) ≡ None
  by true = none
  by false = refl
taker-push (r ∷ rs) row none n q = by (is_taker n q r) (taker-push rs row none n q) where
  by : (b : Bool) → row_place (find (is_taker n q) (rs ++ row ∷ [])) ≡ row_place (find (is_taker n q) rs) → row_place (cond b (Some r) (find (is_taker n q) (rs ++ row ∷ []))) ≡ row_place (cond b (Some r) (find (is_taker n q) rs))
  by true ih = refl
  by false ih = ih

pub row-kept : (rows : List Taker) (row : Taker) (n : ℕ) (q : TaskRef) → has_row rows n q ≡ true → has_row (rows ++ row ∷ []) n q ≡ true
row-kept [] row n q has = absurd (false≢true has)
row-kept (r ∷ rs) row n q has = by (is_taker n q r) has (row-kept rs row n q) where
  by : (b : Bool) → is_some (cond b (Some r) (find (is_taker n q) rs)) ≡ true → (has_row rs n q ≡ true → has_row (rs ++ row ∷ []) n q ≡ true) → is_some (cond b (Some r) (find (is_taker n q) (rs ++ row ∷ []))) ≡ true
  by true h ih = refl
  by false h ih = ih h

pub row-made : (rows : List Taker) (row : Taker) (n : ℕ) (q : TaskRef) → is_taker n q row ≡ true → has_row (rows ++ row ∷ []) n q ≡ true
row-made [] row n q is = rw is refl
row-made (r ∷ rs) row n q is = by (is_taker n q r) (row-made rs row n q is) where
  by : (b : Bool) → has_row (rs ++ row ∷ []) n q ≡ true → is_some (cond b (Some r) (find (is_taker n q) (rs ++ row ∷ []))) ≡ true
  by true ih = refl
  by false ih = ih

-- a row of its own resource and producer
pub own_row : (n : ℕ) (q : TaskRef) (index : Option ℕ) → is_taker n q (record { resource = n; producer = q; index = index }) ≡ true
own_row n q index = rw (eq-eqb n n refl, (test-task q q).passes refl) refl

-- what the rows tell after an entry was noted
pub taker-noted : (n : ℕ) (takes : List Take) (index : ℕ) (rows : List Taker) (m : ℕ) (q : TaskRef)
    → taker_in (map (noted n takes index) rows) m q ≡ cond (has_row rows m q && (eqb n m && list_any (λ (u : Take). same_task u.producer q) takes)) (Some index) (taker_in rows m q)
taker-noted n takes index [] m q = refl
taker-noted n takes index (r ∷ rs) m q =
    by (eqb r.resource m && same_task r.producer q) refl (eqb n r.resource && list_any (λ (u : Take). same_task u.producer r.producer) takes) refl (taker-noted n takes index rs m q) where
      tests : is_taker m q r ≡ true → (eqb n m && list_any (λ (u : Take). same_task u.producer q) takes) ≡ (eqb n r.resource && list_any (λ (u : Take). same_task u.producer r.producer) takes)
      tests e =
          let parts = and_parts (eqb r.resource m) (same_task r.producer q) e in
          rw (eqb-true r.resource m parts.0, (test-task r.producer q).holds parts.1) refl

      by : (a : Bool) → is_taker m q r ≡ a → (b : Bool) → (eqb n r.resource && list_any (λ (u : Take). same_task u.producer r.producer) takes) ≡ b
          → row_place (find (is_taker m q) (map (noted n takes index) rs)) ≡ cond (has_row rs m q && (eqb n m && list_any (λ (u : Take). same_task u.producer q) takes)) (Some index) (row_place (find (is_taker m q) rs))
          → row_place (cond (is_taker m q (cond b (record r { index = Some index }) r)) (Some (cond b (record r { index = Some index }) r)) (find (is_taker m q) (map (noted n takes index) rs)))
          ≡ cond (is_some (cond a (Some r) (find (is_taker m q) rs)) && (eqb n m && list_any (λ (u : Take). same_task u.producer q) takes)) (Some index) (row_place (cond a (Some r) (find (is_taker m q) rs)))
      by true e true f ih = rw (e, tests e, f) refl
      by true e false f ih = rw (e, tests e, f) refl
      by false e true f ih = rw e ih
      by false e false f ih = rw e ih

-- one row more was noted
pub map-step : {X : Type 0} (f : X → X) (xs : List X) (i : ℕ) (d : X) → i < length xs → set (map f (take i xs) ++ drop i xs) i (f (get_or (map f (take i xs) ++ drop i xs) i d)) ≡ map f (take (suc i) xs) ++ drop (suc i) xs
map-step f [] i d within = absurd (omega (arith, within))
map-step f (x ∷ xs) zero d within = refl
map-step f (x ∷ xs) (suc i) d within = ap (λ ys. f x ∷ ys) (map-step f xs i d (omega (arith, within)))

each-get : {X : Type 0} (P : X → Type 0) (xs : List X) → AllByRecursion P xs → (k : ℕ) (d : X) → k < length xs → P (get_or xs k d)
each-get P [] all k d within = absurd (omega (arith, within))
each-get P (x ∷ xs) all zero d within = all.0
each-get P (x ∷ xs) all (suc k) d within = each-get P xs all.1 k d (omega (arith, within))

-- each of one more
pub each-more : {X : Type 0} (P Q : X → Type 0) → ((x : X) → P x → Q x) → (xs : List X) (i : ℕ) (x : X) → i < length xs → get_or xs i x ≡ x → AllByRecursion P (take i xs) → Q x → AllByRecursion Q (take (suc i) xs)
each-more P Q more [] i x within at all new = absurd (omega (arith, within))
each-more P Q more (y ∷ ys) zero x within at all new = (subst Q (sym at) new, tt)
each-more P Q more (y ∷ ys) (suc i) x within at all new = (more y all.0, each-more P Q more ys i x (omega (arith, within)) at all.1 new)

-- no element passes where no position is told
pub position-none : {X : Type 0} (p : X → Bool) (xs : List X) → position p xs ≡ None → (k : ℕ) (d : X) → k < length xs → p (get_or xs k d) ≡ false
position-none {X = X} p xs e = from xs 0 (sym (position_from-zero p xs) ∙ e) where
  from : (ys : List X) (n : ℕ) → position_from p n ys ≡ None → (k : ℕ) (d : X) → k < length ys → p (get_or ys k d) ≡ false
  from [] n e k d within = absurd (omega (arith, within))
  from (y ∷ ys) n e k d within = by (p y) refl e k within (from ys (n + 1)) where
    by : (b : Bool) → p y ≡ b → cond b (Some n) (position_from p (n + 1) ys) ≡ None → (k : ℕ) → k < length (y ∷ ys) → (position_from p (n + 1) ys ≡ None → (k : ℕ) (d : X) → k < length ys → p (get_or ys k d) ≡ false) → p (get_or (y ∷ ys) k d) ≡ false
    by true t f k within ih = cc
    by false t f zero within ih = t
    by false t f (suc k) within ih = ih f k d (omega (arith, within))

equal-pair : (a b i n : ℕ) → ordering_then (nat_cmp a i) (nat_cmp b n) ≡ Equal → (eqb a i && eqb b n) ≡ true
equal-pair a b i n e = grind (arith, nat_tests)

pair-equal : (a b i n : ℕ) → (eqb a i && eqb b n) ≡ true → ordering_then (nat_cmp a i) (nat_cmp b n) ≡ Equal
pair-equal a b i n e = grind (arith, nat_tests)

lower-differs : (a b c e i n : ℕ) → ordering_then (nat_cmp a c) (nat_cmp b e) ≡ Less → ordering_then (nat_cmp c i) (nat_cmp e n) ≡ Equal → (eqb a i && eqb b n) ≡ false
lower-differs a b c e i n h k = grind (arith, nat_tests)

lower-index : (a b c e i n : ℕ) → ordering_then (nat_cmp a c) (nat_cmp b e) ≡ Less → ordering_index (ordering_then (nat_cmp a i) (nat_cmp b n)) ≤ ordering_index (ordering_then (nat_cmp c i) (nat_cmp e n))
lower-index a b c e i n h = grind (arith, nat_tests)

-- along rising places the comparisons with a pair rise
pub comparisons-rise : (i n : ℕ) (ps : List Place) → AreRising ps → IsNonDecreasingBy (λ (p : Place). ordering_index (pair_cmp i n p)) ps
comparisons-rise i n [] rising j k d le within = absurd (omega (arith, within))
comparisons-rise i n (p ∷ ps) rising zero zero d le within = omega arith
comparisons-rise i n (p ∷ ps) rising zero (suc k) d le within =
    let q = get_or ps k d in
    lower-index p.incarnation p.number (get_or ps k d).incarnation (get_or ps k d).number i n (each-get (λ (q : Place). pair_cmp q.incarnation q.number p ≡ Less) ps rising.0 k d (omega (arith, within)))
comparisons-rise i n (p ∷ ps) rising (suc j) zero d le within = absurd (omega (arith, le))
comparisons-rise i n (p ∷ ps) rising (suc j) (suc k) d le within = comparisons-rise i n ps rising.1 j k d (omega (arith, le)) (omega (arith, within))

-- an equal pair among rising places is the one
pub place-found : (i n : ℕ) (ps : List Place) → AreRising ps → (k : ℕ) (d : Place) → k < length ps → pair_cmp i n (get_or ps k d) ≡ Equal → Some (get_or ps k d).index ≡ index_of i n ps
place-found i n [] rising k d within e = absurd (omega (arith, within))
place-found i n (p ∷ ps) rising zero d within e = rw (equal-pair p.incarnation p.number i n e) refl
place-found i n (p ∷ ps) rising (suc k) d within e =
    let low = each-get (λ (q : Place). pair_cmp q.incarnation q.number p ≡ Less) ps rising.0 k d (omega (arith, within)) in
    rw (lower-differs p.incarnation p.number (get_or ps k d).incarnation (get_or ps k d).number i n low e) (place-found i n ps rising.1 k d (omega (arith, within)) e)

-- a place of the pair among rising places is the one
pub place-at : (i n : ℕ) (ps : List Place) → AreRising ps → (k : ℕ) (p : Place) → k < length ps → p ≡ get_or ps k p → p.incarnation ≡ i → p.number ≡ n → Some p.index ≡ index_of i n ps
place-at i n ps rising k p within at here now =
    subst (λ (q : Place). Some q.index ≡ index_of i n ps) (sym at)
    (place-found i n ps rising k p within (ap (pair_cmp i n) (sym at) ∙ pair-equal p.incarnation p.number i n (rw (eq-eqb p.incarnation i here, eq-eqb p.number n now) refl)))

pub place-missing : (i n : ℕ) (ps : List Place) → ((k : ℕ) (d : Place) → k < length ps → pair_cmp i n (get_or ps k d) ≡ Equal → ⊥) → None ≡ index_of i n ps
place-missing i n [] none = refl
place-missing i n (p ∷ ps) none = by (eqb p.incarnation i && eqb p.number n) refl (place-missing i n ps (λ k d h. none (suc k) d (omega (arith, h)))) where
  by : (b : Bool) → (eqb p.incarnation i && eqb p.number n) ≡ b → None ≡ index_of i n ps → None ≡ cond b (Some p.index) (index_of i n ps)
  by true e ih = absurd (none zero p (omega arith) (pair-equal p.incarnation p.number i n e))
  by false e ih = ih

-- between the lower and the greater ones there is no equal one
pub place-between : (i n : ℕ) (ps : List Place) (m : ℕ) → IsPartitionPoint (λ (p : Place). pair_cmp i n p ≡ Less) (λ (p : Place). pair_cmp i n p ≡ Greater) ps m → None ≡ index_of i n ps
place-between i n ps m parts = place-missing i n ps none where
  none : (k : ℕ) (d : Place) → k < length ps → pair_cmp i n (get_or ps k d) ≡ Equal → ⊥
  none k d within e = by (cases_lt k m) where
    by : (k < m) ⊎ (m ≤ k) → ⊥
    by (inl low) = let f = parts.0 k d (omega arith) low in let clash : ◌≡◌ {A = Ordering} Less Equal = sym f ∙ e in cc
    by (inr high) = let f = parts.1 k d high within in let clash : ◌≡◌ {A = Ordering} Greater Equal = sym f ∙ e in cc

pub on-err : {T E : Type 0} (r : Result T E) (P : Type 0) → P → OnErr r P
on-err (Ok x) P h = tt
on-err (Err e) P h = h
