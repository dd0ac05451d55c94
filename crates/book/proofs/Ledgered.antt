-- What the tables of a book tell of its entries.
use Rattle.std.proofs.Common.{◌≡◌, ◌⊎◌, inl, inr, ◌↔◌, ℕ, zero, suc, ◌+◌, ◌-◌, ◌<◌, ◌≤◌, arith, replicate, Bool, true, false, cond, ◌&&◌, ◌||◌, List, [], ◌∷◌, ◌++◌, map, take, drop, length, get_or, Option, Some, None, refl, ap, sym, ◌∙◌, subst, eqb, length-append}
use Rattle.std.specs.Prelude.{reverse, slice_index, slice_get, slice_set}
use Rattle.std.specs.Option.{option_map, option_and_then}
use Rattle.std.specs.Ordering.{nat_cmp, ordering_then}
use Rattle.std.specs.declared.cmp.Ordering.TheVariants.{Less}
use Rattle.std.specs.List.{find, list_any}
use Rattle.std.proofs.lemmas.Bool.{false≢true, eqb-true, eq-eqb}
use Rattle.std.proofs.lemmas.Bool.Decides.{nat_tests}
use Rattle.std.proofs.lemmas.List.{reverse-append, reverse-reverse, length-reverse, length-replicate, length-set, get_or-set_same, get_or-set_other}
use Rattle.std.proofs.lemmas.Option.{none-some, same_Some}
use Rattle.lists.proofs.Places.{push_here, slice_get-append}
use Rattle.task_codes.specs.declared.task_ref.TaskRef.{TaskRef}
use Rattle.evaluation.specs.declared.name.Name.{Name}
use Rattle.evaluation.specs.declared.take.Take.{Take}
use Rattle.evaluation.specs.Meaning.{Evaluated}
use Rattle.evaluation.specs.Last.{same_task, last_number}
use Rattle.book.specs.declared.book.ledger.Ledger.{Ledger}
use Rattle.book.specs.declared.book.ledger.place.Place.{Place}
use Rattle.book.specs.declared.book.ledger.task_places.TaskPlaces.{TaskPlaces}
use Rattle.book.specs.declared.book.ledger.taker.Taker.{Taker}
use Rattle.std.specs.List.{AllByRecursion}
use Rattle.lists.proofs.Each.{each-push}
use Rattle.book.specs.Fits.{last_in, present_in, IsNumbered, Fits, AllFit}
use Rattle.book.specs.Presents.{ArePresentWith}
use Rattle.book.specs.Steps.Deciding.{is_of_task, is_of_resource, is_named, takes_from}
use Rattle.book.specs.Steps.Ledger.{newest_place, newests, place_of, places_of, places_in, last_index, pair_cmp, index_of, AreRising, taker_in, has_row, noted, AreTables, Tells, TellsOneMore}
use Rattle.book.proofs.Presents.{lows}
use Rattle.book.proofs.Deciding.{test-task, test-name, last-greatest, names-differ}
use Rattle.book.proofs.Ledgers.{taker-noted}

abbrev nowhere : Option ℕ
nowhere = None

pub length-newests : (first : List ℕ) (older : List Evaluated) → length (newests first older) ≡ length first
length-newests first [] = length-replicate (length first) nowhere
length-newests first (x ∷ older) = length-set (newests first older) x.name.task.resource (Some (length older)) ∙ length-newests first older

get-filled : (n k : ℕ) → k < n → get_or (replicate n nowhere) k None ≡ None
get-filled zero k within = absurd (omega (arith, within))
get-filled (suc n) zero within = refl
get-filled (suc n) (suc k) within = get-filled n k (omega (arith, within))

pub newests-at : (first : List ℕ) (older : List Evaluated) (n : ℕ) → n < length first → get_or (newests first older) n None ≡ newest_place (is_of_resource n) older
newests-at first [] n within = get-filled (length first) n within
newests-at first (x ∷ older) n within = by (eqb x.name.task.resource n) refl (newests-at first older n within) where
  inside : x.name.task.resource ≡ n → x.name.task.resource < length (newests first older)
  inside same = let long = length-newests first older in omega (arith, long, same, within)

  by : (b : Bool) → eqb x.name.task.resource n ≡ b → get_or (newests first older) n None ≡ newest_place (is_of_resource n) older
      → get_or (slice_set (newests first older) x.name.task.resource (Some (length older))) n None ≡ cond b (Some (length older)) (newest_place (is_of_resource n) older)
  by true e ih =
      let same : x.name.task.resource ≡ n = eqb-true x.name.task.resource n e in
      subst (λ m. get_or (slice_set (newests first older) x.name.task.resource (Some (length older))) m None ≡ Some (length older)) same
      (get_or-set_same (newests first older) x.name.task.resource (Some (length older)) None (inside same))
  by false e ih =
      get_or-set_other (newests first older) x.name.task.resource n (Some (length older)) None (λ same. false≢true (sym e ∙ eq-eqb x.name.task.resource n (sym same))) ∙ ih

get-front : {X : Type 0} (xs : List X) (x : X) (k : ℕ) → k < length xs → slice_get (xs ++ x ∷ []) k ≡ slice_get xs k
get-front [] x k within = absurd (omega (arith, within))
get-front (y ∷ ys) x zero within = refl
get-front (y ∷ ys) x (suc k) within = get-front ys x k (omega (arith, within))

newest-within : (f : Evaluated → Bool) (older : List Evaluated) (k : ℕ) → newest_place f older ≡ Some k → k < length older
newest-within f [] k e = let clash : ◌≡◌ {A = Option ℕ} None (Some k) = e in cc
newest-within f (x ∷ older) k e = by (f x) e (newest-within f older k) where
  by : (b : Bool) → cond b (Some (length older)) (newest_place f older) ≡ Some k → (newest_place f older ≡ Some k → k < length older) → k < suc (length older)
  by true h ih = let same : length older ≡ k = cc in omega (arith, same)
  by false h ih = let low = ih h in omega (arith, low)

-- what stands at the newest place is the newest entry that passes
pub newest-at : (f : Evaluated → Bool) (older : List Evaluated) → option_and_then (λ k. slice_get (reverse older) k) (newest_place f older) ≡ find f older
newest-at f [] = refl
newest-at f (x ∷ older) = by (f x) (newest-at f older) where
  turned : reverse (x ∷ older) ≡ reverse older ++ x ∷ []
  turned = reverse-append (x ∷ []) older

  by : (b : Bool) → option_and_then (λ k. slice_get (reverse older) k) (newest_place f older) ≡ find f older
      → option_and_then (λ k. slice_get (reverse (x ∷ older)) k) (cond b (Some (length older)) (newest_place f older)) ≡ cond b (Some x) (find f older)
  by true ih = ap (λ ys. slice_get ys (length older)) turned ∙ ap (λ n. slice_get (reverse older ++ x ∷ []) n) (sym (length-reverse older)) ∙ push_here (reverse older) x
  by false ih = below (newest_place f older) refl ∙ ih where
    below : (o : Option ℕ) → newest_place f older ≡ o → option_and_then (λ k. slice_get (reverse (x ∷ older)) k) o ≡ option_and_then (λ k. slice_get (reverse older) k) o
    below None e = refl
    below (Some k) e =
        let low : k < length (reverse older) = subst (λ n. k < n) (sym (length-reverse older)) (newest-within f older k e) in
        ap (λ ys. slice_get ys k) turned ∙ get-front (reverse older) x k low

last-snoc : (ps : List Place) (p : Place) → last_index (ps ++ p ∷ []) ≡ Some p.index
last-snoc ps p =
    let last : length (ps ++ p ∷ []) - 1 ≡ length ps = omega (arith, length-append ps (p ∷ [])) in
    ap (option_map (λ (q : Place). q.index)) (ap (slice_get (ps ++ p ∷ [])) last ∙ push_here ps p)

-- the last of a task's places is that of its newest entry
pub last-newest : (t : TaskRef) (older : List Evaluated) → last_index (places_of t older) ≡ newest_place (is_of_task t) older
last-newest t [] = refl
last-newest t (x ∷ older) = by (is_of_task t x) (last-newest t older) where
  by : (b : Bool) → last_index (places_of t older) ≡ newest_place (is_of_task t) older
      → last_index (cond b (places_of t older ++ place_of x (length older) ∷ []) (places_of t older)) ≡ cond b (Some (length older)) (newest_place (is_of_task t) older)
  by true ih = last-snoc (places_of t older) (place_of x (length older))
  by false ih = ih

-- what holds of the place of each of a task's entries
each-place : (P : Place → Type 0) (t : TaskRef) (older : List Evaluated) → AllByRecursion (λ (y : Evaluated). y.name.task ≡ t → (k : ℕ) → P (place_of y k)) older → AllByRecursion P (places_of t older)
each-place P t [] all = tt
each-place P t (x ∷ older) all = by (is_of_task t x) refl (each-place P t older all.1) where
  by : (b : Bool) → is_of_task t x ≡ b → AllByRecursion P (places_of t older) → AllByRecursion P (cond b (places_of t older ++ place_of x (length older) ∷ []) (places_of t older))
  by true e ih = each-push P (places_of t older) (place_of x (length older)) ih (all.0 ((test-task x.name.task t).holds e) (length older))
  by false e ih = ih

lower : (a b c e : ℕ) → a ≤ c → (a ≡ c → b < e) → ordering_then (nat_cmp a c) (nat_cmp b e) ≡ Less
lower a b c e h k = grind (arith, nat_tests)

-- the places of a task's entries are below the next one's
below-next : (first : List ℕ) (older : List Evaluated) → AllFit first older → (x : Evaluated) → IsNumbered first older x.name → AllByRecursion (λ (q : Place). pair_cmp x.name.incarnation x.name.number q ≡ Less) (places_of x.name.task older)
below-next first older fit x numbered =
    each-place (λ (q : Place). pair_cmp x.name.incarnation x.name.number q ≡ Less) x.name.task older
    (both older (lows first older x.name numbered) (last-greatest first older fit x.name.task x.name.incarnation)) where
      both : (ys : List Evaluated) → AllByRecursion (λ (y : Evaluated). y.name.task.resource ≡ x.name.task.resource → y.name.incarnation ≤ x.name.incarnation) ys
          → AllByRecursion (λ (y : Evaluated). y.name.task ≡ x.name.task → y.name.incarnation ≡ x.name.incarnation → y.name.number ≤ last_number (last_in older x.name.task x.name.incarnation)) ys
          → AllByRecursion (λ (y : Evaluated). y.name.task ≡ x.name.task → (k : ℕ) → pair_cmp x.name.incarnation x.name.number (place_of y k) ≡ Less) ys
      both [] low least = tt
      both (y ∷ ys) low least = (
        (λ own k. lower y.name.incarnation y.name.number x.name.incarnation x.name.number (low.0 (ap (λ (p : TaskRef). p.resource) own)) (λ now. let under = least.0 own now in omega (arith, under, numbered.next))),
        both ys low.1 least.1,
      )

rising-snoc : (ps : List Place) (p : Place) → AreRising ps → AllByRecursion (λ (q : Place). pair_cmp p.incarnation p.number q ≡ Less) ps → AreRising (ps ++ p ∷ [])
rising-snoc [] p rising low = (tt, tt)
rising-snoc (q ∷ qs) p rising low = (each-push (λ (r : Place). pair_cmp r.incarnation r.number q ≡ Less) qs p rising.0 low.0, rising-snoc qs p rising.1 low.1)

-- the places of a task's entries rise
pub places-rise : (first : List ℕ) (t : TaskRef) (older : List Evaluated) → AllFit first older → AreRising (places_of t older)
places-rise first t [] fit = tt
places-rise first t (x ∷ older) fit = by (is_of_task t x) refl (places-rise first t older fit.1) where
  by : (b : Bool) → is_of_task t x ≡ b → AreRising (places_of t older) → AreRising (cond b (places_of t older ++ place_of x (length older) ∷ []) (places_of t older))
  by true e ih =
      rising-snoc (places_of t older) (place_of x (length older)) ih
      (subst (λ u. AllByRecursion (λ (q : Place). pair_cmp x.name.incarnation x.name.number q ≡ Less) (places_of u older)) ((test-task x.name.task t).holds e) (below-next first older fit.1 x fit.0.numbered))
  by false e ih = ih

differs : (a b i n : ℕ) → ordering_then (nat_cmp a i) (nat_cmp b n) ≡ Less → (eqb a i && eqb b n) ≡ false
differs a b i n h = grind (arith, nat_tests)

index-snoc : (i n : ℕ) (ps : List Place) (p : Place) → AllByRecursion (λ (q : Place). pair_cmp p.incarnation p.number q ≡ Less) ps
    → index_of i n (ps ++ p ∷ []) ≡ cond (eqb p.incarnation i && eqb p.number n) (Some p.index) (index_of i n ps)
index-snoc i n [] p low = refl
index-snoc i n (q ∷ qs) p low =
    by (eqb q.incarnation i && eqb q.number n) refl (eqb p.incarnation i && eqb p.number n) refl (index-snoc i n qs p low.1) where
      pairs : (a b c e : ℕ) → ordering_then (nat_cmp a c) (nat_cmp b e) ≡ Less → (eqb a i && eqb b n) ≡ true → (eqb c i && eqb e n) ≡ false
      pairs a b c e h k = grind (arith, nat_tests)

      by : (a : Bool) → (eqb q.incarnation i && eqb q.number n) ≡ a → (b : Bool) → (eqb p.incarnation i && eqb p.number n) ≡ b
          → index_of i n (qs ++ p ∷ []) ≡ cond b (Some p.index) (index_of i n qs) → cond a (Some q.index) (index_of i n (qs ++ p ∷ [])) ≡ cond b (Some p.index) (cond a (Some q.index) (index_of i n qs))
      by true e true f ih = absurd (false≢true (sym (pairs q.incarnation q.number p.incarnation p.number low.0 e) ∙ f))
      by true e false f ih = refl
      by false e b f ih = ih

-- the place of a pair among a task's is that of the entry of this name
pub index-named : (first : List ℕ) (t : TaskRef) (i n : ℕ) (older : List Evaluated) → AllFit first older → index_of i n (places_of t older) ≡ newest_place (is_named (record { task = t; incarnation = i; number = n })) older
index-named first t i n [] fit = refl
index-named first t i n (x ∷ older) fit = by (same_task x.name.task t) refl (index-named first t i n older fit.1) where
  by : (b : Bool) → same_task x.name.task t ≡ b → index_of i n (places_of t older) ≡ newest_place (is_named (record { task = t; incarnation = i; number = n })) older
      → index_of i n (cond b (places_of t older ++ place_of x (length older) ∷ []) (places_of t older))
      ≡ cond (b && (eqb x.name.incarnation i && eqb x.name.number n)) (Some (length older)) (newest_place (is_named (record { task = t; incarnation = i; number = n })) older)
  by true e ih =
      index-snoc i n (places_of t older) (place_of x (length older))
      (subst (λ u. AllByRecursion (λ (q : Place). pair_cmp x.name.incarnation x.name.number q ≡ Less) (places_of u older)) ((test-task x.name.task t).holds e) (below-next first older fit.1 x fit.0.numbered))
      ∙ ap (λ o. cond (eqb x.name.incarnation i && eqb x.name.number n) (Some (length older)) o) ih
  by false e ih = ih

-- an entry that is found by its name has it
found-named : (name : Name) (older : List Evaluated) (k : ℕ) → newest_place (is_named name) older ≡ Some k → option_map (λ (y : Evaluated). y.name) (find (is_named name) older) ≡ Some name
found-named name [] k e = absurd (none-some k e)
found-named name (x ∷ older) k e = by (is_named name x) refl e (found-named name older k) where
  by : (b : Bool) → is_named name x ≡ b → cond b (Some (length older)) (newest_place (is_named name) older) ≡ Some k
      → (newest_place (is_named name) older ≡ Some k → option_map (λ (y : Evaluated). y.name) (find (is_named name) older) ≡ Some name)
      → option_map (λ (y : Evaluated). y.name) (cond b (Some x) (find (is_named name) older)) ≡ Some name
  by true t f ih = ap Some ((test-name x.name name).holds t)
  by false t f ih = ih f

none-newest : (name : Name) (older : List Evaluated) → AllByRecursion (λ (y : Evaluated). y.name ≡ name → ⊥) older → newest_place (is_named name) older ≡ None
none-newest name [] apart = refl
none-newest name (x ∷ older) apart = by (is_named name x) refl (none-newest name older apart.1) where
  by : (b : Bool) → is_named name x ≡ b → newest_place (is_named name) older ≡ None → cond b (Some (length older)) (newest_place (is_named name) older) ≡ None
  by true t ih = absurd (apart.0 ((test-name x.name name).holds t))
  by false t ih = ih

-- where an entry has the name, it is found
placed-named : (first : List ℕ) (name : Name) (older : List Evaluated) → AllFit first older → (k : ℕ) → option_map (λ (y : Evaluated). y.name) (slice_get (reverse older) k) ≡ Some name → newest_place (is_named name) older ≡ Some k
placed-named first name [] fit k e = absurd (none-some name e)
placed-named first name (x ∷ older) fit k e = by (slice_get-append (reverse older) (x ∷ []) k) (is_named name x) refl (placed-named first name older fit.1 k) where
  turned : reverse (x ∷ older) ≡ reverse older ++ x ∷ []
  turned = reverse-append (x ∷ []) older

  here : option_map (λ (y : Evaluated). y.name) (slice_get (reverse older ++ x ∷ []) k) ≡ Some name
  here = ap (λ es. option_map (λ (y : Evaluated). y.name) (slice_get es k)) (sym turned) ∙ e

  last : (j : ℕ) (b : Bool) → is_named name x ≡ b → k ≡ length (reverse older) + j → option_map (λ (y : Evaluated). y.name) (slice_get (x ∷ []) j) ≡ Some name → cond b (Some (length older)) (newest_place (is_named name) older) ≡ Some k
  last zero true t at f = let long = length-reverse older in ap Some (omega (arith, at, long))
  last zero false t at f = absurd (false≢true (sym t ∙ (test-name x.name name).passes (same_Some x.name name f)))
  last (suc j) b t at f = absurd (none-some name f)

  by : ((k < length (reverse older)) × (slice_get (reverse older ++ x ∷ []) k ≡ slice_get (reverse older) k)) ⊎ ((j : ℕ) × (k ≡ length (reverse older) + j) × (slice_get (reverse older ++ x ∷ []) k ≡ slice_get (x ∷ []) j))
      → (b : Bool) → is_named name x ≡ b → (option_map (λ (y : Evaluated). y.name) (slice_get (reverse older) k) ≡ Some name → newest_place (is_named name) older ≡ Some k)
      → cond b (Some (length older)) (newest_place (is_named name) older) ≡ Some k
  by (inl front) true t ih =
      let name_is : x.name ≡ name = (test-name x.name name).holds t in
      let found = ih (ap (option_map (λ (y : Evaluated). y.name)) (sym front.1) ∙ here) in
      let none = none-newest name older (subst (λ n. AllByRecursion (λ (y : Evaluated). y.name ≡ n → ⊥) older) name_is (names-differ first older x fit)) in
      absurd (none-some k (sym none ∙ found))
  by (inl front) false t ih = ih (ap (option_map (λ (y : Evaluated). y.name)) (sym front.1) ∙ here)
  by (inr back) b t ih = last back.0 b t back.1 (ap (option_map (λ (y : Evaluated). y.name)) (sym back.2) ∙ here)

-- the place of a name is the one at which an entry has it
pub place-is : (first : List ℕ) (name : Name) (entries : List Evaluated) → AllFit first (reverse entries) → (k : ℕ)
    → (newest_place (is_named name) (reverse entries) ≡ Some k) ↔ (option_map (λ (y : Evaluated). y.name) (slice_get entries k) ≡ Some name)
place-is first name entries fit k = (
  λ e. ap (λ es. option_map (λ (y : Evaluated). y.name) (slice_get es k)) (sym (reverse-reverse entries))
      ∙ ap (λ o. option_map (λ (y : Evaluated). y.name) (option_and_then (λ n. slice_get (reverse (reverse entries)) n) o)) (sym e)
      ∙ ap (option_map (λ (y : Evaluated). y.name)) (newest-at (is_named name) (reverse entries))
      ∙ found-named name (reverse entries) k e,
  λ e. placed-named first name (reverse entries) fit k (ap (λ es. option_map (λ (y : Evaluated). y.name) (slice_get es k)) (reverse-reverse entries) ∙ e),
)

made-at : (rows : List Taker) (n : ℕ) (q : TaskRef) (us : List Take) → AllByRecursion (λ (u : Take). has_row rows n u.producer ≡ true) us → list_any (λ (u : Take). same_task u.producer q) us ≡ true → has_row rows n q ≡ true
made-at rows n q [] all has = absurd (false≢true has)
made-at rows n q (u ∷ us) all has = by (same_task u.producer q) refl has (made-at rows n q us all.1) where
  by : (b : Bool) → same_task u.producer q ≡ b → (b || list_any (λ (u : Take). same_task u.producer q) us) ≡ true → (list_any (λ (u : Take). same_task u.producer q) us ≡ true → has_row rows n q ≡ true) → has_row rows n q ≡ true
  by true e h ih = subst (λ p. has_row rows n p ≡ true) ((test-task u.producer q).holds e) all.0
  by false e h ih = ih h

-- the tables of one entry more
pub tables-more : (first : List ℕ) (older : List Evaluated) (present raised : List ℕ) (newest : List (Option ℕ)) (tasks tasks_more : List TaskPlaces) (takers takers_made : List Taker) (x : Evaluated) → AreTables first older present newest tasks takers → ArePresentWith x present raised
    → ((t : TaskRef) → places_in tasks_more t ≡ cond (same_task x.name.task t) (places_in tasks t ++ place_of x (length older) ∷ []) (places_in tasks t))
    → ((n : ℕ) (q : TaskRef) → taker_in takers_made n q ≡ taker_in takers n q) → AllByRecursion (λ (u : Take). has_row takers_made x.name.task.resource u.producer ≡ true) x.takes
    → AreTables first (x ∷ older) raised (slice_set newest x.name.task.resource (Some (length older))) tasks_more (map (noted x.name.task.resource x.takes (length older)) takers_made)
tables-more first older present raised newest tasks tasks_more takers takers_made x tables up more same made =
    record {
      incarnations = up first older tables.incarnations;
      newest_are = ap (λ ps. slice_set ps x.name.task.resource (Some (length older))) tables.newest_are;
      places = λ t. more t ∙ ap (λ ps. cond (same_task x.name.task t) (ps ++ place_of x (length older) ∷ []) ps) (tables.places t);
      latest = λ n q. taker-noted x.name.task.resource x.takes (length older) takers_made n q ∙ decided n q;
    } where
      decided : (n : ℕ) (q : TaskRef)
          → cond (has_row takers_made n q && (eqb x.name.task.resource n && list_any (λ (u : Take). same_task u.producer q) x.takes)) (Some (length older)) (taker_in takers_made n q)
          ≡ cond (eqb x.name.task.resource n && list_any (λ (u : Take). same_task u.producer q) x.takes) (Some (length older)) (newest_place (takes_from n q) older)
      decided n q = by (has_row takers_made n q) refl (eqb x.name.task.resource n) refl (list_any (λ (u : Take). same_task u.producer q) x.takes) refl where
        kept : taker_in takers_made n q ≡ newest_place (takes_from n q) older
        kept = same n q ∙ tables.latest n q

        by : (h : Bool) → has_row takers_made n q ≡ h → (a : Bool) → eqb x.name.task.resource n ≡ a → (b : Bool) → list_any (λ (u : Take). same_task u.producer q) x.takes ≡ b
            → cond (h && (a && b)) (Some (length older)) (taker_in takers_made n q) ≡ cond (a && b) (Some (length older)) (newest_place (takes_from n q) older)
        by true e true f true g = refl
        by true e true f false g = kept
        by true e false f b g = kept
        by false e true f true g = absurd (false≢true (sym e ∙ subst (λ m. has_row takers_made m q ≡ true) (eqb-true x.name.task.resource n f) (made-at takers_made x.name.task.resource q x.takes made g)))
        by false e true f false g = kept
        by false e false f b g = kept

-- a list is written back whole
pub written-back : {X : Type 0} (xs ys : List X) (n : ℕ) → n ≡ length xs → length ys ≡ length xs → take n (ys ++ drop (length ys) xs) ≡ ys
written-back {X = X} xs ys n whole same = rw whole (by xs ys same) where
  by : (olds news : List X) → length news ≡ length olds → take (length olds) (news ++ drop (length news) olds) ≡ news
  by [] [] e = refl
  by [] (y ∷ ys) e = absurd (omega (arith, e))
  by (x ∷ xs) [] e = absurd (omega (arith, e))
  by (x ∷ xs) (y ∷ ys) e = ap (λ zs. y ∷ zs) (by xs ys (omega (arith, e)))

pub get_or-defaults : {X : Type 0} (xs : List X) (k : ℕ) (d e : X) → k < length xs → get_or xs k d ≡ get_or xs k e
get_or-defaults [] k d e within = absurd (omega (arith, within))
get_or-defaults (x ∷ xs) zero d e within = refl
get_or-defaults (x ∷ xs) (suc k) d e within = get_or-defaults xs k d e (omega (arith, within))

-- the tables after an entry was noted
pub entered : (first : List ℕ) (older : List Evaluated) (present raised : List ℕ) (newest : List (Option ℕ)) (tasks tasks_more : List TaskPlaces) (takers takers_made rows : List Taker) (x : Evaluated) (name : Name) (takes used : List Take) (index : ℕ)
    → name ≡ x.name → takes ≡ x.takes → used ≡ x.takes → index ≡ length older → AreTables first older present newest tasks takers → ArePresentWith x present raised
    → ((t : TaskRef) → places_in tasks_more t ≡ cond (same_task name.task t) (places_in tasks t ++ record { incarnation = name.incarnation; number = name.number; index = index } ∷ []) (places_in tasks t))
    → ((n : ℕ) (q : TaskRef) → taker_in takers_made n q ≡ taker_in takers n q) → AllByRecursion (λ (u : Take). has_row takers_made name.task.resource u.producer ≡ true) takes → rows ≡ map (noted name.task.resource used index) takers_made
    → AreTables first (x ∷ older) raised (slice_set newest name.task.resource (Some index)) tasks_more rows
entered first older present raised newest tasks tasks_more takers takers_made rows x name takes used index named taken again at tables up more same made noting =
    subst (λ (n : Name). AreTables first (x ∷ older) raised (slice_set newest n.task.resource (Some index)) tasks_more rows) (sym named)
    (subst (λ k. AreTables first (x ∷ older) raised (slice_set newest x.name.task.resource (Some k)) tasks_more rows) (sym at)
    (subst (λ rs. AreTables first (x ∷ older) raised (slice_set newest x.name.task.resource (Some (length older))) tasks_more rs) (sym noting_now)
    (tables-more first older present raised newest tasks tasks_more takers takers_made x tables up more_now same made_now))) where
      noting_now : rows ≡ map (noted x.name.task.resource x.takes (length older)) takers_made
      noting_now = noting ∙ ap (λ (n : Name). map (noted n.task.resource used index) takers_made) named ∙ ap (λ us. map (noted x.name.task.resource us index) takers_made) again ∙ ap (λ k. map (noted x.name.task.resource x.takes k) takers_made) at

      more_now : (t : TaskRef) → places_in tasks_more t ≡ cond (same_task x.name.task t) (places_in tasks t ++ place_of x (length older) ∷ []) (places_in tasks t)
      more_now t =
          more t
          ∙ ap (λ (n : Name). cond (same_task n.task t) (places_in tasks t ++ record { incarnation = n.incarnation; number = n.number; index = index } ∷ []) (places_in tasks t)) named
          ∙ ap (λ k. cond (same_task x.name.task t) (places_in tasks t ++ place_of x k ∷ []) (places_in tasks t)) at

      made_now : AllByRecursion (λ (u : Take). has_row takers_made x.name.task.resource u.producer ≡ true) x.takes
      made_now = subst (λ us. AllByRecursion (λ (u : Take). has_row takers_made x.name.task.resource u.producer ≡ true) us) taken (subst (λ (n : Name). AllByRecursion (λ (u : Take). has_row takers_made n.task.resource u.producer ≡ true) takes) named made)

-- a book with one entry more that fits
pub book-more : (first : List ℕ) (entries more : List Evaluated) (old new : Ledger) (x : Evaluated) (index : ℕ) → more ≡ entries ++ x ∷ [] → index ≡ length entries
    → AllFit first (reverse entries) × Tells first (reverse entries) old → Fits first (reverse entries) x → TellsOneMore old new x index → AllFit first (reverse more) × Tells first (reverse more) new
book-more first entries more old new x index same at book fits told =
    subst (λ es. AllFit first (reverse es) × Tells first (reverse es) new) (sym same)
    (subst (λ es. AllFit first es × Tells first es new) (sym (reverse-append entries (x ∷ []))) ((fits, book.0), told first (reverse entries) (at ∙ sym (length-reverse entries)) book.1))

module _ (first : List ℕ) (entries : List Evaluated) (ledger : Ledger) (told : AllFit first (reverse entries) × Tells first (reverse entries) ledger) where
  pub at-newest : (f : Evaluated → Bool) (index : Option ℕ) → index ≡ newest_place f (reverse entries) → option_and_then (λ k. slice_get entries k) index ≡ find f (reverse entries)
  at-newest f index e =
      ap (option_and_then (λ k. slice_get entries k)) e ∙ ap (λ es. option_and_then (λ k. slice_get es k) (newest_place f (reverse entries))) (sym (reverse-reverse entries)) ∙ newest-at f (reverse entries)

  pub newest-told : (t : TaskRef) → option_and_then (λ k. slice_get entries k) (last_index (places_in ledger.tasks.items t)) ≡ find (is_of_task t) (reverse entries)
  newest-told t = at-newest (is_of_task t) (last_index (places_in ledger.tasks.items t)) (ap last_index (told.1.places t) ∙ last-newest t (reverse entries))

  pub place-told : (name : Name) (index : Option ℕ) → (AreRising (places_in ledger.tasks.items name.task) → index ≡ index_of name.incarnation name.number (places_in ledger.tasks.items name.task))
      → index ≡ newest_place (is_named name) (reverse entries)
  place-told name index found =
      found (subst AreRising (sym (told.1.places name.task)) (places-rise first name.task (reverse entries) told.0))
      ∙ ap (index_of name.incarnation name.number) (told.1.places name.task) ∙ index-named first name.task name.incarnation name.number (reverse entries) told.0

  pub taker-told : (n : ℕ) (q : TaskRef) → option_and_then (λ k. slice_get entries k) (taker_in ledger.takers.items n q) ≡ find (takes_from n q) (reverse entries)
  taker-told n q = at-newest (takes_from n q) (taker_in ledger.takers.items n q) (told.1.latest n q)

  pub present-long : length ledger.present.items ≡ length first
  present-long = told.1.incarnations.sized

  pub present-told : (n : ℕ) → n < length first → slice_index ledger.present.items n ≡ present_in first (reverse entries) n
  present-told n within = told.1.incarnations.each n within

  pub newest-long : length ledger.newest.items ≡ length first
  newest-long = ap length told.1.newest_are ∙ length-newests first (reverse entries)

  pub newest_entry-told : (n : ℕ) → n < length first → option_and_then (λ k. slice_get entries k) (get_or ledger.newest.items n None) ≡ find (is_of_resource n) (reverse entries)
  newest_entry-told n within = at-newest (is_of_resource n) (get_or ledger.newest.items n None) (ap (λ ps. get_or ps n None) told.1.newest_are ∙ newests-at first (reverse entries) n within)
