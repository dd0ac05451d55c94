-- Elements that are put into the lists of their networks, one by one.
use Rattle.std.proofs.Common.{◌≡◌, ℕ, ◌+◌, ◌<◌, ◌⊎◌, inl, inr, List, [], ◌∷◌, ◌++◌, Option, Some, None, set, length-set, map, slice_get, length, sym, ap, ◌∙◌, arith}
use Rattle.std.proofs.lemmas.Bool.{cases_eq}
use Rattle.std.proofs.lemmas.List.{get_or-set_other, map-set, map-append}
use Rattle.std.proofs.lemmas.Option.{slice_get_within, slice_get-get_or, get_or_from_slice_get}
use Rattle.lists.proofs.Places.{slice_get-set_same, push_cases, push_here, push_old}
use Rattle.network.specs.declared.element.Element.{Element}
use Rattle.network.specs.Steps.Ranks.{IsIn, AreSplit, IsPut}
use Rattle.lists.proofs.Mapped.{mapped_at}
use Rattle.network.proofs.Basics.{some_is, one_at, get_set, get_map}

set_get_other : {A : Type 0} (xs : List A) (i k : ℕ) (x y : A) → (k ≡ i → ⊥) → slice_get xs k ≡ Some y → slice_get (set xs i x) k ≡ Some y
set_get_other xs i k x y ne at =
    slice_get-get_or (set xs i x) k y (let w = slice_get_within xs k y at in let l = length-set xs i x in omega arith)
    ∙ ap Some (get_or-set_other xs i k x y ne ∙ get_or_from_slice_get xs k y y at)

pub split_none : (es : List Element) (ranks : List (Option ℕ)) (count : ℕ) (networks : List (List Element)) → length networks ≡ count
    → ((m : ℕ) (xs : List Element) → slice_get networks m ≡ Some xs → xs ≡ []) → AreSplit es ranks count networks 0
split_none es ranks count networks long empty = record {
  long = long;
  each = λ m i e is. absurd (nothing m i e is);
  whole = λ k m e lt. absurd (omega arith);
  rising = λ m i j e f lt is. absurd (nothing m i e is);
}
  where
    nothing : (m i : ℕ) (e : Element) → IsIn networks m i e → ⊥
    nothing m i e is = let h : slice_get [] i ≡ Some e = ap (λ (x : List Element). slice_get x i) (sym (empty m is.0 is.1)) ∙ is.2 in cc

pub split_skip : (es : List Element) (ranks : List (Option ℕ)) (count : ℕ) (networks : List (List Element)) (n : ℕ) → slice_get ranks n ≡ Some None
    → AreSplit es ranks count networks n → AreSplit es ranks count networks (n + 1)
split_skip es ranks count networks n none done = record {
  long = done.long;
  each = λ m i e is. (let w = done.each m i e is in (w.0, (let lt = w.1 in omega arith), w.2, w.3));
  whole = λ k m e lt at rank. elim (cases_eq k n) [
    | inl same ↦ absurd (let h : ◌≡◌ {A = Option ℕ} (Some m) None = some_is (Some m) None (sym rank ∙ ap (slice_get ranks) same ∙ none) in cc)
    | inr ne ↦ done.whole k m e (omega arith) at rank
  ];
  rising = done.rising;
}

module _ (es : List Element) (ranks : List (Option ℕ)) (count : ℕ) (networks : List (List Element)) (n m : ℕ) (e : Element) (old : List Element)
    (at_e : slice_get es n ≡ Some e) (rank : slice_get ranks n ≡ Some (Some m)) (at_m : slice_get networks m ≡ Some old) (done : AreSplit es ranks count networks n) where
  in_cases : (x i : ℕ) (f : Element) → IsIn (set networks m (old ++ e ∷ [])) x i f → IsIn networks x i f ⊎ ((x ≡ m) × (i ≡ length old) × (f ≡ e))
  in_cases x i f is = elim (get_set networks m x (old ++ e ∷ []) is.0 is.1) [
    | inl h ↦ elim (push_cases old e i f (sym (ap (λ (y : List Element). slice_get y i) h.1) ∙ is.2)) [
      | inl was ↦ inl (old, ap (slice_get networks) h.0 ∙ at_m, was)
      | inr new ↦ inr (h.0, new.0, new.1)
    ]
    | inr h ↦ inl (is.0, h.1, is.2)
  ]

  in_keep : (x i : ℕ) (f : Element) → IsIn networks x i f → IsIn (set networks m (old ++ e ∷ [])) x i f
  in_keep x i f is = elim (cases_eq x m) [
    | inl same ↦ (
      old ++ e ∷ [],
      ap (slice_get (set networks m (old ++ e ∷ []))) same ∙ slice_get-set_same networks m (old ++ e ∷ []) (slice_get_within networks m old at_m),
      push_old old e i f (ap (λ (y : List Element). slice_get y i) (one_at networks m x old is.0 (sym same) at_m is.1) ∙ is.2),
    )
    | inr ne ↦ (is.0, set_get_other networks m x (old ++ e ∷ []) is.0 ne is.1, is.2)
  ]

  in_new : IsIn (set networks m (old ++ e ∷ [])) m (length old) e
  in_new = (old ++ e ∷ [], slice_get-set_same networks m (old ++ e ∷ []) (slice_get_within networks m old at_m), push_here old e)

  within_old : (i : ℕ) (f : Element) (x : ℕ) → x ≡ m → IsIn networks x i f → i < length old
  within_old i f x same is = slice_get_within old i f (ap (λ (y : List Element). slice_get y i) (one_at networks m x old is.0 (sym same) at_m is.1) ∙ is.2)

  pub split_more : AreSplit es ranks count (set networks m (old ++ e ∷ [])) (n + 1)
  split_more = record {
    long = length-set networks m (old ++ e ∷ []) ∙ done.long;
    each = λ x i f is. elim (in_cases x i f is) [
      | inl was ↦ (let w = done.each x i f was in (w.0, (let lt = w.1 in omega arith), w.2, w.3))
      | inr h ↦ (n, omega arith, at_e ∙ ap Some (sym h.2), rank ∙ ap (λ y. Some (Some y)) (sym h.0))
    ];
    whole = λ k x f lt at rank'. elim (cases_eq k n) [
      | inl same ↦ (let one : f ≡ e = one_at es k n f e same at at_e in
          let two : x ≡ m = some_is x m (some_is (Some x) (Some m) (sym rank' ∙ ap (slice_get ranks) same ∙ rank)) in
          (length old, moved x f two one))
      | inr ne ↦ (let w = done.whole k x f (omega arith) at rank' in (w.0, in_keep x w.0 f w.1))
    ];
    rising = λ x i j f h lt is is'. elim (in_cases x j h is') [
      | inl was' ↦ elim (in_cases x i f is) [
        | inl was ↦ done.rising x i j f h lt was was'
        | inr new ↦ absurd (let a = within_old j h x new.0 was' in let b = new.1 in omega arith)
      ]
      | inr new' ↦ elim (in_cases x i f is) [
        | inl was ↦ (let w = done.each x i f was in (w.0, n, w.1, w.2, at_e ∙ ap Some (sym new'.2)))
        | inr new ↦ absurd (let a = new.1 in let b = new'.1 in omega arith)
      ]
    ];
  }
    where
      moved : (x : ℕ) (f : Element) → x ≡ m → f ≡ e → IsIn (set networks m (old ++ e ∷ [])) x (length old) f
      moved x f two one = rw (two, one) in_new

-- one element more, whatever its rank
pub split_put : (es : List Element) (ranks : List (Option ℕ)) (count : ℕ) (networks new : List (List Element)) (n : ℕ) (e : Element) (rank : Option ℕ)
    → slice_get es n ≡ Some e → slice_get ranks n ≡ Some rank → IsPut networks rank e new → AreSplit es ranks count networks n → AreSplit es ranks count new (n + 1)
split_put es ranks count networks new n e None at_e at put done = rw put (split_skip es ranks count networks n at done)
split_put es ranks count networks new n e (Some m) at_e at put done = rw put.2 (split_more es ranks count networks n m e put.0 at_e at put.1 done)

-- an entry that is put into the part of its rank is put there as what it stands for
pub put_map : {A B : Type 0} (f : A → B) (old new : List (List A)) (rank : Option ℕ) (e : A) → IsPut old rank e new → IsPut (map (map f) old) rank (f e) (map (map f) new)
put_map f old new None e put = ap (map (map f)) put
put_map f old new (Some m) e put = (
  map f put.0,
  get_map (map f) old m put.0 put.1,
  ap (map (map f)) put.2 ∙ map-set (map f) old m (put.0 ++ e ∷ []) ∙ ap (set (map (map f) old) m) (map-append f put.0 (e ∷ [])),
)

-- there are as many parts as before
pub put_long : {A : Type 0} (old new : List (List A)) (rank : Option ℕ) (e : A) → IsPut old rank e new → length new ≡ length old
put_long old new None e put = ap length put
put_long old new (Some m) e put = ap length put.2 ∙ length-set old m (put.0 ++ e ∷ [])

-- empty parts stand for networks without elements
pub empty_map : {A B : Type 0} (f : A → B) (parts : List (List A)) → ((m : ℕ) (es : List A) → slice_get parts m ≡ Some es → es ≡ [])
    → (m : ℕ) (es : List B) → slice_get (map (map f) parts) m ≡ Some es → es ≡ []
empty_map f parts empty m es at =
    let was = mapped_at (map f) parts m es at in
    sym was.2 ∙ ap (map f) (empty m was.0 was.1)
