-- Labels that spread over joined elements until joined ones have one label.
use Rattle.std.proofs.Common.{◌≡◌, ℕ, ◌+◌, ◌≤◌, ◌<◌, inl, inr, List, Contains, length, get_or, set, length-set, arith, refl, sym, ap, ◌∙◌}
use Rattle.std.proofs.lemmas.List.{get_or-set_same, get_or-set_other}
use Rattle.std.proofs.lemmas.Bool.{cases_eq}
use Rattle.network.specs.declared.joining.labels.Pair.{Pair}
use Rattle.network.specs.Steps.Joined.{Joined, AreChained, AreFalling, IsOneAlong, KeepsClasses}
use Rattle.network.specs.Steps.Joined.Joined.{here, along, back}

-- chains go both ways, and follow one another
pub Joined-trans : (pairs : List Pair) {i j k : ℕ} → Joined pairs i j → Joined pairs j k → Joined pairs i k
Joined-trans pairs one here = one
Joined-trans pairs one (along in' two) = along in' (Joined-trans pairs one two)
Joined-trans pairs one (back in' two) = back in' (Joined-trans pairs one two)

pub Joined-sym : (pairs : List Pair) {i j : ℕ} → Joined pairs i j → Joined pairs j i
Joined-sym pairs here = here
Joined-sym pairs (along in' one) = Joined-trans pairs (back in' here) (Joined-sym pairs one)
Joined-sym pairs (back in' one) = Joined-trans pairs (along in' here) (Joined-sym pairs one)

-- what has one value at both ends of each pair has one value along a chain
pub Joined-one : (pairs : List Pair) (f : ℕ → ℕ) → ((p : Pair) → Contains pairs p → f p.one ≡ f p.other) → {i j : ℕ} → Joined pairs i j → f i ≡ f j
Joined-one pairs f both here = refl
Joined-one pairs f both (along {i} {p} in' one) = Joined-one pairs f both one ∙ both p in'
Joined-one pairs f both (back {i} {p} in' one) = Joined-one pairs f both one ∙ sym (both p in')

pub classes_same : (labels : List ℕ) → KeepsClasses labels labels
classes_same labels = record { long = refl; falling = λ h. h; chained = λ pairs h. h; kept = λ f h. h; roots = λ k h. h }

pub classes_then : (a b c : List ℕ) → KeepsClasses a b → KeepsClasses b c → KeepsClasses a c
classes_then a b c one two = record {
  long = two.long ∙ one.long;
  falling = λ h. two.falling (one.falling h);
  chained = λ pairs h. two.chained pairs (one.chained pairs h);
  kept = λ f h. one.kept f (two.kept f h);
  roots = λ k h. two.roots k (one.roots k h);
}

-- one label more is followed twice
module _ (labels : List ℕ) (falling : AreFalling labels) (at : ℕ) (within : at < length labels) where
  short : List ℕ
  short = set labels at (get_or labels (get_or labels at 0) 0)

  pub short_here : get_or (set labels at (get_or labels (get_or labels at 0) 0)) at 0 ≡ get_or labels (get_or labels at 0) 0
  short_here = get_or-set_same labels at (get_or labels (get_or labels at 0) 0) 0 within

  pub short_other : (k : ℕ) → (k ≡ at → ⊥) → get_or (set labels at (get_or labels (get_or labels at 0) 0)) k 0 ≡ get_or labels k 0
  short_other k ne = get_or-set_other labels at k (get_or labels (get_or labels at 0) 0) 0 ne

  pub short_long : length (set labels at (get_or labels (get_or labels at 0) 0)) ≡ length labels
  short_long = length-set labels at (get_or labels (get_or labels at 0) 0)

  pub short_root : (k : ℕ) → get_or labels k 0 ≡ k → get_or (set labels at (get_or labels (get_or labels at 0) 0)) k 0 ≡ k
  short_root k e = elim (cases_eq k at) [
    | inl same ↦ ap (λ x. get_or (set labels at (get_or labels (get_or labels at 0) 0)) x 0) same ∙ short_here ∙ ap (λ x. get_or labels (get_or labels x 0) 0) (sym same) ∙ ap (λ x. get_or labels x 0) e ∙ e
    | inr ne ↦ short_other k ne ∙ e
  ]

  pub short_one : (f : ℕ → ℕ) → IsOneAlong f (set labels at (get_or labels (get_or labels at 0) 0)) → f at ≡ f (get_or labels at 0)
  short_one f one = elim (cases_eq (get_or labels at 0) at) [
    | inl same ↦ ap f (sym same)
    | inr ne ↦ (let low = falling at in
        let a : f (get_or labels (get_or labels at 0) 0) ≡ f at = ap f (sym short_here) ∙ one at (let l = short_long in omega arith) in
        let b : f (get_or labels (get_or labels at 0) 0) ≡ f (get_or labels at 0) = ap f (sym (short_other (get_or labels at 0) ne)) ∙ one (get_or labels at 0) (let l = short_long in omega arith) in
        sym a ∙ b)
  ]

  pub short_keeps : KeepsClasses labels (set labels at (get_or labels (get_or labels at 0) 0))
  short_keeps = record {
    long = short_long;
    falling = λ h k. elim (cases_eq k at) [
      | inl same ↦ rw (same, short_here) (let a = h at in let b = h (get_or labels at 0) in omega arith)
      | inr ne ↦ rw (short_other k ne) (h k)
    ];
    chained = λ pairs h k lt. elim (cases_eq k at) [
      | inl same ↦ rw (same, short_here) (Joined-trans pairs (h (get_or labels at 0) (let a = falling at in omega arith)) (h at within))
      | inr ne ↦ rw (short_other k ne) (h k (let l = short_long in omega arith))
    ];
    kept = λ f one k lt. elim (cases_eq k at) [
      | inl same ↦ rw same (sym (short_one f one))
      | inr ne ↦ ap f (sym (short_other k ne)) ∙ one k (let l = short_long in omega arith)
    ];
    roots = short_root;
  }

-- a root gets the label of another
module _ (labels : List ℕ) (falling : AreFalling labels) (one other : ℕ) (within : one < length labels) (within' : other < length labels) (root : get_or labels one 0 ≡ one) (low : other ≤ one) where
  link_long : length (set labels one other) ≡ length labels
  link_long = length-set labels one other

  link_here : get_or (set labels one other) one 0 ≡ other
  link_here = get_or-set_same labels one other 0 within

  link_other : (k : ℕ) → (k ≡ one → ⊥) → get_or (set labels one other) k 0 ≡ get_or labels k 0
  link_other k ne = get_or-set_other labels one k other 0 ne

  pub link_falling : AreFalling (set labels one other)
  link_falling k = elim (cases_eq k one) [ inl same ↦ rw (same, link_here) low | inr ne ↦ rw (link_other k ne) (falling k) ]

  pub link_chained : (pairs : List Pair) → Joined pairs other one → AreChained pairs labels → AreChained pairs (set labels one other)
  link_chained pairs joined h k lt = elim (cases_eq k one) [
    | inl same ↦ rw (same, link_here) joined
    | inr ne ↦ rw (link_other k ne) (h k (let l = link_long in omega arith))
  ]

  pub link_kept : (f : ℕ → ℕ) → IsOneAlong f (set labels one other) → IsOneAlong f labels
  link_kept f h k lt = elim (cases_eq k one) [
    | inl same ↦ rw (same, root) refl
    | inr ne ↦ ap f (sym (link_other k ne)) ∙ h k (let l = link_long in omega arith)
  ]

  pub link_one : (f : ℕ → ℕ) → IsOneAlong f (set labels one other) → f other ≡ f one
  link_one f h = ap f (sym link_here) ∙ h one (let l = link_long in omega arith)

-- the first n labels are the last ones of their ways
abbrev pub AreFlatTo : List ℕ → ℕ → Type 0
AreFlatTo labels n = (k : ℕ) → k < n → get_or labels (get_or labels k 0) 0 ≡ get_or labels k 0

pub flat_more : (labels : List ℕ) (n : ℕ) → AreFalling labels → n < length labels → AreFlatTo labels n → AreFlatTo (set labels n (get_or labels (get_or labels n 0) 0)) (n + 1)
flat_more labels n falling within flat k lt = elim (cases_eq k n) [
  | inl same ↦ rw (same, short_here labels falling n within) last
  | inr ne ↦ (let low = falling k in rw (short_other labels falling n within k ne, short_other labels falling n within (get_or labels k 0) (λ e. omega arith)) (flat k (omega arith)))
]
  where
    last : get_or (set labels n (get_or labels (get_or labels n 0) 0)) (get_or labels (get_or labels n 0) 0) 0 ≡ get_or labels (get_or labels n 0) 0
    last = elim (cases_eq (get_or labels n 0) n) [
      | inl same ↦ short_root labels falling n within (get_or labels (get_or labels n 0) 0) (ap (λ x. get_or labels (get_or labels x 0) 0) same ∙ refl)
      | inr ne ↦ (let low = falling n in
          let root = flat (get_or labels n 0) (omega arith) in
          short_root labels falling n within (get_or labels (get_or labels n 0) 0) root)
    ]

-- labels that agree on each pair, and are joined to their elements, tell who is joined
pub labels_tell : (pairs : List Pair) (labels : List ℕ) → AreChained pairs labels → ((p : Pair) → Contains pairs p → get_or labels p.one 0 ≡ get_or labels p.other 0)
    → (i j : ℕ) → i < length labels → j < length labels → (get_or labels i 0 ≡ get_or labels j 0 → Joined pairs i j) × (Joined pairs i j → get_or labels i 0 ≡ get_or labels j 0)
labels_tell pairs labels chained both i j lt lt' =
    ((λ e. Joined-trans pairs (Joined-sym pairs (chained i lt)) (rw e (chained j lt'))), (λ h. Joined-one pairs (λ k. get_or labels k 0) both h))

-- what is known of two roots, once both are found
pub record AreRoots (l0 l1 l2 : List ℕ) (one other a b : ℕ) : Type 0 where
  pub first : KeepsClasses l0 l1
  pub second : KeepsClasses l1 l2
  pub found : (f : ℕ → ℕ) → IsOneAlong f l1 → f a ≡ f one
  pub found' : (f : ℕ → ℕ) → IsOneAlong f l2 → f b ≡ f other
  pub chained : (pairs : List Pair) → AreChained pairs l0 → Joined pairs a one
  pub chained' : (pairs : List Pair) → AreChained pairs l1 → Joined pairs b other

pub roots_joined : (l0 l1 l2 : List ℕ) (p : Pair) (a b : ℕ) → AreRoots l0 l1 l2 p.one p.other a b → (pairs : List Pair) → Contains pairs p → AreChained pairs l0 → Joined pairs a b
roots_joined l0 l1 l2 p a b r pairs in' h = Joined-trans pairs (along in' (r.chained pairs h)) (Joined-sym pairs (r.chained' pairs (r.first.chained pairs h)))

-- the pair is at one label, whichever root got the other's
pub roots_united : (l0 l1 l2 l3 : List ℕ) (one other a b : ℕ) → AreRoots l0 l1 l2 one other a b → (f : ℕ → ℕ) → IsOneAlong f l2 → f a ≡ f b → f one ≡ f other
roots_united l0 l1 l2 l3 one other a b r f h e = sym (r.found f (r.second.kept f h)) ∙ e ∙ r.found' f h
