-- The first item of a list that fails.
use Rattle.std.proofs.Common.{◌≡◌, ℕ, ◌+◌, ◌<◌, List, [], ◌∷◌, ◌++◌, Some, length, take, drop, get_or, map, refl, sym, ap, subst, ◌∙◌, append_assoc, arith}
use Rattle.std.specs.Borrow.{Bor}
use Rattle.std.specs.Prelude.{slice_get, All}
use Rattle.std.specs.List.{flat_map}
use Rattle.std.proofs.lemmas.Grind.{flat_map-append}
use Rattle.std.proofs.lemmas.List.{take_more, take-append-drop, length-take, map-append}
use Rattle.std.proofs.lemmas.List.Elements.{All-append}
use Rattle.plant.specs.SourceFaults.{FailsFirst}
use Rattle.plant.proofs.Zips.{all_at}

-- a list around one of its places
around : {A : Type 0} (xs : List A) (n : ℕ) (x : A) → n < length xs → x ≡ get_or xs n x → xs ≡ take n xs ++ x ∷ drop (n + 1) xs
around xs n x lt is =
    sym (take-append-drop (n + 1) xs) ∙ ap (λ ys. ys ++ drop (n + 1) xs) (take_more xs n x lt ∙ ap (λ y. take n xs ++ y ∷ []) (sym is)) ∙ append_assoc (take n xs) (x ∷ []) (drop (n + 1) xs)

-- where all before it pass
pub first_fails : {A : Type 0} (P : A → Type 0) (Q : ℕ → A → Type 0) (xs : List A) (n : ℕ) (x : A) → n < length xs → x ≡ get_or xs n x → All P (take n xs) → Q n x → FailsFirst P Q xs
first_fails P Q xs n x lt is pass fails =
    let long = length-take n xs in
    let many : n ≡ length (take n xs) = omega arith in
    record { before = take n xs; first = x; behind = drop (n + 1) xs; parts = around xs n x lt is; pass = pass; fails = subst (λ (m : ℕ). Q m x) many fails }

-- where all that the items before have pass, and of what it has one fails
pub part_fails : {A B : Type 0} (P Q : B → Type 0) (f : A → List B) (xs : List A) (n : ℕ) (x : A) → n < length xs → x ≡ get_or xs n x → All P (flat_map f (take n xs)) → FailsFirst P (λ k y. Q y) (f x) → FailsFirst P (λ k y. Q y) (flat_map f xs)
part_fails P Q f xs n x lt is pass of =
    let front = flat_map f (take n xs) in
    let back = flat_map f (drop (n + 1) xs) in
    let parts : flat_map f xs ≡ front ++ (f x ++ back) = ap (flat_map f) (around xs n x lt is) ∙ flat_map-append f (take n xs) (x ∷ drop (n + 1) xs) in
    let inner : f x ++ back ≡ of.before ++ of.first ∷ (of.behind ++ back) = ap (λ ys. ys ++ back) of.parts ∙ append_assoc of.before (of.first ∷ of.behind) back in
    record {
      before = front ++ of.before;
      first = of.first;
      behind = of.behind ++ back;
      parts = parts ∙ ap (λ ys. front ++ ys) inner ∙ sym (append_assoc front of.before (of.first ∷ (of.behind ++ back)));
      pass = All-append P front of.before pass of.pass;
      fails = of.fails;
    }

-- the place of an item behind others
behind_others : {A : Type 0} (xs ys : List A) (x : A) → slice_get (xs ++ x ∷ ys) (length xs) ≡ Some x
behind_others [] ys x = refl
behind_others (z ∷ zs) ys x = behind_others zs ys x

-- what passes and fails so, passes and fails otherwise too
pub fails_moved : {A : Type 0} (P R : A → Type 0) (Q S : ℕ → A → Type 0) (xs : List A) → ((x : A) → P x → R x) → ((k : ℕ) (x : A) → slice_get xs k ≡ Some x → Q k x → S k x) → FailsFirst P Q xs → FailsFirst R S xs
fails_moved P R Q S xs passes fails of = record {
  before = of.before;
  first = of.first;
  behind = of.behind;
  parts = of.parts;
  pass = λ k d lt. passes (get_or of.before k d) (of.pass k d lt);
  fails = fails (length of.before) of.first (ap (λ ys. slice_get ys (length of.before)) of.parts ∙ behind_others of.before of.behind of.first) of.fails;
}

-- where all that references point to before one pass
pub seen_fails : {A : Type 0} (P Q : A → Type 0) (xs : List (Bor A)) (n : ℕ) (x : Bor A) → n < length xs → x ≡ get_or xs n x → All P (map (λ (p : Bor A). p.now) (take n xs)) → Q x.now
    → FailsFirst P (λ k y. Q y) (map (λ (p : Bor A). p.now) xs)
seen_fails {A} P Q xs n x lt is pass fails = record {
  before = map (λ (p : Bor A). p.now) (take n xs);
  first = x.now;
  behind = map (λ (p : Bor A). p.now) (drop (n + 1) xs);
  parts = ap (map (λ (p : Bor A). p.now)) (around xs n x lt is) ∙ map-append (λ (p : Bor A). p.now) (take n xs) (x ∷ drop (n + 1) xs);
  pass = pass;
  fails = fails;
}

-- where none that passes fails, not all pass
pub none_fails : {A : Type 0} (P : A → Type 0) (Q : ℕ → A → Type 0) (xs : List A) → ((k : ℕ) (x : A) → Q k x → P x → ⊥) → FailsFirst P Q xs → All P xs → ⊥
none_fails P Q xs excluded of all =
    excluded (length of.before) of.first of.fails (all_at P xs all (length of.before) of.first (ap (λ ys. slice_get ys (length of.before)) of.parts ∙ behind_others of.before of.behind of.first))
