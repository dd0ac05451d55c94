-- The words of a row stand one behind the other, so a word that stands above a span is the first one if the word before it ends before the span.
use Rattle.std.proofs.Common.{ℕ, zero, suc, ◌+◌, ◌-◌, ◌<◌, ◌≤◌, ◌≡◌, ◌&&◌, List, [], ◌∷◌, length, Some, Bool, true, false, not, refl, sym, ap, subst, arith, inl, inr}
use Rattle.std.specs.List.{slice_get, find}
use Rattle.std.proofs.lemmas.Bool.{cases_lt, and_parts, both_ways}
use Rattle.std.proofs.lemmas.Option.{same_Some, slice_get-get_or}
use Rattle.ladder_rows.specs.declared.span.Span.{Span}
use Rattle.ladder_rows.specs.Rows.{width, run}
use Rattle.ladder_rows.specs.Boxes.{option_list}
use Rattle.ladder_text.specs.Places.{Layout}
use Rattle.ladder_text.specs.Names.{overlap, in_word, word_at, words}
use Rattle.ladder_text.specs.Steps.Pairs.{span_at, AreApart}
use Rattle.ladder_text.proofs.Marks.SymbolPlaces.{cond_some_of}
use Rattle.ladder_text.proofs.Rows.ListedItems.{option_item, upto_item}
use Rattle.ladder_text.proofs.Rows.Runs.{run_passes}
use Rattle.ladder_text.proofs.Words.NamedSymbols.{apart_right}
use Rattle.ladder_text.proofs.Words.WordOrder.{word_first, words_rising}

-- the places of a word, and the place before it
record IsWord (p : Layout) (r : ℕ) (x : Span) : Type 0 where
  inside : in_word p r x.first ≡ true
  before : in_word p r (x.first - 1) ≡ false
  ends : x.end ≡ x.first + 1 + run (in_word p r) (x.first + 1) (width p.rows)

not_false : (b : Bool) → not b ≡ true → b ≡ false
not_false false e = refl
not_false true e = absurd (cc)

word_parts : (p : Layout) (r : ℕ) (x : Span) → word_at p r x.first ≡ Some x → IsWord p r x
unfolding word_at
word_parts p r x e =
    let q = cond_some_of (in_word p r x.first && not (in_word p r (x.first - 1))) _ x e in
    let t = and_parts _ _ q.0 in
    record { inside = t.0; before = not_false _ t.1; ends = ap (λ (s : Span). s.end) (sym (same_Some _ x q.1)) }

word_of : (p : Layout) (r k : ℕ) (x : Span) → slice_get (words p r) k ≡ Some x → IsWord p r x
unfolding words
word_of p r k x e =
    let i = upto_item (width p.rows) (λ c. option_list (word_at p r c)) k x e in
    let o = (option_item (word_at p r i.list) i.place x i.is).1 in
    word_parts p r x (subst (λ (c : ℕ). word_at p r c ≡ Some x) (sym (word_first p r i.list x o)) o)

inside_word : (p : Layout) (r c : ℕ) (x : Span) → IsWord p r x → x.first ≤ c → c < x.end → in_word p r c ≡ true
inside_word p r c x w low high = elim (cases_lt x.first c) [
  | inl l ↦
      let e : x.first + 1 + (c - (x.first + 1)) ≡ c = omega arith in
      subst (λ (n : ℕ). in_word p r n ≡ true) e (run_passes (in_word p r) (x.first + 1) (width p.rows) (c - (x.first + 1)) (omega (arith, w.ends)))
  | inr l ↦
      let e : x.first ≡ c = omega arith in
      subst (λ (n : ℕ). in_word p r n ≡ true) e w.inside
]

apart : (p : Layout) (r : ℕ) (x y : Span) → IsWord p r x → IsWord p r y → x.first < y.first → x.end ≤ y.first
apart p r x y v w l = elim (cases_lt y.first x.end) [
  | inl h ↦ absurd (both_ways (in_word p r (y.first - 1)) w.before (inside_word p r (y.first - 1) x v (omega arith) (omega arith)))
  | inr h ↦ h
]

pub words_apart : (p : Layout) (r : ℕ) → AreApart (words p r)
words_apart p r =
    let xs = words p r in
    let at : (k : ℕ) → k < length xs → slice_get xs k ≡ Some (span_at xs k) = λ k h. slice_get-get_or xs k (record { first = 0; end = 0 }) h in
    record {
      wide = λ k h. omega (arith, (word_of p r k (span_at xs k) (at k h)).ends);
      behind = λ j k l h.
          let a = at j (omega arith) in
          let b = at k h in
          apart p r (span_at xs j) (span_at xs k) (word_of p r j (span_at xs j) a) (word_of p r k (span_at xs k) b) (words_rising p r j k (span_at xs j) (span_at xs k) l a b);
    }

find_first : (test : Span → Bool) (xs : List Span) (k : ℕ) → ((j : ℕ) → j < k → test (span_at xs j) ≡ false) → k < length xs → test (span_at xs k) ≡ true → find test xs ≡ Some (span_at xs k)
find_first test [] k none h t = absurd (omega arith)
find_first test (x ∷ xs) zero none h t = rw t refl
find_first test (x ∷ xs) (suc k) none h t =
    let e : test x ≡ false = none 0 (omega arith) in
    rw e (find_first test xs k (λ j l. none (suc j) (omega arith)) (omega arith) t)

-- a span that overlaps, where the one before it ends in time
pub found_near : (s : Span) (xs : List Span) (k : ℕ) → AreApart xs → k < length xs → overlap s (span_at xs k) ≡ true → (0 < k → (span_at xs (k - 1)).end ≤ s.first) → find (overlap s) xs ≡ Some (span_at xs k)
found_near s xs k w h t near =
    let early : (j : ℕ) → j < k → overlap s (span_at xs j) ≡ false = λ j l.
    apart_right s (span_at xs j) (elim (cases_lt j (k - 1)) [
      | inl m ↦ omega (arith, w.behind j (k - 1) m (omega arith), w.wide (k - 1) (omega arith), near (omega arith))
      | inr m ↦ let e : j ≡ k - 1 = omega arith in rw e (near (omega arith))
    ]) in
    find_first (overlap s) xs k early h t
