-- The words and symbols of rows: there are none outside, and contacts and coils begin where symbols do.
use Rattle.std.proofs.Common.{ℕ, zero, suc, ◌+◌, ◌<◌, ◌≤◌, ◌≡◌, add-one, inl, inr, Bool, true, false, cond, List, [], ◌∷◌, ◌++◌, length, take, get_or, Option, Some, None, refl, sym, ap, ◌∙◌, append_assoc, arith}
use Rattle.std.specs.List.{filter_map}
use Rattle.std.specs.Option.{is_some}
use Rattle.std.proofs.Math.Seq.{take-suc}
use Rattle.std.proofs.lemmas.Bool.{or_parts, cases_lt}
use Rattle.std.proofs.lemmas.List.{get_or_past}
use Rattle.std.proofs.lemmas.List.Elements.{filter_map-append}
use Rattle.std.proofs.lemmas.Option.{same_Some, none-some}
use Rattle.lists.proofs.Places.{none_from_is_some}
use Rattle.ladder_rows.specs.declared.span.Span.{Span}
use Rattle.ladder_rows.specs.Rows.{Rows, char_at, width, upto}
use Rattle.ladder_rows.specs.Boxes.{option_list}
use Rattle.ladder_text.specs.Places.{Layout, contact_at, coil_at}
use Rattle.ladder_text.specs.Names.{in_word, word_at, words, symbol_at, symbols, symbol_with, row_contacts, row_coils}
use Rattle.ladder_text.specs.Faults.{is_first_of_symbol}
use Rattle.lists.proofs.Longest.{row-narrow}
use Rattle.ladder_text.proofs.Marks.SymbolPlaces.{cond_some_of, no_symbol}

blank_below : (d : Rows) (r c : ℕ) → length d ≤ r → char_at d r c ≡ 32
unfolding char_at
blank_below d r c h = ap (λ (row : List ℕ). get_or row c 32) (get_or_past d r [] h)

blank_beside : (d : Rows) (r c : ℕ) → width d < c → char_at d r c ≡ 32
unfolding char_at
blank_beside d r c h = elim (cases_lt c (length (get_or d r []))) [
  | inl l ↦ absurd (omega (arith, row-narrow d r c l))
  | inr l ↦ get_or_past (get_or d r []) c 32 l
]

upto-none : {A : Type 0} (n : ℕ) (f : ℕ → List A) → ((c : ℕ) → f c ≡ []) → upto n f ≡ []
upto-none zero f h = refl
upto-none (suc n) f h = rw (upto-none n f h, h (suc n)) refl

pub words_below : (p : Layout) (r : ℕ) → length p.rows ≤ r → words p r ≡ []
unfolding words word_at in_word
words_below p r h = upto-none (width p.rows) (λ c. option_list (word_at p r c)) (λ c. rw (blank_below p.rows r c h) refl)

pub symbols_below : (p : Layout) (r : ℕ) → length p.rows ≤ r → symbols p r ≡ []
unfolding symbols symbol_at
symbols_below p r h = upto-none (width p.rows) (λ c. option_list (symbol_at p r c)) (λ c. rw (no_symbol p r c (blank_below p.rows r c h)) refl)

symbol_first : (p : Layout) (r c : ℕ) (s : Span) → symbol_at p r c ≡ Some s → s.first ≡ c
unfolding symbol_at
symbol_first p r c s e = ap (λ (t : Span). t.first) (sym (same_Some _ s (cond_some_of (is_first_of_symbol p r c) _ s e).1))

filter_map-one : {X Y : Type 0} (h : X → Option Y) (x : X) (o : Option Y) → h x ≡ o → filter_map h (x ∷ []) ≡ option_list o
filter_map-one h x None e = rw e refl
filter_map-one h x (Some y) e = rw e refl

-- one more item of the list, for which h gives o
filter_map-step : {X Y : Type 0} (h : X → Option Y) (xs : List X) (i : ℕ) (d : X) (o : Option Y) (was now : List Y) → i < length xs → o ≡ h (get_or xs i d)
    → was ≡ filter_map h (take i xs) → now ≡ was ++ option_list o → now ≡ filter_map h (take (i + 1) xs)
filter_map-step h xs i d o was now l e w n =
    n ∙ ap (λ ys. ys ++ option_list o) w
    ∙ rw (add-one, take-suc xs i d l) (sym (filter_map-append h (take i xs) (get_or xs i d ∷ []) ∙ ap (λ ys. filter_map h (take i xs) ++ ys) (filter_map-one h (get_or xs i d) o (sym e))))

-- the same behind other items
pub filter_map-step_behind : {X Y : Type 0} (h : X → Option Y) (xs : List X) (i : ℕ) (d : X) (o : Option Y) (front was now : List Y) → i < length xs → o ≡ h (get_or xs i d)
    → was ≡ front ++ filter_map h (take i xs) → now ≡ was ++ option_list o → now ≡ front ++ filter_map h (take (i + 1) xs)
filter_map-step_behind {X} {Y} h xs i d o front was now l e w n =
    n ∙ ap (λ (ys : List Y). ys ++ option_list o) w
    ∙ append_assoc front (filter_map h (take i xs)) (option_list o)
    ∙ ap (λ (ys : List Y). front ++ ys) (filter_map-step h xs i d o (filter_map h (take i xs)) (filter_map h (take i xs) ++ option_list o) l e refl refl)

-- what g finds at a place, there being a symbol wherever it finds something
found_by_symbol : {A : Type 0} (g : ℕ → Option A) (c : ℕ) (o : Option Span) → ((s : Span) → o ≡ Some s → s.first ≡ c) → (o ≡ None → g c ≡ None)
    → filter_map (λ (s : Span). g s.first) (option_list o) ≡ option_list (g c)
found_by_symbol g c None at none = rw (none refl) refl
found_by_symbol g c (Some s) at none = filter_map-one (λ (s : Span). g s.first) s (g s.first) refl ∙ ap (λ k. option_list (g k)) (at s refl)

upto-by_symbol : {A : Type 0} (g : ℕ → Option A) (symbol : ℕ → Option Span) → ((c : ℕ) (s : Span) → symbol c ≡ Some s → s.first ≡ c) → ((c : ℕ) → symbol c ≡ None → g c ≡ None)
    → (n : ℕ) → filter_map (λ (s : Span). g s.first) (upto n (λ c. option_list (symbol c))) ≡ upto n (λ c. option_list (g c))
upto-by_symbol g symbol at none zero = refl
upto-by_symbol g symbol at none (suc n) =
    filter_map-append (λ (s : Span). g s.first) (upto n (λ c. option_list (symbol c))) (option_list (symbol (suc n)))
    ∙ rw (upto-by_symbol g symbol at none n, found_by_symbol g (suc n) (symbol (suc n)) (at (suc n)) (none (suc n))) refl

cond_none_of : {A : Type 0} (b : Bool) (x : A) → cond b (Some x) None ≡ None → b ≡ false
cond_none_of true x e = absurd (none-some x (sym e))
cond_none_of false x e = refl

contact_none : (p : Layout) (r c : ℕ) → symbol_at p r c ≡ None → symbol_with p r c (contact_at p r c) ≡ None
unfolding symbol_at
contact_none p r c e =
    let q = or_parts (is_some (contact_at p r c)) (is_some (coil_at p r c)) (cond_none_of (is_first_of_symbol p r c) _ e) in
    rw (none_from_is_some (contact_at p r c) q.0) refl

coil_none : (p : Layout) (r c : ℕ) → symbol_at p r c ≡ None → symbol_with p r c (coil_at p r c) ≡ None
unfolding symbol_at
coil_none p r c e =
    let q = or_parts (is_some (contact_at p r c)) (is_some (coil_at p r c)) (cond_none_of (is_first_of_symbol p r c) _ e) in
    rw (none_from_is_some (coil_at p r c) q.1) refl

-- the contacts of a row stand where its symbols begin
pub row_contacts_by_symbol : (p : Layout) (r : ℕ) → filter_map (λ (s : Span). symbol_with p r s.first (contact_at p r s.first)) (symbols p r) ≡ row_contacts p r
unfolding symbols row_contacts
row_contacts_by_symbol p r = upto-by_symbol (λ c. symbol_with p r c (contact_at p r c)) (symbol_at p r) (symbol_first p r) (contact_none p r) (width p.rows)

-- the coils of a row stand where its symbols begin
pub row_coils_by_symbol : (p : Layout) (r : ℕ) → filter_map (λ (s : Span). symbol_with p r s.first (coil_at p r s.first)) (symbols p r) ≡ row_coils p r
unfolding symbols row_coils
row_coils_by_symbol p r = upto-by_symbol (λ c. symbol_with p r c (coil_at p r c)) (symbol_at p r) (symbol_first p r) (coil_none p r) (width p.rows)

pub contact_beside : (p : Layout) (r c : ℕ) → width p.rows < c → symbol_with p r c (contact_at p r c) ≡ None
contact_beside p r c h =
    let q = or_parts (is_some (contact_at p r c)) (is_some (coil_at p r c)) (no_symbol p r c (blank_beside p.rows r c h)) in
    rw (none_from_is_some (contact_at p r c) q.0) refl

pub coil_beside : (p : Layout) (r c : ℕ) → width p.rows < c → symbol_with p r c (coil_at p r c) ≡ None
coil_beside p r c h =
    let q = or_parts (is_some (contact_at p r c)) (is_some (coil_at p r c)) (no_symbol p r c (blank_beside p.rows r c h)) in
    rw (none_from_is_some (coil_at p r c) q.1) refl
