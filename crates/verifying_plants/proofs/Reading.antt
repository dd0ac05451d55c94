-- Words are read one after the other.
use Rattle.std.proofs.Common.{◌≡◌, ◌⊎◌, inl, inr, ℕ, zero, suc, ◌+◌, ◌<◌, ◌++◌, Any, List, [], ◌∷◌, Some, length, map, take, get_or, unwrap_or, refl, ap, ap₂, sym, ◌∙◌, arith}
use Rattle.std.specs.Prelude.{slice_get}
use Rattle.std.specs.Borrow.{Bor}
use Rattle.std.proofs.lemmas.List.{get_or-map, length-map, map-append, take_more}
use Rattle.std.proofs.lemmas.Option.{same_Some, slice_get-get_or, slice_get_within, unwrap_or-slice_get}
use Rattle.lists.proofs.Places.{slice_get-append}
use Rattle.text_commands.specs.Rows.{texts}
use Rattle.plant_claims.specs.declared.field_range.FieldRange.{FieldRange}
use Rattle.plant_claims.specs.Claims.{range_address}
use Rattle.verifying_plants.specs.Ranges.{AreApart, AreRanges, range_of}
use Rattle.verifying_plants.specs.Questions.{TellsTwice}

-- one more range of another address
pub apart_more : (rs : List FieldRange) (r : FieldRange) → AreApart rs → (Any (λ o. range_address o ≡ range_address r) rs → ⊥) → AreApart (rs ++ r ∷ [])
apart_more rs r apart none j k a b first second same = by (slice_get-append rs (r ∷ []) j) (slice_get-append rs (r ∷ []) k) where
  last : (i : ℕ) (x : FieldRange) → slice_get (r ∷ []) i ≡ Some x → (i ≡ 0) × (x ≡ r)
  last zero x at = (refl, sym (same_Some r x at))
  last (suc i) x at = cc

  found : (i : ℕ) (x : FieldRange) → slice_get rs i ≡ Some x → range_address x ≡ range_address r → ⊥
  found i x at is = none (i, x, slice_get_within rs i x at, sym (unwrap_or-slice_get rs i x) ∙ ap (λ o. unwrap_or o x) at, is)

  by : ((j < length rs) × (slice_get (rs ++ r ∷ []) j ≡ slice_get rs j)) ⊎ ((i : ℕ) × (j ≡ length rs + i) × (slice_get (rs ++ r ∷ []) j ≡ slice_get (r ∷ []) i))
      → ((k < length rs) × (slice_get (rs ++ r ∷ []) k ≡ slice_get rs k)) ⊎ ((i : ℕ) × (k ≡ length rs + i) × (slice_get (rs ++ r ∷ []) k ≡ slice_get (r ∷ []) i)) → j ≡ k
  by (inl one) (inl two) = apart j k a b (sym one.1 ∙ first) (sym two.1 ∙ second) same
  by (inl one) (inr (i, at, is)) = let end = last i b (sym is ∙ second) in absurd (found j a (sym one.1 ∙ first) (same ∙ ap range_address end.1))
  by (inr (i, at, is)) (inl two) = let end = last i a (sym is ∙ first) in absurd (found k b (sym two.1 ∙ second) (sym same ∙ ap range_address end.1))
  by (inr (i, at, is)) (inr (l, there, also)) = let one = last i a (sym is ∙ first) in let two = last l b (sym also ∙ second) in at ∙ ap (λ n. length rs + n) (one.0 ∙ sym two.0) ∙ sym there

-- the next word tells of another address
pub ranges_more : (words : List (Bor (List ℕ))) (rs : List FieldRange) (n : ℕ) (d : Bor (List ℕ)) (r : FieldRange) → n < length words → AreRanges (take n (texts words)) rs → range_of (get_or words n d).now ≡ Some r
    → (Any (λ o. range_address o ≡ range_address r) rs → ⊥) → AreRanges (take (n + 1) (texts words)) (rs ++ r ∷ [])
ranges_more words rs n d r within before is none =
    let long = length-map words (λ (w : Bor (List ℕ)). w.now) in
    record {
      each = ap (map range_of) (take_more (texts words) n [] (omega arith)) ∙ map-append range_of (take n (texts words)) (get_or (texts words) n [] ∷ [])
          ∙ ap₂ ◌++◌ before.each (ap (λ o. o ∷ []) (ap range_of (get_or-map (λ (w : Bor (List ℕ)). w.now) words n d [] within) ∙ is)) ∙ sym (map-append (λ x. Some x) rs (r ∷ []));
      apart = apart_more rs r before.apart none;
    }

-- a word before tells of the same address
pub told_before : (word : List ℕ) (rs : List FieldRange) (r : FieldRange) → range_of word ≡ Some r → Any (λ o. range_address o ≡ range_address r) rs → TellsTwice word rs
told_before word rs r is (k, o, within, at, same) = record { range = r; is = is; place = k; other = o; other_at = slice_get-get_or rs k o within ∙ ap (λ x. Some x) at; same = same }
