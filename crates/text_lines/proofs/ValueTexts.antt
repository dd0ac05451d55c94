-- Values of which the texts are read.
use Rattle.std.proofs.Common.{arith, ◌≡◌, ◌↔◌, IsTrue, ℕ, ◌-◌, ◌<◌, ◌++◌, ◌∷◌, [], List, length, take, get_or, Option, Some, None, true, false, ℤ, sym, ap, refl, ◌∙◌}
use Rattle.std.specs.Prelude.{FitsSigned, Bool, ◌^◌, slice_range}
use Rattle.std.specs.Int.{w16}
use Rattle.std.specs.Fmt.{decimal, signed_decimal}
use Rattle.std.proofs.lemmas.List.{length-append}
use Rattle.std.proofs.lemmas.Option.{none-some, same_Some}
use Rattle.std.proofs.Math.Seq.{take-append_seam}
use Rattle.std_blocks.specs.declared.value.Value.{Value}
use Rattle.std_blocks.specs.declared.value.Value.TheVariants.{Bool as BoolValue, Int as IntValue, Time as TimeValue}
use Rattle.declared_names.specs.declared.declarations.Kind.TheVariants as kind
use Rattle.declared_names.specs.Kinds.{kind_of}
use Rattle.text_lines.specs.LineParts.{value_text}
use Rattle.text_lines.specs.ReadParts.{IsInRange}

-- what stands between two bytes and two
pub inner_text : (word text : List ℕ) → word ≡ 84 ∷ 35 ∷ (text ++ 109 ∷ 115 ∷ []) → slice_range word 2 (length word - 2) ≡ text
inner_text word text is = ap (λ (w : List ℕ). slice_range w 2 (length w - 2)) is ∙ of
  where
    many : length (84 ∷ 35 ∷ (text ++ 109 ∷ 115 ∷ [])) - 2 - 2 ≡ length text
    many = omega (arith, length-append text (109 ∷ 115 ∷ []))

    of : slice_range (84 ∷ 35 ∷ (text ++ 109 ∷ 115 ∷ [])) 2 (length (84 ∷ 35 ∷ (text ++ 109 ∷ 115 ∷ [])) - 2) ≡ text
    of = ap (λ n. take n (text ++ 109 ∷ 115 ∷ [])) many ∙ take-append_seam text (109 ∷ 115 ∷ [])

pub inner_long : (word text : List ℕ) → word ≡ 84 ∷ 35 ∷ (text ++ 109 ∷ 115 ∷ []) → length word < 4 → ⊥
inner_long word text is short = omega (arith, short, ap (λ l. length l) is, length-append text (109 ∷ 115 ∷ []))

-- a BOOL is TRUE where its text is 1
pub value_on : (word : List ℕ) (on : Bool) → (IsTrue on ↔ (word ≡ 49 ∷ [])) → (x : Value) → kind_of x ≡ kind.Bool → IsInRange x → word ≡ value_text x → Some (BoolValue on) ≡ Some x
value_on word true one (BoolValue true) kind range is = refl
value_on word true one (BoolValue false) kind range is = let h : 49 ≡ 48 = ap (λ l. get_or l 0 0) (sym (one.0 refl) ∙ is) in absurd (omega (arith, h))
value_on word false one (BoolValue true) kind range is = let h : false ≡ true = one.1 is in absurd cc
value_on word false one (BoolValue false) kind range is = refl
value_on word on one (IntValue n) kind range is = absurd cc
value_on word on one (TimeValue t) kind range is = absurd cc

-- an INT is what its text writes
pub value_int : (word : List ℕ) (found : Option ℤ) (m : ℤ) → found ≡ Some m → ((n : ℤ) → FitsSigned w16 n → word ≡ signed_decimal n → found ≡ Some n)
    → (x : Value) → kind_of x ≡ kind.Int → IsInRange x → word ≡ value_text x → Some (IntValue m) ≡ Some x
value_int word found m at writes (BoolValue b) kind range is = absurd cc
value_int word found m at writes (IntValue n) kind range is = ap (λ z. Some (IntValue z)) (same_Some m n (sym at ∙ writes n range is))
value_int word found m at writes (TimeValue t) kind range is = absurd cc

pub no_value_int : (word : List ℕ) (found : Option ℤ) → found ≡ None → ((n : ℤ) → FitsSigned w16 n → word ≡ signed_decimal n → found ≡ Some n)
    → (x : Value) → kind_of x ≡ kind.Int → IsInRange x → word ≡ value_text x → None ≡ Some x
no_value_int word found at writes (BoolValue b) kind range is = absurd cc
no_value_int word found at writes (IntValue n) kind range is = absurd (none-some n (sym at ∙ writes n range is))
no_value_int word found at writes (TimeValue t) kind range is = absurd cc

-- a TIME is what stands in its text
pub value_time : (word inner : List ℕ) (found : Option ℕ) (m : ℕ) → found ≡ Some m → ((text : List ℕ) → word ≡ 84 ∷ 35 ∷ (text ++ 109 ∷ 115 ∷ []) → inner ≡ text)
    → ((t : ℕ) → t < 2 ^ 32 → inner ≡ decimal t → found ≡ Some t) → (x : Value) → kind_of x ≡ kind.Time → IsInRange x → word ≡ value_text x → Some (TimeValue m) ≡ Some x
value_time word inner found m at stands writes (BoolValue b) kind range is = absurd cc
value_time word inner found m at stands writes (IntValue n) kind range is = absurd cc
value_time word inner found m at stands writes (TimeValue t) kind range is = ap (λ z. Some (TimeValue z)) (same_Some m t (sym at ∙ writes t range (stands (decimal t) is)))

pub no_value_time : (word inner : List ℕ) (found : Option ℕ) → found ≡ None → ((text : List ℕ) → word ≡ 84 ∷ 35 ∷ (text ++ 109 ∷ 115 ∷ []) → inner ≡ text)
    → ((t : ℕ) → t < 2 ^ 32 → inner ≡ decimal t → found ≡ Some t) → (x : Value) → kind_of x ≡ kind.Time → IsInRange x → word ≡ value_text x → None ≡ Some x
no_value_time word inner found at stands writes (BoolValue b) kind range is = absurd cc
no_value_time word inner found at stands writes (IntValue n) kind range is = absurd cc
no_value_time word inner found at stands writes (TimeValue t) kind range is = absurd (none-some t (sym at ∙ writes t range (stands (decimal t) is)))
