-- Values of one kind and one text are one.
use Rattle.std.proofs.Common.{arith, ◌≡◌, ◌++◌, true, false, get_or, ap, refl}
use Rattle.std.specs.Prelude.{codes}
use Rattle.std.specs.Fmt.{decimal}
use Rattle.std.proofs.lemmas.Fmt.{decimal_injective, signed_decimal_injective}
use Rattle.std.proofs.lemmas.List.{append_cancel_left, append_cancel_right}
use Rattle.std_blocks.specs.declared.value.Value.{Value}
use Rattle.std_blocks.specs.declared.value.Value.TheVariants.{Bool as BoolValue, Int as IntValue, Time as TimeValue}
use Rattle.declared_names.specs.Kinds.{kind_of}
use Rattle.text_lines.specs.LineParts.{value_text}
use Rattle.text_lines.specs.ReadParts.{IsInRange}

pub same_value : (a b : Value) → kind_of a ≡ kind_of b → IsInRange a → IsInRange b → value_text a ≡ value_text b → a ≡ b
same_value (BoolValue true) (BoolValue true) k r s e = refl
same_value (BoolValue true) (BoolValue false) k r s e = let h : 49 ≡ 48 = ap (λ l. get_or l 0 0) e in absurd (omega (arith, h))
same_value (BoolValue false) (BoolValue true) k r s e = let h : 48 ≡ 49 = ap (λ l. get_or l 0 0) e in absurd (omega (arith, h))
same_value (BoolValue false) (BoolValue false) k r s e = refl
same_value (IntValue n) (IntValue m) k r s e = let f = r.sfits in let g = s.sfits in ap (λ z. IntValue z) (signed_decimal_injective n m (omega (arith, f)) (omega (arith, g)) e)
same_value (TimeValue t) (TimeValue u) k r s e =
    let inner : decimal t ++ codes "ms" ≡ decimal u ++ codes "ms" = append_cancel_left (codes "T#") (decimal t ++ codes "ms") (decimal u ++ codes "ms") e in
    ap (λ n. TimeValue n) (decimal_injective t u (omega (arith, r)) (omega (arith, s)) (append_cancel_right (decimal t) (decimal u) (codes "ms") inner))
same_value (BoolValue x) (IntValue m) k r s e = absurd cc
same_value (BoolValue x) (TimeValue u) k r s e = absurd cc
same_value (IntValue n) (BoolValue y) k r s e = absurd cc
same_value (IntValue n) (TimeValue u) k r s e = absurd cc
same_value (TimeValue t) (BoolValue y) k r s e = absurd cc
same_value (TimeValue t) (IntValue m) k r s e = absurd cc
