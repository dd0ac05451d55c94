-- The first among those of greatest pair, once more evaluations were received.
use Rattle.std.proofs.Common.{◌≡◌, true, false, List, [], ◌∷◌, Option, Some, None, refl, ap, sym, subst, arith}
use Rattle.std.specs.Prelude.{All}
use Rattle.std.proofs.lemmas.Bool.Decides.{nat_tests}
use Rattle.std.proofs.lemmas.Bool.{false≢true}
use Rattle.std.proofs.lemmas.List.Elements.{All-nil, All-cons, All-append, All-weaker}
use Rattle.evaluation.specs.declared.name.Name.{Name}
use Rattle.evaluation.specs.Names.{precedes}
use Rattle.evaluation.specs.Meaning.{Evaluated}
use Rattle.exchange_core.specs.CoreValue.{is_greater}
use Rattle.node_reports.specs.Journals.{IsFirstGreatest, IsGreatest}

-- what is below one below is below
precedes-below : (a b c : Name) → precedes a b ≡ true → precedes b c ≡ true → precedes a c ≡ true
precedes-below a b c h i = grind (arith, nat_tests)

-- what isn't above one below is below
precedes-not_above : (a b c : Name) → precedes b a ≡ false → precedes b c ≡ true → precedes a c ≡ true
precedes-not_above a b c h i = grind (arith, nat_tests)

-- one that isn't P changes nothing
pub greatest-other : (P : Evaluated → Type 0) (xs : List Evaluated) (o : Option Evaluated) (x : Evaluated) → (P x → ⊥) → IsGreatest P xs o → IsGreatest P (x ∷ xs) o
greatest-other P xs None x never h = All-cons (λ y. P y → ⊥) x xs never h
greatest-other P xs (Some y) x never h = record {
  later = x ∷ h.later;
  earlier = h.earlier;
  place = ap (λ zs. x ∷ zs) h.place;
  passes = h.passes;
  above_earlier = h.above_earlier;
  not_below_later = All-cons (λ z. P z → precedes y.name z.name ≡ false) x h.later (λ p. absurd (never p)) h.not_below_later;
}

-- nor does one of a pair that isn't greater
pub greatest-old : (P : Evaluated → Type 0) (xs : List Evaluated) (o : Option Evaluated) (x : Evaluated) → is_greater o x.name ≡ false → IsGreatest P xs o → IsGreatest P (x ∷ xs) o
greatest-old P xs None x not_greater h = absurd (false≢true (sym not_greater))
greatest-old P xs (Some y) x not_greater h = record {
  later = x ∷ h.later;
  earlier = h.earlier;
  place = ap (λ zs. x ∷ zs) h.place;
  passes = h.passes;
  above_earlier = h.above_earlier;
  not_below_later = All-cons (λ z. P z → precedes y.name z.name ≡ false) x h.later (λ p. not_greater) h.not_below_later;
}

-- all are below one that is above the greatest
all_below : (P : Evaluated → Type 0) (xs : List Evaluated) (y x : Evaluated) → precedes y.name x.name ≡ true → IsFirstGreatest P xs y → All (λ z. P z → precedes z.name x.name ≡ true) xs
all_below P xs y x above h =
    let Q : Evaluated → Type 0 = λ z. P z → precedes z.name x.name ≡ true in
    let before = All-weaker (λ (z : Evaluated). P z → precedes z.name y.name ≡ true) Q (λ z b p. precedes-below z.name y.name x.name (b p) above) h.earlier h.above_earlier in
    let after = All-weaker (λ (z : Evaluated). P z → precedes y.name z.name ≡ false) Q (λ z b p. precedes-not_above z.name y.name x.name (b p) above) h.later h.not_below_later in
    subst (All Q) (sym h.place) (All-append Q h.later (y ∷ h.earlier) after (All-cons Q y h.earlier (λ p. above) before))

-- one of a greater pair is the greatest from then on
pub greatest-taken : (P : Evaluated → Type 0) (xs : List Evaluated) (o : Option Evaluated) (x : Evaluated) → P x → is_greater o x.name ≡ true → IsGreatest P xs o → IsGreatest P (x ∷ xs) (Some x)
greatest-taken P xs None x passes greater h = record {
  later = [];
  earlier = xs;
  place = refl;
  passes = passes;
  above_earlier = All-weaker (λ (y : Evaluated). P y → ⊥) (λ (y : Evaluated). P y → precedes y.name x.name ≡ true) (λ y never p. absurd (never p)) xs h;
  not_below_later = All-nil (λ (y : Evaluated). P y → precedes x.name y.name ≡ false);
}
greatest-taken P xs (Some y) x passes greater h = record {
  later = [];
  earlier = xs;
  place = refl;
  passes = passes;
  above_earlier = all_below P xs y x greater h;
  not_below_later = All-nil (λ (z : Evaluated). P z → precedes x.name z.name ≡ false);
}
