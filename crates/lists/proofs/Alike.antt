-- What is told of two lists by what is told of their items.
use Rattle.std.proofs.Common.{◌≡◌, ◌↔◌, inl, inr, Bool, true, false, IsTrue, List, length, slice_get, refl, sym, ap, ◌∙◌}
use Rattle.std.proofs.lemmas.Bool.{false≢true}
use Rattle.std.proofs.lemmas.Option.{same_Some}
use Rattle.lists.specs.Alike.{AreAlike, AreApart, Tells}
use Rattle.lists.proofs.Places.{same_by_each}

-- whether they are alike, where each answer tells whether two items are
pub alike_as_told : {X : Type 0} {answers : X → X → Bool → Type 0} (alike : X → X → Type 0) (xs ys : List X) (told : Bool) → Tells answers told xs ys
    → ((x y : X) (told : Bool) → answers x y told → IsTrue told ↔ alike x y) → IsTrue told ↔ AreAlike alike xs ys
alike_as_told {X} {answers} alike xs ys told tells each =
    (λ on. let all = tells.same on in record { many = all.many; each = λ x y at. (each x y true (all.each x y at)).0 refl }, λ all. by told tells all) where
      differ : AreApart (λ x y. answers x y false) xs ys → AreAlike alike xs ys → ⊥
      differ (inl longer) same = longer same.many
      differ (inr found) same = false≢true ((each found.0 found.1 false found.3).1 (same.each found.0 found.1 found.2))

      by : (told : Bool) → Tells answers told xs ys → AreAlike alike xs ys → IsTrue told
      by true tells same = refl
      by false tells same = absurd (differ (tells.other refl) same)

-- whether they are equal, where each answer tells whether two items are
pub equal_as_told : {X : Type 0} {answers : X → X → Bool → Type 0} (xs ys : List X) (told : Bool) → Tells answers told xs ys
    → ((x y : X) (told : Bool) → answers x y told → IsTrue told ↔ (x ≡ y)) → IsTrue told ↔ (xs ≡ ys)
equal_as_told xs ys told tells each =
    let alike = alike_as_told ◌≡◌ xs ys told tells each in (
      λ on. let all = alike.0 on in same_by_each xs ys all.many (λ i x y at found. all.each x y (i, at, found)),
      λ e. alike.1 (record {
        many = ap length e;
        each = λ x y at. same_Some x y (sym at.1 ∙ ap (λ l. slice_get l at.0) e ∙ at.2);
      }),
    )
