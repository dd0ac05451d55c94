-- Orders in which nothing is below each item.
use Rattle.std.proofs.Common.{◌≡◌, Bool, true, false, Option, Some, None, sym, ◌∙◌}
use Rattle.std.proofs.lemmas.Bool.{false≢true}

-- where a isn't below b, nor b below c, a isn't below c
pub not_below-onward : {X : Type 0} (below : Option X → Option X → Bool) → ((o : Option X) → below o None ≡ false) → ((x : X) → below None (Some x) ≡ true)
    → ((x y z : X) → below (Some x) (Some y) ≡ false → below (Some y) (Some z) ≡ false → below (Some x) (Some z) ≡ false)
    → (a b c : Option X) → below a b ≡ false → below b c ≡ false → below a c ≡ false
not_below-onward below least above onward a b None h k = least a
not_below-onward below least above onward a None (Some z) h k = absurd (false≢true (sym k ∙ above z))
not_below-onward below least above onward None (Some y) (Some z) h k = absurd (false≢true (sym h ∙ above y))
not_below-onward below least above onward (Some x) (Some y) (Some z) h k = onward x y z h k
