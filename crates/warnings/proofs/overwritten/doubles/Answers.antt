use Rattle.std.proofs.Common.{◌≡◌, ℕ, ◌-◌, ◌<◌, suc, List, ◌∷◌, Bor, map, drop, drop-cons, get_or, length, ap, ◌∙◌, sym, subst, arith}
use Rattle.std.specs.Prelude.{reverse}
use Rattle.network.specs.declared.element.Element.{Element}
use Rattle.warnings.specs.Found.{doubles}
use Rattle.warnings.specs.Steps.Stored.{HasStored}
use Rattle.warnings.proofs.LaterCoils.{stored_more, told_more}
use Rattle.warnings.proofs.overwritten.doubles.Goals as goal

pub loop-k-preserved : goal.loop-k-preserved
loop-k-preserved c =
    let es = c.args.elements.now in
    let known = c.loop-k.invariant in
    let n = c.loop-k.k in
    let k = n - 1 in
    let e = c.index-elements-k.result in
    let value = λ (x : Bor Element). x.now in
    let later = map value (drop n es) in
    let lt : k < length es = omega arith in
    let next : suc k ≡ n = omega arith in
    let cons : drop k es ≡ e ∷ drop n es
    = drop-cons es k e lt ∙ ap (λ (i : ℕ). get_or es k e ∷ drop i es) next ∙ ap (λ (x : Bor Element). x ∷ drop n es) (sym c.index-elements-k.is) in
    let whole : map value (drop k es) ≡ e.now ∷ later = ap (map value) cons in
    let Stored : List Element → Type 0 = λ elements. HasStored elements c.push_double.new.stored in (
      omega arith,
      subst Stored (sym whole) (stored_more e.now later c.loop-k.stored c.push_double.new.stored known.1 c.in_ok-push_double.ensures.takes),
      told_more c.args.first_line e.now later c.loop-k.stored c.loop-k.found.items c.push_double.new.warnings.items known.1 known.2 c.in_ok-push_double.ensures.told
          ∙ ap (λ (elements : List Element). reverse (doubles c.args.first_line elements)) (sym whole),
    )
