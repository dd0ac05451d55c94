use Rattle.std.proofs.Common.{◌≡◌, ◌∙◌, Some, length, slice_get, refl, sym}
use Rattle.std.proofs.lemmas.Bool.{false≢true}
use Rattle.std.proofs.lemmas.Option.{slice_get_read}
use Rattle.network.proofs.Sought.FirstFound.{tall_skip, tall_more}
use Rattle.network.proofs.seeking.found.tall_places.Goals.{then-is_tall+in_ok-push_firsts, else-is_tall}
use Rattle.network.proofs.seeking.found.tall_places.Goals as goal

pub loop-k-preserved : goal.loop-k-preserved
loop-k-preserved c =
    let networks = c.args.networks.now in
    let k = c.loop-k.k in
    let es = c.index-networks-k.result in
    let at : slice_get networks k ≡ Some es = slice_get_read networks (length networks) k es refl c.loop-k-test.true c.index-networks-k.is in
    let is_tall = rw c.elements-elements.ensures at c.is_tall.ensures in
    elim c.if-is_tall.branch [
      | then-is_tall+in_ok-push_firsts w ↦ rw w.places-is
          (let e = rw c.elements-elements.ensures at w.in_ok-push_firsts.ensures.each in
          let a = rw c.elements-elements.ensures at w.in_ok-push_firsts.ensures.added in
          tall_more networks k es at c.loop-k.places.items w.push_firsts.new.places.items (is_tall.0 w.if-is_tall.true) e w.in_ok-push_firsts.ensures.kept a c.loop-k.invariant)
      | else-is_tall w ↦ rw w.places-is (tall_skip networks k es at c.loop-k.places.items (λ tall. false≢true (sym w.if-is_tall.false ∙ is_tall.1 tall)) c.loop-k.invariant)
    ]
