use Rattle.std.proofs.Common.{◌≡◌, ◌∙◌, Some, length, slice_get, refl, sym}
use Rattle.std.proofs.lemmas.Bool.{false≢true}
use Rattle.std.proofs.lemmas.Option.{slice_get_read}
use Rattle.network.proofs.Sought.FirstFound.{twice_skip, twice_more}
use Rattle.network.proofs.Sought.FirstCorners.{twice_from, twice_known}
use Rattle.network.proofs.seeking.found.twice_places.Goals.{then-twice+in_ok-push, else-twice}
use Rattle.network.proofs.seeking.found.twice_places.Goals as goal

pub loop-k-preserved : goal.loop-k-preserved
loop-k-preserved c =
    let boxes = c.args.boxes.now in
    let k = c.loop-k.k in
    let b = c.index-boxes-k.result in
    let at : slice_get boxes k ≡ Some b = slice_get_read boxes (length boxes) k b refl c.loop-k-test.true c.index-boxes-k.is in
    let corners = c.in_ok-corners.corners in
    let are = c.in_ok-corners.ensures in
    elim c.if-twice.branch [
      | then-twice+in_ok-push w ↦ rw (w.places-is, w.in_ok-push.ensures.items, w.corner_of.ensures)
          (twice_more boxes k b at c.loop-k.places.items (twice_from boxes corners are b _ refl (c.in_ok-twice.ensures.0 w.if-twice.true)) c.loop-k.invariant)
      | else-twice w ↦ rw w.places-is
          (twice_skip boxes k b at c.loop-k.places.items (λ any. false≢true (sym w.if-twice.false ∙ c.in_ok-twice.ensures.1 (twice_known boxes corners are b any))) c.loop-k.invariant)
    ]
