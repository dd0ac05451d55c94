use Rattle.std.proofs.Common.{◌≡◌, length-set, inl, inr, refl, ap}
use denote.Bor.{Bor}
use Rattle.drawings.specs.declared.drawn_box.DrawnBox.{DrawnBox}
use Rattle.network.specs.declared.element.Element.TheVariants.{Box}
use Rattle.network.specs.declared.listing.listed.Seen.{Seen}
use Rattle.network.specs.declared.listing.listed.Seen.TheVariants.{Wire as WireSeen, Join as JoinSeen, Upright as UprightSeen, Contact as ContactSeen, Coil as CoilSeen, Box as BoxSeen}
use Rattle.network.specs.Apart.{first_place}
use Rattle.network.specs.Steps.Listed.{element_seen}
use Rattle.drawings.specs.declared.place.Place.{Place}
use Rattle.network.proofs.Joined.LinkedPairs.{taker_put}
use Rattle.network.proofs.joining.takers.put_taker.Goals as goal

-- what isn't seen as a box is none
no_box : (s : Seen) → ((b : Bor DrawnBox) → s ≡ BoxSeen b → ⊥) → (b : DrawnBox) → element_seen s ≡ Box b → ⊥
no_box (WireSeen at) h b e = cc
no_box (JoinSeen at) h b e = cc
no_box (UprightSeen at) h b e = cc
no_box (ContactSeen k) h b e = cc
no_box (CoilSeen k) h b e = cc
no_box (BoxSeen k) h b e = h k refl

pub put_pins-requires : goal.put_pins-requires
put_pins-requires c = λ p is. (rw c.in-Box.is at c.requires) p (inr (inr (inl is)))

pub returns-then-takes : goal.returns-then-takes
returns-then-takes c =
    let row = ap (λ (x : Place). x.row) c.first_place-row.ensures in
    record {
      long = rw c.put.ensures (length-set c.args.takers.now c.first_place-row.result.row _);
      puts = taker_put (element_seen c.args.element) c.args.k c.args.column c.first_place-row.result.row c.args.takers.now c.put.new.self (no_box c.args.element c.in_default.not-Box) row
          (rw row (c.requires (first_place (element_seen c.args.element)) (inl refl))) (c.takes.ensures.0 c.if-takes.true) c.put.ensures;
    }
