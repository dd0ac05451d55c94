use Rattle.std.proofs.Common.{◌∙◌, Some, inl, inr, refl, ap}
use Rattle.network.specs.declared.element.Element.TheVariants.{Wire, Join, Upright, Contact, Coil, Box}
use Rattle.network.specs.declared.listing.listed.Seen.{Seen}
use Rattle.network.specs.Links.{place}
use Rattle.network.specs.Steps.Listed.{element_seen}
use Rattle.network.proofs.Basics.{on_ok}
use Rattle.network.proofs.Joined.LinkedPairs.{of_element, wire_pairs, symbol_pairs, upright_pairs, join_pairs, box_pairs}
use Rattle.network.proofs.joining.pairs.push_pairs.Goals as goal

pub push_left-requires : goal.push_left-requires
push_left-requires c =
    let at = c.at.ensures in
    c.requires.rows (Wire c.in-Wire.at) c.in-Wire.at (at ∙ ap (λ (s : Seen). Some (element_seen s)) c.in-Wire.is) (inl refl)

pub push_left-requires-in-Join : goal.push_left-requires-in-Join
push_left-requires-in-Join c =
    let at = c.at.ensures in
    c.requires.rows (Join c.in-Join.at) c.in-Join.at (at ∙ ap (λ (s : Seen). Some (element_seen s)) c.in-Join.is) (inl refl)

pub push_left-requires-in-Contact : goal.push_left-requires-in-Contact
push_left-requires-in-Contact c =
    let at = c.at.ensures in
    let x = c.in-Contact.contact.now in
    c.requires.rows (Contact x) (place x.row x.column) (at ∙ ap (λ (s : Seen). Some (element_seen s)) c.in-Contact.is) (inl refl)

pub push_left-requires-in-Coil : goal.push_left-requires-in-Coil
push_left-requires-in-Coil c =
    let at = c.at.ensures in
    let x = c.in-Coil.coil.now in
    c.requires.rows (Coil x) (place x.row x.column) (at ∙ ap (λ (s : Seen). Some (element_seen s)) c.in-Coil.is) (inl refl)

pub push_left_pins-requires : goal.push_left_pins-requires
push_left_pins-requires c =
    let at = c.at.ensures in
    λ p is. c.requires.rows (Box c.in-Box.drawn.now) p (at ∙ ap (λ (s : Seen). Some (element_seen s)) c.in-Box.is) (inr (inr (inl is)))

pub returns-in-Wire : goal.returns-in-Wire
returns-in-Wire c =
    let es = c.args.elements.now in
    let last = c.args.last.now in
    let old = c.args.pairs.now.items in
    let new = c.push_left.new.pairs.items in
    let at = c.at.ensures in
    on_ok c.push_left.result _ _ (λ adds. of_element es last c.args.k old new (Wire c.in-Wire.at) (at ∙ ap (λ (s : Seen). Some (element_seen s)) c.in-Wire.is) (wire_pairs es last c.args.k old new c.in-Wire.at adds)) c.push_left.ensures

pub returns-in_ok-push_left-in-Join : goal.returns-in_ok-push_left-in-Join
returns-in_ok-push_left-in-Join c =
    let es = c.args.elements.now in
    let last = c.args.last.now in
    let old = c.args.pairs.now.items in
    let mid = c.push_left-in-Join.new.pairs.items in
    let new = c.push_upper.new.pairs.items in
    let at = c.at.ensures in
    on_ok c.push_upper.result _ _ (λ adds. of_element es last c.args.k old new (Join c.in-Join.at) (at ∙ ap (λ (s : Seen). Some (element_seen s)) c.in-Join.is)
    (join_pairs es last c.args.k old new c.in-Join.at mid c.in_ok-push_left-in-Join.ensures adds)) c.push_upper.ensures

pub returns-in-Upright : goal.returns-in-Upright
returns-in-Upright c =
    let es = c.args.elements.now in
    let last = c.args.last.now in
    let old = c.args.pairs.now.items in
    let new = c.push_upper-in-Upright.new.pairs.items in
    let at = c.at.ensures in
    on_ok c.push_upper-in-Upright.result _ _ (λ adds. of_element es last c.args.k old new (Upright c.in-Upright.at) (at ∙ ap (λ (s : Seen). Some (element_seen s)) c.in-Upright.is)
    (upright_pairs es last c.args.k old new c.in-Upright.at adds)) c.push_upper-in-Upright.ensures

pub returns-in-Contact : goal.returns-in-Contact
returns-in-Contact c =
    let es = c.args.elements.now in
    let last = c.args.last.now in
    let old = c.args.pairs.now.items in
    let new = c.push_left-in-Contact.new.pairs.items in
    let x = c.in-Contact.contact.now in
    let at = c.at.ensures in
    on_ok c.push_left-in-Contact.result _ _ (λ adds. of_element es last c.args.k old new (Contact x) (at ∙ ap (λ (s : Seen). Some (element_seen s)) c.in-Contact.is)
    (symbol_pairs es last c.args.k old new (Contact x) (place x.row x.column) (λ p e. e) (λ p e. e) (λ p n. n) adds)) c.push_left-in-Contact.ensures

pub returns-in-Coil : goal.returns-in-Coil
returns-in-Coil c =
    let es = c.args.elements.now in
    let last = c.args.last.now in
    let old = c.args.pairs.now.items in
    let new = c.push_left-in-Coil.new.pairs.items in
    let x = c.in-Coil.coil.now in
    let at = c.at.ensures in
    on_ok c.push_left-in-Coil.result _ _ (λ adds. of_element es last c.args.k old new (Coil x) (at ∙ ap (λ (s : Seen). Some (element_seen s)) c.in-Coil.is)
    (symbol_pairs es last c.args.k old new (Coil x) (place x.row x.column) (λ p e. e) (λ p e. e) (λ p n. n) adds)) c.push_left-in-Coil.ensures

pub returns-in-Box : goal.returns-in-Box
returns-in-Box c =
    let es = c.args.elements.now in
    let last = c.args.last.now in
    let old = c.args.pairs.now.items in
    let new = c.push_left_pins.new.pairs.items in
    let b = c.in-Box.drawn.now in
    let at = c.at.ensures in
    on_ok c.push_left_pins.result _ _ (λ adds. of_element es last c.args.k old new (Box b) (at ∙ ap (λ (s : Seen). Some (element_seen s)) c.in-Box.is)
    (box_pairs es last c.args.k old new b adds)) c.push_left_pins.ensures
