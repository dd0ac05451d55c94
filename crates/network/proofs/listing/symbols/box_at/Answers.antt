use Rattle.network.proofs.Listed.FoundSymbols.{box_there, no_box, a_box}
use Rattle.network.proofs.listing.symbols.box_at.Goals as goal

pub returns-in_default : goal.returns-in_default
returns-in_default c = no_box c.args.drawing.now c.requires.sound c.args.at c.requires.mark c.args.index.now c.requires.index c.in_default.ensures.at

pub returns : goal.returns
returns c =
    let g = c.args.drawing.now in
    let there = box_there g c.requires.sound c.args.at c.args.index.now c.requires.index c.in-Some.ensures.at.0 c.in-Some.k c.in-Some.ensures.at.1 in
    rw (c.in_ok-number_of.ensures, there.1) (a_box g c.requires.sound c.args.at c.in-Some.k there.0 there.1 there.2)
