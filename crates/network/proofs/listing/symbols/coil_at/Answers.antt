use Rattle.std.proofs.Common.{Some, inl, inr}
use Rattle.network.proofs.Listed.FoundSymbols.{symbol_there, no_coil, a_coil, inside_coil, inside_none}
use Rattle.network.proofs.listing.symbols.coil_at.Goals as coil_goals

pub returns-in_err-number_of-in-Some-clause-rows : coil_goals.returns-in_err-number_of-in-Some-clause-rows
returns-in_err-number_of-in-Some-clause-rows c =
    let g = c.args.drawing.now in
    let there = symbol_there g.coils c.args.at c.in-Some.k (rw (← c.coils.ensures) c.in-Some.ensures.number) in
    inside_coil g c.requires.sound c.args.at c.in-Some.k there.0 there.1 there.2 c.args.rows.now c.found_number.new.rows (Some c.in-Some.k) c.requires.rows c.in-Some.ensures.rows

pub returns-in_ok-number_of-in-Some-clause-found : coil_goals.returns-in_ok-number_of-in-Some-clause-found
returns-in_ok-number_of-in-Some-clause-found c =
    let g = c.args.drawing.now in
    let there = symbol_there g.coils c.args.at c.in-Some.k (rw (← c.coils.ensures) c.in-Some.ensures.number) in
    rw (c.in_ok-number_of-in-Some.ensures, there.1) (a_coil g c.requires.sound c.args.at c.in-Some.k there.0 there.1 there.2)

pub returns-in_ok-number_of-in-Some-clause-rows : coil_goals.returns-in_ok-number_of-in-Some-clause-rows
returns-in_ok-number_of-in-Some-clause-rows c =
    let g = c.args.drawing.now in
    let there = symbol_there g.coils c.args.at c.in-Some.k (rw (← c.coils.ensures) c.in-Some.ensures.number) in
    inside_coil g c.requires.sound c.args.at c.in-Some.k there.0 there.1 there.2 c.args.rows.now c.found_number.new.rows (Some c.in-Some.k) c.requires.rows c.in-Some.ensures.rows

pub returns-in-None-clause-found : coil_goals.returns-in-None-clause-found
returns-in-None-clause-found c =
    let g = c.args.drawing.now in
    elim c.in-None.ensures.number [
      | inl inside ↦ c.requires.rows c.args.at inside
      | inr never ↦ no_coil g c.requires.sound c.args.at c.requires.mark (rw (← c.coils.ensures) never)
    ]

pub returns-in-None-clause-rows : coil_goals.returns-in-None-clause-rows
returns-in-None-clause-rows c = inside_none c.args.drawing.now c.requires.sound c.args.at c.args.rows.now c.found_number.new.rows c.requires.rows c.in-None.ensures.rows
