use Rattle.network.proofs.Listed.FoundSymbols.{found_behind}
use Rattle.network.proofs.listing.symbols.found_number.Goals as goal

pub returns-clause-rows : goal.returns-clause-rows
returns-clause-rows g c = found_behind c.args.rows.now c.found.new.self c.args.at c.in_ok-k.k c.found.ensures
