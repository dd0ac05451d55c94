use Rattle.network.proofs.Listed.FoundSymbols.{symbol_position}
use Rattle.network.proofs.listing.symbols.symbol_number.Goals as goal

pub returns : goal.returns
returns g c = symbol_position c.args.symbols.now c.args.at c.symbol_position.result c.symbol_position.ensures
