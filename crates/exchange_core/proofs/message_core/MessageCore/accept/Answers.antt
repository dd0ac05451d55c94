use Rattle.exchange_core.specs.declared.last.Last.TheVariants.{Told}
use Rattle.exchange_core.proofs.Keeping.{holds-message}
use Rattle.exchange_core.proofs.message_core.MessageCore.accept.Goals as goal

pub returns-clause-held : goal.returns-clause-held
returns-clause-held c = λ taken. holds-message c.accept_last.new.self (Told c.args.message) (c.accept_last.ensures.held taken)
