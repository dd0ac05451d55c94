use Rattle.exchange_core.specs.declared.last.Last.TheVariants.{Whole}
use Rattle.exchange_core.proofs.Keeping.{holds-whole}
use Rattle.exchange_core.proofs.message_core.MessageCore.accept_frame.Goals as goal

pub returns-clause-held : goal.returns-clause-held
returns-clause-held c = λ taken. holds-whole c.accept_last.new.self (Whole c.args.frame) (c.accept_last.ensures.held taken)
