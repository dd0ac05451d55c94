use Rattle.text_lines.proofs.OneMessage.{one_message}
use Rattle.text_lines.proofs.laws.one_message.Goals as goal

pub returns : goal.returns
returns c = one_message c.names_are_apart.ensures
