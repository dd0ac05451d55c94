use Rattle.audit.proofs.OneReason.{one_reason}
use Rattle.audit.proofs.laws.one_reason.Goals as goal

pub returns : goal.returns
returns c = one_reason
