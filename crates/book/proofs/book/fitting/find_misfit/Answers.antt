-- The first clause that fails is the misfit.
use Rattle.std.proofs.Common.{reverse}
use Rattle.book.proofs.Misfits.{first_failed-is}
use Rattle.book.proofs.book.fitting.find_misfit.Goals as goal

pub returns : goal.returns
returns c = rw (c.first_failed.ensures.value, c.name.ensures, c.heard.ensures.value, c.takes.ensures.value) (first_failed-is c.args.book.now.first (reverse c.args.book.now.entries) c.first_failed.ensures.fit c.args.evaluation.now)
