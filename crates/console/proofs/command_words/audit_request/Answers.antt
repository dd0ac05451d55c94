-- What the words ask for is refused only for want of memory.
use Rattle.std.proofs.Common.{codes, Some}
use Rattle.clap.specs.Words.{found_of, rows_of}
use Rattle.console.specs.CommandLine.{AsksFor}
use Rattle.console.proofs.Matching.{memory_refused}
use Rattle.console.proofs.command_words.audit_request.Goals as goal

pub returns-in_err-journals_given-clause-refused : goal.returns-in_err-journals_given-clause-refused
returns-in_err-journals_given-clause-refused c = memory_refused (AsksFor (Some (codes "audit", rows_of (found_of c.args.inner.now)))) _ c.from_residual.ensures.1
