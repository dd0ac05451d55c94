use Rattle.std.proofs.Common.{rules}
use Rattle.console.proofs.Matching.{plus_is_none}
use Rattle.console.proofs.command_words.number.Goals as goal

pub returns-then-starts_with : goal.returns-then-starts_with
returns-then-starts_with c = plus_is_none c.args.text.now (search rules)
