use Rattle.text_lines.proofs.Parts.{behind_both}
use Rattle.text_lines.proofs.behind_parts.behind_two.Goals as goal

pub returns-in-Some : goal.returns-in-Some
returns-in-Some c = behind_both c.args.text.now c.args.first.now c.args.second.now c.in-Some.rest.now _ c.in-Some.ensures c.behind-in-Some.ensures
