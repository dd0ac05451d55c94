use Rattle.std.proofs.Common.{◌≡◌, ap, ◌∙◌, not}
use Rattle.std.specs.BTreeSet.{contains_text}
use Rattle.warnings.specs.Found.{small}
use Rattle.warnings.proofs.never_read.is_unread.Goals as goal

pub returns : goal.returns
returns c = λ xs are.
    let key : c.as_str.result.now ≡ small c.args.name.now = c.as_str.ensures.value ∙ c.in_ok-name.ensures in
    ap not (c.contains-known.ensures ∙ ap (contains_text c.args.read.now) key ∙ are (small c.args.name.now))
