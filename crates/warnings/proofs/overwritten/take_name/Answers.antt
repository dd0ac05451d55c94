use Rattle.std.proofs.Common.{ap, ◌∙◌, true}
use Rattle.std.specs.BTreeSet.{contains_text}
use Rattle.std.specs.Prelude.{◌||◌, string_bytes}
use Rattle.std.specs.Str.{bytes_eq}
use Rattle.std.proofs.lemmas.Map.Text.{btree_set_updates_text}
use Rattle.warnings.specs.Found.{small}
use Rattle.warnings.proofs.SameNames.{cond_is_or}
use Rattle.warnings.proofs.overwritten.take_name.Goals as goal

pub returns-clause-takes : goal.returns-clause-takes
returns-clause-takes c = λ q.
    let name = c.in_ok-name.name in
    let old = c.args.stored.now in
    btree_set_updates_text (string_bytes name) old c.insert.new.self true c.in_ok-is_new.ensures.updates q
    ∙ cond_is_or (bytes_eq (string_bytes name) q) (contains_text old q)
    ∙ ap (λ k. bytes_eq k q || contains_text old q) (c.in_ok-name.ensures ∙ ap small c.as_str.ensures)
