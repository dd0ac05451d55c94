use Rattle.std.proofs.Common.{rules, ◌∙◌, ◌≡◌, true, sym, ap}
use Rattle.warnings.specs.Found.{small, is_undotted}
use Rattle.warnings.proofs.SameNames.{mistyped_is}
use Rattle.warnings.proofs.mistyped.is_mistyped.Goals as goal

pub returns-clause-told : goal.returns-clause-told
returns-clause-told c = λ xs ys hx hy plain.
    let same : c.is_undotted.result ≡ is_undotted c.args.contact.now.name = c.is_undotted.ensures ∙ ap is_undotted c.as_bytes.ensures in
    let key : c.in_ok-name.name ≡ small c.args.contact.now.name = c.in_ok-name.ensures ∙ ap small c.as_str.ensures in
    let undotted : c.is_undotted.result ≡ true = search rules in
    c.in_ok-strange.ensures.told plain ∙ mistyped_is c.args.contact.now.name c.in_ok-name.name c.args.stored.now c.args.names.now xs ys hx hy key (sym same ∙ undotted)
