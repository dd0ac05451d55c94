use Rattle.std.proofs.Common.{false, ap, ◌∙◌, sym}
use Rattle.std.specs.Option.{option_map_or}
use Rattle.warnings.specs.Unbound.{is_among_binds}
use Rattle.warnings.proofs.unbound.is_bound.Goals as goal

pub returns-in-Some : goal.returns-in-Some
returns-in-Some c =
    let name = c.args.name.now in
    c.is_among.ensures ∙ ap (λ binds. is_among_binds binds name) c.deref.ensures.value
    ∙ ap (λ binds. option_map_or (λ bs. is_among_binds bs.items name) binds false) (sym c.in-Some.is)
