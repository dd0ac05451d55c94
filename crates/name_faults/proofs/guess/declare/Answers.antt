use Rattle.std.proofs.Common.{◌∙◌, ap, sym}
use Rattle.declared_names.specs.Names.{place_of}
use Rattle.name_faults.proofs.GuessedNames.{declared_new, declared_before}
use Rattle.name_faults.proofs.guess.declare.Goals as goal

pub returns : goal.returns
returns c =
    let ds = c.args.declarations.now in
    declared_new ds c.push.new.self c.args.first.now c.as_str.result.now c.position_of.result (c.declared_names_have_places.ensures ds c.args.first.now.name) c.as_str.ensures
    (c.position_of.ensures ∙ ap (place_of ds) c.as_bytes.ensures) (sym c.is_some.ensures ∙ c.if-is_some.false) c.in_ok-push.ensures.ok

pub returns-then-is_some : goal.returns-then-is_some
returns-then-is_some c =
    let ds = c.args.declarations.now in
    declared_before ds c.args.first.now c.position_of.result (c.declared_names_have_places.ensures ds c.args.first.now.name) (c.position_of.ensures ∙ ap (place_of ds) c.as_bytes.ensures) (sym c.if-is_some.ensures)
