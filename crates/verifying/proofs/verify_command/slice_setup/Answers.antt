use Rattle.std.proofs.Common.{List, sym, subst, ◌∙◌}
use Rattle.verifying.specs.declared.setup.Setting.{Setting}
use Rattle.verifying.specs.Runs.{HasInputs}
use Rattle.verifying.proofs.verify_command.slice_setup.Goals as goal

pub new-requires : goal.new-requires
new-requires c =
    subst (λ (held : List Setting). HasInputs c.in-Some.slice.ladder.declarations c.args.free.items held) (sym (c.in_ok-held.ensures.items ∙ c.deref.ensures.value)) (c.requires c.in-Some.slice c.in-Some.is)
