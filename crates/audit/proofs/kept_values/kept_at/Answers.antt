-- The value stands behind the variable's name.
use Rattle.std.proofs.Common.{◌++◌, codes}
use Rattle.text_lines.specs.LineParts.{value_text}
use Rattle.keepers.specs.KeptRetained.{before_value}
use Rattle.text_lines.specs.Steps.Reading.{IsOfKind}
use Rattle.text_lines.proofs.Parts.{read_behind}
use Rattle.audit.proofs.kept_values.kept_at.Goals as goal

pub returns-in-Some : goal.returns-in-Some
returns-in-Some c =
    read_behind value_text (IsOfKind c.args.variable.kind) 32 c.args.text.now (codes " " ++ before_value c.args.code.now c.args.variable) c.in-Some.rest.now _ (rw c.in-Some.is at c.in_ok-rest.ensures) c.value_at.ensures
