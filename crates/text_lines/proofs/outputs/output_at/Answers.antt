-- The value stands behind the output's name.
use Rattle.std.proofs.Common.{◌++◌, ◌∙◌, codes, ap, append_assoc}
use Rattle.text_lines.specs.LineParts.{value_text}
use Rattle.text_lines.specs.Steps.Reading.{output_name, IsOfKind}
use Rattle.text_lines.proofs.Parts.{read_behind}
use Rattle.text_lines.proofs.outputs.output_at.Goals as goal

pub returns-in-Some-clause-read : goal.returns-in-Some-clause-read
returns-in-Some-clause-read c o at =
    λ x more so ends e.
    read_behind (λ v. codes "=" ++ value_text v) (IsOfKind c.args.kind) 32 c.args.text.now (output_name c.args.code.now o) c.in-Some.rest.now _ (c.in-Some.ensures o at) c.value_behind.ensures.read x more so ends
    (e ∙ ap (λ l. l ++ more) (append_assoc (output_name c.args.code.now o) (codes "=") (value_text x)))
