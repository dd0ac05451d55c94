use Rattle.std.proofs.Common.{◌++◌, ap, ◌∙◌, codes, string_bytes}
use Rattle.std.proofs.lemmas.List.{append_assoc}
use Rattle.verifying_plants.specs.Names.{output_text}
use Rattle.verifying_plants.proofs.verdict_texts.push_unmet.Goals as goal

pub returns : goal.returns
returns c =
    c.in_ok-push_output.ensures ∙ ap (λ t. t ++ output_text c.args.plant.now c.args.output) c.in_ok-push_str.ensures.bytes
    ∙ append_assoc (string_bytes c.args.text.now) (codes "no run meets ") (output_text c.args.plant.now c.args.output)
