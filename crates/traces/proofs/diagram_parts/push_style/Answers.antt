use Rattle.std.proofs.Common.{rules}
use Rattle.traces.specs.Diagram.{style_text}
use Rattle.traces.proofs.diagram_parts.push_style.Goals as goal

pub returns : goal.returns
unfolding style_text
returns c = search rules
