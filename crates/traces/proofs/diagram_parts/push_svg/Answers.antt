use Rattle.std.proofs.Common.{rules}
use Rattle.traces.specs.Diagram.{svg_text}
use Rattle.traces.proofs.diagram_parts.push_svg.Goals as goal

pub returns : goal.returns
unfolding svg_text
returns c = search rules
