use Rattle.std.proofs.Common.{◌≡◌, true}
use Rattle.plant_text.proofs.BodyLines.{blank_line, blank_gap, not_blank}
use Rattle.plant_text.proofs.bodies.behind_blank_line.Goals as goal
use Rattle.plant_text.proofs.bodies.behind_blank_line.Goals.{in_default-via-in-Some+else-is_blank_line, in_default-via-in_default}

pub returns-in-Some : goal.returns-in-Some
returns-in-Some c = blank_line c.args.text.now c.in-Some.rest.now (c.is_blank_line.ensures.0 c.if-is_blank_line.true) c.in-Some.ensures

pub returns-in_default : goal.returns-in_default
returns-in_default c = λ rest l. elim c.in_default.branch [
  | in_default-via-in-Some+else-is_blank_line w ↦
      let yes : w.is_blank_line.result ≡ true = w.is_blank_line.ensures.1 (blank_gap c.args.text.now rest l) in
      let no = w.if-is_blank_line.false in
      cc
  | in_default-via-in_default w ↦ not_blank c.args.text.now rest w.in_default.ensures l
]
