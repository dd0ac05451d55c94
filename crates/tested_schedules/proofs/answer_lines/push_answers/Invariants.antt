use Rattle.std.proofs.Common.{◌≡◌, ◌++◌, string_bytes, take}
use Rattle.std.specs.List.{flat_map}
use Rattle.tested_schedules.specs.Expectations.{answer_line}
use Rattle.tested_schedules.proofs.answer_lines.push_answers.Given as goal

abbrev pub invariant-loop-answer : goal.invariant-loop-answer
invariant-loop-answer l = string_bytes l.text ≡ string_bytes l.initial.text ++ flat_map (answer_line l.plant) (take l.answer-index l.answers)
