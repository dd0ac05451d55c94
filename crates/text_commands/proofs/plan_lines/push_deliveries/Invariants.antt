use Rattle.std.proofs.Common.{◌≡◌, ◌++◌, length, take, filter, string_bytes}
use Rattle.std.specs.List.{flat_map, range_with_len}
use Rattle.text_commands.specs.PlanText.{delivery_line, is_taker}
use Rattle.text_commands.proofs.plan_lines.push_deliveries.Given as goal

abbrev pub invariant-loop-resource : goal.invariant-loop-resource
invariant-loop-resource l =
    string_bytes l.lines
    ≡ string_bytes l.initial.lines ++ flat_map (delivery_line l.plant l.message) (filter (is_taker l.plant l.task) (take l.resource (range_with_len 0 (length l.plant.resources))))
