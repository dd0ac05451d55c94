use Rattle.std.proofs.Common.{take, map}
use Rattle.std.specs.List.{AllZip}
use Rattle.std.specs.Borrow.{Bor}
use Rattle.plant_grammar.specs.declared.grammar.tree.Use.{Use}
use Rattle.plant.specs.Steps.Drafts.{programs_in, IsProgramOf}
use Rattle.plant.proofs.sources.draft.draft_programs.Given as goal

abbrev pub invariant-loop-run : goal.invariant-loop-run
invariant-loop-run l = AllZip (IsProgramOf (programs_in l.types)) (map (λ (x : Bor Use). x.now) (take l.run-index l.runs)) l.programs.items
