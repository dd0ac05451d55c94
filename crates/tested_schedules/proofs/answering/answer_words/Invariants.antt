use Rattle.std.proofs.Common.{map, take}
use Rattle.std.specs.Prelude.{reverse}
use Rattle.std.specs.List.{AllZip}
use Rattle.world.specs.Step.{history_at}
use Rattle.tested_schedules.specs.Expectations.{IsAnswer}
use Rattle.tested_schedules.proofs.answering.answer_words.Given as goal

abbrev pub invariant-loop-word : goal.invariant-loop-word
invariant-loop-word l = AllZip (IsAnswer l.world.setting (history_at l.world) (reverse l.world.log)) (map (λ w. w.now) (take l.word-index l.words)) l.answers.items
