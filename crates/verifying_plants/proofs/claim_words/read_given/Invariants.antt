use Rattle.std.proofs.Common.{take}
use Rattle.std.specs.List.{AllZip}
use Rattle.text_commands.specs.Rows.{texts}
use Rattle.verifying_plants.specs.Names.{IsNamed}
use Rattle.verifying_plants.proofs.claim_words.read_given.Given as goal

abbrev pub invariant-loop-number : goal.invariant-loop-number
invariant-loop-number l = AllZip (IsNamed l.plant) (take l.number (texts l.words)) l.given.items
