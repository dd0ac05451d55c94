use Rattle.std.proofs.Common.{take}
use Rattle.std.specs.List.{AllZip}
use Rattle.task_codes.specs.CodeValue.{lists_of}
use Rattle.text_commands.specs.Rows.{texts}
use Rattle.verifying_plants.specs.Names.{IsClaimWord}
use Rattle.verifying_plants.proofs.claim_words.read_claims.Given as goal

abbrev pub invariant-loop-number : goal.invariant-loop-number
invariant-loop-number l = AllZip (IsClaimWord l.plant) (take l.number (texts l.words)) (lists_of l.claims.items)
