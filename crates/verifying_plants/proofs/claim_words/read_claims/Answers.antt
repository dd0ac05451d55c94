use Rattle.std.proofs.Common.{◌+◌, ◌∷◌, [], sym, subst, take}
use Rattle.std.specs.List.{AllZip}
use Rattle.std.proofs.lemmas.List.{map-append}
use Rattle.task_codes.specs.CodeValue.{lists_of}
use Rattle.text_commands.specs.Rows.{texts}
use Rattle.verifying_plants.specs.Names.{IsClaimWord}
use Rattle.verifying.proofs.Reading.{word_more}
use Rattle.verifying_plants.proofs.claim_words.read_claims.Goals as goal

pub loop-number-preserved : goal.loop-number-preserved
loop-number-preserved c =
    subst (λ claims. AllZip (IsClaimWord c.args.plant.now) (take (c.loop-number.number + 1) (texts c.args.words.now)) (lists_of claims)) (sym c.in_ok-push-in-Ok.ensures.items)
    (subst (AllZip (IsClaimWord c.args.plant.now) (take (c.loop-number.number + 1) (texts c.args.words.now))) (sym (map-append (λ x. x.items) c.loop-number.claims.items (c.in-Ok.claim ∷ [])))
    (word_more (IsClaimWord c.args.plant.now) c.args.words.now (lists_of c.loop-number.claims.items) c.loop-number.number _ c.in-Ok.claim.items c.loop-number-test.true c.loop-number.invariant (rw c.in-Ok.is at c.in_ok-claim.ensures.ok)))
