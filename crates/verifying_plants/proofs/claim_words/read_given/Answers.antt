use Rattle.std.proofs.Common.{◌+◌, refl, sym, subst, take}
use Rattle.std.specs.List.{AllZip}
use Rattle.text_commands.specs.Rows.{texts}
use Rattle.verifying_plants.specs.Names.{IsNamed}
use Rattle.verifying.proofs.Reading.{text_there, word_more}
use Rattle.verifying_plants.proofs.claim_words.read_given.Goals as goal

pub returns-in-None-clause-err : goal.returns-in-None-clause-err
returns-in-None-clause-err c = record {
  name = c.as_bytes.result.now;
  at = rw c.as_bytes.ensures.value (text_there c.args.words.now c.loop-number.number _ c.loop-number-test.true);
  part_is = refl;
  before = c.loop-number.given.items;
  named = c.loop-number.invariant;
  unnamed = rw c.in-None.is at c.in_ok-output.ensures;
}

pub loop-number-preserved : goal.loop-number-preserved
loop-number-preserved c =
    subst (AllZip (IsNamed c.args.plant.now) (take (c.loop-number.number + 1) (texts c.args.words.now))) (sym c.in_ok-push-in-Some.ensures.items)
    (word_more (IsNamed c.args.plant.now) c.args.words.now c.loop-number.given.items c.loop-number.number _ c.in-Some.output c.loop-number-test.true c.loop-number.invariant
    (subst (λ w. IsNamed c.args.plant.now w c.in-Some.output) c.as_bytes.ensures.value (rw c.in-Some.is at c.in_ok-output.ensures)))
