use Rattle.std.proofs.Common.{◌+◌, map, sym, subst, take}
use Rattle.std.specs.List.{AllZip}
use Rattle.verifying_plants.specs.Names.{IsNamed}
use Rattle.verifying.proofs.Reading.{text_there, word_more}
use Rattle.verifying_plants.proofs.claim_words.read_names.Goals as goal

pub returns-in-None-clause-err : goal.returns-in-None-clause-err
returns-in-None-clause-err c = record {
  name = _;
  at = text_there c.args.names.now c.loop-place.place _ c.loop-place-test.true;
  outputs = c.loop-place.outputs.items;
  before = c.loop-place.invariant;
  unnamed = rw c.in-None.is at c.in_ok-output.ensures;
}

pub loop-place-preserved : goal.loop-place-preserved
loop-place-preserved c =
    subst (AllZip (IsNamed c.args.plant.now) (take (c.loop-place.place + 1) (map (λ n. n.now) c.args.names.now))) (sym c.in_ok-push-in-Some.ensures.items)
    (word_more (IsNamed c.args.plant.now) c.args.names.now c.loop-place.outputs.items c.loop-place.place _ c.in-Some.output c.loop-place-test.true c.loop-place.invariant (rw c.in-Some.is at c.in_ok-output.ensures))
