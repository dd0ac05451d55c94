use Rattle.std.proofs.Common.{◌≡◌, ◌+◌, Any, Some, sym, ◌∙◌, subst, take}
use Rattle.std.proofs.lemmas.Bool.{false≢true}
use Rattle.text_commands.specs.Rows.{texts}
use Rattle.plant_claims.specs.Claims.{range_address}
use Rattle.verifying_plants.specs.Ranges.{AreRanges, range_of}
use Rattle.verifying_plants.specs.Steps.Reading.{RefusesRanges}
use Rattle.verifying.proofs.Reading.{text_there}
use Rattle.verifying_plants.proofs.Reading.{ranges_more, told_before}
use Rattle.verifying_plants.proofs.range_words.read_ranges.Goals as goal

pub returns-in_default-clause-err : goal.returns-in_default-clause-err
returns-in_default-clause-err c = subst (RefusesRanges (texts c.args.words.now)) (sym c.refused.ensures) (record {
  word = c.as_bytes.result.now;
  at = rw c.as_bytes.ensures.value (text_there c.args.words.now c.loop-number.number _ c.loop-number-test.true);
  before = c.loop-number.ranges.items;
  ranges = c.loop-number.invariant;
  refused = sym c.in_ok-range.ensures ∙ c.in_default.is;
})

pub returns-then-is_told-clause-err : goal.returns-then-is_told-clause-err
returns-then-is_told-clause-err c =
    let range : range_of c.as_bytes.result.now ≡ Some c.in-Some.range = sym c.in_ok-range.ensures ∙ c.in-Some.is in
    subst (RefusesRanges (texts c.args.words.now)) (sym c.refused-then-is_told.ensures) (record {
      word = c.as_bytes.result.now;
      at = rw c.as_bytes.ensures.value (text_there c.args.words.now c.loop-number.number _ c.loop-number-test.true);
      before = c.loop-number.ranges.items;
      ranges = c.loop-number.invariant;
      refused = told_before c.as_bytes.result.now c.loop-number.ranges.items c.in-Some.range range (rw c.deref.ensures.value at (c.is_told.ensures.0 c.if-is_told.true));
    })

pub loop-number-preserved : goal.loop-number-preserved
loop-number-preserved c =
    subst (AreRanges (take (c.loop-number.number + 1) (texts c.args.words.now))) (sym c.in_ok-push.ensures.items)
    (ranges_more c.args.words.now c.loop-number.ranges.items c.loop-number.number _ c.in-Some.range c.loop-number-test.true c.loop-number.invariant
    (rw c.as_bytes.ensures.value at (sym c.in_ok-range.ensures ∙ c.in-Some.is)) (subst (λ rs. Any (λ o. range_address o ≡ range_address c.in-Some.range) rs → ⊥) c.deref.ensures.value (λ told. false≢true (c.if-is_told.ensures.1 told))))
