use Rattle.std.proofs.Common.{List, [], ◌∷◌, ◌++◌, ap, ◌∙◌, sym}
use Rattle.plant_grammar.specs.Grammar.{TextValue}
use Rattle.warnings.proofs.WarnedBodies.{passed_more, warned_more}
use Rattle.warnings.proofs.of_plant.bodies_warnings.Goals as goal

pub loop-text-preserved : goal.loop-text-preserved
loop-text-preserved c =
    let known = c.loop-text.invariant in
    let left = c.loop-text.text-iterator.rest.items in
    let now = c.next.new.self.rest.items in (
      known.0 ++ c.in-Some.text ∷ [],
      passed_more c.args.texts.items known.0 left now c.in-Some.text c.in-Some.ensures.steps.0 known.1,
      rw c.in_ok-append-in-Some-2.ensures.items
          (warned_more c.args.time known.0 c.in-Some.text c.loop-text.warnings.items c.in-Some-2.more.items known.2 (rw c.in-Some-2.is at c.in_ok-more.ensures)),
    )

pub returns-in-None-2 : goal.returns-in-None-2
returns-in-None-2 c =
    let known = c.loop-text.invariant in
    record {
      before = known.0;
      faulty = c.in-Some.text;
      behind = c.next.new.self.rest.items;
      parts = sym known.1 ∙ ap (λ (ts : List TextValue). known.0 ++ ts) c.in-Some.ensures.steps.0;
      refused = rw c.in-None-2.is at c.in_ok-more.ensures;
    }
