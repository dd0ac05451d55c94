use Rattle.std.proofs.Common.{◌∙◌, get_or, arith, refl, sym, ap}
use Rattle.network.specs.Steps.Joined.Joined.{here}
use Rattle.network.proofs.Joined.Spreading.{Joined-trans, classes_same, classes_then, short_here, short_long, short_keeps}
use Rattle.network.proofs.joining.labels.root_of.Goals as goal

pub loop-labels-init : goal.loop-labels-init
loop-labels-init c = record {
  within = c.requires.within;
  falling = c.requires.falling;
  classes = classes_same c.args.labels.now;
  found = λ f h. refl;
  chained = λ pairs h. here;
}

pub loop-labels-preserved : goal.loop-labels-preserved
loop-labels-preserved c =
    let labels = c.loop-labels.labels in
    let at = c.loop-labels.at in
    let i = c.loop-labels.invariant in
    let keeps = short_keeps labels i.falling at i.within in
    let long = short_long labels i.falling at i.within in
    record {
      within = (let a = i.falling at in let w = i.within in omega (arith, i.falling (get_or labels at 0), long));
      falling = keeps.falling i.falling;
      classes = classes_then c.args.labels.now labels _ i.classes keeps;
      found = λ f one. ap f (sym (short_here labels i.falling at i.within)) ∙ one at (let w = i.within in omega (arith, long)) ∙ i.found f (keeps.kept f one);
      chained = λ pairs h. (let all = i.classes.chained pairs h in
          Joined-trans pairs (all (get_or labels at 0) (let a = i.falling at in let w = i.within in omega arith)) (Joined-trans pairs (all at i.within) (i.chained pairs h)));
    }
