use Rattle.std.proofs.Common.{◌∙◌}
use Rattle.std.proofs.lemmas.List.Sorted.{IsPermutation-trans}
use Rattle.name_faults.specs.Guess.{uses_of}
use Rattle.name_faults.proofs.guess.DeclarationsGuess.guess.Goals as goal

pub returns : goal.returns
returns c =
    let all = rw c.networks.ensures.networks at c.in_ok-uses.ensures.permutation in
    let kept = rw c.networks.ensures.networks at c.in_ok-uses.ensures.stable in
    record {
      uses = c.sort_uses.new.uses.items;
      all = IsPermutation-trans (uses_of c.args.graph.now.networks) c.in_ok-uses.uses.items c.sort_uses.new.uses.items all c.in_ok-sort_uses.ensures.permutation;
      sorted = c.in_ok-sort_uses.ensures.sorted;
      stable = λ x. c.in_ok-sort_uses.ensures.stable x ∙ kept x;
      first = rw c.deref.ensures.value at c.in_ok-declarations.ensures;
    }
