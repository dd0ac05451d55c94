use Rattle.std.proofs.Common.{not, ap, ◌∙◌}
use Rattle.gate_words.specs.Values.{time_at}
use Rattle.block_gates.proofs.Counts.{less_is}
use Rattle.block_gates.proofs.timing.is_less.Goals as goal

pub returns : goal.returns
returns c = λ v agrees.
    let isnt = c.in_ok-isnt.ensures v agrees in
    (isnt.0, c.negated-less.ensures v ∙ ap not isnt.1 ∙ less_is (time_at v c.args.first.now) (time_at v c.args.second.now))
