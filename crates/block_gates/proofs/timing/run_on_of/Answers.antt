use Rattle.std.proofs.Common.{◌+◌, ◌∙◌}
use Rattle.std.proofs.Math.Nat.{min_comm}
use Rattle.gate_words.specs.Values.{time_at}
use Rattle.block_gates.proofs.timing.run_on_of.Goals as goal

pub returns : goal.returns
returns c = λ v agrees.
    let new = c.in_ok-new.ensures v agrees in
    (new.0, new.1 ∙ min_comm (time_at v c.args.elapsed.now + time_at v c.args.dt.now) (time_at v c.args.preset.now))
