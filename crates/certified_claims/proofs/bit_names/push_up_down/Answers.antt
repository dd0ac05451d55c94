use Rattle.std.proofs.lemmas.Result.{on_ok_weaker}
use Rattle.certified_claims.proofs.Naming.{three_more}
use Rattle.certified_claims.proofs.bit_names.push_up_down.Goals as goal

pub returns : goal.returns
returns c = on_ok_weaker c.push_count.result
    (λ last. three_more _ _ _ _ _ _ _ c.in_ok-push_part.ensures c.in_ok-push_part-2.ensures
    (three_more _ _ _ _ _ _ _ c.in_ok-push_part-3.ensures c.in_ok-push_part-4.ensures last))
    c.push_count.ensures
