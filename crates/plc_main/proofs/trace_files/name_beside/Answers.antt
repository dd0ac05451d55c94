use Rattle.std.proofs.Common.{◌≡◌, ◌==◌, false, arith, rules, append_assoc}
use Rattle.std.proofs.lemmas.Bool.Decides.{nat_tests}
use Rattle.plc_main.proofs.trace_files.name_beside.Goals as goal

pub returns : goal.returns
returns c =
    let further : (c.args.k == 0) ≡ false = grind (arith, nat_tests) in
    simp further (search (rules, append_assoc))
