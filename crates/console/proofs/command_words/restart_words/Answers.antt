use Rattle.std.proofs.Common.{codes, map, ap, ◌∙◌}
use Rattle.std.proofs.lemmas.Result.{IfOk-weaker}
use Rattle.clap.specs.Words.{found_of}
use Rattle.clap.proofs.WalkLemmas.{raw_values-rows}
use Rattle.console.proofs.Matching.{no_words, some_words}
use Rattle.console.proofs.command_words.restart_words.Goals as goal

pub returns-in-Some : goal.returns-in-Some
returns-in-Some c =
    let words = some_words c.get_strs.result _ _ c.in-Some.words c.get_strs.ensures (raw_values-rows (found_of c.args.matches.now) (codes "restart")) c.in-Some.is in
    IfOk-weaker c.from_slice.result _ _ (λ v is. ap (map (λ w. w.now)) is ∙ words) c.from_slice.ensures.items

pub returns-in-None : goal.returns-in-None
returns-in-None c =
    ap (map (λ w. w.now)) c.new.ensures.items ∙ no_words c.get_strs.result _ _ c.get_strs.ensures (raw_values-rows (found_of c.args.matches.now) (codes "restart")) c.in-None.is
