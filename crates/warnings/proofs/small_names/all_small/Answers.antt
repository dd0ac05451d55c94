use Rattle.std.proofs.Common.{◌≡◌, ℕ, ◌+◌, List, [], ◌∷◌, ◌++◌, Bor, map, take, get_or, ap, ◌∙◌, sym, subst}
use Rattle.std.proofs.lemmas.List.{take_more, map_push}
use Rattle.warnings.specs.Steps.NameSets.{AreSmall, AnswerAsSmall}
use Rattle.warnings.proofs.small_names.all_small.Goals as goal

pub loop-name-preserved : goal.loop-name-preserved
loop-name-preserved c =
    let names = c.args.names.now in
    let k = c.loop-name.name-index in
    let none : Bor (List ℕ) = record { ref_ptr = (0, 0); now = [] } in
    let bytes = λ (n : Bor (List ℕ)). n.now in
    let step : map bytes (take (k + 1) names) ≡ map bytes (take k names) ++ (get_or names k none).now ∷ []
    = ap (map bytes) (take_more names k none c.loop-name-test.true) ∙ map_push bytes (take k names) (get_or names k none) in
    subst (λ (xs : List (List ℕ)). AreSmall xs c.push_small.new.seen × AnswerAsSmall xs c.push_small.new.all.items) (sym step)
    (c.in_ok-push_small.ensures (map bytes (take k names)) c.loop-name.invariant.0 c.loop-name.invariant.1)
