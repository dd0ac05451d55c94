use Rattle.std.proofs.Common.{◌≡◌, ℕ, ◌+◌, List, [], ◌∷◌, ◌++◌, Bor, map, take, get_or, ap, ◌∙◌, sym, subst}
use Rattle.std.proofs.lemmas.List.{take_more, map_push}
use Rattle.std.proofs.lemmas.Map.Text.{btree_set_updates_text}
use Rattle.std.specs.Prelude.{true, string_bytes}
use Rattle.warnings.specs.Steps.NameSets.{AreSmall}
use Rattle.warnings.proofs.SameNames.{small_more}
use Rattle.warnings.proofs.small_names.small_names.Goals as goal

pub loop-name-preserved : goal.loop-name-preserved
loop-name-preserved c =
    let names = c.args.names.now in
    let k = c.loop-name.name-index in
    let old = c.loop-name.set in
    let new = c.insert.new.self in
    let key = string_bytes c.in_ok-small.field-0 in
    let none : Bor (List ℕ) = record { ref_ptr = (0, 0); now = [] } in
    let bytes = λ (n : Bor (List ℕ)). n.now in
    let step : map bytes (take (k + 1) names) ≡ map bytes (take k names) ++ (get_or names k none).now ∷ []
    = ap (map bytes) (take_more names k none c.loop-name-test.true) ∙ map_push bytes (take k names) (get_or names k none) in
    let Are : List (List ℕ) → Type 0 = λ xs. AreSmall xs new in
    subst Are (sym step)
    (small_more (map bytes (take k names)) (get_or names k none).now key old new c.in_ok-small.ensures c.loop-name.invariant
    (btree_set_updates_text key old new true c.in_ok-insert.ensures.updates))
