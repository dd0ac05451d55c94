-- States, and the state before the first evaluation.
use Rattle.std.proofs.Common.{◌≡◌, ℕ, List, [], ◌∷◌, length, slice_get, map, replicate, All, Bool, false, Some, refl, sym, ap, ◌∙◌, subst}
use Rattle.std.proofs.lemmas.List.Elements.{All-head, All-tail}
use Rattle.std.proofs.lemmas.Option.{slice_get-map, same_Some}
use Rattle.std.specs.Option.{option_map}
use Rattle.evaluation.specs.Steps.Facts.{same_state}
use Rattle.declared_names.specs.declared.declarations.Declaration.{Declaration}
use Rattle.scan_steps.specs.First.{slot_first}
use Rattle.power_flow.specs.LadderValue.{LadderValue, Fits}
use Rattle.power_flow.specs.StateValue.{StateValue}
use Rattle.task_codes.specs.CodeValue.{ProgramValue, CodeValue}
use Rattle.evaluation.specs.States.{initial_state_of, initial_state, AreStatesOf}

all_off : (ms : List Bool) → All (λ m. m ≡ false) ms → ms ≡ replicate (length ms) false
all_off [] h = refl
all_off (m ∷ ms) h =
    let first : m ≡ false = All-head (λ m. m ≡ false) m ms h in
    let rest : ms ≡ replicate (length ms) false = all_off ms (All-tail (λ m. m ≡ false) m ms h) in
    ap (λ x. x ∷ ms) first ∙ ap (λ x. false ∷ x) rest

pub initial_is : (l : LadderValue) (s : StateValue) → Fits l s → s.slots ≡ map (λ (d : Declaration). slot_first d.declared) l.declarations → All (λ m. m ≡ false) s.memories
    → s ≡ initial_state_of l
unfolding initial_state_of
initial_is l s fits slots off =
    same_state s (initial_state_of l) slots (all_off s.memories off ∙ ap (λ n. replicate n false) fits.memories) fits.waiting_links fits.waiting_results

pub initial_fits : (c : CodeValue) (states : List StateValue) → states ≡ initial_state c → ((i : ℕ) (p : ProgramValue) → slice_get c.programs i ≡ Some p → Fits p.ladder (initial_state_of p.ladder))
    → length states ≡ length c.programs → AreStatesOf c states
initial_fits c states is fits many = record {
  many = many;
  each = λ i p s at found.
      let there : slice_get states i ≡ Some (initial_state_of p.ladder) =
      ap (λ (l : List StateValue). slice_get l i) is ∙ slice_get-map (λ (p : ProgramValue). initial_state_of p.ladder) c.programs i ∙ ap (option_map (λ (p : ProgramValue). initial_state_of p.ladder)) at in
      subst (Fits p.ladder) (same_Some (initial_state_of p.ladder) s (sym there ∙ found)) (fits i p at);
}
