-- The state of a task: one state for each of its programs, in order.
use Rattle.std.specs.Prelude.{◌≡◌, ℕ, List, Some, length, map, slice_get, replicate, false, sum_by}
use Rattle.declared_names.specs.declared.declarations.Declaration.{Declaration}
use Rattle.scan_steps.specs.First.{slot_first}
use Rattle.power_flow.specs.LadderValue.{LadderValue, Fits, holding}
use Rattle.power_flow.specs.StateValue.{StateValue, IsSame}
use Rattle.task_codes.specs.CodeValue.{ProgramValue, CodeValue}

-- the states are of the code's programs, one for each
pub record AreStatesOf (c : CodeValue) (states : List StateValue) : Type 0 where
  pub many : length states ≡ length c.programs
  pub each : (i : ℕ) (p : ProgramValue) (s : StateValue) → slice_get c.programs i ≡ Some p → slice_get states i ≡ Some s
      → Fits p.ladder s

-- the state of a ladder before the first scan: all values FALSE, 0 and T#0ms, all blocks before their first step, all
-- memories OFF
unfoldable pub initial_state_of : LadderValue → StateValue
initial_state_of l =
    holding l (map (λ (d : Declaration). slot_first d.declared) l.declarations)
    (replicate (sum_by (λ n. length n.elements) l.networks) false)

-- the state of a task before its first evaluation
abbrev pub initial_state : CodeValue → List StateValue
initial_state c = map (λ (p : ProgramValue). initial_state_of p.ladder) c.programs

-- the same values, blocks and memories; waiting places don't count
pub record AreSame (a b : List StateValue) : Type 0 where
  pub many : length a ≡ length b
  pub each : (i : ℕ) (s t : StateValue) → slice_get a i ≡ Some s → slice_get b i ≡ Some t → IsSame s t
