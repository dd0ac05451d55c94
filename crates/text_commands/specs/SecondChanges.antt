-- What the rungs of a second drawing change.
use Rattle.std.specs.Prelude.{◌≡◌, ◌-◌, ◌++◌, ℕ, List, Bool, length}
use Rattle.network.specs.Links.{Diagram}
use Rattle.network.specs.GraphValue.{graph_value}
use Rattle.declared_names.specs.declared.declarations.Declaration.{Declaration}
use Rattle.scan_steps.specs.declared.slot.Slot.{Slot}
use Rattle.needed_networks.specs.Slices.{AreAgreed, Follows, kept_networks, memory_count}
use Rattle.power_flow.specs.LadderValue.{diagrams}
use Rattle.power_flow.specs.Scan.{ScanMeaning}
use Rattle.text_commands.specs.SecondDrawing.{IsLadderOfBoth, marks}

-- a mark for each name that is of the second drawing alone
abbrev pub new_names : {first other : List ℕ} → {names : List Declaration} → {networks : List Diagram}
    → IsLadderOfBoth first other names networks → List Bool
new_names {names = names} both = marks (length both.ones) (length names - length both.ones)

-- a mark for each network of the second drawing
abbrev pub second_networks : {first other : List ℕ} → {names : List Declaration} → {networks : List Diagram}
    → IsLadderOfBoth first other names networks → List Bool
second_networks both = marks (length both.one.networks) (length both.two.networks)

-- A scan of the first drawing's networks alone, from values that agree at its names with those before a scan of both, leaves
-- at its names what that one leaves.
pub record LeavesFirst {first other : List ℕ} {names : List Declaration} {networks : List Diagram}
    (both : IsLadderOfBoth first other names networks) (dt : ℕ) (ms : List Bool) (slots' : List Slot) (ms' : List Bool)
    (others : List Slot) : Type 0 where
  pub follows : Follows names dt (new_names both) (second_networks both) networks ms slots' ms' others
  pub firsts : kept_networks (second_networks both) networks
      ≡ diagrams (graph_value 1 (both.one.rails ++ both.two.rails) both.one.networks)

-- the rungs of a second drawing change nothing at a name of the first
abbrev pub SecondChangesNothing : Type 0
SecondChangesNothing = (first other : List ℕ) (names : List Declaration) (networks : List Diagram)
    (both : IsLadderOfBoth first other names networks) (dt : ℕ) (slots : List Slot) (ms : List Bool) (slots' : List Slot)
    (ms' : List Bool) (others : List Slot) → length ms ≡ memory_count networks → AreAgreed (new_names both) slots others
    → ScanMeaning names dt networks slots ms slots' ms' → LeavesFirst both dt ms slots' ms' others
