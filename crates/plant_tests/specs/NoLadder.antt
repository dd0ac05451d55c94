-- Worked drawings that have no ladder, since their networks have a fault.
use Rattle.std.specs.Prelude.{◌≡◌, ℕ, List, [], ◌∷◌, ◌++◌, codes, replicate}
use Rattle.power_flow.specs.LadderValue.{LadderValue}
use Rattle.plant_grammar.specs.declared.grammar.tree.Program.{Program}
use Rattle.plant.specs.Ladders.{IsLadderOf}
use Rattle.plant_tests.specs.Figures.{text_of}

-- no program with this body has a ladder
abbrev pub HasNoLadder : List ℕ → Type 0
HasNoLadder text = (p : Program) (l : LadderValue) → p.body ≡ text → IsLadderOf p l → ⊥

-- two boxes of one name, case aside
unfoldable pub name_twice : List ℕ
name_twice = text_of (
    codes "|   T1"
    ∷ codes "|  +----+"
    ∷ codes "|  |TON |"
    ∷ codes "+--|IN Q|"
    ∷ codes "|  +----+"
    ∷ codes "|   t1"
    ∷ codes "|  +----+"
    ∷ codes "|  |TON |"
    ∷ codes "+--|IN Q|"
    ∷ codes "|  +----+" ∷ [])

-- a box of 201 rows
unfoldable pub tall_box : List ℕ
tall_box = text_of (
    codes "|   T1"
    ∷ codes "|  +----+"
    ∷ codes "|  |TON |"
    ∷ codes "+--|IN Q|"
    ∷ (replicate 197 (codes "|  |    |") ++ codes "|  +----+" ∷ []))
