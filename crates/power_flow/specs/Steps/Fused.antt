-- Steps that stand for two.
use Rattle.std.specs.Prelude.{◌+◌, ℕ, List, [], ◌∷◌, ◌++◌}
use Rattle.scan_steps.specs.declared.step.Step.{Step}
use Rattle.scan_steps.specs.declared.step.Step.TheVariants as step
use Rattle.scan_steps.specs.declared.bound_contact.VariableContact.{VariableContact}
use Rattle.scan_steps.specs.Steps.Contacts.{contact_of, first_of, second_of, in_row, rows_over}

-- the steps at contacts of variables, one behind the other in a row
abbrev pub contacts_in : ℕ → List VariableContact → List Step
contacts_in row [] = []
contacts_in row (v ∷ contacts) = step.Contact (in_row row v) ∷ contacts_in row contacts

-- the steps that a step stands for
abbrev pub single : Step → List Step
single (step.Rail row) = step.Rail row ∷ []
single (step.Off row) = step.Off row ∷ []
single (step.Upright first last) = step.Upright first last ∷ []
single (step.OffUpright row first last) = step.Off row ∷ step.Upright first last ∷ []
single (step.Down row) = step.Off (row + 1) ∷ step.Upright row (row + 1) ∷ []
single (step.Up row) = step.Off row ∷ step.Upright row (row + 1) ∷ []
single (step.Contact c) = step.Contact c ∷ []
single (step.RailContact v) = step.Rail v.row ∷ step.Contact (contact_of v) ∷ []
single (step.Pair rows places) = step.Contact (first_of rows places) ∷ step.Contact (second_of rows places) ∷ []
single (step.JoinedPair rows places) = step.Upright rows.first rows.second ∷ step.Contact (first_of rows places)
    ∷ step.Contact (second_of rows places) ∷ []
single (step.PairOver row places) = step.Off (row + 1) ∷ step.Upright row (row + 2)
    ∷ step.Contact (first_of (rows_over row) places) ∷ step.Contact (second_of (rows_over row) places) ∷ []
single (step.Rung row k contacts) = step.Rail row ∷ (contacts_in row contacts ++ (step.Coil row k ∷ []))
single (step.Coil row k) = step.Coil row k ∷ []
single (step.Box k) = step.Box k ∷ []
single (step.BoxCoil k row coil) = step.Box k ∷ step.Coil row coil ∷ []

-- the steps that some steps stand for, one after the other
abbrev pub singles : List Step → List Step
singles [] = []
singles (s ∷ steps) = single s ++ singles steps
