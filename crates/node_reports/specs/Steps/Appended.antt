-- What a journal's steps made, and what they received, in two parts. The crates above cite it.
use Rattle.std.specs.Prelude.{◌≡◌, ◌++◌, List, [], ◌∷◌, refl}
use Rattle.std.proofs.Common.{ap}
use Rattle.node_reports.specs.declared.step.Step.{Step}
use Rattle.node_reports.specs.declared.step.Step.TheVariants.{Took, Made, Restarted, Heard}
use Rattle.node_reports.specs.Journals.{made, received}

pub made-append : (a b : List Step) → made (a ++ b) ≡ made a ++ made b
made-append [] b = refl
made-append (Took x ∷ a) b = made-append a b
made-append (Heard of heard ∷ a) b = made-append a b
made-append (Made x ∷ a) b = ap (λ xs. x ∷ xs) (made-append a b)
made-append (Restarted ticket incarnation ∷ a) b = made-append a b

pub received-append : (a b : List Step) → received (a ++ b) ≡ received a ++ received b
received-append [] b = refl
received-append (Took x ∷ a) b = ap (λ xs. x ∷ xs) (received-append a b)
received-append (Heard of heard ∷ a) b = received-append a b
received-append (Made x ∷ a) b = received-append a b
received-append (Restarted ticket incarnation ∷ a) b = received-append a b
