-- The tickets of entries stand for the entries where only tickets count.
use Rattle.std.proofs.Common.{◌≡◌, ℕ, ◌+◌, ◌||◌, Bool, List, [], ◌∷◌, map, refl, ap, ◌∙◌, ◌==◌}
use Rattle.std.specs.List.{list_any}
use Rattle.evaluation.specs.Meaning.{Evaluated}
use Rattle.node_reports.specs.Steps.Collecting.{AreMarks, AreTicketMarks}

any_ticket : (n : ℕ) (entries : List Evaluated) → list_any (λ t. t == n) (map (λ (x : Evaluated). x.ticket) entries) ≡ list_any (λ (x : Evaluated). x.ticket == n) entries
any_ticket n [] = refl
any_ticket n (x ∷ entries) = ap (λ b. (x.ticket == n) || b) (any_ticket n entries)

pub marks_of_entries : (count : ℕ) (entries : List Evaluated) (marks : List Bool) → AreTicketMarks count (map (λ (x : Evaluated). x.ticket) entries) marks → AreMarks count entries marks
marks_of_entries count entries marks are = record { many = are.many; each = λ k lt. are.each k lt ∙ any_ticket (k + 1) entries }
