-- Evaluations by the plant's codes are by one code where they are of one task.
use Rattle.std.proofs.Common.{◌≡◌, ℕ, zero, suc, List, [], ◌∷◌, reverse, All, Some, drop, ap, sym, ◌∙◌, subst}
use Rattle.std.specs.List.{AllByRecursion}
use Rattle.std.proofs.lemmas.List.{reverse-reverse}
use Rattle.std.proofs.lemmas.List.Elements.{All-tail, All-weaker, All-from_recursion}
use Rattle.std.proofs.lemmas.Option.{same_Some}
use Rattle.std_blocks.specs.declared.value.Value.{Value}
use Rattle.plant.specs.PlantValue.{PlantValue, code_at}
use Rattle.evaluation.specs.Meaning.{Evaluated}
use Rattle.node_reports.specs.declared.step.Step.{Step}
use Rattle.node_reports.specs.declared.step.Step.TheVariants.{Took, Made, Restarted, Heard}
use Rattle.node_reports.specs.declared.journal.Journal.{Journal}
use Rattle.node_reports.specs.Codes.{IsOfPlant, AreOfPlant}
use Rattle.node_reports.specs.Journals.{made, Follows, EachAfter, IsLawful}
use Rattle.node_reports.specs.Steps.Comparing.{AreByCodeOf, MadeByCodeOf, MadeOfPlant}
use Rattle.node_reports.proofs.JournalRuns.{made-reverse}
use Rattle.node_reports.proofs.Remaking.{each-reverse}

-- what lawful steps made is by the plant's codes
made_of_steps : (plant : PlantValue) (firsts : List ℕ) (max_number resource first : ℕ) (opening : List (List Value)) (steps : List Step) → EachAfter (Follows plant firsts max_number resource first opening) steps
    → AllByRecursion (IsOfPlant plant) (made steps)
made_of_steps plant firsts max_number resource first opening [] lawful = tt
made_of_steps plant firsts max_number resource first opening (Took x ∷ steps) lawful = made_of_steps plant firsts max_number resource first opening steps lawful.1
made_of_steps plant firsts max_number resource first opening (Heard of heard ∷ steps) lawful = made_of_steps plant firsts max_number resource first opening steps lawful.1
made_of_steps plant firsts max_number resource first opening (Restarted ticket incarnation ∷ steps) lawful = made_of_steps plant firsts max_number resource first opening steps lawful.1
made_of_steps plant firsts max_number resource first opening (Made x ∷ steps) lawful =
    (lawful.0.found ∙ ap (λ c. Some c) (sym (ap (λ (e : Evaluated). e.code) lawful.0.asked.is)), made_of_steps plant firsts max_number resource first opening steps lawful.1)

made_of_journal : (plant : PlantValue) (firsts : List ℕ) (max_number : ℕ) (j : Journal) → IsLawful plant firsts max_number j → AreOfPlant plant (made j.steps)
made_of_journal plant firsts max_number j lawful =
    let turned = All-from_recursion (IsOfPlant plant) (made (reverse j.steps)) (made_of_steps plant firsts max_number j.resource j.first j.opening (reverse j.steps) lawful.follows) in
    let back = each-reverse (IsOfPlant plant) (made (reverse j.steps)) turned in
    let is : reverse (made (reverse j.steps)) ≡ made j.steps = sym (made-reverse (reverse j.steps)) ∙ ap made (reverse-reverse j.steps) in
    All-from_recursion (IsOfPlant plant) (made j.steps) (subst (AllByRecursion (IsOfPlant plant)) is back)

-- so is what each lawful journal made
pub made_of_plant : (plant : PlantValue) (firsts : List ℕ) (max_number : ℕ) (journals : List Journal) → All (IsLawful plant firsts max_number) journals → MadeOfPlant plant journals
made_of_plant plant firsts max_number journals lawful =
    All-weaker (IsLawful plant firsts max_number) (λ (j : Journal). AreOfPlant plant (made j.steps)) (made_of_journal plant firsts max_number) journals lawful

one_code : (plant : PlantValue) (x y : Evaluated) → IsOfPlant plant x → IsOfPlant plant y → x.name.task ≡ y.name.task → x.code ≡ y.code
one_code plant x y of_x of_y same = same_Some x.code y.code (sym of_x ∙ ap (code_at plant) same ∙ of_y)

-- what is made by the plant's codes is by the codes of entries that are by them too
pub by_code : (plant : PlantValue) (journals : List Journal) (entries : List Evaluated) → MadeOfPlant plant journals → AreOfPlant plant entries → All (MadeByCodeOf journals) entries
by_code plant journals entries journals_of entries_of =
    All-weaker (IsOfPlant plant) (MadeByCodeOf journals)
    (λ y of_y. All-weaker (λ (j : Journal). AreOfPlant plant (made j.steps)) (λ (j : Journal). AreByCodeOf y (made j.steps))
    (λ j of_j. All-weaker (IsOfPlant plant) (λ (x : Evaluated). x.name.task ≡ y.name.task → x.code ≡ y.code) (λ x of_x. one_code plant x y of_x of_y) (made j.steps) of_j) journals journals_of) entries entries_of

-- what holds of all that was made holds of what was made from a place on
pub made_from : (P : Evaluated → Type 0) (n : ℕ) (steps : List Step) → All P (made steps) → All P (made (drop n steps))
made_from P zero steps all = all
made_from P (suc n) [] all = all
made_from P (suc n) (Took x ∷ steps) all = made_from P n steps all
made_from P (suc n) (Heard of heard ∷ steps) all = made_from P n steps all
made_from P (suc n) (Made x ∷ steps) all = made_from P n steps (All-tail P x (made steps) all)
made_from P (suc n) (Restarted ticket incarnation ∷ steps) all = made_from P n steps all
