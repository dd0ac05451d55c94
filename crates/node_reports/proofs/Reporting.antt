-- What is known where the book and the journals agree.
use Rattle.std.proofs.Common.{◌≡◌, inl, inr, ℕ, ◌<◌, List, [], ◌∷◌, All, Some, length, reverse, slice_get, sym, ap, ◌∙◌, subst}
use Rattle.std.specs.List.{AllByRecursion}
use Rattle.std.specs.Option.{option_map}
use Rattle.std.proofs.lemmas.List.{length-map, reverse-reverse}
use Rattle.std.proofs.lemmas.List.Elements.{All-from_recursion}
use Rattle.std.proofs.lemmas.Option.{slice_get-map, slice_get_within}
use Rattle.plant.specs.PlantValue.{PlantValue, IsSoundPlant}
use Rattle.evaluation.specs.Meaning.{Evaluated}
use Rattle.book.specs.Book.{BookValue}
use Rattle.book.specs.Fits.{AllFit}
use Rattle.world.specs.History.{setting_over}
use Rattle.world.specs.Replays.{AllCouldBeMade}
use Rattle.node_reports.specs.declared.command.Command.{Command}
use Rattle.node_reports.specs.declared.journal.Journal.{Journal}
use Rattle.node_reports.specs.declared.node_fault.NodeFault.{NodeFault}
use Rattle.node_reports.specs.declared.run_fault.RunFault.{RunFault}
use Rattle.node_reports.specs.declared.run_fault.RunFault.TheVariants as run
use Rattle.node_reports.specs.Journals.{made, firsts_of, openings_of, IsLawful}
use Rattle.node_reports.specs.Reports.{entries_of, IsFittingBook, AreJournalsOf, AreInBook, RunsAgain, CanBeMadeAgain, Agree, IsAgreeFault, unanswered_of, IsCollectFault}
use Rattle.node_reports.specs.Steps.Collecting.{AllBegin, IsToldFault}
use Rattle.node_reports.proofs.Collecting.{firsts_are}
use Rattle.node_reports.proofs.Remaking.{HasIncarnation, holds_at, each-reverse, could_be_made, runs_again}

-- they agree where the checks find it
pub agree_of : (plant : PlantValue) (book : BookValue) (journals : List Journal) → length journals ≡ length plant.resources → AllBegin book.first journals → AreInBook book.entries journals → Agree plant book journals
agree_of plant book journals many begin in_book = record {
  many = many;
  in_order = λ k j at. (begin.each k j at).resource_is;
  first_is = firsts_are book journals begin;
  in_book = in_book;
}

-- and the checks find it where they agree
pub begin_of : (plant : PlantValue) (book : BookValue) (journals : List Journal) → Agree plant book journals → AllBegin book.first journals
begin_of plant book journals agree = record {
  many = sym (ap length agree.first_is ∙ length-map journals (λ (j : Journal). j.first));
  each = λ k j at. record {
    resource_is = agree.in_order k j at;
    first_is = ap (λ (firsts : List ℕ). slice_get firsts k) agree.first_is ∙ slice_get-map (λ (j : Journal). j.first) journals k ∙ ap (option_map (λ (j : Journal). j.first)) at;
  };
}

-- what each journal made are then the entries of the resource at its place
pub made_of : (plant : PlantValue) (book : BookValue) (journals : List Journal) → Agree plant book journals
    → (k : ℕ) (j : Journal) → slice_get journals k ≡ Some j → made j.steps ≡ entries_of k book.entries
made_of plant book journals agree = λ k j at.
    subst (λ (r : ℕ). made j.steps ≡ entries_of r book.entries) (agree.in_order k j at)
    (holds_at (λ (i : Journal). made i.steps ≡ entries_of i.resource book.entries) journals k j (slice_get_within journals k j at) at agree.in_book)

-- the resources of entries that fit exist
exist : (first : List ℕ) (older : List Evaluated) → AllFit first older → AllByRecursion (λ (x : Evaluated). x.name.task.resource < length first) older
exist first [] fit = tt
exist first (x ∷ older) fit = (fit.0.numbered.exists, exist first older fit.1)

-- each entry is of a resource that has a journal
abbrev pub HaveJournals : List Evaluated → List Journal → Type 0
HaveJournals entries journals = All (λ (x : Evaluated). x.name.task.resource < length journals) entries

pub have_journals : (first : List ℕ) (entries : List Evaluated) (journals : List Journal) → AllFit first (reverse entries) → length journals ≡ length first → HaveJournals entries journals
have_journals first entries journals fit many =
    let P : Evaluated → Type 0 = λ (x : Evaluated). x.name.task.resource < length first in
    subst (λ (n : ℕ). All (λ (x : Evaluated). x.name.task.resource < n) entries) (sym many)
    (All-from_recursion P entries (subst (AllByRecursion P) (reverse-reverse entries) (each-reverse P (reverse entries) (All-from_recursion P (reverse entries) (exist first (reverse entries) fit)))))

pub fitting_book : (plant : PlantValue) (book : BookValue) (journals : List Journal) → AllFit book.first (reverse book.entries) → Agree plant book journals → IsFittingBook book journals
fitting_book plant book journals fit agree = record { fit = fit; first_is = agree.first_is }

pub journals_of : (plant : PlantValue) (max_number : ℕ) (book : BookValue) (journals : List Journal) → Agree plant book journals → All (IsLawful plant (firsts_of journals) max_number) journals
    → AreJournalsOf plant max_number journals
journals_of plant max_number book journals agree lawful = record { many = agree.many; in_order = agree.in_order; lawful = lawful }

pub again : (plant : PlantValue) (max_number : ℕ) (book : BookValue) (journals : List Journal) → IsSoundPlant plant → AllFit book.first (reverse book.entries) → Agree plant book journals
    → All (IsLawful plant (firsts_of journals) max_number) journals → All HasIncarnation book.entries → RunsAgain plant max_number book journals
again plant max_number book journals sound fit agree lawful bounds =
    runs_again plant max_number book journals sound (fitting_book plant book journals fit agree) (journals_of plant max_number book journals agree lawful) agree.in_book bounds

pub made_again : (plant : PlantValue) (max_number : ℕ) (book : BookValue) (journals : List Journal) → AllFit book.first (reverse book.entries) → Agree plant book journals
    → All (IsLawful plant (firsts_of journals) max_number) journals → All HasIncarnation book.entries → CanBeMadeAgain plant max_number book journals
made_again plant max_number book journals fit agree lawful bounds =
    subst (λ (first : List ℕ). AllCouldBeMade (setting_over plant first (openings_of journals) max_number) (reverse book.entries)) agree.first_is
    (could_be_made plant max_number book journals (fitting_book plant book journals fit agree) (journals_of plant max_number book journals agree lawful) agree.in_book bounds)

-- where a book and journals don't agree, no report is collected
pub agree_fault : (plant : PlantValue) (commands : List Command) (book : BookValue) (journals : List Journal) (noted : List NodeFault) (found : RunFault) → IsAgreeFault plant book journals found
    → IsCollectFault plant commands book journals noted found
agree_fault plant commands book journals noted run.Memory found = absurd found
agree_fault plant commands book journals noted run.Spawn found = found
agree_fault plant commands book journals noted run.BookDisagrees found = found
agree_fault plant commands book journals noted run.Stranger found = absurd found
agree_fault plant commands book journals noted run.Doubled found = absurd found
agree_fault plant commands book journals noted run.Keeper found = found

-- where the faults noted aren't told, no report is collected
pub told_fault : (plant : PlantValue) (commands : List Command) (book : BookValue) (journals : List Journal) (noted : List NodeFault) (found : RunFault) → Agree plant book journals
    → IsToldFault plant commands journals (unanswered_of commands book.entries) noted found → IsCollectFault plant commands book journals noted found
told_fault plant commands book journals noted found agree (inl memory) = subst (IsCollectFault plant commands book journals noted) (sym memory) tt
told_fault plant commands book journals noted found agree (inr stranger) = subst (IsCollectFault plant commands book journals noted) (sym stranger.0) (agree, inr stranger.1)
