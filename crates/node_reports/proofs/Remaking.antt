-- The entries of a book that agrees with lawful journals could have been made, so events that make them again have them as their run.
use Rattle.std.proofs.Common.{◌≡◌, ℕ, ◌<◌, ◌≤◌, ◌++◌, List, [], ◌∷◌, length, reverse, All, Some, slice_get, slice_index, refl, ap, sym, ◌∙◌, subst, arith}
use Rattle.std.proofs.lemmas.List.{append_assoc, reverse-append, length-map}
use Rattle.std.proofs.lemmas.List.Elements.{All-head, All-tail}
use Rattle.std.proofs.lemmas.Option.{get_or_from_slice_get, slice_get-map}
use Rattle.lists.proofs.Places.{element_at}
use Rattle.plant.specs.PlantValue.{PlantValue, IsSoundPlant}
use Rattle.evaluation.specs.Meaning.{Evaluated}
use Rattle.std_blocks.specs.declared.value.Value.{Value}
use Rattle.evaluation.specs.Last.{same_task, left_by, state_from}
use Rattle.world.specs.History.{Setting, setting_over, opening_of}
use Rattle.world.specs.Run.{IsRun, last_of}
use Rattle.std.specs.List.{AllByRecursion, filter}
use Rattle.std.specs.Prelude.{slice_index_or}
use Rattle.std.specs.Option.{option_map}
use Rattle.lists.proofs.Each.{each-append}
use Rattle.book.specs.Fits.{Fits, AllFit, last_in}
use Rattle.book.specs.Book.{BookValue}
use Rattle.world.specs.Replays.{CouldBeMade, AllCouldBeMade}
use Rattle.node_reports.specs.declared.journal.Journal.{Journal}
use Rattle.node_reports.specs.Journals.{made, newest, last_made, last_of as last_noted, opening_at, firsts_of, openings_of, IsLawful}
use Rattle.node_reports.specs.Reports.{entries_of, IsFittingBook, AreJournalsOf, AreInBook, RunsAgain}
use Rattle.node_reports.proofs.JournalRuns.{IsMadeAfter, made_after, last_made_is, made-reverse, entries-reverse, entries-part, last_in-entries, last_of-entries}

-- incarnations, its own and those that were heard, are numbers of 32 bits
abbrev pub HasIncarnation : Evaluated → Type 0
HasIncarnation x = (x.name.incarnation ≤ 4294967295) × ((m : ℕ) → slice_index x.heard m ≤ 4294967295)

pub each-reverse : {X : Type 0} (P : X → Type 0) (xs : List X) → All P xs → AllByRecursion P (reverse xs)
each-reverse P [] all = tt
each-reverse P (x ∷ xs) all =
    subst (AllByRecursion P) (sym (reverse-append (x ∷ []) xs)) (each-append P (reverse xs) (x ∷ []) (each-reverse P xs (All-tail P x xs all)) (All-head P x xs all, tt))

-- what holds of each holds of the one at a place
pub holds_at : {X : Type 0} (P : X → Type 0) (xs : List X) (k : ℕ) (x : X) → k < length xs → slice_get xs k ≡ Some x → All P xs → P x
holds_at P xs k x lt at all = subst P (get_or_from_slice_get xs k x x at) (all k x lt)

-- an entry could have been made after those before it
entry_made : (plant : PlantValue) (max_number : ℕ) (first : List ℕ) (journals : List Journal) (entries : List Evaluated) (newer older : List Evaluated) (x : Evaluated)
    → length first ≡ length journals → AreJournalsOf plant max_number journals → AreInBook entries journals → reverse entries ≡ newer ++ x ∷ older → Fits first older x → HasIncarnation x
    → CouldBeMade (setting_over plant first (openings_of journals) max_number) older x
entry_made plant max_number first journals entries newer older x long js in_book is fit bound = record {
  code = after.next.code;
  found = after.next.found;
  number_left = after.next.number_left;
  incarnation_left = bound.0;
  heard_left = bound.1;
  same_code = ap (λ (e : Evaluated). e.code) after.next.asked.is;
  before = ap (λ (e : Evaluated). e.before) after.next.asked.is
      ∙ ap (λ v. state_from after.next.code v (last_made x.name.task after.before)) kept
      ∙ ap (state_from after.next.code (left_by (opening_of setting x.name.task) (last_of x.name.task older))) last;
  meant = after.next.asked.meant;
  whole = after.next.asked.whole;
}
  where
    setting : Setting
    setting = setting_over plant first (openings_of journals) max_number

    lt : x.name.task.resource < length journals
    lt = let exists = fit.numbered.exists in omega arith

    journal : (j : Journal) × (slice_get journals x.name.task.resource ≡ Some j)
    journal = element_at journals x.name.task.resource lt

    made_is : made (reverse journal.0.steps) ≡ entries_of x.name.task.resource newer ++ x ∷ entries_of x.name.task.resource older
    made_is =
        made-reverse journal.0.steps
        ∙ ap reverse (holds_at (λ (j : Journal). made j.steps ≡ entries_of j.resource entries) journals x.name.task.resource journal.0 lt journal.1 in_book)
        ∙ ap (λ n. reverse (entries_of n entries)) (js.in_order x.name.task.resource journal.0 journal.1)
        ∙ sym (entries-reverse x.name.task.resource entries)
        ∙ ap (entries_of x.name.task.resource) is
        ∙ entries-part newer older x

    after : IsMadeAfter plant (firsts_of journals) max_number journal.0.resource journal.0.first journal.0.opening x (entries_of x.name.task.resource older)
    after = made_after plant (firsts_of journals) max_number journal.0.resource journal.0.first journal.0.opening x (entries_of x.name.task.resource older) (reverse journal.0.steps) (entries_of x.name.task.resource newer)
        (holds_at (IsLawful plant (firsts_of journals) max_number) journals x.name.task.resource journal.0 lt journal.1 js.lawful).follows made_is

    last : last_made x.name.task after.before ≡ last_in older x.name.task x.name.incarnation
    last =
        last_made_is plant (firsts_of journals) max_number journal.0.resource journal.0.first journal.0.opening x.name.task after.before after.lawful
        ∙ ap (last_in (made after.before) x.name.task) (sym after.next.incarnation_is)
        ∙ ap (λ l. last_in l x.name.task x.name.incarnation) after.made_is
        ∙ last_in-entries x.name.task x.name.incarnation older

    opened : slice_index_or (openings_of journals) x.name.task.resource [] ≡ journal.0.opening
    opened = get_or_from_slice_get (openings_of journals) x.name.task.resource journal.0.opening []
        (slice_get-map (λ (j : Journal). j.opening) journals x.name.task.resource ∙ ap (option_map (λ (j : Journal). j.opening)) journal.1)

    kept : left_by (opening_at journal.0.opening x.name.task) (last_noted x.name.task after.before) ≡ left_by (opening_of setting x.name.task) (last_of x.name.task older)
    kept =
        ap (λ l. left_by (opening_at journal.0.opening x.name.task) (newest (filter (λ (y : Evaluated). same_task y.name.task x.name.task) l))) after.made_is
        ∙ ap (left_by (opening_at journal.0.opening x.name.task)) (last_of-entries x.name.task older)
        ∙ ap (λ (o : List (List Value)). left_by (slice_index_or o x.name.task.task []) (last_of x.name.task older)) (sym opened)

all_made : (plant : PlantValue) (max_number : ℕ) (first : List ℕ) (journals : List Journal) (entries : List Evaluated) (newer older : List Evaluated)
    → length first ≡ length journals → AreJournalsOf plant max_number journals → AreInBook entries journals → reverse entries ≡ newer ++ older → AllFit first older → AllByRecursion HasIncarnation older
    → AllCouldBeMade (setting_over plant first (openings_of journals) max_number) older
all_made plant max_number first journals entries newer [] long js in_book is fit bounds = tt
all_made plant max_number first journals entries newer (x ∷ older) long js in_book is fit bounds = (
  entry_made plant max_number first journals entries newer older x long js in_book is fit.0 bounds.0,
  all_made plant max_number first journals entries (newer ++ x ∷ []) older long js in_book (is ∙ sym (append_assoc newer (x ∷ []) older)) fit.1 bounds.1,
)

-- each entry of a fitting book that has what lawful journals made could have been made after those before it
pub could_be_made : (plant : PlantValue) (max_number : ℕ) (book : BookValue) (journals : List Journal)
    → IsFittingBook book journals → AreJournalsOf plant max_number journals → AreInBook book.entries journals → All HasIncarnation book.entries
    → AllCouldBeMade (setting_over plant book.first (openings_of journals) max_number) (reverse book.entries)
could_be_made plant max_number book journals fitting js in_book bounds =
    all_made plant max_number book.first journals book.entries [] (reverse book.entries) (ap length fitting.first_is ∙ length-map journals (λ (j : Journal). j.first)) js in_book refl fitting.fit
    (each-reverse HasIncarnation book.entries bounds)

-- so events that make its entries again have them as their run
pub runs_again : (plant : PlantValue) (max_number : ℕ) (book : BookValue) (journals : List Journal)
    → IsSoundPlant plant → IsFittingBook book journals → AreJournalsOf plant max_number journals → AreInBook book.entries journals → All HasIncarnation book.entries
    → RunsAgain plant max_number book journals
runs_again plant max_number book journals sound fitting js in_book bounds = λ events replays.
    let long : length book.first ≡ length plant.resources = ap length fitting.first_is ∙ length-map journals (λ (j : Journal). j.first) ∙ js.many in
    subst (λ (first : List ℕ). IsRun (setting_over plant first (openings_of journals) max_number) events book.entries) fitting.first_is
    (replays plant (openings_of journals) max_number sound long (could_be_made plant max_number book journals fitting js in_book bounds))
