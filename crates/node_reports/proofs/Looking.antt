-- What the looks at journals find of the entries of the book.
use Rattle.std.proofs.Common.{◌≡◌, ◌↔◌, ℕ, ◌<◌, Bool, true, false, cond, eqb, IsTrue, List, [], ◌∷◌, length, map, filter, get_or, All, Contains, Some, Result, Ok, Err, IfOk, Vec, vec_len, slice_get, refl, sym, ◌∙◌, subst, arith}
use Rattle.std.specs.List.Sorted.{IsStrictlyIncreasing}
use Rattle.std.proofs.lemmas.Bool.{eq-eqb, false≢true}
use Rattle.std.proofs.lemmas.List.Elements.{All-nil, All-cons, All-head, All-tail, All-weaker, All-filter}
use Rattle.std.proofs.lemmas.Option.{slice_get_within, get_or_from_slice_get}
use Rattle.std.specs.Fork.{GivesEach}
use denote.Param.Members.{Shared}
use Rattle.lists.proofs.Places.{element_at}
use Rattle.lists.proofs.Members.{all_from_places}
use Rattle.plant.specs.PlantValue.{PlantValue}
use Rattle.evaluation.specs.Meaning.{Evaluated}
use Rattle.book.specs.Book.{BookValue}
use Rattle.node_reports.specs.declared.command.Command.{Command}
use Rattle.node_reports.specs.declared.step.Step.{Step}
use Rattle.node_reports.specs.declared.step.Step.TheVariants.{Took, Made, Restarted, Heard}
use Rattle.node_reports.specs.declared.journal.Journal.{Journal}
use Rattle.node_reports.specs.Journals.{made}
use Rattle.node_reports.specs.declared.collector.looked.Looked.{Looked}
use Rattle.node_reports.specs.Reports.{entries_of, command_of, incarnations_of, tickets_of, IsCommanded, HasHeardTruly, AreInBook, AreRising, Agree, AreCommanded}
use Rattle.node_reports.specs.Steps.Collecting.{AreAt}
use Rattle.node_reports.specs.Steps.Looking.{IsHonestStep, IsLooked, AreLooked}
use Rattle.node_reports.proofs.Hearing.{truly, at_places}
use Rattle.node_reports.proofs.Remaking.{holds_at}
use Rattle.node_reports.proofs.Reporting.{HaveJournals, made_of}

-- where one answer at each place tells of the element there, all are yes exactly where it holds of all
pub all_tell : {X L : Type 0} (P : X → Type 0) (flag : L → Bool) (xs : List X) (ls : List L) → length ls ≡ length xs
    → ((k : ℕ) (x : X) (l : L) → slice_get xs k ≡ Some x → slice_get ls k ≡ Some l → IsTrue (flag l) ↔ P x) → All (λ l. IsTrue (flag l)) ls ↔ All P xs
all_tell P flag xs ls many each = (
  λ all. all_from_places P xs (λ k x at.
      let within = slice_get_within xs k x at in
      let l = element_at ls k (omega (arith, within, many)) in
      (each k x l.0 at l.1).0 (holds_at (λ l. IsTrue (flag l)) ls k l.0 (slice_get_within ls k l.0 l.1) l.1 all)),
  λ all. all_from_places (λ l. IsTrue (flag l)) ls (λ k l at.
      let within = slice_get_within ls k l at in
      let x = element_at xs k (omega (arith, within, many)) in
      (each k x.0 l x.1 at).1 (holds_at P xs k x.0 (slice_get_within xs k x.0 x.1) x.1 all)),
)

-- what holds of all that pass a test holds of each that passes it
passed : {X : Type 0} (P : X → Type 0) (p : X → Bool) (xs : List X) → All P (filter p xs) → All (λ x. p x ≡ true → P x) xs
passed {X} P p [] all = All-nil (λ (x : X). p x ≡ true → P x)
passed {X} P p (x ∷ xs) all = by (passed P p xs) (p x) refl all
  where
    by : (All P (filter p xs) → All (λ (y : X). p y ≡ true → P y) xs) → (b : Bool) → p x ≡ b → All P (cond b (x ∷ filter p xs) (filter p xs)) → All (λ (y : X). p y ≡ true → P y) (x ∷ xs)
    by rest true is all = All-cons (λ (y : X). p y ≡ true → P y) x xs (λ _. All-head P x (filter p xs) all) (rest (All-tail P x (filter p xs) all))
    by rest false is all = All-cons (λ (y : X). p y ≡ true → P y) x xs (λ passes. absurd (false≢true (sym is ∙ passes))) (rest all)

-- what holds of all that the journals made holds of the entries
of_entries : (P : Evaluated → Type 0) (entries : List Evaluated) (journals : List Journal) → HaveJournals entries journals
    → ((k : ℕ) (j : Journal) → slice_get journals k ≡ Some j → made j.steps ≡ entries_of k entries) → All (λ (j : Journal). All P (made j.steps)) journals → All P entries
of_entries P entries journals have are all = λ k d lt.
    let x = get_or entries k d in
    let r = x.name.task.resource in
    let j = element_at journals r (have k d lt) in
    let of_journal : All P (made j.0.steps) = holds_at (λ (i : Journal). All P (made i.steps)) journals r j.0 (have k d lt) j.1 all in
    passed P (λ (y : Evaluated). eqb y.name.task.resource r) entries (subst (All P) (are r j.0 j.1) of_journal) k d lt (eq-eqb r r refl)

-- and the other way round
of_journals : (P : Evaluated → Type 0) (entries : List Evaluated) (journals : List Journal)
    → ((k : ℕ) (j : Journal) → slice_get journals k ≡ Some j → made j.steps ≡ entries_of k entries) → All P entries → All (λ (j : Journal). All P (made j.steps)) journals
of_journals P entries journals are all =
    all_from_places (λ (j : Journal). All P (made j.steps)) journals (λ k j at. subst (All P) (sym (are k j at)) (All-filter (λ (y : Evaluated). eqb y.name.task.resource k) P entries all))

-- what holds of steps that made evaluations holds of these
made_honest : (commands : List Command) (all : List (List ℕ)) (r : ℕ) (steps : List Step) → All (IsHonestStep commands all r) steps
    → All (λ (x : Evaluated). Contains commands (command_of x) × AreAt all x.heard) (made steps)
made_honest commands all r [] honest = All-nil (λ (x : Evaluated). Contains commands (command_of x) × AreAt all x.heard)
made_honest commands all r (Took x ∷ steps) honest = made_honest commands all r steps (All-tail (IsHonestStep commands all r) (Took x) steps honest)
made_honest commands all r (Heard of heard ∷ steps) honest = made_honest commands all r steps (All-tail (IsHonestStep commands all r) (Heard of heard) steps honest)
made_honest commands all r (Restarted ticket incarnation ∷ steps) honest = made_honest commands all r steps (All-tail (IsHonestStep commands all r) (Restarted ticket incarnation) steps honest)
made_honest commands all r (Made x ∷ steps) honest =
    All-cons (λ (x : Evaluated). Contains commands (command_of x) × AreAt all x.heard) x (made steps)
    (All-head (IsHonestStep commands all r) (Made x) steps honest) (made_honest commands all r steps (All-tail (IsHonestStep commands all r) (Made x) steps honest))

commanded_step : (commands : List Command) (all : List (List ℕ)) (r : ℕ) (s : Step) → IsHonestStep commands all r s → IsCommanded commands r s
commanded_step commands all r (Took x) honest = tt
commanded_step commands all r (Heard of heard) honest = tt
commanded_step commands all r (Made x) honest = tt
commanded_step commands all r (Restarted ticket incarnation) honest = honest

-- and the other way round
honest_steps : (commands : List Command) (all : List (List ℕ)) (r : ℕ) (steps : List Step) → All (λ (x : Evaluated). Contains commands (command_of x) × AreAt all x.heard) (made steps)
    → All (IsCommanded commands r) steps → All (IsHonestStep commands all r) steps
honest_steps commands all r [] of_made commanded = All-nil (IsHonestStep commands all r)
honest_steps commands all r (Took x ∷ steps) of_made commanded =
    All-cons (IsHonestStep commands all r) (Took x) steps tt (honest_steps commands all r steps of_made (All-tail (IsCommanded commands r) (Took x) steps commanded))
honest_steps commands all r (Heard of heard ∷ steps) of_made commanded =
    All-cons (IsHonestStep commands all r) (Heard of heard) steps tt (honest_steps commands all r steps of_made (All-tail (IsCommanded commands r) (Heard of heard) steps commanded))
honest_steps commands all r (Restarted ticket incarnation ∷ steps) of_made commanded =
    All-cons (IsHonestStep commands all r) (Restarted ticket incarnation) steps (All-head (IsCommanded commands r) (Restarted ticket incarnation) steps commanded)
    (honest_steps commands all r steps of_made (All-tail (IsCommanded commands r) (Restarted ticket incarnation) steps commanded))
honest_steps commands all r (Made x ∷ steps) of_made commanded =
    let Q : Evaluated → Type 0 = λ (x : Evaluated). Contains commands (command_of x) × AreAt all x.heard in
    All-cons (IsHonestStep commands all r) (Made x) steps (All-head Q x (made steps) of_made)
    (honest_steps commands all r steps (All-tail Q x (made steps) of_made) (All-tail (IsCommanded commands r) (Made x) steps commanded))

-- where they agree, the steps of all journals are honest exactly where the commands account for what was done
pub honest_tells : (plant : PlantValue) (commands : List Command) (book : BookValue) (journals : List Journal) → HaveJournals book.entries journals → Agree plant book journals
    → All (λ (j : Journal). All (IsHonestStep commands (map incarnations_of journals) j.resource) j.steps) journals ↔ AreCommanded commands book.entries journals
honest_tells plant commands book journals have agree = (
  λ honest.
      let of_made : All (λ (j : Journal). All Q (made j.steps)) journals = All-weaker H (λ (j : Journal). All Q (made j.steps)) (λ j h. made_honest commands all j.resource j.steps h) journals honest in
      let of_all : All Q book.entries = of_entries Q book.entries journals have (made_of plant book journals agree) of_made in
      record {
        evaluations = All-weaker Q (λ (x : Evaluated). Contains commands (command_of x)) (λ x q. q.0) book.entries of_all;
        restarts = All-weaker H (λ (j : Journal). All (IsCommanded commands j.resource) j.steps)
            (λ j h. All-weaker (IsHonestStep commands all j.resource) (IsCommanded commands j.resource) (commanded_step commands all j.resource) j.steps h) journals honest;
        heard = All-weaker Q (HasHeardTruly journals) (λ x q. truly journals x q.1) book.entries of_all;
      },
  λ commanded.
      let of_all : All Q book.entries = λ k d lt. (commanded.evaluations k d lt, at_places journals (get_or book.entries k d) (commanded.heard k d lt)) in
      let of_made : All (λ (j : Journal). All Q (made j.steps)) journals = of_journals Q book.entries journals (made_of plant book journals agree) of_all in
      λ k d lt. honest_steps commands all (get_or journals k d).resource (get_or journals k d).steps (of_made k d lt) (commanded.restarts k d lt),
)
  where
    all : List (List ℕ)
    all = map incarnations_of journals

    Q : Evaluated → Type 0
    Q x = Contains commands (command_of x) × AreAt all x.heard

    H : Journal → Type 0
    H j = All (IsHonestStep commands all j.resource) j.steps

-- what a call gives at each place, one by one
pub each_of : {F V E : Type 0} (G : Shared F (ℕ × Unit {0}) Looked) (f : F) (n : ℕ) (P : ℕ → Looked → Type 0) (items : V → List Looked) (r : Result V E) → IfOk r (λ v. GivesEach G f n (items v))
    → ((i : ℕ) (l : Looked) → G.post f (i, tt) l → P i l) → IfOk r (λ v. (i : ℕ) (d : Looked) → i < n → P i (get_or (items v) i d))
each_of G f n P items (Err e) gives says = tt
each_of G f n P items (Ok v) gives says = λ i d lt. says i (get_or (items v) i d) (gives i d lt).1.met

-- a vector is as long as its list
pub long_as : {X Z E : Type 0} (n : ℕ) (r : Result (Vec X Z) E) → IfOk r (λ v. vec_len v ≡ n) → IfOk r (λ v. length v.items ≡ n)
long_as n (Err e) many = tt
long_as n (Ok v) many = sym v.ok.0 ∙ many

-- one look at the journal of each place is one at each journal
pub looks_of : {V E : Type 0} (commands : List Command) (entries : List Evaluated) (all : List (List ℕ)) (journals : List Journal) (items : V → List Looked) (r : Result V E) → IfOk r (λ v. length (items v) ≡ length journals)
    → IfOk r (λ v. (i : ℕ) (d : Looked) → i < length journals → (j : Journal) → slice_get journals i ≡ Some j → IsLooked commands entries all j (get_or (items v) i d))
    → IfOk r (λ v. AreLooked commands entries all journals (items v))
looks_of commands entries all journals items (Err e) many each = tt
looks_of commands entries all journals items (Ok v) many each = record {
  many = many;
  each = λ k j l at found. subst (IsLooked commands entries all j) (get_or_from_slice_get (items v) k l l found) (each k l (slice_get_within journals k j at) j at);
}

-- so what the looks found holds of all journals
pub in_book_tells : (commands : List Command) (entries : List Evaluated) (all : List (List ℕ)) (journals : List Journal) (looked : List Looked) → AreLooked commands entries all journals looked
    → All (λ (l : Looked). IsTrue l.is_made) looked ↔ AreInBook entries journals
in_book_tells commands entries all journals looked are =
    all_tell (λ (j : Journal). made j.steps ≡ entries_of j.resource entries) (λ (l : Looked). l.is_made) journals looked are.many (λ k j l at found. (are.each k j l at found).made_is)

pub steps_tell : (commands : List Command) (entries : List Evaluated) (all : List (List ℕ)) (journals : List Journal) (looked : List Looked) → AreLooked commands entries all journals looked
    → All (λ (l : Looked). IsTrue l.is_honest) looked ↔ All (λ (j : Journal). All (IsHonestStep commands all j.resource) j.steps) journals
steps_tell commands entries all journals looked are =
    all_tell (λ (j : Journal). All (IsHonestStep commands all j.resource) j.steps) (λ (l : Looked). l.is_honest) journals looked are.many (λ k j l at found. (are.each k j l at found).honest_is)

pub tickets_tell : (commands : List Command) (entries : List Evaluated) (all : List (List ℕ)) (journals : List Journal) (looked : List Looked) → AreLooked commands entries all journals looked
    → All (λ (l : Looked). IsTrue l.is_rising) looked ↔ AreRising journals
tickets_tell commands entries all journals looked are =
    all_tell (λ (j : Journal). IsStrictlyIncreasing (tickets_of j.steps)) (λ (l : Looked). l.is_rising) journals looked are.many (λ k j l at found. (are.each k j l at found).rising_is)

-- one tells of what the other tells of
pub tells_on : {A B C : Type 0} → A ↔ B → B ↔ C → A ↔ C
tells_on one other = (λ a. other.0 (one.0 a), λ c. one.1 (other.1 c))
