-- Resources that go through their lines, and the book that they make.
use Rattle.std.specs.Prelude.{◌≡◌, ◌≢◌, ℕ, ◌+◌, ◌<◌, ◌≤◌, ◌++◌, List, [], ◌∷◌, All, Contains, Some, length, replicate, slice_get, slice_index, slice_set, sum}
use Rattle.plant.specs.PlantValue.{PlantValue}
use Rattle.evaluation.specs.Meaning.{Evaluated}
use Rattle.book.specs.Book.{BookValue}
use Rattle.node_reports.specs.declared.journal.Journal.{Journal}
use Rattle.node_reports.specs.declared.step.Step.{Step}
use Rattle.node_reports.specs.declared.step.Step.TheVariants.{Took, Made, Restarted, Heard}
use Rattle.node_reports.specs.Journals.{made, received, IsLawful}
use Rattle.node_reports.specs.Stations.{StationValue, PendingValue}
use Rattle.node_reports.specs.Reports.{entries_of}
use Rattle.audit.specs.Lines.{zeros}
use Rattle.audit.specs.Reasons.{present_of, risen_to, skipped_of}
pub use Rattle.audit.specs.Steps.AuditedBook.{AuditedBook, risen_at, CanBeHeard}
use Rattle.audit.specs.Steps.Following.{IsFollowed}
use Rattle.audit.specs.declared.follower.Follower.{Follower}
use Rattle.audit.specs.declared.standing.Standing.{Standing}
use Rattle.audit.specs.declared.standing.Standing.TheVariants.{Going, Ended}

-- the book before the first entry
abbrev pub empty_book : PlantValue → AuditedBook
empty_book plant =
    record { plant = plant; book = record { first = zeros plant; entries = [] }; present = zeros plant; risen = replicate (length plant.resources) []; skips = zeros plant }

-- one more incarnation in which a resource was put
abbrev pub put_in : AuditedBook → ℕ → ℕ → AuditedBook
put_in b resource incarnation =
    record b { risen = slice_set b.risen resource (risen_at b resource ++ incarnation ∷ []) }

-- one resource has come to another incarnation, and skipped so many
abbrev pub raised : AuditedBook → ℕ → ℕ → ℕ → AuditedBook
raised b resource incarnation skipped = record b {
  present = slice_set b.present resource incarnation;
  skips = slice_set b.skips resource (slice_index b.skips resource + skipped);
}

-- where a step hears of a resource's incarnation, it can be heard
abbrev pub HearsKnown : AuditedBook → Step → Type 0
HearsKnown b (Took x) = Unit {0}
HearsKnown b (Made x) = Unit {0}
HearsKnown b (Restarted ticket incarnation) = Unit {0}
HearsKnown b (Heard of incarnation) = CanBeHeard b of incarnation

-- the journal of a resource that began in 0: what it made are the book's entries of it, what it received are entries, and
-- its incarnations are noted, how many it has skipped, and all of which it heard can be heard
pub record IsJournalOf (b : AuditedBook) (j : Journal) : Type 0 where
  pub first_is : j.first ≡ 0
  pub exists : j.resource < length b.present
  pub counted : j.resource < length b.skips
  pub present_is : slice_index b.present j.resource ≡ present_of j
  pub skipped_is : slice_index b.skips j.resource ≡ skipped_of j
  pub few : length (risen_to j) ≤ present_of j
  pub listed : j.resource < length b.risen
  pub risen_is : risen_at b j.resource ≡ risen_to j
  pub hearings : All (HearsKnown b) j.steps
  pub made_is : made j.steps ≡ entries_of j.resource b.book.entries
  pub delivered : All (Contains b.book.entries) (received j.steps)

-- a resource of the plant that goes on
pub record IsGoing (b : AuditedBook) (s : StationValue) : Type 0 where
  pub plant_is : s.core.plant ≡ b.plant
  pub firsts_are : s.core.first ≡ zeros b.plant
  pub limit_is : s.core.max_number ≡ 4294967295
  pub core_is : s.core.resource ≡ s.journal.resource
  pub incarnation_is : s.core.incarnation ≡ present_of s.journal
  pub journal : IsJournalOf b s.journal

-- a resource that has made an evaluation, which isn't entered yet
pub record IsPendingFor (b : AuditedBook) (p : PendingValue) : Type 0 where
  pub going : IsGoing b (record { core = p.core; journal = p.journal })
  pub own : p.made.name.task.resource ≡ p.journal.resource

-- the lawful journal of one that can't go on
pub record IsEnded (b : AuditedBook) (j : Journal) : Type 0 where
  pub lawful : IsLawful b.plant (zeros b.plant) 4294967295 j
  pub journal : IsJournalOf b j

abbrev pub IsStanding : AuditedBook → Standing → Type 0
IsStanding b (Going s) = IsGoing b s
IsStanding b (Ended j) = IsEnded b j

-- its journal
abbrev pub journal_in : Standing → Journal
journal_in (Going s) = s.journal
journal_in (Ended j) = j

-- a book has the entries of another one, and later ones
pub record IsLater (old new : BookValue) : Type 0 where
  pub first_is : new.first ≡ old.first
  pub later : List Evaluated
  pub entries_are : new.entries ≡ old.entries ++ later

-- a book has the entries of another one, and later ones, and as many incarnations are skipped, or more
pub record IsFurther (old new : AuditedBook) : Type 0 where
  pub later : IsLater old.book new.book
  pub more : sum old.skips ≤ sum new.skips

-- a book has grown by entries of one resource alone, which may have come to another incarnation
pub record Grows (resource : ℕ) (old new : AuditedBook) : Type 0 where
  pub plant_is : new.plant ≡ old.plant
  pub further : IsFurther old new
  pub others : (r : ℕ) → r ≢ resource → entries_of r new.book.entries ≡ entries_of r old.book.entries
  pub long : length new.present ≡ length old.present
  pub still : (r : ℕ) → r ≢ resource → slice_index new.present r ≡ slice_index old.present r
  pub as_many : length new.skips ≡ length old.skips
  pub skips_still : (r : ℕ) → r ≢ resource → slice_index new.skips r ≡ slice_index old.skips r
  pub as_long : length new.risen ≡ length old.risen
  pub risen_still : (r : ℕ) → r ≢ resource → risen_at new r ≡ risen_at old r
  pub heard : (r i : ℕ) → CanBeHeard old r i → CanBeHeard new r i

-- a book of the same plant, in which the resources begin in the same incarnations
pub record IsOfSame (old new : AuditedBook) : Type 0 where
  pub plant_is : new.plant ≡ old.plant
  pub first_is : new.book.first ≡ old.book.first
  pub as_many : length new.skips ≡ length old.skips

-- a resource has gone on, and the book has grown by what it made
pub record Goes (old new : AuditedBook) (from to : Standing) : Type 0 where
  pub stands : IsStanding new to
  pub resource_is : (journal_in to).resource ≡ (journal_in from).resource
  pub grows : Grows (journal_in from).resource old new

-- a resource at its place among all
pub record IsAt (b : AuditedBook) (place : ℕ) (f : Follower) : Type 0 where
  pub stands : IsStanding b f.standing
  pub resource_is : (journal_in f.standing).resource ≡ place
  pub followed : IsFollowed b.plant b place f

-- these resources stand at the places from this one on
abbrev pub AreFrom : AuditedBook → ℕ → List Follower → Type 0
AreFrom b from fs = (k : ℕ) (f : Follower) → slice_get fs k ≡ Some f → IsAt b (from + k) f

-- these journals are those of the resources from this place on
abbrev pub AreJournalsFrom : AuditedBook → ℕ → List Journal → Type 0
AreJournalsFrom b from journals =
    (k : ℕ) (j : Journal) → slice_get journals k ≡ Some j → IsEnded b j × (j.resource ≡ from + k)
