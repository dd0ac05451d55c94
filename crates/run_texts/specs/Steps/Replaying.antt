-- The replay of a book in one thread.
use Rattle.std.specs.Prelude.{◌≡◌, ◌↔◌, ℕ, Bool, IsTrue, List, Some, slice_get}
use Rattle.plant.specs.PlantValue.{PlantValue}
use Rattle.evaluation.specs.Meaning.{Evaluated}
use Rattle.world.specs.declared.event.Event.{Event}
use Rattle.world.specs.History.{Setting, Openings, setting_over}
use Rattle.world.specs.Run.{IsRun}
use Rattle.book.specs.Book.{BookValue}
use Rattle.world.specs.Replays.{Replays}

-- the plant, from these first incarnations and openings, with numbers up to the greatest of 32 bits
abbrev pub replayed_in : PlantValue → List ℕ → Openings → Setting
replayed_in plant first opening = setting_over plant first opening 4294967295

-- Events that make the book's entries again were run in one thread, and this tells whether their run is those entries.
pub record IsReplay (plant : PlantValue) (first : List ℕ) (opening : Openings) (book : BookValue) (equal : Bool)
    : Type 0 where
  pub schedule : List Event
  pub again : Replays book.first book.entries schedule
  pub log : List Evaluated
  pub run : IsRun (replayed_in plant first opening) schedule log
  pub equal_is : IsTrue equal ↔ (log ≡ book.entries)

-- evaluations of one task at one place of two lists are by one code
abbrev pub AreOfOneCode : List Evaluated → List Evaluated → Type 0
AreOfOneCode xs ys =
    (k : ℕ) (x y : Evaluated) → slice_get xs k ≡ Some x → slice_get ys k ≡ Some y → x.name.task ≡ y.name.task → x.code ≡ y.code
