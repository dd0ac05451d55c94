-- Names differ, so an entry that has the name is the newest that has it.
use Rattle.std.proofs.Common.{◌≡◌, ◌↔◌, Some, sym, subst}
use Rattle.std.specs.Prelude.{slice_get}
use Rattle.std.specs.Option.{option_map}
use Rattle.evaluation.specs.Meaning.{Evaluated}
use Rattle.book.proofs.Ledgered.{place-is}
use Rattle.book.proofs.book.Book.position_of.Goals as goal

pub returns : goal.returns
returns c = λ k.
    subst (λ o. (o ≡ Some k) ↔ (option_map (λ (y : Evaluated). y.name) (slice_get c.args.self.now.entries k) ≡ Some c.args.name)) (sym c.place_of.ensures.value)
    (place-is c.args.self.now.first c.args.name c.args.self.now.entries c.place_of.ensures.fit k)
