-- Among rising places a search by halving finds the pair.
use Rattle.std.proofs.Common.{rules}
use Rattle.std.proofs.lemmas.List.Sorted.{answers_always}
use Rattle.book.specs.declared.book.ledger.place.Place.{Place}
use Rattle.book.proofs.Ledgers.{comparisons-rise, place-found, place-between}
use Rattle.book.proofs.book.ledger.places.search_place.Goals as goal

pub returns-in-Ok : goal.returns-in-Ok
returns-in-Ok c = λ rising. place-found c.args.incarnation c.args.number c.args.places.now rising c.in-Ok.i _ c.in-Ok.ensures.bound (c.in-Ok.ensures.position (λ (p : Place). (p.incarnation, p.number)) (answers_always _ _ _ (λ f a r g called. search rules)) _)

pub returns-in-Err : goal.returns-in-Err
returns-in-Err c = λ rising. place-between c.args.incarnation c.args.number c.args.places.now c.in-Err.field-0
    (c.in-Err.ensures.position (λ (p : Place). (p.incarnation, p.number)) (answers_always _ _ _ (λ f a r g called. search rules)) (comparisons-rise c.args.incarnation c.args.number c.args.places.now rising))
