use Rattle.ladder_text.specs.declared.places.place_fault.PlaceFault.TheVariants.{BadMark, Crossing, NoSource}
use Rattle.ladder_text.proofs.Faults.IllDrawn.{ill_place}
use Rattle.ladder_text.proofs.reading.check_places.Goals as goal

pub returns-in-Some-clause-refused : goal.returns-in-Some-clause-refused
returns-in-Some-clause-refused c = ill_place c.args.marked.now BadMark c.in-Some.place.row c.in-Some.place.column c.in-Some.ensures.some

pub returns-in-Some-first_fault-clause-refused : goal.returns-in-Some-first_fault-clause-refused
returns-in-Some-first_fault-clause-refused c = ill_place c.args.marked.now Crossing c.in-Some-first_fault.place.row c.in-Some-first_fault.place.column c.in-Some-first_fault.ensures.some

pub returns-in-Some-first_fault-2-clause-refused : goal.returns-in-Some-first_fault-2-clause-refused
returns-in-Some-first_fault-2-clause-refused c = ill_place c.args.marked.now NoSource c.in-Some-first_fault-2.place.row c.in-Some-first_fault-2.place.column c.in-Some-first_fault-2.ensures.some
