use Rattle.plant_tests.proofs.NoLadders.{name_twice_refused, unattached_box_refused, tall_box_refused}
use Rattle.plant_tests.proofs.no_ladder.have_no_ladder.Goals as goal

pub returns : goal.returns
returns c = record { name_twice = name_twice_refused; unattached_box = unattached_box_refused; tall_box = tall_box_refused }
