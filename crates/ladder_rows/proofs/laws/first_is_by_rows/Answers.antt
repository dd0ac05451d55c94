use Rattle.ladder_rows.proofs.laws.first_is_by_rows.Goals as goal

pub returns : goal.returns
returns c = Rattle.ladder_rows.proofs.Rows.FirstPlaces.found_first
