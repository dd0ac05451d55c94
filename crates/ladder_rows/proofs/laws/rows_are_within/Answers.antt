use Rattle.ladder_rows.proofs.laws.rows_are_within.Goals as goal

pub returns : goal.returns
returns c = Rattle.ladder_rows.proofs.Rows.Limits.rows_within
