use Rattle.ladder_rows.proofs.laws.runs_end.Goals as goal

pub returns : goal.returns
returns c = Rattle.ladder_rows.proofs.Rows.Runs.run-is
