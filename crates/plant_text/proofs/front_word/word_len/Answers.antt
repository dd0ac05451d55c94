use Rattle.plant_text.proofs.FirstWords.{run_parted_at, percent_parted}
use Rattle.plant_text.proofs.front_word.word_len.Goals as goal

pub returns-in-37-clause-parted : goal.returns-in-37-clause-parted
returns-in-37-clause-parted c = percent_parted c.args.text.now c.run_len.result c.run_len.ensures

pub returns-in-len1-up-clause-parted : goal.returns-in-len1-up-clause-parted
returns-in-len1-up-clause-parted c = run_parted_at c.args.text.now c.run_len-in-len1-up.result c.run_len-in-len1-up.ensures
