-- What stands for a flag is a text, or there is none.
use Rattle.clap.specs.Words.{found_of}
use Rattle.clap.proofs.WalkLemmas.{first_value-rows}
use Rattle.console.proofs.Matching.{no_flag, some_flag}
use Rattle.console.proofs.command_words.is_given.Goals as goal

pub returns-in-None : goal.returns-in-None
returns-in-None c = no_flag c.get_str.result _ _ c.get_str.ensures (first_value-rows (found_of c.args.matches.now) c.args.id.now) c.in-None.is

pub returns-in-Some : goal.returns-in-Some
returns-in-Some c = some_flag c.get_str.result _ _ c.in-Some.text c.eq.result c.get_str.ensures (first_value-rows (found_of c.args.matches.now) c.args.id.now) c.in-Some.is c.eq.ensures
