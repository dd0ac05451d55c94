use Rattle.clap.specs.Words.{found_of}
use Rattle.clap.proofs.WalkLemmas.{first_value-rows}
use Rattle.console.proofs.Matching.{no_word, one_word}
use Rattle.console.proofs.command_words.given_word.Goals as goal

pub returns-in-None : goal.returns-in-None
returns-in-None c = no_word c.get_str.result _ _ c.get_str.ensures (first_value-rows (found_of c.args.matches.now) c.args.id.now) c.in-None.is

pub returns-in-Some : goal.returns-in-Some
returns-in-Some c = one_word c.get_str.result _ _ c.in-Some.word c.get_str.ensures (first_value-rows (found_of c.args.matches.now) c.args.id.now) c.in-Some.is
