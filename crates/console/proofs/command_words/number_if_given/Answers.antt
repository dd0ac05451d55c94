use Rattle.clap.specs.Words.{found_of}
use Rattle.clap.proofs.WalkLemmas.{first_value-rows}
use Rattle.console.proofs.Matching.{no_good_option, no_option, one_option}
use Rattle.console.proofs.command_words.number_if_given.Goals as goal

pub returns-in-None-clause-ok : goal.returns-in-None-clause-ok
returns-in-None-clause-ok c = no_option c.get_str.result _ _ c.get_str.ensures (first_value-rows (found_of c.args.matches.now) c.args.id.now) c.in-None.is

pub returns-in-Some-number-clause-ok : goal.returns-in-Some-number-clause-ok
returns-in-Some-number-clause-ok c = one_option c.get_str.result _ _ c.in-Some.text c.in-Some-number.n c.get_str.ensures (first_value-rows (found_of c.args.matches.now) c.args.id.now) c.in-Some.is c.in-Some-number.ensures

pub returns-in_ok-error-in-None-number-clause-refused : goal.returns-in_ok-error-in-None-number-clause-refused
returns-in_ok-error-in-None-number-clause-refused c =
    no_good_option c.get_str.result _ _ c.in-Some.text c.in_ok-error-in-None-number.field-0 c.get_str.ensures (first_value-rows (found_of c.args.matches.now) c.args.id.now) c.in-Some.is c.in-None-number.ensures
