use Rattle.std.proofs.Common.{Some, None, take, length, ◌-◌, arith}
use Rattle.std.proofs.lemmas.Str.Pattern.{strip_suffix_char}
use Rattle.guidance.proofs.Returns.{return_off, no_return_off}
use Rattle.guidance.proofs.excerpt.without_return.Goals as goal

pub returns-in-Some : goal.returns-in-Some
returns-in-Some c =
    return_off c.args.part.now c.in-Some.line.now (strip_suffix_char 13 c.args.part.now (Some c.in-Some.line) c.in-Some.ensures.cases (omega arith))

pub returns-in-None : goal.returns-in-None
returns-in-None c =
    no_return_off c.args.part.now (strip_suffix_char 13 c.args.part.now None c.in-None.ensures.cases (omega arith) (take (length c.args.part.now - 1) c.args.part.now))
