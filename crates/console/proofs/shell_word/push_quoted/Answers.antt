use Rattle.std.proofs.Common.{◌++◌, ap, string_bytes, sym, ◌∙◌}
use Rattle.std.proofs.lemmas.List.{map-id}
use Rattle.std.proofs.lemmas.Iterator.{YieldsList-from_chars}
use Rattle.std.proofs.lemmas.Iterator.Consumers.{YieldsList-end}
use Rattle.std.specs.List.{flat_map}
use Rattle.console.specs.ShellWord.{quoted_char}
use Rattle.console.proofs.shell_word.push_quoted.Goals as goal

pub returns : goal.returns
returns c =
    let e = YieldsList-end (YieldsList-from_chars c.args.path.now c.utf8.path (cc)) c.loop-sign.yielded _ c.loop-sign.yielded_by _ _ c.in-None.is c.next.ensures.steps in
    c.loop-sign.invariant ∙ ap (λ l. string_bytes c.args.word.now ++ flat_map quoted_char l) (sym (map-id c.loop-sign.yielded) ∙ e.0)
