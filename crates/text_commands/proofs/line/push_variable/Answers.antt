use Rattle.std.proofs.Common.{◌≡◌, List, ℕ, OnOk, string_bytes, ◌∙◌, sym, subst}
use Rattle.text_commands.proofs.VariableLines.{line-more, line-same}
use Rattle.text_commands.proofs.line.push_variable.Goals as goal

pub returns-in_default-get : goal.returns-in_default-get
returns-in_default-get c = line-same c.args.declarations.now c.args.state.now.slots c.args.place (string_bytes c.args.line.now) (sym c.get.ensures ∙ c.in_default-get.is) c.requires.before

pub returns : goal.returns
returns c = subst (λ (t : List ℕ). OnOk c.push_item.result (string_bytes c.push_item.new.line ≡ t))
    (line-more c.args.declarations.now c.args.state.now.slots c.args.place (record { name = c.in-Some.name.now; declared = c.in-Some.field-0-1 }) c.in-Some-get.value (string_bytes c.args.line.now) c.in-Some.ensures (sym c.get.ensures ∙ c.in-Some-get.is) c.requires.before)
    c.push_item.ensures
