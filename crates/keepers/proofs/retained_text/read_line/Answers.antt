-- A text that begins with the variable's name and a line feed, and what that makes of its line.
use Rattle.std.proofs.Common.{◌≡◌, ◌+◌, ◌∙◌, ℕ, List, Option, Some, take, sym, subst}
use Rattle.std_blocks.specs.declared.value.Value.{Value}
use Rattle.text_lines.specs.ReadParts.{IsBehind}
use Rattle.keepers.specs.KeptRetained.{before_value, BeginsWith}
use Rattle.keepers.specs.Steps.Reading.{IsValueOf}
use Rattle.keepers.proofs.ReadTexts.{no_feed, no_value_there, one_value_read, rest_drop}
use Rattle.keepers.proofs.retained_text.read_line.Goals as goal

pub returns-in_default-line_end : goal.returns-in_default-line_end
returns-in_default-line_end c =
    let name : c.as_bytes.result.now ≡ before_value c.args.code.now c.args.variable = c.as_bytes.ensures.value ∙ c.in_ok-before.ensures in
    let begins = subst (λ (l : List ℕ). IsBehind c.args.text.now l (Some c.in-Some.behind.now)) name c.in-Some.ensures in
    no_feed c.args.code.now c.args.variable c.args.text.now c.in-Some.behind.now begins (sym c.line_end.ensures ∙ c.in_default-line_end.is)

pub returns-in-Some-2 : goal.returns-in-Some-2
returns-in-Some-2 c =
    let code = c.args.code.now in
    let v = c.args.variable in
    let b = c.in-Some.behind.now in
    let end = c.in-Some-line_end.end in
    let x = c.in-Some-2.value in
    let name : c.as_bytes.result.now ≡ before_value code v = c.as_bytes.ensures.value ∙ c.in_ok-before.ensures in
    let begins = subst (λ (l : List ℕ). IsBehind c.args.text.now l (Some b)) name c.in-Some.ensures in
    let found = subst (λ (o : Option Value). IsValueOf v.kind (take end b) o) c.in-Some-2.is c.in_ok-value.ensures in
    subst (λ (l : List ℕ). BeginsWith code v c.args.text.now x l) (sym (rest_drop (end + 1) b))
    (one_value_read code v c.args.text.now b end x begins (sym c.line_end.ensures ∙ c.in-Some-line_end.is) found)

pub returns : goal.returns
returns c =
    let code = c.args.code.now in
    let v = c.args.variable in
    let b = c.in-Some.behind.now in
    let end = c.in-Some-line_end.end in
    let name : c.as_bytes.result.now ≡ before_value code v = c.as_bytes.ensures.value ∙ c.in_ok-before.ensures in
    let begins = subst (λ (l : List ℕ). IsBehind c.args.text.now l (Some b)) name c.in-Some.ensures in
    let found = subst (λ (o : Option Value). IsValueOf v.kind (take end b) o) c.in-None.is c.in_ok-value.ensures in
    no_value_there code v c.args.text.now b end begins (sym c.line_end.ensures ∙ c.in-Some-line_end.is) found
