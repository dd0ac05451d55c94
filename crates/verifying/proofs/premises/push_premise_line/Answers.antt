use Rattle.std.proofs.Common.{length, string_bytes, sym, ap, ◌∙◌}
use Rattle.std.proofs.lemmas.Bool.{eq-eqb}
use Rattle.verifying.specs.Premises.{premises}
use Rattle.verifying.proofs.Premising.{line_written}
use Rattle.verifying.proofs.premises.push_premise_line.Goals as goal

pub returns : goal.returns
returns c =
    let made = c.in_ok-made.made in
    let joined = rw c.deref.ensures.value at c.in_ok-joined.ensures.ok in
    let added = rw c.as_str.ensures.value at c.in_ok-push_str-2.ensures.bytes in
    line_written (λ p. string_bytes p) made.items (premises c.args.setup.now c.args.constants.now) (string_bytes c.args.text.now) _ _ _ _
    c.in_ok-made.ensures (λ none. let e = sym (eq-eqb made.len 0 (made.ok.0 ∙ ap length none)) ∙ sym c.is_empty.ensures ∙ c.if-is_empty.false in cc)
    joined c.in_ok-push_str.ensures.bytes added c.in_ok-push_str-3.ensures.bytes
