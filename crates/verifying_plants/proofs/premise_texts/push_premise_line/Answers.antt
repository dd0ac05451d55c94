use Rattle.std.proofs.Common.{string_bytes}
use Rattle.verifying_plants.specs.VerdictTexts.{premises}
use Rattle.verifying_plants.proofs.Telling.{line_written}
use Rattle.verifying_plants.proofs.premise_texts.push_premise_line.Goals as goal

pub returns : goal.returns
returns c =
    let made = c.in_ok-made.made in
    let joined = rw c.deref.ensures.value at c.in_ok-joined.ensures.ok in
    let added = rw c.as_str.ensures.value at c.in_ok-push_str-2.ensures.bytes in
    line_written (λ p. string_bytes p) made.items (premises c.args.question.now c.args.zeros.now) (string_bytes c.args.text.now) _ _ _ _ c.in_ok-made.ensures joined c.in_ok-push_str.ensures.bytes added c.in_ok-push_str-3.ensures.bytes
