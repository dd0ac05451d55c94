use Rattle.std.proofs.Common.{◌≡◌, ◌+◌, min, [], ◌∷◌, replicate, ap, ◌∙◌}
use Rattle.gate_words.specs.Words.{number_of, word_value}
use Rattle.gate_words.specs.Values.{int_at}
use Rattle.block_gates.proofs.Counts.{bounded_lt, one_more_raised}
use Rattle.block_gates.proofs.counting.one_more_of.Goals as goal

pub returns : goal.returns
returns c = λ v agrees.
    let n = word_value v c.raised-raised.result in
    let bits = word_value v c.as_slice-bits.result.now in
    let added = c.in_ok-word.ensures v agrees in
    let on = c.constant-on.ensures v added.0 in
    let is : bits ≡ min (n + 1) 65535 =
    ap (word_value v) c.as_slice-bits.ensures.value ∙ added.1
    ∙ ap (λ t. min (n + number_of (t ∷ [])) (number_of (replicate 16 t))) on in (
      added.0,
      one_more_raised (int_at v c.args.count.now) (int_at v c.in_ok-new.new) n bits (c.raised-raised.ensures.value v)
          (c.raised-raised.ensures.fits v) (c.in_ok-new.ensures v agrees (bounded_lt bits (n + 1) is)) is,
    )
