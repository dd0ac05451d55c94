use Rattle.std.proofs.Common.{◌+◌, ◌*◌, ◌/◌, [], ◌∷◌, ◌++◌, length, ap, ◌∙◌}
use Rattle.std.proofs.lemmas.List.{length_push}
use Rattle.gate_words.specs.Words.{word_value}
use Rattle.gate_words.specs.Steps.Bits.{weight}
use Rattle.gate_words.proofs.BitLaws.{nothing_left}
use Rattle.gate_words.proofs.WordLaws.{rest_more}
use Rattle.gate_words.proofs.numbers.constant.Goals as goal

pub loop-rest-preserved : goal.loop-rest-preserved
loop-rest-preserved c = λ v agrees.
    let word = c.loop-rest.word.items in
    let s = c.constant-lowest.result in
    let half = c.loop-rest.rest / 2 in
    ap (λ ws. word_value v ws + weight (length ws) * half) c.in_ok-push.ensures.items
    ∙ ap (λ k. word_value v (word ++ s ∷ []) + weight k * half) (length_push word s)
    ∙ rest_more v word s c.loop-rest.rest c.args.number (c.loop-rest.invariant v agrees) (c.constant-lowest.ensures v agrees)

pub returns : goal.returns
returns c = λ v agrees.
    let word = c.loop-rest.word.items in
    nothing_left (word_value v word) (weight (length word)) c.loop-rest.rest c.args.number c.loop-rest-test.false
    (c.loop-rest.invariant v agrees)
