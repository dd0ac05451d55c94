use Rattle.std.proofs.Common.{◌≡◌, ◌+◌, ◌∙◌, ap, cond, min}
use Rattle.std.specs.Global.{Vec}
use Rattle.gates.specs.declared.signal.Signal.{Signal}
use Rattle.gates.specs.Signals.{signal_value}
use Rattle.gate_words.specs.Words.{word_value}
use Rattle.gate_words.proofs.BitLaws.{at_most_of}
use Rattle.gate_words.proofs.Built.{built_by}
use Rattle.gate_words.proofs.adding.bounded_sum.Goals as goal

pub returns : goal.returns
returns c =
    let word = c.as_slice-word.result.now in
    let left = c.args.left.now in
    let right = c.args.right.now in
    let bound = c.args.bound.now in
    built_by c.args.gates.now c.at_most.new.gates c.if_then_else.new.gates
    (λ (w : Vec Signal) v. word_value v w.items ≡ cond (signal_value v c.in_ok-fits.fits) (word_value v word) (word_value v bound))
    (λ (w : Vec Signal) v. word_value v w.items ≡ min (word_value v left + word_value v right) (word_value v bound))
    (λ v agrees. (c.in_ok-all.ensures v (c.in_ok-fits.ensures v agrees).0).0)
    (λ w v agrees e.
    let fits = c.in_ok-fits.ensures v agrees in
    let all = c.in_ok-all.ensures v fits.0 in
    e ∙ ap (λ b. cond b (word_value v word) (word_value v bound)) fits.1 ∙ at_most_of (word_value v word) (word_value v bound)
    ∙ ap (λ k. min k (word_value v bound)) (ap (word_value v) c.as_slice-word.ensures.value ∙ all.1))
    c.if_then_else.result c.if_then_else.ensures
