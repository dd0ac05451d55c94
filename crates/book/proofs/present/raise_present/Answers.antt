-- Each number is the greater of what it was and what the entry tells.
use Rattle.std.proofs.Common.{◌≡◌, ◌∙◌, arith, ap, max}
use Rattle.book.specs.Fits.{told_of}
use Rattle.book.proofs.present.raise_present.Goals as goal

pub returns : goal.returns
returns c = λ first older present. record {
  sized = c.loop-resource.invariant.0 ∙ present.sized;
  each = λ n within.
      let long = present.sized in
      c.loop-resource.invariant.1 n (omega (arith, within, long)) ∙ ap (max (told_of n c.args.evaluation.now)) (present.each n within);
}
