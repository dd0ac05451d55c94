use Rattle.std.proofs.Common.{◌<◌, ◌≤◌, ◌≡◌, ◌&&◌, ◌∙◌, sym, arith, true, inl, inr}
use Rattle.std.specs.Prelude.{nat_le}
use Rattle.std.proofs.lemmas.Bool.{and_parts, cases_lt, leb-true, ltb-true}
use Rattle.ladder_text.specs.Names.{overlap}
use Rattle.ladder_text.specs.Steps.Pairs.{span_at}
use Rattle.ladder_text.proofs.Words.NamedSymbols.{pairs-more}
use Rattle.ladder_text.proofs.names.pairs.are_paired.Goals as goal

pub loop-index-preserved : goal.loop-index-preserved
loop-index-preserved c =
    let xs = c.args.words.now in
    let ys = c.args.symbols.now in
    let n = c.loop-index.index in
    let from = c.loop-index.from in
    let before = c.loop-index.invariant in
    let is : (nat_le from (span_at xs n).first && nat_le from (span_at ys n).first && overlap (span_at xs n) (span_at ys n)) ≡ true = sym c.is_pair.ensures ∙ c.if-not-is_pair.false in
    let p = and_parts _ _ is in
    let q = and_parts _ _ p.0 in
    let first : from ≤ (span_at xs n).first = leb-true _ _ q.0 in
    let within : (span_at xs n).first < (span_at ys n).end = ltb-true _ _ (and_parts _ _ p.1).0 in
    let end = c.max-from.ensures in
    record {
      pairs = pairs-more xs ys n from before.pairs before.words_end before.symbols_end first (leb-true _ _ q.1) p.1;
      words_end = λ k h. elim (cases_lt k n) [
        | inl l ↦ omega (arith, before.words_end k l)
        | inr l ↦ let e : k ≡ n = omega arith in rw e (omega arith)
      ];
      symbols_end = λ k h. elim (cases_lt k n) [
        | inl l ↦ omega (arith, before.symbols_end k l)
        | inr l ↦ let e : k ≡ n = omega arith in rw e (omega arith)
      ];
    }
