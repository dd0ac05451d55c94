use Rattle.plant_text.specs.declared.token.Token.{Token}
use Rattle.std.proofs.Common.{◌≡◌, ◌∷◌, [], sym, ◌∙◌, arith, List, refl, ◌<◌, ℕ}
use Rattle.lists.proofs.Results.{kept_fault}
use Rattle.plant_text.specs.declared.token.Token.TheVariants as token
use Rattle.plant_text.specs.declared.token.Keyword.TheVariants as key
use Rattle.plant_text.specs.declared.token.Punctuation.TheVariants as mark
use Rattle.plant_grammar.specs.Steps.Expected.{Key, ADuration, interval_rest, GetsStuck}
use Rattle.plant_grammar.proofs.UnexpectedWords.{key_stuck, mark_stuck, duration_stuck}
use Rattle.plant_grammar.proofs.StuckBehind.{stuck_after_key, stuck_after_mark}
use Rattle.plant_grammar.specs.Grammar.{key_word, mark_word, interval_words}
use Rattle.plant_grammar.specs.Steps.SoundWords.{BeginsWords}
use Rattle.plant_grammar.proofs.grammar.reader.Reader.interval.Goals as goal

pub returns-in_err-keyword-clause-stuck : goal.returns-in_err-keyword-clause-stuck
returns-in_err-keyword-clause-stuck c =
    let fault = c.in_err-keyword.field-0.0 in
    let Known : List Token → Type 0 = BeginsWords interval_words (λ (n : ℕ). 0 < n) in
    kept_fault fault (GetsStuck Known (Key key.Interval ∷ interval_rest) c.args.self.now) c.from_residual.result c.from_residual.ensures.1
    (key_stuck Known (1, omega arith, (interval_words 1, refl)) key.Interval interval_rest c.args.self.now fault c.in_err-keyword.ensures.err.0 c.in_err-keyword.ensures.other)

pub returns-in_err-punctuation-clause-stuck : goal.returns-in_err-punctuation-clause-stuck
returns-in_err-punctuation-clause-stuck c =
    let fault = c.in_err-punctuation.field-0.0 in
    let one = c.keyword.new.self in
    let Known : List Token → Type 0 = BeginsWords interval_words (λ (n : ℕ). 0 < n) in
    kept_fault fault (GetsStuck Known (Key key.Interval ∷ interval_rest) c.args.self.now) c.from_residual-in_err-punctuation.result c.from_residual-in_err-punctuation.ensures.1
    (stuck_after_key Known key.Interval interval_rest c.args.self.now one fault c.in_ok-keyword.ensures.ok c.in_ok-keyword.ensures.left
    (mark_stuck (λ w. Known (key_word key.Interval ∷ w)) (1, omega arith, (mark_word mark.Assign ∷ token.Duration 1 ∷ [], refl)) mark.Assign (ADuration ∷ []) one fault c.in_err-punctuation.ensures.err.0 c.in_err-punctuation.ensures.other))

pub returns-in_err-interval-clause-stuck : goal.returns-in_err-interval-clause-stuck
returns-in_err-interval-clause-stuck c =
    let fault = c.in_err-interval.field-0.0 in
    let one = c.keyword.new.self in
    let two = c.punctuation.new.self in
    let Known : List Token → Type 0 = BeginsWords interval_words (λ (n : ℕ). 0 < n) in
    kept_fault fault (GetsStuck Known (Key key.Interval ∷ interval_rest) c.args.self.now) c.from_residual-in_err-interval.result c.from_residual-in_err-interval.ensures.1
    (stuck_after_key Known key.Interval interval_rest c.args.self.now one fault c.in_ok-keyword.ensures.ok c.in_ok-keyword.ensures.left
    (stuck_after_mark (λ w. Known (key_word key.Interval ∷ w)) mark.Assign (ADuration ∷ []) one two fault c.in_ok-punctuation.ensures.ok c.in_ok-punctuation.ensures.left
    (duration_stuck (λ w. Known (key_word key.Interval ∷ mark_word mark.Assign ∷ w)) (1, omega arith, (token.Duration 1 ∷ [], refl)) [] two fault c.in_err-interval.ensures.err.0 (λ n rest e positive. c.in_err-interval.ensures.other n rest e))))

pub returns-then-interval-eq0-clause-stuck : goal.returns-then-interval-eq0-clause-stuck
returns-then-interval-eq0-clause-stuck c =
    let fault = c.syntax-zero.result in
    let one = c.keyword.new.self in
    let two = c.punctuation.new.self in
    let Known : List Token → Type 0 = BeginsWords interval_words (λ (n : ℕ). 0 < n) in
    stuck_after_key Known key.Interval interval_rest c.args.self.now one fault c.in_ok-keyword.ensures.ok c.in_ok-keyword.ensures.left
    (stuck_after_mark (λ w. Known (key_word key.Interval ∷ w)) mark.Assign (ADuration ∷ []) one two fault c.in_ok-punctuation.ensures.ok c.in_ok-punctuation.ensures.left
    (duration_stuck (λ w. Known (key_word key.Interval ∷ mark_word mark.Assign ∷ w)) (1, omega arith, (token.Duration 1 ∷ [], refl)) [] two fault c.syntax-zero.ensures (λ n rest e positive.
    let words : token.Duration c.in_ok-interval.interval ∷ c.duration.new.self.words ≡ token.Duration n ∷ rest = sym c.in_ok-interval.ensures.ok ∙ e in
    let same : c.in_ok-interval.interval ≡ n = cc (words) in
    omega (arith, same, positive, c.if-interval-eq0.true))))
