use Rattle.plant_text.specs.declared.token.Token.TheVariants as token
use Rattle.plant_text.specs.declared.token.Token.{Token}
use Rattle.std.proofs.Common.{◌∷◌, [], List, refl, ℕ}
use Rattle.lists.proofs.Results.{kept_fault}
use Rattle.plant_text.specs.declared.token.Keyword.TheVariants as key
use Rattle.plant_text.specs.declared.token.Punctuation.TheVariants as mark
use Rattle.plant_grammar.specs.Steps.Expected.{Key, ANumber, priority_rest, GetsStuck}
use Rattle.plant_grammar.proofs.RefusedNames.{both_told}
use Rattle.plant_grammar.proofs.UnexpectedWords.{key_stuck, mark_stuck, number_stuck}
use Rattle.plant_grammar.proofs.StuckBehind.{stuck_after_key, stuck_after_mark}
use Rattle.plant_grammar.specs.Grammar.{key_word, mark_word, priority_words}
use Rattle.plant_grammar.specs.Steps.SoundWords.{BeginsWords}
use Rattle.plant_grammar.proofs.grammar.reader.Reader.priority.Goals as priority_goals

pub returns-in_err-keyword-clause-stuck : priority_goals.returns-in_err-keyword-clause-stuck
returns-in_err-keyword-clause-stuck c =
    let fault = c.in_err-keyword.field-0.0 in
    let Known : List Token → Type 0 = BeginsWords priority_words (λ (n : ℕ). Unit {0}) in
    kept_fault fault (GetsStuck Known (Key key.Priority ∷ priority_rest) c.args.self.now) c.from_residual.result c.from_residual.ensures.1
    (key_stuck Known (0, tt, (priority_words 0, refl)) key.Priority priority_rest c.args.self.now fault c.in_err-keyword.ensures.err.0 c.in_err-keyword.ensures.other)

pub returns-in_err-punctuation-clause-stuck : priority_goals.returns-in_err-punctuation-clause-stuck
returns-in_err-punctuation-clause-stuck c =
    let fault = c.in_err-punctuation.field-0.0 in
    let one = c.keyword.new.self in
    let Known : List Token → Type 0 = BeginsWords priority_words (λ (n : ℕ). Unit {0}) in
    kept_fault fault (GetsStuck Known (Key key.Priority ∷ priority_rest) c.args.self.now) c.from_residual-in_err-punctuation.result c.from_residual-in_err-punctuation.ensures.1
    (stuck_after_key Known key.Priority priority_rest c.args.self.now one fault c.in_ok-keyword.ensures.ok c.in_ok-keyword.ensures.left
    (mark_stuck (λ w. Known (key_word key.Priority ∷ w)) (0, tt, (mark_word mark.Assign ∷ token.Number 0 ∷ [], refl)) mark.Assign (ANumber ∷ []) one fault c.in_err-punctuation.ensures.err.0 c.in_err-punctuation.ensures.other))

pub returns-clause-stuck : priority_goals.returns-clause-stuck
returns-clause-stuck c =
    let one = c.keyword.new.self in
    let two = c.punctuation.new.self in
    let Known : List Token → Type 0 = BeginsWords priority_words (λ (n : ℕ). Unit {0}) in
    both_told c.number.result _ _ _
    (λ fault err other. stuck_after_key Known key.Priority priority_rest c.args.self.now one fault c.in_ok-keyword.ensures.ok c.in_ok-keyword.ensures.left
    (stuck_after_mark (λ w. Known (key_word key.Priority ∷ w)) mark.Assign (ANumber ∷ []) one two fault c.in_ok-punctuation.ensures.ok c.in_ok-punctuation.ensures.left
    (number_stuck (λ w. Known (key_word key.Priority ∷ mark_word mark.Assign ∷ w)) (0, tt, (token.Number 0 ∷ [], refl)) [] two fault err.0 other)))
    c.number.ensures.err c.number.ensures.other
