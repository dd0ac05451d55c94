use Rattle.plant_text.specs.declared.token.Token.TheVariants as token
use Rattle.plant_text.specs.declared.token.Token.{Token}
use Rattle.std.proofs.Common.{[], ◌∷◌, refl, List, ℕ}
use Rattle.lists.proofs.Results.{kept_fault}
use Rattle.plant_text.specs.declared.token.Keyword.TheVariants as key
use Rattle.plant_grammar.specs.Steps.Expected.{Key, ABody, GetsStuck}
use Rattle.plant_grammar.proofs.UnexpectedWords.{key_stuck, body_stuck}
use Rattle.plant_grammar.proofs.StuckBehind.{stuck_after_body}
use Rattle.plant_grammar.specs.Grammar.{key_word}
use Rattle.plant_grammar.specs.Steps.SoundWords.{BeginsWords, end_words}
use Rattle.plant_grammar.proofs.grammar.reader.Reader.program_end.Goals as goal

pub returns-in_err-body-clause-stuck : goal.returns-in_err-body-clause-stuck
returns-in_err-body-clause-stuck c =
    let fault = c.in_err-body.field-0.0 in
    let Known : List Token → Type 0 = BeginsWords end_words (λ (b : List ℕ). Unit {0}) in
    kept_fault fault (GetsStuck Known (ABody ∷ Key key.EndProgram ∷ []) c.args.self.now) c.from_residual.result c.from_residual.ensures.1
    (body_stuck Known ([], tt, (end_words [], refl)) (Key key.EndProgram ∷ []) c.args.self.now fault c.in_err-body.ensures.err c.in_err-body.ensures.other)

pub returns-in_err-keyword-clause-stuck : goal.returns-in_err-keyword-clause-stuck
returns-in_err-keyword-clause-stuck c =
    let fault = c.in_err-keyword.field-0.0 in
    let Known : List Token → Type 0 = BeginsWords end_words (λ (b : List ℕ). Unit {0}) in
    kept_fault fault (GetsStuck Known (ABody ∷ Key key.EndProgram ∷ []) c.args.self.now) c.from_residual-in_err-keyword.result c.from_residual-in_err-keyword.ensures.1
    (stuck_after_body Known c.in_ok-body.body (Key key.EndProgram ∷ []) c.args.self.now c.body.new.self fault c.in_ok-body.ensures.ok c.in_ok-body.ensures.left
    (key_stuck (λ w. Known (token.Body c.in_ok-body.body ∷ w)) (c.in_ok-body.body, tt, (key_word key.EndProgram ∷ [], refl)) key.EndProgram [] c.body.new.self fault c.in_err-keyword.ensures.err.0 c.in_err-keyword.ensures.other))
