use Rattle.std.proofs.Common.{◌≡◌, ◌∙◌, ◌∷◌, ap, sym, map, arith}
use Rattle.plant_grammar.specs.Steps.Lines.{ReaderValue}
use Rattle.plant_text.specs.Lines.{WordValue}
use Rattle.plant_grammar.proofs.WordLists.{front_word}
use Rattle.plant_grammar.proofs.grammar.reader.Reader.sees_address.Goals as goal

pub returns-in-len1-up-clause-yes : goal.returns-in-len1-up-clause-yes
returns-in-len1-up-clause-yes c = λ yes.
    let front = front_word c.self.inside.words.now c.word-item.result (omega arith) c.word-item.is in
    let same : map (λ (w : WordValue). w.token) c.self.inside.words.now ≡ c.args.self.now.words = ap (λ (r : ReaderValue). r.words) c.self.view_is in
    let is = c.is_address.ensures.0 yes in
    (is.0, front.0, sym same ∙ front.1 ∙ ap (λ t. t ∷ front.0) is.1)
