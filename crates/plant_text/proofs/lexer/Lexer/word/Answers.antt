use Rattle.std.proofs.Common.{◌≡◌, ap, sym, ◌∙◌}
use Rattle.plant_text.proofs.ReadWords.{front_read, front_unknown}
use Rattle.plant_text.proofs.lexer.Lexer.word.Goals as goal

pub returns-in-Unknown-clause-every : goal.returns-in-Unknown-clause-every
returns-in-Unknown-clause-every c = λ word rest w.
    let same : c.args.self.now.text ≡ c.self.inside.rest.now = cc in
    absurd (front_unknown c.args.self.now.text c.word_len-len.result (rw same c.word_len-len.ensures.len) (rw same (sym c.in-Unknown.is ∙ c.in_ok-token.ensures)) word rest w)

pub returns-clause-every : goal.returns-clause-every
returns-clause-every c =
    let same : c.args.self.now.text ≡ c.self.inside.rest.now = cc in
    front_read c.args.self.now.text c.word_len-len.result c.new.result.token c.behind-self-inside.result.now (rw same c.word_len-len.ensures.len) (rw same (ap (λ w. w.token) c.new.ensures ∙ c.in_ok-token.ensures)) (rw same c.behind-self-inside.ensures)
