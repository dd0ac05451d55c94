use Rattle.std.proofs.Common.{◌≡◌, inr, ◌+◌, ◌++◌, min, true, false, List, ℕ, ap, sym, subst, rules, tests, ◌∙◌}
use Rattle.plant_text.specs.Lines.{WordValue, BeginsBlank}
use Rattle.plant_text.specs.Spelling.{IsBodyThen}
use Rattle.plant_text.specs.Steps.Lexing.{LexerValue}
use Rattle.plant_text.proofs.SpelledWords.{body_read}
use Rattle.plant_text.proofs.BodyLines.{blank_gap}
use Rattle.plant_text.proofs.LineCounts.{body_stands}
use Rattle.plant_text.proofs.BodyUnique.{no_end_behind, no_body_cut}
use Rattle.plant_text.proofs.ReadWords.{body_is}
use Rattle.plant_text.proofs.UnknownWords.{body_moves_on}
use Rattle.plant_text.proofs.lexer.Lexer.body.Goals as goal

pub returns-clause-word : goal.returns-clause-word
returns-clause-word c =
    let same : c.args.self.now.text ≡ c.self.inside.rest.now = cc in
    body_read c.args.self.now.text c.self.inside.rest.now c.in-Some.text.now c.in-Some-behind_body.rest.now c.advance.new.self.text c.in-Some-2.body c.new.result.token same (ap (λ (w : WordValue). w.token) c.new.ensures) c.advance.ensures.text c.requires.begins_no_block c.in-Some.ensures
    c.in-Some-behind_body.ensures.0 c.in-Some-behind_body.ensures.1 (rw c.in-Some-2.is at c.in_ok-body.ensures)

pub returns-clause-first : goal.returns-clause-first
returns-clause-first c =
    let same : c.args.self.now.text ≡ c.self.inside.rest.now = cc in
    let counted : c.args.self.now.line ≡ c.self.inside.line = cc in
    body_stands c.args.self.now c.advance.new.self c.self.inside.rest.now c.in-Some.text.now c.in-Some-behind_body.rest.now c.in-Some-2.body c.new.result same (ap (λ (w : WordValue). w.token) c.new.ensures)
    (ap (λ (w : WordValue). w.line) c.new.ensures ∙ c.saturating_add.ensures ∙ ap (λ (x : ℕ). min (x + 1) 18446744073709551615) (sym counted)) c.advance.ensures.text (rw (same, counted) c.advance.ensures.line)
    c.requires.begins_no_block c.in-Some.ensures c.in-Some-behind_body.ensures.0 c.in-Some-behind_body.ensures.1 (rw c.in-Some-2.is at c.in_ok-body.ensures)

pub returns-then-not-is_blank_line-clause-none : goal.returns-then-not-is_blank_line-clause-none
returns-then-not-is_blank_line-clause-none c = λ unknown body rest found whole.
    let same : c.args.self.now.text ≡ c.self.inside.rest.now = cc in
    let moved = subst (λ (x : List ℕ). IsBodyThen x body rest) same found in
    let yes : c.is_blank_line.result ≡ true = c.is_blank_line.ensures.1 (blank_gap c.self.inside.rest.now (body ++ rest) moved.0) in
    let no : c.is_blank_line.result ≡ false = search (rules, tests) in
    cc

pub returns-in_default-clause-none : goal.returns-in_default-clause-none
returns-in_default-clause-none c = λ unknown body rest found whole.
    let same : c.args.self.now.text ≡ c.self.inside.rest.now = cc in
    let moved = subst (λ (x : List ℕ). IsBodyThen x body rest) same found in
    c.in_default.ensures (body ++ rest) moved.0

pub returns-in_default-behind_body-clause-none : goal.returns-in_default-behind_body-clause-none
returns-in_default-behind_body-clause-none c = λ unknown body rest found whole.
    let same : c.args.self.now.text ≡ c.self.inside.rest.now = cc in
    no_end_behind c.self.inside.rest.now c.in-Some.text.now body rest c.in-Some.ensures c.in_default-behind_body.ensures (subst (λ (x : List ℕ). IsBodyThen x body rest) same found)

pub returns-in_default-2-clause-none : goal.returns-in_default-2-clause-none
returns-in_default-2-clause-none c = λ unknown body rest found whole.
    let same : c.args.self.now.text ≡ c.self.inside.rest.now = sym (ap (λ (l : LexerValue). l.text) c.self.view_is) in
    no_body_cut c.self.inside.rest.now c.in-Some.text.now c.in-Some-behind_body.rest.now body rest c.in-Some.ensures c.in-Some-behind_body.ensures.0 c.in-Some-behind_body.ensures.1
    (rw c.in_default-2.is at c.in_ok-body.ensures) (subst (λ (x : List ℕ). IsBodyThen x body rest) same found) whole

pub returns-then-not-is_blank_line-clause-every : goal.returns-then-not-is_blank_line-clause-every
returns-then-not-is_blank_line-clause-every c = λ body rest found whole few. absurd (
    let same : c.args.self.now.text ≡ c.self.inside.rest.now = cc in
    let moved = subst (λ (x : List ℕ). IsBodyThen x body rest) same found in
    let yes : c.is_blank_line.result ≡ true = c.is_blank_line.ensures.1 (blank_gap c.self.inside.rest.now (body ++ rest) moved.0) in
    let no : c.is_blank_line.result ≡ false = search (rules, tests) in
    cc)

pub returns-in_default-clause-every : goal.returns-in_default-clause-every
returns-in_default-clause-every c = λ body rest found whole few. absurd (
    let same : c.args.self.now.text ≡ c.self.inside.rest.now = cc in
    let moved = subst (λ (x : List ℕ). IsBodyThen x body rest) same found in
    c.in_default.ensures (body ++ rest) moved.0)

pub returns-in_default-behind_body-clause-every : goal.returns-in_default-behind_body-clause-every
returns-in_default-behind_body-clause-every c = λ body rest found whole few. absurd (
    let same : c.args.self.now.text ≡ c.self.inside.rest.now = cc in
    no_end_behind c.self.inside.rest.now c.in-Some.text.now body rest c.in-Some.ensures c.in_default-behind_body.ensures (subst (λ (x : List ℕ). IsBodyThen x body rest) same found))

pub returns-in_default-2-clause-every : goal.returns-in_default-2-clause-every
returns-in_default-2-clause-every c = λ body rest found whole few. absurd (
    let same : c.args.self.now.text ≡ c.self.inside.rest.now = sym (ap (λ (l : LexerValue). l.text) c.self.view_is) in
    no_body_cut c.self.inside.rest.now c.in-Some.text.now c.in-Some-behind_body.rest.now body rest c.in-Some.ensures c.in-Some-behind_body.ensures.0 c.in-Some-behind_body.ensures.1
    (rw c.in_default-2.is at c.in_ok-body.ensures) (subst (λ (x : List ℕ). IsBodyThen x body rest) same found) whole)

pub returns-clause-every : goal.returns-clause-every
returns-clause-every c =
    let same : c.args.self.now.text ≡ c.self.inside.rest.now = cc in
    let counted : c.args.self.now.bodies ≡ c.self.inside.bodies = cc in
    body_is c.args.self.now c.advance.new.self c.self.inside.rest.now c.in-Some.text.now c.in-Some-behind_body.rest.now c.in-Some-2.body c.new.result same (ap (λ (w : WordValue). w.token) c.new.ensures) c.advance.ensures.text c.advance.ensures.stage
    (c.advance.ensures.counted ∙ c.saturating_add-self-inside.ensures ∙ ap (λ (x : ℕ). min (x + 1) 18446744073709551615) (sym counted)) c.in-Some.ensures c.in-Some-behind_body.ensures.0 c.in-Some-behind_body.ensures.1 (rw c.in-Some-2.is at c.in_ok-body.ensures)

pub returns-clause-moves_on : goal.returns-clause-moves_on
returns-clause-moves_on c =
    let counted : c.args.self.now.bodies ≡ c.self.inside.bodies = cc in
    body_moves_on c.args.self.now c.advance.new.self c.new.result c.in-Some-2.body (ap (λ (w : WordValue). w.token) c.new.ensures) c.advance.ensures.stage
    (c.advance.ensures.counted ∙ c.saturating_add-self-inside.ensures ∙ ap (λ (x : ℕ). min (x + 1) 18446744073709551615) (sym counted))

pub returns-in_default-2-clause-told : goal.returns-in_default-2-clause-told
returns-in_default-2-clause-told c = λ unknown.
    let same : c.args.self.now.text ≡ c.self.inside.rest.now = sym (ap (λ (l : LexerValue). l.text) c.self.view_is) in
    let lasts : c.args.self.now.last ≡ c.self.inside.last = sym (ap (λ (l : LexerValue). l.last) c.self.view_is) in
    let yes : c.is_blank_line.result ≡ true = search (rules, tests) in
    inr (subst BeginsBlank (sym same) (c.is_blank_line.ensures.0 yes), c.stop-in_default-2.ensures.begins ∙ sym lasts)
