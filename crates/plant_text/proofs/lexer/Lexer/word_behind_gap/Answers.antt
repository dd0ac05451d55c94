use Rattle.std.proofs.Common.{◌≡◌, ◌∙◌, sym, take, drop, arith, rules, tests}
use Rattle.plant_text.specs.Words.{front_len}
use Rattle.plant_text.proofs.BodyLines.{empty_of_length}
use Rattle.plant_text.proofs.ReadWords.{gap_read, nothing_left, comment_left, no_word_left, front_two, not_empty}
use Rattle.plant_text.proofs.SpelledWords.{word_read}
use Rattle.plant_text.proofs.LineCounts.{word_stands}
use Rattle.plant_text.proofs.UnknownWords.{word_moves_on, no_word_found, open_found}
use Rattle.plant_text.proofs.WordPlaces.{word_there}
use Rattle.plant_text.proofs.lexer.Lexer.word_behind_gap.Goals as goal

pub returns-clause-word : goal.returns-clause-word
returns-clause-word c =
    let same : c.args.self.now.text ≡ c.self.inside.rest.now = cc in
    word_read c.args.self.now.text c.self.inside.rest.now c.behind_gap-rest.result.now c.advance.new.self.text c.word.new.self.text c.in_ok-word.field-0.token same c.behind_gap-rest.ensures c.advance.ensures.text c.in_ok-word.ensures.word

pub returns-clause-first : goal.returns-clause-first
returns-clause-first c =
    let same : c.args.self.now.text ≡ c.self.inside.rest.now = cc in
    word_stands c.args.self.now c.advance.new.self c.word.new.self c.self.inside.rest.now c.behind_gap-rest.result.now c.in_ok-word.field-0 same c.behind_gap-rest.ensures c.advance.ensures.text c.advance.ensures.line c.in_ok-word.ensures.word c.in_ok-word.ensures.line c.in_ok-word.ensures.begins

pub returns-clause-every : goal.returns-clause-every
returns-clause-every c =
    let same : c.args.self.now.text ≡ c.self.inside.rest.now = cc in
    gap_read c.args.self.now c.advance.new.self c.word.new.self c.self.inside.rest.now c.behind_gap-rest.result.now c.in_ok-word.field-0 same c.behind_gap-rest.ensures c.advance.ensures.text c.advance.ensures.stage c.advance.ensures.counted c.in_ok-word.ensures.every c.in_ok-word.ensures.stage c.in_ok-word.ensures.counted

pub returns-then-is_empty-clause-every : goal.returns-then-is_empty-clause-every
returns-then-is_empty-clause-every c =
    let same : c.args.self.now.text ≡ c.self.inside.rest.now = cc in
    nothing_left c.args.self.now c.args.self.now c.self.inside.rest.now c.behind_gap-rest.result.now _ same c.behind_gap-rest.ensures (empty_of_length c.behind_gap-rest.result.now (grind arith))

pub returns-in-40-clause-every : goal.returns-in-40-clause-every
returns-in-40-clause-every c =
    let same : c.args.self.now.text ≡ c.self.inside.rest.now = cc in
    comment_left c.args.self.now c.stop.new.self c.self.inside.rest.now c.behind_gap-rest.result.now (drop 2 c.behind_gap-rest.result.now) _ same c.behind_gap-rest.ensures (front_two c.behind_gap-rest.result.now c.in-40.len_at_least (search (rules, tests)) (search (rules, tests)))

pub returns-in-40-clause-none : goal.returns-in-40-clause-none
returns-in-40-clause-none c = λ gap.
    let same : c.args.self.now.text ≡ c.self.inside.rest.now = cc in
    let none = no_word_left c.args.self.now.text c.self.inside.rest.now c.behind_gap-rest.result.now same c.behind_gap-rest.ensures gap in
    absurd (not_empty c.behind_gap-rest.result.now c.is_empty.result c.is_empty.ensures c.if-is_empty.false none)

pub returns-clause-none : goal.returns-clause-none
returns-clause-none c = λ gap.
    let same : c.args.self.now.text ≡ c.self.inside.rest.now = cc in
    let none = no_word_left c.args.self.now.text c.self.inside.rest.now c.behind_gap-rest.result.now same c.behind_gap-rest.ensures gap in
    absurd (not_empty c.behind_gap-rest.result.now c.is_empty.result c.is_empty.ensures c.if-is_empty.false none)

pub returns-clause-moves_on : goal.returns-clause-moves_on
returns-clause-moves_on c =
    word_moves_on c.args.self.now c.advance.new.self c.word.new.self c.in_ok-word.field-0 (take (front_len c.advance.new.self.text) c.advance.new.self.text) c.advance.ensures.stage c.advance.ensures.counted c.in_ok-word.ensures.stage c.in_ok-word.ensures.counted c.in_ok-word.ensures.is

pub returns-clause-stops : goal.returns-clause-stops
returns-clause-stops c =
    let same : c.args.self.now.text ≡ c.self.inside.rest.now = cc in
    no_word_found c.args.self.now c.advance.new.self c.self.inside.rest.now c.behind_gap-rest.result.now c.in_ok-word.field-0 same c.behind_gap-rest.ensures (not_empty c.behind_gap-rest.result.now c.is_empty.result c.is_empty.ensures c.if-is_empty.false)
    c.advance.ensures.text c.advance.ensures.line c.in_ok-word.ensures.begins c.in_ok-word.ensures.is

pub returns-clause-there : goal.returns-clause-there
returns-clause-there c =
    let same : c.args.self.now.text ≡ c.self.inside.rest.now = cc in
    word_there c.args.self.now c.advance.new.self c.word.new.self c.self.inside.rest.now c.behind_gap-rest.result.now c.in_ok-word.field-0 same c.behind_gap-rest.ensures c.advance.ensures.text c.in_ok-word.ensures.word

pub returns-in-40-clause-stops : goal.returns-in-40-clause-stops
returns-in-40-clause-stops c =
    let same : c.args.self.now.text ≡ c.self.inside.rest.now = cc in
    let lasts : c.args.self.now.last ≡ c.self.inside.last = cc in
    open_found c.args.self.now c.self.inside.rest.now c.behind_gap-rest.result.now (drop 2 c.behind_gap-rest.result.now) _ same c.behind_gap-rest.ensures (front_two c.behind_gap-rest.result.now c.in-40.len_at_least (search (rules, tests)) (search (rules, tests)))
    (c.stop.ensures.begins ∙ sym lasts)
