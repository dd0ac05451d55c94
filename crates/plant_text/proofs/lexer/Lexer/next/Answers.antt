use Rattle.std.proofs.Common.{◌≡◌, true, false, None, IfSome, rules, tests}
use Rattle.std.proofs.lemmas.Result.{IfOk-weaker}
use Rattle.plant_text.specs.Spelling.{IsGap}
use Rattle.plant_text.specs.Steps.Lexing.{FindsNoWord, StopsAt, IsNoBodyThere, StandsInPlace, ReadsWord, ReadsFirst}
use Rattle.plant_text.proofs.ReadWords.{first_elsewhere, first_of_block, first_of_body, true_false}
use Rattle.plant_text.proofs.UnknownWords.{stops_behind_gap, stops_for_body}
use Rattle.plant_text.proofs.WordPlaces.{both_ok, placed_elsewhere, placed_body, placed_block}
use Rattle.plant_text.proofs.lexer.Lexer.next.Goals as goal

pub returns-then-not-is_body_due-clause-every : goal.returns-then-not-is_body_due-clause-every
returns-then-not-is_body_due-clause-every c =
    let no : c.is_body_due.result ≡ false = search (rules, tests) in
    IfOk-weaker c.word_behind_gap.result (λ w. ReadsWord c.args.self.now w c.word_behind_gap.new.self) (λ w. ReadsFirst c.args.self.now w c.word_behind_gap.new.self)
    (λ w r. first_elsewhere c.args.self.now c.word_behind_gap.new.self w (c.is_body_due.ensures.no no) r) c.word_behind_gap.ensures.every

pub returns-then-begins_no_block-clause-every : goal.returns-then-begins_no_block-clause-every
returns-then-begins_no_block-clause-every c =
    let due : c.is_body_due.result ≡ true = search (rules, tests) in
    first_of_body c.args.self.now c.body.new.self c.in_ok-body.field-0 (c.is_body_due.ensures.yes due) (search (rules, tests)) c.in_ok-body.ensures.every

pub returns-clause-every : goal.returns-clause-every
returns-clause-every c =
    let same : c.args.self.now.text ≡ c.self.inside.rest.now = cc in
    IfOk-weaker c.word_behind_gap-2.result (λ w. ReadsWord c.args.self.now w c.word_behind_gap-2.new.self) (λ w. ReadsFirst c.args.self.now w c.word_behind_gap-2.new.self)
    (λ w r. first_of_block c.args.self.now c.word_behind_gap-2.new.self w (λ none. true_false c.begins_no_block.result (c.begins_no_block.ensures.1 (rw same at none)) c.if-begins_no_block.false) r) c.word_behind_gap-2.ensures.every

pub returns-then-not-is_body_due-clause-stops : goal.returns-then-not-is_body_due-clause-stops
returns-then-not-is_body_due-clause-stops c =
    let no : c.is_body_due.result ≡ false = search (rules, tests) in
    IfOk-weaker c.word_behind_gap.result (λ w. IfSome w (λ t. FindsNoWord c.args.self.now t)) (λ w. IfSome w (λ t. StopsAt c.args.self.now t))
    (λ w f. stops_behind_gap c.args.self.now w (λ p. p.1 (c.is_body_due.ensures.no no p.0)) f) c.word_behind_gap.ensures.stops

pub returns-then-begins_no_block-clause-stops : goal.returns-then-begins_no_block-clause-stops
returns-then-begins_no_block-clause-stops c =
    let due : c.is_body_due.result ≡ true = search (rules, tests) in
    stops_for_body c.args.self.now c.in_ok-body.field-0 (c.is_body_due.ensures.yes due) (c.is_body_due.ensures.some due) (search (rules, tests)) c.in_ok-body.ensures.none c.in_ok-body.ensures.told

pub returns-clause-stops : goal.returns-clause-stops
returns-clause-stops c =
    let same : c.args.self.now.text ≡ c.self.inside.rest.now = cc in
    IfOk-weaker c.word_behind_gap-2.result (λ w. IfSome w (λ t. FindsNoWord c.args.self.now t)) (λ w. IfSome w (λ t. StopsAt c.args.self.now t))
    (λ w f. stops_behind_gap c.args.self.now w (λ p. true_false c.begins_no_block.result (c.begins_no_block.ensures.1 (rw same at p.2)) c.if-begins_no_block.false) f) c.word_behind_gap-2.ensures.stops

pub returns-then-not-is_body_due-clause-placed : goal.returns-then-not-is_body_due-clause-placed
returns-then-not-is_body_due-clause-placed c =
    let no : c.is_body_due.result ≡ false = search (rules, tests) in
    both_ok c.word_behind_gap.result (λ w. IsGap c.args.self.now.text → w ≡ None) (λ w. IfSome w (λ t. IsNoBodyThere c.args.self.now t)) (λ w. IfSome w (λ t. StandsInPlace c.args.self.now t))
    (λ w none there. placed_elsewhere c.args.self.now w (c.is_body_due.ensures.no no) none there) c.word_behind_gap.ensures.none c.word_behind_gap.ensures.there

pub returns-then-begins_no_block-clause-placed : goal.returns-then-begins_no_block-clause-placed
returns-then-begins_no_block-clause-placed c =
    let due : c.is_body_due.result ≡ true = search (rules, tests) in
    placed_body c.args.self.now c.in_ok-body.field-0 (c.is_body_due.ensures.yes due) c.in_ok-body.ensures.body

pub returns-clause-placed : goal.returns-clause-placed
returns-clause-placed c =
    let due : c.is_body_due.result ≡ true = search (rules, tests) in
    let same : c.args.self.now.text ≡ c.self.inside.rest.now = cc in
    IfOk-weaker c.word_behind_gap-2.result (λ w. IfSome w (λ t. IsNoBodyThere c.args.self.now t)) (λ w. IfSome w (λ t. StandsInPlace c.args.self.now t))
    (λ w there. placed_block c.args.self.now w (c.is_body_due.ensures.yes due) (λ none. true_false c.begins_no_block.result (c.begins_no_block.ensures.1 (rw same at none)) c.if-begins_no_block.false) there) c.word_behind_gap-2.ensures.there
