use Rattle.plant_text.specs.declared.token.Token.{Token}
use Rattle.std.proofs.Common.{◌∷◌, [], refl, ap, append_assoc, arith, ◌++◌, ◌<◌, ◌∙◌, List, ℕ}
use Rattle.lists.proofs.Results.{kept_fault}
use Rattle.plant_text.specs.declared.token.Keyword.TheVariants as key
use Rattle.plant_text.specs.declared.token.Punctuation.TheVariants as mark
use Rattle.plant_grammar.specs.Grammar.{interval_words, priority_words}
use Rattle.plant_grammar.specs.Steps.Expected.{Key, TheSettings, interval_rest, priority_rest, GetsStuck}
use Rattle.plant_grammar.proofs.UnexpectedWords.{mark_stuck}
use Rattle.plant_grammar.proofs.WalkedResources.{behind_interval, behind_priority, first_interval_walked, first_priority_walked, stuck_in_interval, stuck_in_priority}
use Rattle.plant_grammar.proofs.StuckBehind.{stuck_after, stuck_after_mark}
use Rattle.plant_grammar.specs.Grammar.{mark_word}
use Rattle.plant_grammar.specs.declared.grammar.tree.Order.TheVariants.{IntervalFirst, PriorityFirst}
use Rattle.plant_grammar.specs.Steps.SoundWords.{BeginsWords, BeginsSettings}
use Rattle.plant_grammar.proofs.ExpectedWords.{stuck_told}
use Rattle.plant_grammar.proofs.grammar.reader.Reader.settings.Goals as settings_goals

pub returns-in_err-interval-clause-stuck : settings_goals.returns-in_err-interval-clause-stuck
returns-in_err-interval-clause-stuck c =
    let fault = c.in_err-interval.field-0.0 in
    kept_fault fault (GetsStuck BeginsSettings (TheSettings ∷ []) c.args.self.now) c.from_residual.result c.from_residual.ensures.1
    (stuck_in_interval BeginsSettings c.args.self.now fault (c.if-sees_keyword.ensures.yes refl)
    (stuck_told BeginsSettings (BeginsWords interval_words (λ (n : ℕ). 0 < n)) (Key key.Interval ∷ interval_rest) c.args.self.now fault
    (λ w b. (IntervalFirst, b.0, 0, b.1, (b.2.0 ++ mark_word mark.Comma ∷ priority_words 0, ap (λ (ws : List Token). ws ++ mark_word mark.Comma ∷ priority_words 0) b.2.1 ∙ append_assoc w b.2.0 (mark_word mark.Comma ∷ priority_words 0))))
    c.in_err-interval.ensures.stuck))

pub returns-in_err-punctuation-clause-stuck : settings_goals.returns-in_err-punctuation-clause-stuck
returns-in_err-punctuation-clause-stuck c =
    let fault = c.in_err-punctuation.field-0.0 in
    let one = c.interval.new.self in
    kept_fault fault (GetsStuck BeginsSettings (TheSettings ∷ []) c.args.self.now) c.from_residual-in_err-punctuation.result c.from_residual-in_err-punctuation.ensures.1
    (stuck_after BeginsSettings (TheSettings ∷ []) behind_interval (interval_words c.in_ok-interval.interval) c.args.self.now one fault c.in_ok-interval.ensures.ok c.in_ok-interval.ensures.left
    (λ behind. first_interval_walked c.in_ok-interval.interval behind c.in_ok-interval.ensures.positive)
    (mark_stuck (λ w. BeginsSettings (interval_words c.in_ok-interval.interval ++ w)) (IntervalFirst, c.in_ok-interval.interval, 0, c.in_ok-interval.ensures.positive, (mark_word mark.Comma ∷ priority_words 0, refl)) mark.Comma (Key key.Priority ∷ priority_rest) one fault c.in_err-punctuation.ensures.err.0 c.in_err-punctuation.ensures.other))

pub returns-in_err-priority-clause-stuck : settings_goals.returns-in_err-priority-clause-stuck
returns-in_err-priority-clause-stuck c =
    let fault = c.in_err-priority.field-0.0 in
    let one = c.interval.new.self in
    let two = c.punctuation.new.self in
    kept_fault fault (GetsStuck BeginsSettings (TheSettings ∷ []) c.args.self.now) c.from_residual-in_err-priority.result c.from_residual-in_err-priority.ensures.1
    (stuck_after BeginsSettings (TheSettings ∷ []) behind_interval (interval_words c.in_ok-interval.interval) c.args.self.now one fault c.in_ok-interval.ensures.ok c.in_ok-interval.ensures.left
    (λ behind. first_interval_walked c.in_ok-interval.interval behind c.in_ok-interval.ensures.positive)
    (stuck_after_mark (λ w. BeginsSettings (interval_words c.in_ok-interval.interval ++ w)) mark.Comma (Key key.Priority ∷ priority_rest) one two fault c.in_ok-punctuation.ensures.ok c.in_ok-punctuation.ensures.left
    (stuck_told (λ w. BeginsSettings (interval_words c.in_ok-interval.interval ++ mark_word mark.Comma ∷ w)) (BeginsWords priority_words (λ (n : ℕ). Unit {0})) (Key key.Priority ∷ priority_rest) two fault
    (λ w b. (IntervalFirst, c.in_ok-interval.interval, b.0, c.in_ok-interval.ensures.positive, (b.2.0, ap (λ (ws : List Token). interval_words c.in_ok-interval.interval ++ mark_word mark.Comma ∷ ws) b.2.1)))
    c.in_err-priority.ensures.stuck)))

pub returns-in_err-priority-2-clause-stuck : settings_goals.returns-in_err-priority-2-clause-stuck
returns-in_err-priority-2-clause-stuck c =
    let fault = c.in_err-priority-2.field-0.0 in
    kept_fault fault (GetsStuck BeginsSettings (TheSettings ∷ []) c.args.self.now) c.from_residual-in_err-priority-2.result c.from_residual-in_err-priority-2.ensures.1
    (stuck_in_priority BeginsSettings c.args.self.now fault (c.if-sees_keyword.ensures.no refl)
    (stuck_told BeginsSettings (BeginsWords priority_words (λ (n : ℕ). Unit {0})) (Key key.Priority ∷ priority_rest) c.args.self.now fault
    (λ w b. (PriorityFirst, 1, b.0, omega arith, (b.2.0 ++ mark_word mark.Comma ∷ interval_words 1, ap (λ (ws : List Token). ws ++ mark_word mark.Comma ∷ interval_words 1) b.2.1 ∙ append_assoc w b.2.0 (mark_word mark.Comma ∷ interval_words 1))))
    c.in_err-priority-2.ensures.stuck))

pub returns-in_err-punctuation-2-clause-stuck : settings_goals.returns-in_err-punctuation-2-clause-stuck
returns-in_err-punctuation-2-clause-stuck c =
    let fault = c.in_err-punctuation-2.field-0.0 in
    let one = c.priority-else-sees_keyword.new.self in
    kept_fault fault (GetsStuck BeginsSettings (TheSettings ∷ []) c.args.self.now) c.from_residual-in_err-punctuation-2.result c.from_residual-in_err-punctuation-2.ensures.1
    (stuck_after BeginsSettings (TheSettings ∷ []) behind_priority (priority_words c.in_ok-priority-2.priority) c.args.self.now one fault c.in_ok-priority-2.ensures.ok c.in_ok-priority-2.ensures.left
    (first_priority_walked c.in_ok-priority-2.priority)
    (mark_stuck (λ w. BeginsSettings (priority_words c.in_ok-priority-2.priority ++ w)) (PriorityFirst, 1, c.in_ok-priority-2.priority, omega arith, (mark_word mark.Comma ∷ interval_words 1, refl)) mark.Comma (Key key.Interval ∷ interval_rest) one fault c.in_err-punctuation-2.ensures.err.0 c.in_err-punctuation-2.ensures.other))

pub returns-in_err-interval-2-clause-stuck : settings_goals.returns-in_err-interval-2-clause-stuck
returns-in_err-interval-2-clause-stuck c =
    let fault = c.in_err-interval-2.field-0.0 in
    let one = c.priority-else-sees_keyword.new.self in
    let two = c.punctuation-else-sees_keyword.new.self in
    kept_fault fault (GetsStuck BeginsSettings (TheSettings ∷ []) c.args.self.now) c.from_residual-in_err-interval-2.result c.from_residual-in_err-interval-2.ensures.1
    (stuck_after BeginsSettings (TheSettings ∷ []) behind_priority (priority_words c.in_ok-priority-2.priority) c.args.self.now one fault c.in_ok-priority-2.ensures.ok c.in_ok-priority-2.ensures.left
    (first_priority_walked c.in_ok-priority-2.priority)
    (stuck_after_mark (λ w. BeginsSettings (priority_words c.in_ok-priority-2.priority ++ w)) mark.Comma (Key key.Interval ∷ interval_rest) one two fault c.in_ok-punctuation-2.ensures.ok c.in_ok-punctuation-2.ensures.left
    (stuck_told (λ w. BeginsSettings (priority_words c.in_ok-priority-2.priority ++ mark_word mark.Comma ∷ w)) (BeginsWords interval_words (λ (n : ℕ). 0 < n)) (Key key.Interval ∷ interval_rest) two fault
    (λ w b. (PriorityFirst, b.0, c.in_ok-priority-2.priority, b.1, (b.2.0, ap (λ (ws : List Token). priority_words c.in_ok-priority-2.priority ++ mark_word mark.Comma ∷ ws) b.2.1)))
    c.in_err-interval-2.ensures.stuck)))
