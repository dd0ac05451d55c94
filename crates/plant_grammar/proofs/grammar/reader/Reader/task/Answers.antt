use Rattle.plant_text.specs.declared.token.Token.{Token}
use Rattle.plant_grammar.specs.declared.grammar.tree.TaskLine.{TaskLine}
use Rattle.plant_grammar.specs.Lawful.{task_of}
use Rattle.std.specs.List.{flat_map}
use Rattle.plant_grammar.specs.Steps.NamesRead.{RefusesTask}
use Rattle.plant_grammar.specs.Steps.Declaring.{BeginRefused}
use Rattle.lists.proofs.Results.{kept_fault}
use Rattle.plant_grammar.proofs.ReadLines.{line_before}
use Rattle.plant_grammar.proofs.RefusedPlaces.{task_refused}
use Rattle.std.proofs.Common.{◌∷◌, [], ap, append_assoc, arith, refl, subst, sym, ◌++◌, ◌<◌, ◌∙◌, List}
use Rattle.plant_text.specs.declared.token.Keyword.TheVariants as key
use Rattle.plant_text.specs.declared.token.Punctuation.TheVariants as mark
use Rattle.plant_grammar.specs.Grammar.{settings, key_word, mark_word}
use Rattle.plant_grammar.specs.Steps.Expected.{Key, Mark, AName, TheSettings, task_rest, GetsStuck}
use Rattle.plant_grammar.proofs.UnexpectedWords.{key_stuck, mark_stuck}
use Rattle.plant_grammar.proofs.WalkedResources.{stuck_more, settings_walked}
use Rattle.plant_grammar.proofs.StuckBehind.{stuck_after, stuck_after_key, stuck_after_mark, stuck_after_name}
use Rattle.plant_text.specs.declared.token.Token.TheVariants as token
use Rattle.plant_grammar.specs.declared.grammar.tree.Order.TheVariants.{IntervalFirst}
use Rattle.plant_grammar.specs.NameFaults.{judged_task}
use Rattle.plant_grammar.specs.Steps.SoundWords.{BeginsSound, BeginsSettings, IsNothing}
use Rattle.plant_grammar.proofs.ExpectedWords.{stuck_told}
use Rattle.plant_grammar.proofs.SoundFronts.{no_task_words, task_begun, task_front}
use Rattle.plant_grammar.proofs.grammar.reader.Reader.task.Goals as task_goals

pub returns-in_err-name-clause-names : task_goals.returns-in_err-name-clause-names
returns-in_err-name-clause-names c =
    let fault = c.in_err-name.field-0.0 in
    kept_fault fault (BeginRefused (λ k. RefusesTask k c.args.before.now) c.args.self.now) c.from_residual-in_err-name.result c.from_residual-in_err-name.ensures.1
    (λ all h of. task_refused fault.kind c.args.before.now c.args.self.now.words c.keyword.new.self.words (line_before all c.keyword.new.self fault.line (c.in_ok-keyword.ensures.left.0 all h) (c.in_err-name.ensures.line of)) c.in_ok-keyword.ensures.ok c.in_err-name.ensures.tells of)

pub returns-in_err-keyword-clause-stuck : task_goals.returns-in_err-keyword-clause-stuck
returns-in_err-keyword-clause-stuck c =
    let fault = c.in_err-keyword.field-0.0 in
    let start = c.args.self.now in
    let tasks = flat_map task_of c.args.before.now in
    let Known : List Token → Type 0 = BeginsSound (judged_task tasks) (λ (t : TaskLine). 0 < t.interval) in
    kept_fault fault (GetsStuck Known (Key key.Task ∷ task_rest) start) c.from_residual.result c.from_residual.ensures.1
    (key_stuck Known (no_task_words tasks) key.Task (AName ∷ Mark mark.Open ∷ TheSettings ∷ Mark mark.Close ∷ Mark mark.Semicolon ∷ []) start fault c.in_err-keyword.ensures.err.0 c.in_err-keyword.ensures.other)

pub returns-in_err-name-clause-stuck : task_goals.returns-in_err-name-clause-stuck
returns-in_err-name-clause-stuck c =
    let fault = c.in_err-name.field-0.0 in
    let start = c.args.self.now in
    let one = c.keyword.new.self in
    let tasks = flat_map task_of c.args.before.now in
    let Known : List Token → Type 0 = BeginsSound (judged_task tasks) (λ (t : TaskLine). 0 < t.interval) in
    kept_fault fault (GetsStuck Known (Key key.Task ∷ task_rest) start) c.from_residual-in_err-name.result c.from_residual-in_err-name.ensures.1
    (stuck_after_key Known key.Task (AName ∷ Mark mark.Open ∷ TheSettings ∷ Mark mark.Close ∷ Mark mark.Semicolon ∷ []) start one fault c.in_ok-keyword.ensures.ok c.in_ok-keyword.ensures.left
    (stuck_told (λ w. Known (key_word key.Task ∷ w)) IsNothing (AName ∷ Mark mark.Open ∷ TheSettings ∷ Mark mark.Close ∷ Mark mark.Semicolon ∷ []) one fault
    (λ w none. subst (λ (v : List Token). Known (key_word key.Task ∷ v)) (sym none) (task_begun tasks))
    (stuck_more IsNothing (AName ∷ []) (Mark mark.Open ∷ TheSettings ∷ Mark mark.Close ∷ Mark mark.Semicolon ∷ []) one fault c.in_err-name.ensures.stuck)))

pub returns-in_err-punctuation-clause-stuck : task_goals.returns-in_err-punctuation-clause-stuck
returns-in_err-punctuation-clause-stuck c =
    let fault = c.in_err-punctuation.field-0.0 in
    let start = c.args.self.now in
    let one = c.keyword.new.self in
    let two = c.task_name.new.self in
    let tasks = flat_map task_of c.args.before.now in
    let Known : List Token → Type 0 = BeginsSound (judged_task tasks) (λ (t : TaskLine). 0 < t.interval) in
    kept_fault fault (GetsStuck Known (Key key.Task ∷ task_rest) start) c.from_residual-in_err-punctuation.result c.from_residual-in_err-punctuation.ensures.1
    (stuck_after_key Known key.Task (AName ∷ Mark mark.Open ∷ TheSettings ∷ Mark mark.Close ∷ Mark mark.Semicolon ∷ []) start one fault c.in_ok-keyword.ensures.ok c.in_ok-keyword.ensures.left
    (stuck_after_name (λ w. Known (key_word key.Task ∷ w)) c.in_ok-name.name (Mark mark.Open ∷ TheSettings ∷ Mark mark.Close ∷ Mark mark.Semicolon ∷ []) one two fault c.in_ok-name.ensures.ok c.in_ok-name.ensures.left
    (mark_stuck (λ w. Known (key_word key.Task ∷ token.Name c.in_ok-name.name ∷ w)) (task_front tasks c.in_ok-name.name IntervalFirst 1 0 [] (mark_word mark.Open ∷ settings IntervalFirst 1 0 ++ mark_word mark.Close ∷ mark_word mark.Semicolon ∷ []) c.in_ok-name.ensures.new c.in_ok-name.ensures.few (omega arith) refl) mark.Open (TheSettings ∷ Mark mark.Close ∷ Mark mark.Semicolon ∷ []) two fault c.in_err-punctuation.ensures.err.0 c.in_err-punctuation.ensures.other)))

pub returns-in_err-order-clause-stuck : task_goals.returns-in_err-order-clause-stuck
returns-in_err-order-clause-stuck c =
    let fault = c.in_err-order.field-0.0 in
    let start = c.args.self.now in
    let one = c.keyword.new.self in
    let two = c.task_name.new.self in
    let three = c.punctuation.new.self in
    let tasks = flat_map task_of c.args.before.now in
    let Known : List Token → Type 0 = BeginsSound (judged_task tasks) (λ (t : TaskLine). 0 < t.interval) in
    kept_fault fault (GetsStuck Known (Key key.Task ∷ task_rest) start) c.from_residual-in_err-order.result c.from_residual-in_err-order.ensures.1
    (stuck_after_key Known key.Task (AName ∷ Mark mark.Open ∷ TheSettings ∷ Mark mark.Close ∷ Mark mark.Semicolon ∷ []) start one fault c.in_ok-keyword.ensures.ok c.in_ok-keyword.ensures.left
    (stuck_after_name (λ w. Known (key_word key.Task ∷ w)) c.in_ok-name.name (Mark mark.Open ∷ TheSettings ∷ Mark mark.Close ∷ Mark mark.Semicolon ∷ []) one two fault c.in_ok-name.ensures.ok c.in_ok-name.ensures.left
    (stuck_after_mark (λ w. Known (key_word key.Task ∷ token.Name c.in_ok-name.name ∷ w)) mark.Open (TheSettings ∷ Mark mark.Close ∷ Mark mark.Semicolon ∷ []) two three fault c.in_ok-punctuation.ensures.ok c.in_ok-punctuation.ensures.left
    (stuck_told (λ w. Known (key_word key.Task ∷ token.Name c.in_ok-name.name ∷ mark_word mark.Open ∷ w)) BeginsSettings (TheSettings ∷ Mark mark.Close ∷ Mark mark.Semicolon ∷ []) three fault
    (λ w b. task_front tasks c.in_ok-name.name b.0 b.1 b.2 (mark_word mark.Open ∷ w) (b.4.0 ++ mark_word mark.Close ∷ mark_word mark.Semicolon ∷ []) c.in_ok-name.ensures.new c.in_ok-name.ensures.few b.3
    (ap (λ (ws : List Token). mark_word mark.Open ∷ ws ++ mark_word mark.Close ∷ mark_word mark.Semicolon ∷ []) b.4.1 ∙ ap (λ (ws : List Token). mark_word mark.Open ∷ ws) (append_assoc w b.4.0 (mark_word mark.Close ∷ mark_word mark.Semicolon ∷ []))))
    (stuck_more BeginsSettings (TheSettings ∷ []) (Mark mark.Close ∷ Mark mark.Semicolon ∷ []) three fault c.in_err-order.ensures.stuck)))))

pub returns-in_err-punctuation-2-clause-stuck : task_goals.returns-in_err-punctuation-2-clause-stuck
returns-in_err-punctuation-2-clause-stuck c =
    let fault = c.in_err-punctuation-2.field-0.0 in
    let start = c.args.self.now in
    let one = c.keyword.new.self in
    let two = c.task_name.new.self in
    let three = c.punctuation.new.self in
    let four = c.settings.new.self in
    let tasks = flat_map task_of c.args.before.now in
    let Known : List Token → Type 0 = BeginsSound (judged_task tasks) (λ (t : TaskLine). 0 < t.interval) in
    kept_fault fault (GetsStuck Known (Key key.Task ∷ task_rest) start) c.from_residual-in_err-punctuation-2.result c.from_residual-in_err-punctuation-2.ensures.1
    (stuck_after_key Known key.Task (AName ∷ Mark mark.Open ∷ TheSettings ∷ Mark mark.Close ∷ Mark mark.Semicolon ∷ []) start one fault c.in_ok-keyword.ensures.ok c.in_ok-keyword.ensures.left
    (stuck_after_name (λ w. Known (key_word key.Task ∷ w)) c.in_ok-name.name (Mark mark.Open ∷ TheSettings ∷ Mark mark.Close ∷ Mark mark.Semicolon ∷ []) one two fault c.in_ok-name.ensures.ok c.in_ok-name.ensures.left
    (stuck_after_mark (λ w. Known (key_word key.Task ∷ token.Name c.in_ok-name.name ∷ w)) mark.Open (TheSettings ∷ Mark mark.Close ∷ Mark mark.Semicolon ∷ []) two three fault c.in_ok-punctuation.ensures.ok c.in_ok-punctuation.ensures.left
    (stuck_after (λ w. Known (key_word key.Task ∷ token.Name c.in_ok-name.name ∷ mark_word mark.Open ∷ w)) (TheSettings ∷ Mark mark.Close ∷ Mark mark.Semicolon ∷ []) (Mark mark.Close ∷ Mark mark.Semicolon ∷ []) (settings c.in_ok-order.order c.in_ok-order.interval c.in_ok-order.priority) three four fault c.in_ok-order.ensures.ok c.in_ok-order.ensures.left (λ behind. settings_walked c.in_ok-order.order c.in_ok-order.interval c.in_ok-order.priority (Mark mark.Close ∷ Mark mark.Semicolon ∷ behind) c.in_ok-order.ensures.positive)
    (mark_stuck (λ w. Known (key_word key.Task ∷ token.Name c.in_ok-name.name ∷ mark_word mark.Open ∷ (settings c.in_ok-order.order c.in_ok-order.interval c.in_ok-order.priority ++ w)))
    (task_front tasks c.in_ok-name.name c.in_ok-order.order c.in_ok-order.interval c.in_ok-order.priority (mark_word mark.Open ∷ (settings c.in_ok-order.order c.in_ok-order.interval c.in_ok-order.priority ++ [])) (mark_word mark.Close ∷ mark_word mark.Semicolon ∷ []) c.in_ok-name.ensures.new c.in_ok-name.ensures.few c.in_ok-order.ensures.positive
    (ap (λ (ws : List Token). mark_word mark.Open ∷ ws) (sym (append_assoc (settings c.in_ok-order.order c.in_ok-order.interval c.in_ok-order.priority) [] (mark_word mark.Close ∷ mark_word mark.Semicolon ∷ []))))) mark.Close (Mark mark.Semicolon ∷ []) four fault c.in_err-punctuation-2.ensures.err.0 c.in_err-punctuation-2.ensures.other)))))

pub returns-in_err-punctuation-3-clause-stuck : task_goals.returns-in_err-punctuation-3-clause-stuck
returns-in_err-punctuation-3-clause-stuck c =
    let fault = c.in_err-punctuation-3.field-0.0 in
    let start = c.args.self.now in
    let one = c.keyword.new.self in
    let two = c.task_name.new.self in
    let three = c.punctuation.new.self in
    let four = c.settings.new.self in
    let five = c.punctuation-2.new.self in
    let tasks = flat_map task_of c.args.before.now in
    let Known : List Token → Type 0 = BeginsSound (judged_task tasks) (λ (t : TaskLine). 0 < t.interval) in
    kept_fault fault (GetsStuck Known (Key key.Task ∷ task_rest) start) c.from_residual-in_err-punctuation-3.result c.from_residual-in_err-punctuation-3.ensures.1
    (stuck_after_key Known key.Task (AName ∷ Mark mark.Open ∷ TheSettings ∷ Mark mark.Close ∷ Mark mark.Semicolon ∷ []) start one fault c.in_ok-keyword.ensures.ok c.in_ok-keyword.ensures.left
    (stuck_after_name (λ w. Known (key_word key.Task ∷ w)) c.in_ok-name.name (Mark mark.Open ∷ TheSettings ∷ Mark mark.Close ∷ Mark mark.Semicolon ∷ []) one two fault c.in_ok-name.ensures.ok c.in_ok-name.ensures.left
    (stuck_after_mark (λ w. Known (key_word key.Task ∷ token.Name c.in_ok-name.name ∷ w)) mark.Open (TheSettings ∷ Mark mark.Close ∷ Mark mark.Semicolon ∷ []) two three fault c.in_ok-punctuation.ensures.ok c.in_ok-punctuation.ensures.left
    (stuck_after (λ w. Known (key_word key.Task ∷ token.Name c.in_ok-name.name ∷ mark_word mark.Open ∷ w)) (TheSettings ∷ Mark mark.Close ∷ Mark mark.Semicolon ∷ []) (Mark mark.Close ∷ Mark mark.Semicolon ∷ []) (settings c.in_ok-order.order c.in_ok-order.interval c.in_ok-order.priority) three four fault c.in_ok-order.ensures.ok c.in_ok-order.ensures.left (λ behind. settings_walked c.in_ok-order.order c.in_ok-order.interval c.in_ok-order.priority (Mark mark.Close ∷ Mark mark.Semicolon ∷ behind) c.in_ok-order.ensures.positive)
    (stuck_after_mark (λ w. Known (key_word key.Task ∷ token.Name c.in_ok-name.name ∷ mark_word mark.Open ∷ (settings c.in_ok-order.order c.in_ok-order.interval c.in_ok-order.priority ++ w))) mark.Close (Mark mark.Semicolon ∷ []) four five fault c.in_ok-punctuation-2.ensures.ok c.in_ok-punctuation-2.ensures.left
    (mark_stuck (λ w. Known (key_word key.Task ∷ token.Name c.in_ok-name.name ∷ mark_word mark.Open ∷ (settings c.in_ok-order.order c.in_ok-order.interval c.in_ok-order.priority ++ mark_word mark.Close ∷ w)))
    (task_front tasks c.in_ok-name.name c.in_ok-order.order c.in_ok-order.interval c.in_ok-order.priority (mark_word mark.Open ∷ (settings c.in_ok-order.order c.in_ok-order.interval c.in_ok-order.priority ++ mark_word mark.Close ∷ [])) (mark_word mark.Semicolon ∷ []) c.in_ok-name.ensures.new c.in_ok-name.ensures.few c.in_ok-order.ensures.positive
    (ap (λ (ws : List Token). mark_word mark.Open ∷ ws) (sym (append_assoc (settings c.in_ok-order.order c.in_ok-order.interval c.in_ok-order.priority) (mark_word mark.Close ∷ []) (mark_word mark.Semicolon ∷ []))))) mark.Semicolon [] five fault c.in_err-punctuation-3.ensures.err.0 c.in_err-punctuation-3.ensures.other))))))
