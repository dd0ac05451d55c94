use Rattle.plant_text.specs.declared.token.Keyword.TheVariants as key
use Rattle.plant_grammar.specs.Steps.Reading.{programs_of}
use Rattle.std.specs.List.{flat_map}
use Rattle.std.proofs.Common.{◌≡◌, ◌≢◌, ◌++◌, List, refl, ◌∷◌, [], ◌<◌}
use Rattle.plant_text.specs.declared.token.Token.{Token}
use Rattle.plant_grammar.specs.declared.grammar_fault.GrammarFaultKind.TheVariants.{Memory}
use Rattle.lists.proofs.Results.{kept_fault}
use Rattle.plant_grammar.specs.declared.grammar.tree.Item.{Item}
use Rattle.plant_grammar.specs.Grammar.{item_words}
use Rattle.plant_grammar.specs.Lawful.{use_of, task_of}
use Rattle.plant_grammar.specs.Steps.ReadParts.{types_alone, MayFollow}
use Rattle.plant_grammar.specs.Steps.Refusing.{HasRoomFor, AreTypesApart}
use Rattle.plant_grammar.proofs.LawfulResources.{task_allowed, use_allowed}
use Rattle.plant_grammar.specs.Steps.Expected.{AnItem, GetsStuck, Key, instance_rest, task_rest}
use Rattle.plant_grammar.proofs.WalkedResources.{stuck_in_task_line, stuck_in_use_line}
use Rattle.plant_grammar.specs.NameFaults.{judged_task, judged_use, judged_item}
use Rattle.plant_grammar.specs.declared.grammar.tree.TaskLine.{TaskLine}
use Rattle.plant_grammar.specs.declared.grammar.tree.Use.{Use}
use Rattle.plant_grammar.specs.Steps.SoundWords.{BeginsSound, IsItemFormed}
use Rattle.plant_grammar.proofs.ExpectedWords.{stuck_told}
use Rattle.plant_grammar.proofs.LiftedWords.{lift_sound, task_in_item, use_in_item}
use Rattle.plant_grammar.proofs.grammar.reader.Reader.item.Goals as goal

pub returns-in_err-task-clause-other : goal.returns-in_err-task-clause-other
returns-in_err-task-clause-other c =
    let fault = c.in_err-task.field-0.0 in
    kept_fault fault (λ f. f.kind ≢ Memory → (x : Item) (rest : List Token) → c.args.self.now.words ≡ item_words x ++ rest → AreTypesApart c.args.types.now → MayFollow (types_alone c.args.types.now) c.args.before.now x → HasRoomFor c.args.tally.now (use_of x) → ⊥) c.from_residual.result c.from_residual.ensures.1
    (λ known x rest e apart may room. task_allowed (types_alone c.args.types.now) c.args.before.now x c.args.self.now.words rest e (c.if-sees_keyword.ensures.yes refl) may (c.in_err-task.ensures.other known))

pub returns-in_err-instance-clause-other : goal.returns-in_err-instance-clause-other
returns-in_err-instance-clause-other c =
    let fault = c.in_err-instance.field-0.0 in
    kept_fault fault (λ f. f.kind ≢ Memory → (x : Item) (rest : List Token) → c.args.self.now.words ≡ item_words x ++ rest → AreTypesApart c.args.types.now → MayFollow (types_alone c.args.types.now) c.args.before.now x → HasRoomFor c.args.tally.now (use_of x) → ⊥) c.from_residual-in_err-instance.result c.from_residual-in_err-instance.ensures.1
    (λ known x rest e apart may room. use_allowed (types_alone c.args.types.now) c.args.before.now c.args.tally.now x c.args.self.now.words rest e (c.if-sees_keyword.ensures.no refl) may room
    (λ u after h new lawful left. c.in_err-instance.ensures.other known u after h apart new lawful left))

pub returns-in_err-task-clause-stuck : goal.returns-in_err-task-clause-stuck
returns-in_err-task-clause-stuck c =
    let fault = c.in_err-task.field-0.0 in
    let programs = programs_of c.args.types.now in
    let i = c.args.tally.now.instances in
    let m = c.args.tally.now.binds in
    let before = c.args.before.now in
    let Known : List Token → Type 0 = BeginsSound (judged_item programs i m before) IsItemFormed in
    kept_fault fault (GetsStuck Known (AnItem ∷ []) c.args.self.now) c.from_residual.result c.from_residual.ensures.1
    (stuck_in_task_line Known c.args.self.now fault (c.if-sees_keyword.ensures.yes refl)
    (stuck_told Known (BeginsSound (judged_task (flat_map task_of before)) (λ (t : TaskLine). 0 < t.interval)) (Key key.Task ∷ task_rest) c.args.self.now fault
    (λ w b. lift_sound [] w (judged_task (flat_map task_of before)) (λ (t : TaskLine). 0 < t.interval) (judged_item programs i m before) IsItemFormed (λ fits. task_in_item programs i m before) b) c.in_err-task.ensures.stuck))

pub returns-in_err-instance-clause-stuck : goal.returns-in_err-instance-clause-stuck
returns-in_err-instance-clause-stuck c =
    let fault = c.in_err-instance.field-0.0 in
    let programs = programs_of c.args.types.now in
    let i = c.args.tally.now.instances in
    let m = c.args.tally.now.binds in
    let before = c.args.before.now in
    let Known : List Token → Type 0 = BeginsSound (judged_item programs i m before) IsItemFormed in
    kept_fault fault (GetsStuck Known (AnItem ∷ []) c.args.self.now) c.from_residual-in_err-instance.result c.from_residual-in_err-instance.ensures.1
    (stuck_in_use_line Known c.args.self.now fault (c.if-sees_keyword.ensures.no refl)
    (stuck_told Known (BeginsSound (judged_use programs i m before) (λ (u : Use). Unit {0})) (Key key.Program ∷ instance_rest) c.args.self.now fault
    (λ w b. lift_sound [] w (judged_use programs i m before) (λ (u : Use). Unit {0}) (judged_item programs i m before) IsItemFormed (λ fits. use_in_item programs i m before) b) c.in_err-instance.ensures.stuck))
