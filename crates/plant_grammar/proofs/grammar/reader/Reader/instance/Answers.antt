use Rattle.std.proofs.Common.{◌≡◌, ◌≢◌, ◌++◌, ◌∷◌, [], List, ap, subst, ℕ}
use Rattle.std.specs.Prelude.{All}
use Rattle.plant_grammar.specs.Kinds.{IsOfInputKind}
use Rattle.plant_grammar.specs.Lawful.{variables, use_of, binds_of, IsUseLawful}
use Rattle.plant_grammar.proofs.FoundTypes.{found_type, found_program}
use Rattle.plant_grammar.specs.Steps.ReadParts.{TallyValue, bound_in, types_alone}
use Rattle.plant_grammar.specs.Steps.NamesRead.{RefusesInstance, IsNew}
use Rattle.plant_grammar.specs.Steps.Declaring.{BeginRefused}
use Rattle.lists.proofs.Results.{kept_fault}
use Rattle.plant_grammar.specs.Steps.Reading.{programs_of}
use Rattle.plant_grammar.proofs.RefusedPlaces.{in_instance, task_unknown, type_unknown, binds_of_type}
use Rattle.plant_text.specs.declared.token.Token.{Token}
use Rattle.plant_grammar.specs.declared.grammar_fault.GrammarFaultKind.TheVariants.{Memory}
use Rattle.plant_grammar.specs.declared.grammar.tree.Program.{Program}
use Rattle.plant_grammar.specs.declared.grammar.tree.Use.{Use}
use Rattle.std.specs.List.{flat_map}
use Rattle.plant_grammar.specs.Grammar.{mark_word, use_words, binds_listed, key_word}
use Rattle.plant_grammar.specs.Steps.Refusing.{HasRoomFor, AreTypesApart}
use Rattle.plant_grammar.proofs.LawfulResources.{some_type, use_started, use_tasked, use_typed, room_for_binds, kinds_of_type}
use Rattle.plant_text.specs.declared.token.Punctuation.TheVariants.{Close}
use Rattle.plant_grammar.specs.SourceLines.{AreBindsOn}
use Rattle.plant_text.specs.declared.token.Keyword.TheVariants as key
use Rattle.plant_text.specs.declared.token.Punctuation.TheVariants as mark
use Rattle.plant_grammar.specs.Steps.Expected.{Key, Mark, AName, MayHaveBinds, instance_rest, GetsStuck}
use Rattle.plant_grammar.proofs.WalkedResources.{stuck_more, semicolon_stuck}
use Rattle.plant_grammar.proofs.StuckBehind.{stuck_after_key_and_name, stuck_after_mark_and_name}
use Rattle.plant_text.specs.declared.token.Token.TheVariants as token
use Rattle.plant_grammar.specs.declared.grammar.tree.TaskLine.{TaskLine}
use Rattle.plant_grammar.specs.Lawful.{task_of}
use Rattle.plant_grammar.specs.NameFaults.{judged_use, judged_binds}
use Rattle.plant_grammar.specs.Steps.SoundWords.{BeginsSound, BeginWords, ListedFit}
use Rattle.plant_grammar.proofs.ExpectedWords.{stuck_told}
use Rattle.plant_grammar.proofs.JudgedParts.{among_taken}
use Rattle.plant_grammar.proofs.SoundFronts.{IsAnyUse, use_begun, use_named, use_tasked_front, typed_is, use_bound_front, use_whole_front, instance_few}
use Rattle.plant_grammar.proofs.grammar.reader.Reader.instance.Goals as instance_goals

pub returns-clause-lawful : instance_goals.returns-clause-lawful
returns-clause-lawful c = record {
  task_is = c.in_ok-task.ensures.known;
  type_is = found_type c.args.types.now _ _ (λ p. All (IsOfInputKind (variables p)) (bound_in c.in_ok-binds.binds)) c.in_ok-program.ensures.found c.in_ok-binds.ensures.kinds;
  apart = c.in_ok-binds.ensures.apart;
}

pub returns-in_err-binds-clause-names : instance_goals.returns-in_err-binds-clause-names
returns-in_err-binds-clause-names c =
    let fault = c.in_err-binds.field-0.0 in
    let programs = programs_of c.args.types.now in
    kept_fault fault (BeginRefused (λ k. RefusesInstance k c.args.tally.now.instances c.args.tally.now.binds programs c.args.before.now) c.args.self.now) c.from_residual-in_err-binds.result c.from_residual-in_err-binds.ensures.1
    (λ all h of. in_instance fault.kind c.args.tally.now.instances c.args.tally.now.binds programs c.args.before.now c.in_ok-instance.instance c.args.self.now.words c.instance_start.new.self.words c.in_ok-instance.ensures.ok (c.in_ok-instance.ensures.new, c.in_ok-instance.ensures.few)
    (binds_of_type fault.kind c.args.tally.now.binds c.instance_start.new.tally.binds programs c.args.before.now c.in_ok-task.task _ _ c.instance_start.new.self.words c.task_of_instance.new.self.words c.type_of_instance.new.self.words
    c.in_ok-task.ensures.ok c.in_ok-task.ensures.known c.in_ok-program.ensures.ok
    (found_program c.args.types.now _ _ c.in_ok-program.ensures.found)
    (ap (λ (t : TallyValue). t.binds) c.in_ok-instance.ensures.tally) (c.in_err-binds.ensures.names all (c.in_ok-program.ensures.left.0 all (c.in_ok-task.ensures.left.0 all (c.in_ok-instance.ensures.left.0 all h))) of)))

pub returns-in_err-instance-clause-names : instance_goals.returns-in_err-instance-clause-names
returns-in_err-instance-clause-names c =
    let fault = c.in_err-instance.field-0.0 in
    let programs = programs_of c.args.types.now in
    kept_fault fault (BeginRefused (λ k. RefusesInstance k c.args.tally.now.instances c.args.tally.now.binds programs c.args.before.now) c.args.self.now) c.from_residual.result c.from_residual.ensures.1
    (c.in_err-instance.ensures.names programs)

pub returns-in_err-task-clause-names : instance_goals.returns-in_err-task-clause-names
returns-in_err-task-clause-names c =
    let fault = c.in_err-task.field-0.0 in
    let programs = programs_of c.args.types.now in
    kept_fault fault (BeginRefused (λ k. RefusesInstance k c.args.tally.now.instances c.args.tally.now.binds programs c.args.before.now) c.args.self.now) c.from_residual-in_err-task.result c.from_residual-in_err-task.ensures.1
    (λ all h of. in_instance fault.kind c.args.tally.now.instances c.args.tally.now.binds programs c.args.before.now c.in_ok-instance.instance c.args.self.now.words c.instance_start.new.self.words c.in_ok-instance.ensures.ok (c.in_ok-instance.ensures.new, c.in_ok-instance.ensures.few)
    (task_unknown fault.kind c.args.tally.now.binds programs c.args.before.now c.instance_start.new.self.words (c.in_err-task.ensures.names all (c.in_ok-instance.ensures.left.0 all h) of)))

pub returns-in_err-program-clause-names : instance_goals.returns-in_err-program-clause-names
returns-in_err-program-clause-names c =
    let fault = c.in_err-program.field-0.0 in
    let programs = programs_of c.args.types.now in
    kept_fault fault (BeginRefused (λ k. RefusesInstance k c.args.tally.now.instances c.args.tally.now.binds programs c.args.before.now) c.args.self.now) c.from_residual-in_err-program.result c.from_residual-in_err-program.ensures.1
    (λ all h of. in_instance fault.kind c.args.tally.now.instances c.args.tally.now.binds programs c.args.before.now c.in_ok-instance.instance c.args.self.now.words c.instance_start.new.self.words c.in_ok-instance.ensures.ok (c.in_ok-instance.ensures.new, c.in_ok-instance.ensures.few)
    (type_unknown fault.kind c.args.tally.now.binds programs c.args.before.now c.in_ok-task.task c.instance_start.new.self.words c.task_of_instance.new.self.words c.in_ok-task.ensures.ok c.in_ok-task.ensures.known (c.in_err-program.ensures.names all (c.in_ok-task.ensures.left.0 all (c.in_ok-instance.ensures.left.0 all h)) of)))

pub returns-in_err-program-clause-other : instance_goals.returns-in_err-program-clause-other
returns-in_err-program-clause-other c =
    let fault = c.in_err-program.field-0.0 in
    kept_fault fault (λ f. f.kind ≢ Memory → (u : Use) (rest : List Token) → c.args.self.now.words ≡ use_words u ++ rest → AreTypesApart c.args.types.now → IsNew (λ (u : Use). u.instance) (flat_map use_of c.args.before.now) u.instance → IsUseLawful (types_alone c.args.types.now) c.args.before.now u → HasRoomFor c.args.tally.now (u ∷ []) → ⊥) c.from_residual-in_err-program.result c.from_residual-in_err-program.ensures.1
    (λ known u rest e apart new lawful room.
    let words = use_tasked u c.in_ok-instance.instance c.in_ok-task.task c.args.self.now.words c.instance_start.new.self.words c.task_of_instance.new.self.words rest c.in_ok-instance.ensures.ok c.in_ok-task.ensures.ok e in
    c.in_err-program.ensures.other known u.program _ words (some_type c.args.types.now u.program (λ (p : Program). All (IsOfInputKind (variables p)) (binds_of u)) lawful.type_is))

pub returns-in_err-binds-clause-other : instance_goals.returns-in_err-binds-clause-other
returns-in_err-binds-clause-other c =
    let fault = c.in_err-binds.field-0.0 in
    kept_fault fault (λ f. f.kind ≢ Memory → (u : Use) (rest : List Token) → c.args.self.now.words ≡ use_words u ++ rest → AreTypesApart c.args.types.now → IsNew (λ (u : Use). u.instance) (flat_map use_of c.args.before.now) u.instance → IsUseLawful (types_alone c.args.types.now) c.args.before.now u → HasRoomFor c.args.tally.now (u ∷ []) → ⊥) c.from_residual-in_err-binds.result c.from_residual-in_err-binds.ensures.1
    (λ known u rest e apart new lawful room.
    let typed = use_typed u c.in_ok-instance.instance c.in_ok-task.task _ c.args.self.now.words c.instance_start.new.self.words c.task_of_instance.new.self.words c.type_of_instance.new.self.words rest c.in_ok-instance.ensures.ok c.in_ok-task.ensures.ok c.in_ok-program.ensures.ok e in
    c.in_err-binds.ensures.other known (binds_listed u.binds) rest typed.1 lawful.apart (kinds_of_type c.args.types.now u _ _ apart c.in_ok-program.ensures.found typed.0 lawful.type_is)
    (room_for_binds c.args.tally.now c.instance_start.new.tally u c.in_ok-instance.ensures.tally room))

pub returns-in_err-punctuation-clause-other : instance_goals.returns-in_err-punctuation-clause-other
returns-in_err-punctuation-clause-other c =
    let fault = c.in_err-punctuation.field-0.0 in
    kept_fault fault (λ f. f.kind ≢ Memory → (u : Use) (rest : List Token) → c.args.self.now.words ≡ use_words u ++ rest → AreTypesApart c.args.types.now → IsNew (λ (u : Use). u.instance) (flat_map use_of c.args.before.now) u.instance → IsUseLawful (types_alone c.args.types.now) c.args.before.now u → HasRoomFor c.args.tally.now (u ∷ []) → ⊥) c.from_residual-in_err-punctuation.result c.from_residual-in_err-punctuation.ensures.1
    (λ known u rest e apart new lawful room.
    let typed = use_typed u c.in_ok-instance.instance c.in_ok-task.task _ c.args.self.now.words c.instance_start.new.self.words c.task_of_instance.new.self.words c.type_of_instance.new.self.words rest c.in_ok-instance.ensures.ok c.in_ok-task.ensures.ok c.in_ok-program.ensures.ok e in
    c.in_err-punctuation.ensures.other rest (c.in_ok-binds.ensures.only (binds_listed u.binds) rest typed.1))

pub returns-clause-lined : instance_goals.returns-clause-lined
returns-clause-lined c = λ all h.
    subst (λ (rest : List Token). AreBindsOn all (bound_in c.in_ok-binds.binds) c.some_binds.new.lines.items (mark_word Close ∷ rest)) c.in_ok-punctuation.ensures.ok
    (c.in_ok-binds.ensures.lined all (c.in_ok-program.ensures.left.0 all (c.in_ok-task.ensures.left.0 all (c.in_ok-instance.ensures.left.0 all h))))

pub returns-in_err-task-clause-other : instance_goals.returns-in_err-task-clause-other
returns-in_err-task-clause-other c =
    let fault = c.in_err-task.field-0.0 in
    kept_fault fault (λ f. f.kind ≢ Memory → (u : Use) (rest : List Token) → c.args.self.now.words ≡ use_words u ++ rest → AreTypesApart c.args.types.now → IsNew (λ (u : Use). u.instance) (flat_map use_of c.args.before.now) u.instance → IsUseLawful (types_alone c.args.types.now) c.args.before.now u → HasRoomFor c.args.tally.now (u ∷ []) → ⊥) c.from_residual-in_err-task.result c.from_residual-in_err-task.ensures.1
    (λ known u rest e apart new lawful room.
    c.in_err-task.ensures.other known u.task _ (use_started u c.in_ok-instance.instance c.args.self.now.words c.instance_start.new.self.words rest c.in_ok-instance.ensures.ok e) lawful.task_is)

pub returns-in_err-instance-clause-stuck : instance_goals.returns-in_err-instance-clause-stuck
returns-in_err-instance-clause-stuck c =
    let fault = c.in_err-instance.field-0.0 in
    let start = c.args.self.now in
    let programs = programs_of c.args.types.now in
    let i = c.args.tally.now.instances in
    let m = c.args.tally.now.binds in
    let before = c.args.before.now in
    let Known : List Token → Type 0 = BeginsSound (judged_use programs i m before) IsAnyUse in
    kept_fault fault (GetsStuck Known (Key key.Program ∷ instance_rest) c.args.self.now) c.from_residual.result c.from_residual.ensures.1
    (stuck_told Known (BeginWords (key_word key.Program ∷ [])) (Key key.Program ∷ instance_rest) start fault (λ w b. use_begun programs i m before w b)
    (stuck_more (BeginWords (key_word key.Program ∷ [])) (Key key.Program ∷ AName ∷ []) (Key key.With ∷ AName ∷ Mark mark.Colon ∷ AName ∷ MayHaveBinds ∷ Mark mark.Semicolon ∷ []) start fault c.in_err-instance.ensures.stuck))

pub returns-in_err-task-clause-stuck : instance_goals.returns-in_err-task-clause-stuck
returns-in_err-task-clause-stuck c =
    let fault = c.in_err-task.field-0.0 in
    let start = c.args.self.now in
    let one = c.instance_start.new.self in
    let programs = programs_of c.args.types.now in
    let i = c.args.tally.now.instances in
    let m = c.args.tally.now.binds in
    let before = c.args.before.now in
    let Known : List Token → Type 0 = BeginsSound (judged_use programs i m before) IsAnyUse in
    kept_fault fault (GetsStuck Known (Key key.Program ∷ instance_rest) c.args.self.now) c.from_residual-in_err-task.result c.from_residual-in_err-task.ensures.1
    (stuck_after_key_and_name Known key.Program c.in_ok-instance.instance (Key key.With ∷ AName ∷ Mark mark.Colon ∷ AName ∷ MayHaveBinds ∷ Mark mark.Semicolon ∷ []) start one fault c.in_ok-instance.ensures.ok c.in_ok-instance.ensures.left
    (stuck_told (λ w. Known (key_word key.Program ∷ token.Name c.in_ok-instance.instance ∷ w)) (BeginWords (key_word key.With ∷ [])) (Key key.With ∷ AName ∷ Mark mark.Colon ∷ AName ∷ MayHaveBinds ∷ Mark mark.Semicolon ∷ []) one fault
    (λ w b. use_named programs i m before w c.in_ok-instance.instance c.in_ok-instance.ensures.new c.in_ok-instance.ensures.few b)
    (stuck_more (BeginWords (key_word key.With ∷ [])) (Key key.With ∷ AName ∷ []) (Mark mark.Colon ∷ AName ∷ MayHaveBinds ∷ Mark mark.Semicolon ∷ []) one fault c.in_err-task.ensures.stuck)))

pub returns-in_err-program-clause-stuck : instance_goals.returns-in_err-program-clause-stuck
returns-in_err-program-clause-stuck c =
    let fault = c.in_err-program.field-0.0 in
    let start = c.args.self.now in
    let one = c.instance_start.new.self in
    let two = c.task_of_instance.new.self in
    let programs = programs_of c.args.types.now in
    let i = c.args.tally.now.instances in
    let m = c.args.tally.now.binds in
    let before = c.args.before.now in
    let Known : List Token → Type 0 = BeginsSound (judged_use programs i m before) IsAnyUse in
    kept_fault fault (GetsStuck Known (Key key.Program ∷ instance_rest) c.args.self.now) c.from_residual-in_err-program.result c.from_residual-in_err-program.ensures.1
    (stuck_after_key_and_name Known key.Program c.in_ok-instance.instance (Key key.With ∷ AName ∷ Mark mark.Colon ∷ AName ∷ MayHaveBinds ∷ Mark mark.Semicolon ∷ []) start one fault c.in_ok-instance.ensures.ok c.in_ok-instance.ensures.left
    (stuck_after_key_and_name (λ w. Known (key_word key.Program ∷ token.Name c.in_ok-instance.instance ∷ w)) key.With c.in_ok-task.task (Mark mark.Colon ∷ AName ∷ MayHaveBinds ∷ Mark mark.Semicolon ∷ []) one two fault c.in_ok-task.ensures.ok c.in_ok-task.ensures.left
    (stuck_told (λ w. Known (key_word key.Program ∷ token.Name c.in_ok-instance.instance ∷ key_word key.With ∷ token.Name c.in_ok-task.task ∷ w)) (BeginWords (mark_word mark.Colon ∷ [])) (Mark mark.Colon ∷ AName ∷ MayHaveBinds ∷ Mark mark.Semicolon ∷ []) two fault
    (λ w b. use_tasked_front programs i m before w c.in_ok-instance.instance c.in_ok-task.task c.in_ok-instance.ensures.new c.in_ok-instance.ensures.few (among_taken (λ (t : TaskLine). t.name) (flat_map task_of before) c.in_ok-task.task c.in_ok-task.ensures.known) b)
    (stuck_more (BeginWords (mark_word mark.Colon ∷ [])) (Mark mark.Colon ∷ AName ∷ []) (MayHaveBinds ∷ Mark mark.Semicolon ∷ []) two fault c.in_err-program.ensures.stuck))))

pub returns-in_err-binds-clause-stuck : instance_goals.returns-in_err-binds-clause-stuck
returns-in_err-binds-clause-stuck c =
    let fault = c.in_err-binds.field-0.0 in
    let start = c.args.self.now in
    let one = c.instance_start.new.self in
    let two = c.task_of_instance.new.self in
    let three = c.type_of_instance.new.self in
    let programs = programs_of c.args.types.now in
    let i = c.args.tally.now.instances in
    let m = c.args.tally.now.binds in
    let before = c.args.before.now in
    let Known : List Token → Type 0 = BeginsSound (judged_use programs i m before) IsAnyUse in
    kept_fault fault (GetsStuck Known (Key key.Program ∷ instance_rest) c.args.self.now) c.from_residual-in_err-binds.result c.from_residual-in_err-binds.ensures.1
    (stuck_after_key_and_name Known key.Program c.in_ok-instance.instance (Key key.With ∷ AName ∷ Mark mark.Colon ∷ AName ∷ MayHaveBinds ∷ Mark mark.Semicolon ∷ []) start one fault c.in_ok-instance.ensures.ok c.in_ok-instance.ensures.left
    (stuck_after_key_and_name (λ w. Known (key_word key.Program ∷ token.Name c.in_ok-instance.instance ∷ w)) key.With c.in_ok-task.task (Mark mark.Colon ∷ AName ∷ MayHaveBinds ∷ Mark mark.Semicolon ∷ []) one two fault c.in_ok-task.ensures.ok c.in_ok-task.ensures.left
    (stuck_after_mark_and_name (λ w. Known (key_word key.Program ∷ token.Name c.in_ok-instance.instance ∷ key_word key.With ∷ token.Name c.in_ok-task.task ∷ w)) mark.Colon c.in_ok-program.program (MayHaveBinds ∷ Mark mark.Semicolon ∷ []) two three fault c.in_ok-program.ensures.ok c.in_ok-program.ensures.left
    (stuck_told (λ w. Known (key_word key.Program ∷ token.Name c.in_ok-instance.instance ∷ key_word key.With ∷ token.Name c.in_ok-task.task ∷ mark_word mark.Colon ∷ token.Name c.in_ok-program.program ∷ w)) (BeginsSound (judged_binds (variables c.in_ok-program.text.now.program) c.instance_start.new.tally.binds) ListedFit) (MayHaveBinds ∷ Mark mark.Semicolon ∷ []) three fault
    (λ w b. use_bound_front programs i m before c.in_ok-instance.instance c.in_ok-task.task c.in_ok-program.program _ w (typed_is programs i before c.in_ok-instance.instance c.in_ok-task.task c.in_ok-program.program _ c.in_ok-instance.ensures.new c.in_ok-instance.ensures.few c.in_ok-task.ensures.known (found_program c.args.types.now _ _ c.in_ok-program.ensures.found))
    (subst (λ (j : ℕ). BeginsSound (judged_binds (variables c.in_ok-program.text.now.program) j) ListedFit w) (ap (λ (t : TallyValue). t.binds) c.in_ok-instance.ensures.tally) b))
    (stuck_more (BeginsSound (judged_binds (variables c.in_ok-program.text.now.program) c.instance_start.new.tally.binds) ListedFit) (MayHaveBinds ∷ []) (Mark mark.Semicolon ∷ []) three fault c.in_err-binds.ensures.stuck)))))

pub returns-in_err-punctuation-clause-stuck : instance_goals.returns-in_err-punctuation-clause-stuck
returns-in_err-punctuation-clause-stuck c =
    let fault = c.in_err-punctuation.field-0.0 in
    let start = c.args.self.now in
    let one = c.instance_start.new.self in
    let two = c.task_of_instance.new.self in
    let three = c.type_of_instance.new.self in
    let four = c.some_binds.new.self in
    let programs = programs_of c.args.types.now in
    let i = c.args.tally.now.instances in
    let m = c.args.tally.now.binds in
    let before = c.args.before.now in
    let Known : List Token → Type 0 = BeginsSound (judged_use programs i m before) IsAnyUse in
    kept_fault fault (GetsStuck Known (Key key.Program ∷ instance_rest) c.args.self.now) c.from_residual-in_err-punctuation.result c.from_residual-in_err-punctuation.ensures.1
    (stuck_after_key_and_name Known key.Program c.in_ok-instance.instance (Key key.With ∷ AName ∷ Mark mark.Colon ∷ AName ∷ MayHaveBinds ∷ Mark mark.Semicolon ∷ []) start one fault c.in_ok-instance.ensures.ok c.in_ok-instance.ensures.left
    (stuck_after_key_and_name (λ w. Known (key_word key.Program ∷ token.Name c.in_ok-instance.instance ∷ w)) key.With c.in_ok-task.task (Mark mark.Colon ∷ AName ∷ MayHaveBinds ∷ Mark mark.Semicolon ∷ []) one two fault c.in_ok-task.ensures.ok c.in_ok-task.ensures.left
    (stuck_after_mark_and_name (λ w. Known (key_word key.Program ∷ token.Name c.in_ok-instance.instance ∷ key_word key.With ∷ token.Name c.in_ok-task.task ∷ w)) mark.Colon c.in_ok-program.program (MayHaveBinds ∷ Mark mark.Semicolon ∷ []) two three fault c.in_ok-program.ensures.ok c.in_ok-program.ensures.left
    (semicolon_stuck (λ w. Known (key_word key.Program ∷ token.Name c.in_ok-instance.instance ∷ key_word key.With ∷ token.Name c.in_ok-task.task ∷ mark_word mark.Colon ∷ token.Name c.in_ok-program.program ∷ w)) (binds_listed c.in_ok-binds.binds)
    (use_whole_front programs i m before c.in_ok-instance.instance c.in_ok-task.task c.in_ok-program.program _ c.in_ok-binds.binds (typed_is programs i before c.in_ok-instance.instance c.in_ok-task.task c.in_ok-program.program _ c.in_ok-instance.ensures.new c.in_ok-instance.ensures.few c.in_ok-task.ensures.known (found_program c.args.types.now _ _ c.in_ok-program.ensures.found))
    (record { apart = c.in_ok-binds.ensures.apart; kinds = c.in_ok-binds.ensures.kinds; few = instance_few c.args.tally.now c.instance_start.new.tally c.some_binds.new.tally (bound_in c.in_ok-binds.binds) c.in_ok-instance.ensures.tally c.in_ok-binds.ensures.tally c.binds-bound.ensures.few })) three four fault c.in_ok-binds.ensures.ok c.in_ok-binds.ensures.left c.in_ok-binds.ensures.whole c.in_err-punctuation.ensures.err.0 c.in_err-punctuation.ensures.other))))
