use Rattle.plant_text.specs.declared.token.Token.TheVariants as token
use Rattle.plant_grammar.proofs.ExpectedWords.{stuck_told}
use Rattle.std.proofs.Common.{◌≡◌, ◌≢◌, ◌<◌, ◌^◌, ◌++◌, List, length, ◌∙◌, ap, subst, [], refl, ◌∷◌}
use Rattle.std.specs.List.{flat_map}
use Rattle.lists.proofs.Results.{kept_fault}
use Rattle.plant_grammar.specs.Grammar.{Tree, TextValue, words_of, key_word, program_words}
use Rattle.plant_grammar.specs.Lawful.{uses_of, AreResourcesLawful}
use Rattle.plant_grammar.specs.Steps.NamesRead.{RefusesResources}
use Rattle.plant_grammar.specs.Steps.Declaring.{BeginWith, BeginRefused, IsLineBefore, RefusesFurtherProgram, RefusesPlantWords, RefusesFirst}
use Rattle.plant_grammar.specs.Steps.ReadParts.{tally_with, types_alone}
use Rattle.plant_grammar.specs.Steps.Reading.{programs_of, all_words, AreAllPrograms, tree_written}
use Rattle.plant_grammar.proofs.RefusedNames.{begin_with}
use Rattle.plant_grammar.proofs.RefusedPlaces.{further_program, in_configuration}
use Rattle.plant_grammar.proofs.RefusedPrograms.{first_refused}
use Rattle.plant_grammar.proofs.WholeTrees.{tree_is, begun_words, begin_with_texts}
use Rattle.plant_text.specs.declared.token.Token.{Token}
use Rattle.plant_grammar.specs.declared.grammar_fault.GrammarFaultKind.TheVariants.{Memory, Syntax}
use Rattle.plant_grammar.specs.Lawful.{IsTreeLawful}
use Rattle.plant_grammar.proofs.LawfulTrees.{programs_allowed, behind_programs, behind_name, name_follows, resources_allowed, read_alone}
use Rattle.plant_grammar.specs.Steps.Expected.{MeetsMisplaced, IsStuck, whole_plant}
use Rattle.plant_text.specs.declared.token.Keyword.TheVariants as key
use Rattle.plant_grammar.proofs.UnexpectedWords.{key_stuck, name_stuck}
use Rattle.plant_grammar.proofs.MisplacedWords.{resources_expected, name_expected, configuration_expected, stuck_behind_read, meets_misplaced, stuck_no_plant, misplaced_behind}
use Rattle.plant_grammar.specs.WellFormed.{IsTreeWellFormed}
use Rattle.plant_grammar.proofs.StuckBehind.{stuck_after_key, stuck_after_name}
use Rattle.plant_grammar.proofs.OneTree.{all_programs_read}
use Rattle.plant_grammar.specs.NameFaults.{judged_of}
use Rattle.plant_grammar.specs.Steps.SoundWords.{BeginsSound, judged_resources_behind, AreResourcesFormed}
use Rattle.plant_grammar.specs.Steps.Refusing.{AreTypesApart}
use Rattle.plant_grammar.proofs.SoundFronts.{configuration_front, resources_of_tree}
use Rattle.plant_grammar.proofs.grammar.read_tree.read_tree.Goals as read_tree_goals

-- words that a plant without a fault in them begins with
abbrev GoesOnKnown : List Token → Type 0
GoesOnKnown = BeginsSound judged_of IsTreeWellFormed

pub returns-clause-ok : read_tree_goals.returns-clause-ok
returns-clause-ok c =
    let texts = c.programs.new.texts.items in
    let resources = c.in_ok-resources.resources.items in
    let start = c.args.reader.now.words in
    let one = c.programs.new.self.words in
    let written = begun_words c.args.texts.now.items texts start one c.requires c.in_ok-programs.ensures.ok in
    tree_is texts resources c.in_ok-_name._name c.resources.new.tally start one c.keyword.new.self.words c.name.new.self.words c.resources.new.self.words
    written c.in_ok-keyword.ensures.ok c.in_ok-_name.ensures.ok c.in_ok-resources.ensures.ok
    c.programs.ensures.declared c.in_ok-resources.ensures.some
    (subst (λ ts. AreResourcesLawful (types_alone ts) resources) c.as_slice.ensures.value c.in_ok-resources.ensures.lawful)
    (c.in_ok-resources.ensures.tally ∙ ap (λ t. tally_with t (flat_map uses_of resources)) c.new-tally.ensures)
    c.instances-instances.ensures.few c.binds-binds.ensures.few

pub returns-clause-texts : read_tree_goals.returns-clause-texts
returns-clause-texts c = begin_with_texts c.args.reader.now c.args.texts.now.items c.programs.new.texts.items c.programs.new.self.words c.programs.new.self.bodies c.requires c.in_ok-programs.ensures.ok c.in_ok-programs.ensures.lines

pub returns-in_err-programs-clause-texts : read_tree_goals.returns-in_err-programs-clause-texts
returns-in_err-programs-clause-texts c =
    let words = c.in_err-programs.ensures.err in
    let lines = c.in_err-programs.ensures.err_lines in
    begin_with_texts c.args.reader.now c.args.texts.now.items c.programs.new.texts.items words.0 lines.0 c.requires words.1 lines.1

pub returns-in_err-programs-clause-name : read_tree_goals.returns-in_err-programs-clause-name
returns-in_err-programs-clause-name c =
    let fault = c.in_err-programs.field-0.0 in
    let start = c.args.reader.now.words in
    let programs = programs_of c.programs.new.texts.items in
    kept_fault fault (BeginRefused (RefusesFirst programs) c.args.reader.now) c.from_residual.result c.from_residual.ensures.1
    (λ all h of. begin_with (RefusesPlantWords programs fault.kind) (RefusesFirst programs fault.kind) start (λ front refuses. first_refused fault.kind programs front of c.programs.ensures.declared refuses)
    (further_program fault.kind programs start
    (subst (λ (ts : List TextValue). BeginWith (IsLineBefore all fault.line) (RefusesFurtherProgram programs fault.kind) (all_words ts start)) c.requires (c.in_err-programs.ensures.names all h of))))

pub returns-in_err-resources-clause-name : read_tree_goals.returns-in_err-resources-clause-name
returns-in_err-resources-clause-name c =
    let fault = c.in_err-resources.field-0.0 in
    let start = c.args.reader.now.words in
    let texts = c.programs.new.texts.items in
    let one = c.programs.new.self.words in
    let written = begun_words c.args.texts.now.items texts start one c.requires c.in_ok-programs.ensures.ok in
    kept_fault fault (BeginRefused (RefusesFirst (programs_of texts)) c.args.reader.now) c.from_residual-in_err-resources.result c.from_residual-in_err-resources.ensures.1
    (λ all h of. begin_with (RefusesPlantWords (programs_of texts) fault.kind) (RefusesFirst (programs_of texts) fault.kind) start (λ front refuses. first_refused fault.kind (programs_of texts) front of c.programs.ensures.declared refuses)
    (in_configuration fault.kind (programs_of texts) c.in_ok-_name._name c.new-tally.result start one c.keyword.new.self.words c.name.new.self.words written c.in_ok-keyword.ensures.ok c.in_ok-_name.ensures.ok c.new-tally.ensures
    (subst (λ (ts : List TextValue). BeginWith (IsLineBefore all fault.line) (RefusesResources fault.kind c.new-tally.result.instances c.new-tally.result.binds (programs_of ts)) c.name.new.self.words) c.as_slice.ensures.value (c.in_err-resources.ensures.names all (c.in_ok-_name.ensures.left.0 all (c.in_ok-keyword.ensures.left.0 all (c.in_ok-programs.ensures.left.0 all h))) of))))

pub returns-in_err-programs-clause-refused : read_tree_goals.returns-in_err-programs-clause-refused
returns-in_err-programs-clause-refused c =
    let fault = c.in_err-programs.field-0.0 in
    kept_fault fault (λ f. f.kind ≢ Memory → (tree : Tree) (rest : List Token) → c.args.reader.now.words ≡ words_of tree ++ rest → IsTreeLawful tree → ⊥) c.from_residual.result c.from_residual.ensures.1
    (λ known tree rest e lawful. programs_allowed c.args.texts.now.items tree c.args.reader.now.words rest c.requires e lawful (c.in_err-programs.ensures.other known))

pub returns-in_err-keyword-clause-refused : read_tree_goals.returns-in_err-keyword-clause-refused
returns-in_err-keyword-clause-refused c =
    let fault = c.in_err-keyword.field-0.0 in
    kept_fault fault (λ f. f.kind ≢ Memory → (tree : Tree) (rest : List Token) → c.args.reader.now.words ≡ words_of tree ++ rest → IsTreeLawful tree → ⊥) c.from_residual-in_err-keyword.result c.from_residual-in_err-keyword.ensures.1
    (λ known tree rest e lawful.
    let one = behind_programs c.args.texts.now.items c.programs.new.texts.items tree c.args.reader.now.words c.programs.new.self.words rest c.requires c.in_ok-programs.ensures.ok c.in_ok-programs.ensures.none e in
    c.in_err-keyword.ensures.other _ one.1)

pub returns-in_err-_name-clause-refused : read_tree_goals.returns-in_err-_name-clause-refused
returns-in_err-_name-clause-refused c =
    let fault = c.in_err-_name.field-0.0 in
    kept_fault fault (λ f. f.kind ≢ Memory → (tree : Tree) (rest : List Token) → c.args.reader.now.words ≡ words_of tree ++ rest → IsTreeLawful tree → ⊥) c.from_residual-in_err-_name.result c.from_residual-in_err-_name.ensures.1
    (λ known tree rest e lawful.
    let one = behind_programs c.args.texts.now.items c.programs.new.texts.items tree c.args.reader.now.words c.programs.new.self.words rest c.requires c.in_ok-programs.ensures.ok c.in_ok-programs.ensures.none e in
    c.in_err-_name.ensures.other known tree.name _ (name_follows tree c.programs.new.self.words c.keyword.new.self.words rest one.1 c.in_ok-keyword.ensures.ok))

pub returns-in_err-resources-clause-refused : read_tree_goals.returns-in_err-resources-clause-refused
returns-in_err-resources-clause-refused c =
    let fault = c.in_err-resources.field-0.0 in
    kept_fault fault (λ f. f.kind ≢ Memory → (tree : Tree) (rest : List Token) → c.args.reader.now.words ≡ words_of tree ++ rest → IsTreeLawful tree → ⊥) c.from_residual-in_err-resources.result c.from_residual-in_err-resources.ensures.1
    (λ known tree rest e lawful.
    let one = behind_programs c.args.texts.now.items c.programs.new.texts.items tree c.args.reader.now.words c.programs.new.self.words rest c.requires c.in_ok-programs.ensures.ok c.in_ok-programs.ensures.none e in
    resources_allowed tree c.programs.new.texts.items c.as_slice.result.now c.new-tally.result c.name.new.self.words rest c.as_slice.ensures.value c.programs.ensures.declared one.0 c.new-tally.ensures
    (behind_name tree c.in_ok-_name._name c.programs.new.self.words c.keyword.new.self.words c.name.new.self.words rest one.1 c.in_ok-keyword.ensures.ok c.in_ok-_name.ensures.ok) lawful
    (c.in_err-resources.ensures.other known))

pub returns-clause-only : read_tree_goals.returns-clause-only
returns-clause-only c = λ tree rest e.
    read_alone tree c.programs.new.texts.items c.in_ok-resources.resources.items c.args.reader.now.words c.resources.new.self.words rest (returns-clause-ok c) e

pub returns-in_err-programs-clause-syntax : read_tree_goals.returns-in_err-programs-clause-syntax
returns-in_err-programs-clause-syntax c =
    let fault = c.in_err-programs.field-0.0 in
    kept_fault fault (λ f. f.kind ≡ Syntax → (tree : Tree) (rest : List Token) → c.args.reader.now.words ≡ words_of tree ++ rest → IsTreeWellFormed tree → ⊥) c.from_residual.result c.from_residual.ensures.1
    (λ syntax. stuck_no_plant GoesOnKnown c.args.reader.now fault.line (subst (λ (ts : List TextValue). IsStuck (λ words. GoesOnKnown (all_words ts words)) whole_plant c.args.reader.now fault.line) c.requires (c.in_err-programs.ensures.stuck syntax configuration_expected)))

pub returns-in_err-keyword-clause-syntax : read_tree_goals.returns-in_err-keyword-clause-syntax
returns-in_err-keyword-clause-syntax c =
    let fault = c.in_err-keyword.field-0.0 in
    kept_fault fault (λ f. f.kind ≡ Syntax → (tree : Tree) (rest : List Token) → c.args.reader.now.words ≡ words_of tree ++ rest → IsTreeWellFormed tree → ⊥) c.from_residual-in_err-keyword.result c.from_residual-in_err-keyword.ensures.1
    (λ syntax. stuck_no_plant GoesOnKnown c.args.reader.now fault.line
    (stuck_behind_read GoesOnKnown (programs_of c.programs.new.texts.items) c.args.reader.now c.programs.new.self fault
    (begun_words c.args.texts.now.items c.programs.new.texts.items c.args.reader.now.words c.programs.new.self.words c.requires c.in_ok-programs.ensures.ok) c.in_ok-programs.ensures.left c.programs.ensures.declared.declared c.in_ok-programs.ensures.none
    (key_stuck (λ w. GoesOnKnown (flat_map program_words (programs_of c.programs.new.texts.items) ++ w)) (configuration_front (programs_of c.programs.new.texts.items) [] (key_word key.Configuration ∷ token.Name [] ∷ []) c.programs.ensures.declared refl) key.Configuration name_expected c.programs.new.self fault c.in_err-keyword.ensures.err.0 c.in_err-keyword.ensures.other) syntax))

pub returns-in_err-_name-clause-syntax : read_tree_goals.returns-in_err-_name-clause-syntax
returns-in_err-_name-clause-syntax c =
    let fault = c.in_err-_name.field-0.0 in
    kept_fault fault (λ f. f.kind ≡ Syntax → (tree : Tree) (rest : List Token) → c.args.reader.now.words ≡ words_of tree ++ rest → IsTreeWellFormed tree → ⊥) c.from_residual-in_err-_name.result c.from_residual-in_err-_name.ensures.1
    (λ syntax. stuck_no_plant GoesOnKnown c.args.reader.now fault.line
    (stuck_behind_read GoesOnKnown (programs_of c.programs.new.texts.items) c.args.reader.now c.programs.new.self fault
    (begun_words c.args.texts.now.items c.programs.new.texts.items c.args.reader.now.words c.programs.new.self.words c.requires c.in_ok-programs.ensures.ok) c.in_ok-programs.ensures.left c.programs.ensures.declared.declared c.in_ok-programs.ensures.none
    (stuck_after_key (λ w. GoesOnKnown (flat_map program_words (programs_of c.programs.new.texts.items) ++ w)) key.Configuration name_expected c.programs.new.self c.keyword.new.self fault c.in_ok-keyword.ensures.ok c.in_ok-keyword.ensures.left
    (name_stuck (λ w. GoesOnKnown (flat_map program_words (programs_of c.programs.new.texts.items) ++ key_word key.Configuration ∷ w)) (configuration_front (programs_of c.programs.new.texts.items) (key_word key.Configuration ∷ []) (token.Name [] ∷ []) c.programs.ensures.declared refl) resources_expected c.keyword.new.self fault c.in_err-_name.ensures.err c.in_err-_name.ensures.other)) syntax))

pub returns-in_err-resources-clause-syntax : read_tree_goals.returns-in_err-resources-clause-syntax
returns-in_err-resources-clause-syntax c =
    let fault = c.in_err-resources.field-0.0 in
    kept_fault fault (λ f. f.kind ≡ Syntax → (tree : Tree) (rest : List Token) → c.args.reader.now.words ≡ words_of tree ++ rest → IsTreeWellFormed tree → ⊥) c.from_residual-in_err-resources.result c.from_residual-in_err-resources.ensures.1
    (λ syntax. stuck_no_plant GoesOnKnown c.args.reader.now fault.line
    (stuck_behind_read GoesOnKnown (programs_of c.programs.new.texts.items) c.args.reader.now c.programs.new.self fault
    (begun_words c.args.texts.now.items c.programs.new.texts.items c.args.reader.now.words c.programs.new.self.words c.requires c.in_ok-programs.ensures.ok) c.in_ok-programs.ensures.left c.programs.ensures.declared.declared c.in_ok-programs.ensures.none
    (stuck_after_key (λ w. GoesOnKnown (flat_map program_words (programs_of c.programs.new.texts.items) ++ w)) key.Configuration name_expected c.programs.new.self c.keyword.new.self fault c.in_ok-keyword.ensures.ok c.in_ok-keyword.ensures.left
    (stuck_after_name (λ w. GoesOnKnown (flat_map program_words (programs_of c.programs.new.texts.items) ++ key_word key.Configuration ∷ w)) c.in_ok-_name._name resources_expected c.keyword.new.self c.name.new.self fault c.in_ok-_name.ensures.ok c.in_ok-_name.ensures.left
    (stuck_told (λ w. GoesOnKnown (flat_map program_words (programs_of c.programs.new.texts.items) ++ key_word key.Configuration ∷ token.Name c.in_ok-_name._name ∷ w))
    (λ words. AreTypesApart c.as_slice.result.now → BeginsSound (judged_resources_behind (programs_of c.as_slice.result.now) c.new-tally.result.instances c.new-tally.result.binds) AreResourcesFormed words) resources_expected c.name.new.self fault
    (λ w b. resources_of_tree (programs_of c.programs.new.texts.items) c.in_ok-_name._name c.new-tally.result w c.programs.ensures.declared c.new-tally.ensures
    (subst (λ (ts : List TextValue). AreTypesApart ts → BeginsSound (judged_resources_behind (programs_of ts) c.new-tally.result.instances c.new-tally.result.binds) AreResourcesFormed w) c.as_slice.ensures.value b))
    c.in_err-resources.ensures.stuck))) syntax))

pub returns-in_err-programs-clause-misplaced : read_tree_goals.returns-in_err-programs-clause-misplaced
returns-in_err-programs-clause-misplaced c =
    let fault = c.in_err-programs.field-0.0 in
    kept_fault fault (λ f. f.kind ≡ Syntax → length c.args.reader.now.words < 2 ^ 63 → MeetsMisplaced c.args.reader.now f.line) c.from_residual.result c.from_residual.ensures.1
    (λ syntax few. meets_misplaced c.args.reader.now fault.line few (subst (λ (ts : List TextValue). IsStuck (λ words. GoesOnKnown (all_words ts words)) whole_plant c.args.reader.now fault.line) c.requires (c.in_err-programs.ensures.stuck syntax configuration_expected)))

pub returns-in_err-keyword-clause-misplaced : read_tree_goals.returns-in_err-keyword-clause-misplaced
returns-in_err-keyword-clause-misplaced c =
    let fault = c.in_err-keyword.field-0.0 in
    kept_fault fault (λ f. f.kind ≡ Syntax → length c.args.reader.now.words < 2 ^ 63 → MeetsMisplaced c.args.reader.now f.line) c.from_residual-in_err-keyword.result c.from_residual-in_err-keyword.ensures.1
    (λ syntax few. meets_misplaced c.args.reader.now fault.line few
    (stuck_behind_read GoesOnKnown (programs_of c.programs.new.texts.items) c.args.reader.now c.programs.new.self fault
    (begun_words c.args.texts.now.items c.programs.new.texts.items c.args.reader.now.words c.programs.new.self.words c.requires c.in_ok-programs.ensures.ok) c.in_ok-programs.ensures.left c.programs.ensures.declared.declared c.in_ok-programs.ensures.none
    (key_stuck (λ w. GoesOnKnown (flat_map program_words (programs_of c.programs.new.texts.items) ++ w)) (configuration_front (programs_of c.programs.new.texts.items) [] (key_word key.Configuration ∷ token.Name [] ∷ []) c.programs.ensures.declared refl) key.Configuration name_expected c.programs.new.self fault c.in_err-keyword.ensures.err.0 c.in_err-keyword.ensures.other) syntax))

pub returns-in_err-_name-clause-misplaced : read_tree_goals.returns-in_err-_name-clause-misplaced
returns-in_err-_name-clause-misplaced c =
    let fault = c.in_err-_name.field-0.0 in
    kept_fault fault (λ f. f.kind ≡ Syntax → length c.args.reader.now.words < 2 ^ 63 → MeetsMisplaced c.args.reader.now f.line) c.from_residual-in_err-_name.result c.from_residual-in_err-_name.ensures.1
    (λ syntax few. meets_misplaced c.args.reader.now fault.line few
    (stuck_behind_read GoesOnKnown (programs_of c.programs.new.texts.items) c.args.reader.now c.programs.new.self fault
    (begun_words c.args.texts.now.items c.programs.new.texts.items c.args.reader.now.words c.programs.new.self.words c.requires c.in_ok-programs.ensures.ok) c.in_ok-programs.ensures.left c.programs.ensures.declared.declared c.in_ok-programs.ensures.none
    (stuck_after_key (λ w. GoesOnKnown (flat_map program_words (programs_of c.programs.new.texts.items) ++ w)) key.Configuration name_expected c.programs.new.self c.keyword.new.self fault c.in_ok-keyword.ensures.ok c.in_ok-keyword.ensures.left
    (name_stuck (λ w. GoesOnKnown (flat_map program_words (programs_of c.programs.new.texts.items) ++ key_word key.Configuration ∷ w)) (configuration_front (programs_of c.programs.new.texts.items) (key_word key.Configuration ∷ []) (token.Name [] ∷ []) c.programs.ensures.declared refl) resources_expected c.keyword.new.self fault c.in_err-_name.ensures.err c.in_err-_name.ensures.other)) syntax))

pub returns-in_err-resources-clause-misplaced : read_tree_goals.returns-in_err-resources-clause-misplaced
returns-in_err-resources-clause-misplaced c =
    let fault = c.in_err-resources.field-0.0 in
    kept_fault fault (λ f. f.kind ≡ Syntax → length c.args.reader.now.words < 2 ^ 63 → MeetsMisplaced c.args.reader.now f.line) c.from_residual-in_err-resources.result c.from_residual-in_err-resources.ensures.1
    (λ syntax few. meets_misplaced c.args.reader.now fault.line few
    (stuck_behind_read GoesOnKnown (programs_of c.programs.new.texts.items) c.args.reader.now c.programs.new.self fault
    (begun_words c.args.texts.now.items c.programs.new.texts.items c.args.reader.now.words c.programs.new.self.words c.requires c.in_ok-programs.ensures.ok) c.in_ok-programs.ensures.left c.programs.ensures.declared.declared c.in_ok-programs.ensures.none
    (stuck_after_key (λ w. GoesOnKnown (flat_map program_words (programs_of c.programs.new.texts.items) ++ w)) key.Configuration name_expected c.programs.new.self c.keyword.new.self fault c.in_ok-keyword.ensures.ok c.in_ok-keyword.ensures.left
    (stuck_after_name (λ w. GoesOnKnown (flat_map program_words (programs_of c.programs.new.texts.items) ++ key_word key.Configuration ∷ w)) c.in_ok-_name._name resources_expected c.keyword.new.self c.name.new.self fault c.in_ok-_name.ensures.ok c.in_ok-_name.ensures.left
    (stuck_told (λ w. GoesOnKnown (flat_map program_words (programs_of c.programs.new.texts.items) ++ key_word key.Configuration ∷ token.Name c.in_ok-_name._name ∷ w))
    (λ words. AreTypesApart c.as_slice.result.now → BeginsSound (judged_resources_behind (programs_of c.as_slice.result.now) c.new-tally.result.instances c.new-tally.result.binds) AreResourcesFormed words) resources_expected c.name.new.self fault
    (λ w b. resources_of_tree (programs_of c.programs.new.texts.items) c.in_ok-_name._name c.new-tally.result w c.programs.ensures.declared c.new-tally.ensures
    (subst (λ (ts : List TextValue). AreTypesApart ts → BeginsSound (judged_resources_behind (programs_of ts) c.new-tally.result.instances c.new-tally.result.binds) AreResourcesFormed w) c.as_slice.ensures.value b))
    c.in_err-resources.ensures.stuck))) syntax))

pub returns-clause-lined : read_tree_goals.returns-clause-lined
returns-clause-lined c = λ all h. c.in_ok-resources.ensures.lined all (c.in_ok-_name.ensures.left.0 all (c.in_ok-keyword.ensures.left.0 all (c.in_ok-programs.ensures.left.0 all h)))

pub returns-clause-behind : read_tree_goals.returns-clause-behind
returns-clause-behind c =
    let read = returns-clause-ok c in
    misplaced_behind (tree_written read.name c.programs.new.texts.items c.in_ok-resources.resources.items) c.args.reader.now c.resources.new.self read.written (
      λ all h. c.in_ok-resources.ensures.left.0 all (c.in_ok-_name.ensures.left.0 all (c.in_ok-keyword.ensures.left.0 all (c.in_ok-programs.ensures.left.0 all h))),
      c.in_ok-resources.ensures.left.1 ∙ c.in_ok-_name.ensures.left.1 ∙ c.in_ok-keyword.ensures.left.1 ∙ c.in_ok-programs.ensures.left.1,
    ) read.lawful

pub returns-in_err-programs-clause-whole : read_tree_goals.returns-in_err-programs-clause-whole
returns-in_err-programs-clause-whole c =
    let fault = c.in_err-programs.field-0.0 in
    let start = c.args.reader.now.words in
    let programs = programs_of c.programs.new.texts.items in
    kept_fault fault (λ f. f.kind ≡ Syntax → AreAllPrograms start programs) c.from_residual.result c.from_residual.ensures.1
    (λ syntax. subst (λ (ts : List TextValue). AreAllPrograms (all_words ts start) programs) c.requires (c.in_err-programs.ensures.whole syntax))

pub returns-in_err-keyword-clause-whole : read_tree_goals.returns-in_err-keyword-clause-whole
returns-in_err-keyword-clause-whole c =
    let start = c.args.reader.now.words in
    let texts = c.programs.new.texts.items in
    let one = c.programs.new.self.words in
    kept_fault c.in_err-keyword.field-0.0 (λ f. f.kind ≡ Syntax → AreAllPrograms start (programs_of texts)) c.from_residual-in_err-keyword.result c.from_residual-in_err-keyword.ensures.1
    (λ syntax. all_programs_read (programs_of texts) start one (begun_words c.args.texts.now.items texts start one c.requires c.in_ok-programs.ensures.ok) c.in_ok-programs.ensures.none)

pub returns-in_err-_name-clause-whole : read_tree_goals.returns-in_err-_name-clause-whole
returns-in_err-_name-clause-whole c =
    let start = c.args.reader.now.words in
    let texts = c.programs.new.texts.items in
    let one = c.programs.new.self.words in
    kept_fault c.in_err-_name.field-0.0 (λ f. f.kind ≡ Syntax → AreAllPrograms start (programs_of texts)) c.from_residual-in_err-_name.result c.from_residual-in_err-_name.ensures.1
    (λ syntax. all_programs_read (programs_of texts) start one (begun_words c.args.texts.now.items texts start one c.requires c.in_ok-programs.ensures.ok) c.in_ok-programs.ensures.none)

pub returns-in_err-resources-clause-whole : read_tree_goals.returns-in_err-resources-clause-whole
returns-in_err-resources-clause-whole c =
    let start = c.args.reader.now.words in
    let texts = c.programs.new.texts.items in
    let one = c.programs.new.self.words in
    kept_fault c.in_err-resources.field-0.0 (λ f. f.kind ≡ Syntax → AreAllPrograms start (programs_of texts)) c.from_residual-in_err-resources.result c.from_residual-in_err-resources.ensures.1
    (λ syntax. all_programs_read (programs_of texts) start one (begun_words c.args.texts.now.items texts start one c.requires c.in_ok-programs.ensures.ok) c.in_ok-programs.ensures.none)
