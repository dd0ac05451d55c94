use Rattle.plant_text.specs.declared.token.Token.{Token}
use Rattle.plant_grammar.specs.Grammar.{mark_word, name_words, type_word}
use Rattle.std.proofs.Common.{[], ◌∷◌, subst, sym, ◌++◌, List}
use Rattle.plant_grammar.specs.Steps.NamesRead.{RefusesOneList}
use Rattle.plant_grammar.specs.Steps.Declaring.{BeginRefused}
use Rattle.plant_text.specs.declared.token.Punctuation.TheVariants.{Colon, Semicolon}
use Rattle.plant_grammar.specs.Steps.Expected.{Mark, AName, AType, list_rest, GetsStuck, MoreNames}
use Rattle.plant_grammar.proofs.UnexpectedWords.{mark_stuck}
use Rattle.plant_grammar.proofs.WalkedPrograms.{stuck_after_names, stuck_after_type}
use Rattle.lists.proofs.Results.{kept_fault}
use Rattle.plant_grammar.proofs.RefusedNames.{memory_no_name}
use Rattle.plant_grammar.proofs.ReadLines.{line_before}
use Rattle.plant_grammar.proofs.RefusedPlaces.{name_of_list, type_of_list}
use Rattle.plant_grammar.proofs.StuckBehind.{stuck_after_mark}
use Rattle.plant_grammar.specs.NameFaults.{judged_list}
use Rattle.plant_grammar.specs.WellFormed.{HasNames}
use Rattle.plant_grammar.specs.Steps.SoundWords.{BeginsSound, IsNothing, judged_names, AreNamesFormed}
use Rattle.plant_grammar.proofs.ExpectedWords.{stuck_told}
use Rattle.plant_grammar.proofs.WalkedResources.{stuck_more}
use Rattle.plant_grammar.proofs.SoundFronts.{names_of_list, names_front, colon_front, type_front}
use Rattle.plant_grammar.proofs.grammar.reader.Reader.list.Goals as list_goals

pub returns-in_err-add_list-clause-names : list_goals.returns-in_err-add_list-clause-names
returns-in_err-add_list-clause-names c =
    let fault = c.in_err-add_list.field-0.0 in
    kept_fault fault (BeginRefused (λ k. RefusesOneList c.args.section c.args.variables.now k) c.args.self.now) c.from_residual-in_err-add_list.result c.from_residual-in_err-add_list.ensures.1
    (λ all h of. absurd (c.in_err-add_list.ensures.other (λ m. memory_no_name fault m of) c.in_ok-names.ensures.may))

pub returns-in_err-names-clause-names : list_goals.returns-in_err-names-clause-names
returns-in_err-names-clause-names c =
    let fault = c.in_err-names.field-0.0 in
    kept_fault fault (BeginRefused (λ k. RefusesOneList c.args.section c.args.variables.now k) c.args.self.now) c.from_residual.result c.from_residual.ensures.1
    (λ all h of. name_of_list fault.kind c.args.section c.args.variables.now c.args.self.now.words (c.in_err-names.ensures.names all h of))

pub returns-in_err-type_name-clause-names : list_goals.returns-in_err-type_name-clause-names
returns-in_err-type_name-clause-names c =
    let fault = c.in_err-type_name.field-0.0 in
    kept_fault fault (BeginRefused (λ k. RefusesOneList c.args.section c.args.variables.now k) c.args.self.now) c.from_residual-in_err-type_name.result c.from_residual-in_err-type_name.ensures.1
    (λ all h of. type_of_list fault.kind c.args.section c.args.variables.now c.in_ok-names.names.items c.args.self.now.words c.names.new.self.words c.punctuation.new.self.words (line_before all c.punctuation.new.self fault.line (c.in_ok-punctuation.ensures.left.0 all (c.in_ok-names.ensures.left.0 all h)) (c.in_err-type_name.ensures.line of)) c.in_ok-names.ensures.some c.in_ok-names.ensures.may c.in_ok-names.ensures.ok c.in_ok-punctuation.ensures.ok c.in_err-type_name.ensures.tells of)

pub returns-in_err-names-clause-stuck : list_goals.returns-in_err-names-clause-stuck
returns-in_err-names-clause-stuck c =
    let fault = c.in_err-names.field-0.0 in
    let s = c.args.section in
    let vs = c.args.variables.now in
    let Known : List Token → Type 0 = BeginsSound (judged_list s vs) HasNames in
    kept_fault fault (GetsStuck Known (AName ∷ list_rest) c.args.self.now) c.from_residual.result c.from_residual.ensures.1
    (stuck_told Known (BeginsSound (judged_names vs) AreNamesFormed) (AName ∷ list_rest) c.args.self.now fault (λ w b. names_of_list s vs w b)
    (stuck_more (BeginsSound (judged_names vs) AreNamesFormed) (AName ∷ MoreNames ∷ []) (Mark Colon ∷ AType ∷ Mark Semicolon ∷ []) c.args.self.now fault c.in_err-names.ensures.stuck))

pub returns-in_err-punctuation-clause-stuck : list_goals.returns-in_err-punctuation-clause-stuck
returns-in_err-punctuation-clause-stuck c =
    let fault = c.in_err-punctuation.field-0.0 in
    let names = c.in_ok-names.ensures in
    let s = c.args.section in
    let vs = c.args.variables.now in
    let Known : List Token → Type 0 = BeginsSound (judged_list s vs) HasNames in
    kept_fault fault (GetsStuck Known (AName ∷ list_rest) c.args.self.now) c.from_residual-in_err-punctuation.result c.from_residual-in_err-punctuation.ensures.1
    (stuck_after_names Known c.in_ok-names.names.items (Mark Colon ∷ AType ∷ Mark Semicolon ∷ []) c.args.self.now c.names.new.self fault names.some names.ok names.left names.none
    (mark_stuck (λ w. Known (name_words c.in_ok-names.names.items ++ w)) (names_front s vs c.in_ok-names.names names.some names.may) Colon (AType ∷ Mark Semicolon ∷ []) c.names.new.self fault c.in_err-punctuation.ensures.err.0 c.in_err-punctuation.ensures.other))

pub returns-in_err-type_name-clause-stuck : list_goals.returns-in_err-type_name-clause-stuck
returns-in_err-type_name-clause-stuck c =
    let fault = c.in_err-type_name.field-0.0 in
    let names = c.in_ok-names.ensures in
    let s = c.args.section in
    let vs = c.args.variables.now in
    let Known : List Token → Type 0 = BeginsSound (judged_list s vs) HasNames in
    kept_fault fault (GetsStuck Known (AName ∷ list_rest) c.args.self.now) c.from_residual-in_err-type_name.result c.from_residual-in_err-type_name.ensures.1
    (stuck_after_names Known c.in_ok-names.names.items (Mark Colon ∷ AType ∷ Mark Semicolon ∷ []) c.args.self.now c.names.new.self fault names.some names.ok names.left names.none
    (stuck_after_mark (λ w. Known (name_words c.in_ok-names.names.items ++ w)) Colon (AType ∷ Mark Semicolon ∷ []) c.names.new.self c.punctuation.new.self fault c.in_ok-punctuation.ensures.ok c.in_ok-punctuation.ensures.left
    (stuck_told (λ w. Known (name_words c.in_ok-names.names.items ++ mark_word Colon ∷ w)) IsNothing (AType ∷ Mark Semicolon ∷ []) c.punctuation.new.self fault
    (λ w none. subst (λ (v : List Token). Known (name_words c.in_ok-names.names.items ++ mark_word Colon ∷ v)) (sym none) (colon_front s vs c.in_ok-names.names names.some names.may))
    (stuck_more IsNothing (AType ∷ []) (Mark Semicolon ∷ []) c.punctuation.new.self fault c.in_err-type_name.ensures.stuck))))

pub returns-in_err-punctuation-2-clause-stuck : list_goals.returns-in_err-punctuation-2-clause-stuck
returns-in_err-punctuation-2-clause-stuck c =
    let fault = c.in_err-punctuation-2.field-0.0 in
    let names = c.in_ok-names.ensures in
    let s = c.args.section in
    let vs = c.args.variables.now in
    let Known : List Token → Type 0 = BeginsSound (judged_list s vs) HasNames in
    kept_fault fault (GetsStuck Known (AName ∷ list_rest) c.args.self.now) c.from_residual-in_err-punctuation-2.result c.from_residual-in_err-punctuation-2.ensures.1
    (stuck_after_names Known c.in_ok-names.names.items (Mark Colon ∷ AType ∷ Mark Semicolon ∷ []) c.args.self.now c.names.new.self fault names.some names.ok names.left names.none
    (stuck_after_mark (λ w. Known (name_words c.in_ok-names.names.items ++ w)) Colon (AType ∷ Mark Semicolon ∷ []) c.names.new.self c.punctuation.new.self fault c.in_ok-punctuation.ensures.ok c.in_ok-punctuation.ensures.left
    (stuck_after_type (λ w. Known (name_words c.in_ok-names.names.items ++ mark_word Colon ∷ w)) c.in_ok-type_name.type_name (Mark Semicolon ∷ []) c.punctuation.new.self c.type_name.new.self fault c.in_ok-type_name.ensures.ok c.in_ok-type_name.ensures.left
    (mark_stuck (λ w. Known (name_words c.in_ok-names.names.items ++ mark_word Colon ∷ type_word c.in_ok-type_name.type_name ∷ w)) (type_front s vs c.in_ok-names.names c.in_ok-type_name.type_name names.some names.may c.in_ok-type_name.ensures.lawful) Semicolon [] c.type_name.new.self fault c.in_err-punctuation-2.ensures.err.0 c.in_err-punctuation-2.ensures.other))))

pub returns-in_err-add_list-clause-stuck : list_goals.returns-in_err-add_list-clause-stuck
returns-in_err-add_list-clause-stuck c =
    let fault = c.in_err-add_list.field-0.0 in
    let s = c.args.section in
    let vs = c.args.variables.now in
    let Known : List Token → Type 0 = BeginsSound (judged_list s vs) HasNames in
    kept_fault fault (GetsStuck Known (AName ∷ list_rest) c.args.self.now) c.from_residual-in_err-add_list.result c.from_residual-in_err-add_list.ensures.1
    (λ syntax behind. absurd (c.in_err-add_list.ensures.named syntax))
