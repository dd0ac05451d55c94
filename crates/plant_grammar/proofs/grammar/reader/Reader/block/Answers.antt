use Rattle.std.proofs.Common.{◌≡◌, ◌≢◌, ◌++◌, ◌∙◌, [], ◌∷◌, List, All, subst, sym}
use Rattle.plant_text.specs.declared.token.Token.{Token}
use Rattle.plant_grammar.specs.declared.grammar_fault.GrammarFaultKind.TheVariants.{Memory}
use Rattle.plant_grammar.specs.declared.grammar.tree.Section.{Section}
use Rattle.plant_grammar.specs.declared.grammar.tree.NameList.{NameList}
use Rattle.plant_grammar.specs.Grammar.{section_words, lists_words}
use Rattle.plant_grammar.specs.Lawful.{lists_variables, IsListLawful, AreVariables}
use Rattle.plant_grammar.specs.Steps.NamesRead.{RefusesBlock}
use Rattle.plant_grammar.specs.Steps.Declaring.{BeginRefused}
use Rattle.lists.proofs.Results.{kept_fault}
use Rattle.plant_grammar.proofs.RefusedPlaces.{in_block}
use Rattle.plant_grammar.proofs.OneTree.{section_starts}
use Rattle.plant_grammar.proofs.LawfulPrograms.{lists_allowed}
use Rattle.plant_grammar.specs.Steps.Expected.{ASection, MoreLists, GetsStuck}
use Rattle.plant_grammar.proofs.WalkedPrograms.{stuck_after_section}
use Rattle.plant_grammar.specs.NameFaults.{judged_block}
use Rattle.plant_grammar.specs.WellFormed.{IsBlockWellFormed}
use Rattle.plant_grammar.specs.Grammar.{section_words}
use Rattle.plant_grammar.specs.Steps.SoundWords.{BeginsSound, IsNothing, judged_lists, AreListsFormed}
use Rattle.plant_grammar.proofs.ExpectedWords.{stuck_told}
use Rattle.plant_grammar.proofs.WalkedResources.{stuck_more}
use Rattle.plant_grammar.proofs.LiftedWords.{lift_sound, lists_in_block}
use Rattle.plant_grammar.proofs.SoundFronts.{no_block_words}
use Rattle.plant_grammar.proofs.grammar.reader.Reader.block.Goals as goal

pub returns-in_err-lists-clause-names : goal.returns-in_err-lists-clause-names
returns-in_err-lists-clause-names c =
    let fault = c.in_err-lists.field-0.0 in
    kept_fault fault (BeginRefused (λ k. RefusesBlock k c.args.variables.now) c.args.self.now) c.from_residual-in_err-lists.result c.from_residual-in_err-lists.ensures.1
    (λ all h of. in_block fault.kind c.in_ok-section.section c.args.variables.now c.args.self.now.words c.section.new.self.words c.in_ok-section.ensures.ok (c.in_err-lists.ensures.names all (c.in_ok-section.ensures.left.0 all h) of))

pub returns-in_err-section-clause-other : goal.returns-in_err-section-clause-other
returns-in_err-section-clause-other c =
    let fault = c.in_err-section.field-0.0 in
    let words = c.args.self.now.words in
    kept_fault fault (λ f. f.kind ≢ Memory → (s : Section) (ls : List NameList) (rest : List Token) → words ≡ section_words s ++ (lists_words ls ++ rest) → All (IsListLawful s) ls → AreVariables (c.args.variables.now ++ lists_variables s ls) → ⊥) c.from_residual.result c.from_residual.ensures.1
    (λ known s ls rest e lawful are. let first = section_starts s (lists_words ls ++ rest) in c.in_err-section.ensures.other s first.0 (e ∙ first.1))

pub returns-in_err-lists-clause-other : goal.returns-in_err-lists-clause-other
returns-in_err-lists-clause-other c =
    let fault = c.in_err-lists.field-0.0 in
    let words = c.args.self.now.words in
    kept_fault fault (λ f. f.kind ≢ Memory → (s : Section) (ls : List NameList) (rest : List Token) → words ≡ section_words s ++ (lists_words ls ++ rest) → All (IsListLawful s) ls → AreVariables (c.args.variables.now ++ lists_variables s ls) → ⊥) c.from_residual-in_err-lists.result c.from_residual-in_err-lists.ensures.1
    (λ known s ls rest e lawful are. lists_allowed c.in_ok-section.section s c.args.variables.now ls words c.section.new.self.words rest c.in_ok-section.ensures.ok c.in_ok-section.ensures.whole e lawful are (c.in_err-lists.ensures.other known))

pub returns-in_err-section-clause-stuck : goal.returns-in_err-section-clause-stuck
returns-in_err-section-clause-stuck c =
    let fault = c.in_err-section.field-0.0 in
    let ds = c.args.variables.now in
    let Known : List Token → Type 0 = BeginsSound (judged_block ds) IsBlockWellFormed in
    kept_fault fault (GetsStuck Known (ASection ∷ MoreLists ∷ []) c.args.self.now) c.from_residual.result c.from_residual.ensures.1
    (stuck_told Known IsNothing (ASection ∷ MoreLists ∷ []) c.args.self.now fault (λ w none. subst Known (sym none) (no_block_words ds))
    (stuck_more IsNothing (ASection ∷ []) (MoreLists ∷ []) c.args.self.now fault c.in_err-section.ensures.stuck))

pub returns-in_err-lists-clause-stuck : goal.returns-in_err-lists-clause-stuck
returns-in_err-lists-clause-stuck c =
    let fault = c.in_err-lists.field-0.0 in
    let ds = c.args.variables.now in
    let Known : List Token → Type 0 = BeginsSound (judged_block ds) IsBlockWellFormed in
    kept_fault fault (GetsStuck Known (ASection ∷ MoreLists ∷ []) c.args.self.now) c.from_residual-in_err-lists.result c.from_residual-in_err-lists.ensures.1
    (stuck_after_section Known c.in_ok-section.section (MoreLists ∷ []) c.args.self.now c.section.new.self fault c.in_ok-section.ensures.ok c.in_ok-section.ensures.left c.in_ok-section.ensures.whole
    (stuck_told (λ w. Known (section_words c.in_ok-section.section ++ w)) (BeginsSound (judged_lists c.in_ok-section.section ds) AreListsFormed) (MoreLists ∷ []) c.section.new.self fault
    (λ w b. lift_sound (section_words c.in_ok-section.section) w (judged_lists c.in_ok-section.section ds) AreListsFormed (judged_block ds) IsBlockWellFormed (λ fits. lists_in_block c.in_ok-section.section ds) b) c.in_err-lists.ensures.stuck))
