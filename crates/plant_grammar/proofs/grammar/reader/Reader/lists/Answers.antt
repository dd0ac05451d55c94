use Rattle.declared_names.specs.declared.declarations.Declaration.{Declaration}
use Rattle.std.proofs.Common.{◌≡◌, ◌≢◌, ◌++◌, [], ◌∷◌, List, All, refl, ◌∙◌, subst}
use Rattle.plant_grammar.specs.Lawful.{list_variables, lists_variables, IsListLawful, AreVariables}
use Rattle.plant_grammar.specs.Grammar.{list_words, lists_words}
use Rattle.plant_grammar.proofs.WordLists.{words_more, declared_more, all_more, lists_done}
use Rattle.plant_grammar.specs.Steps.NamesRead.{RefusesList}
use Rattle.plant_grammar.specs.Steps.Declaring.{BeginRefused}
use Rattle.lists.proofs.Results.{kept_fault}
use Rattle.plant_grammar.proofs.RefusedPlaces.{list_refused}
use Rattle.plant_text.specs.declared.token.Token.{Token}
use Rattle.plant_grammar.specs.declared.grammar_fault.GrammarFaultKind.TheVariants.{Memory}
use Rattle.plant_grammar.specs.declared.grammar.tree.NameList.{NameList}
use Rattle.plant_grammar.proofs.LawfulPrograms.{list_allowed}
use Rattle.std.specs.List.{flat_map}
use Rattle.plant_grammar.specs.Steps.Expected.{MoreLists, GetsStuck, AName, list_rest}
use Rattle.plant_grammar.proofs.WalkedPrograms.{lists_walked, stuck_in_list, lawful_lists_named}
use Rattle.plant_grammar.proofs.StuckBehind.{stuck_after}
use Rattle.plant_grammar.specs.NameFaults.{judged_list}
use Rattle.plant_grammar.specs.WellFormed.{HasNames}
use Rattle.plant_grammar.specs.Steps.SoundWords.{BeginsSound, judged_lists, AreListsFormed}
use Rattle.plant_grammar.proofs.ExpectedWords.{stuck_told}
use Rattle.plant_grammar.proofs.LiftedWords.{lift_sound, list_in_lists}
use Rattle.plant_grammar.proofs.grammar.reader.Reader.lists.Goals as goal

pub lists-preserved : goal.lists-preserved
lists-preserved c = record {
  left = (λ all h. c.in_ok-list.ensures.left.0 all (c.lists.invariant.left.0 all h), c.in_ok-list.ensures.left.1 ∙ c.lists.invariant.left.1);
  words = words_more list_words c.lists.lists.items c.push.new.self.items c.in_ok-list.list c.args.self.now.words c.lists.self.words c.list.new.self.words c.in_ok-push.ensures.items c.lists.invariant.words c.in_ok-list.ensures.ok;
  bodies = c.in_ok-list.ensures.bodies ∙ c.lists.invariant.bodies;
  declared = declared_more (list_variables c.args.section) c.lists.lists.items c.push.new.self.items c.in_ok-list.list c.args.variables.now c.lists.variables c.list.new.variables c.in_ok-push.ensures.items c.lists.invariant.declared c.in_ok-list.ensures.declared;
  lawful = all_more (IsListLawful c.args.section) c.lists.lists.items c.push.new.self.items c.in_ok-list.list c.in_ok-push.ensures.items c.lists.invariant.lawful c.in_ok-list.ensures.lawful;
}

pub returns : goal.returns
returns c = record {
  ok = lists_done c.lists.lists.items c.args.self.now.words c.lists.self.words c.keyword.new.self.words c.lists.invariant.words c.in_ok-keyword.ensures.ok;
  left = (λ all h. c.in_ok-keyword.ensures.left.0 all (c.lists.invariant.left.0 all h), c.in_ok-keyword.ensures.left.1 ∙ c.lists.invariant.left.1);
  bodies = c.in_ok-keyword.ensures.bodies ∙ c.lists.invariant.bodies;
  declared = c.lists.invariant.declared;
  lawful = c.lists.invariant.lawful;
  other = tt;
  names = tt;
  stuck = tt;
  value = tt;
}

pub returns-in_err-list-clause-names : goal.returns-in_err-list-clause-names
returns-in_err-list-clause-names c =
    let fault = c.in_err-list.field-0.0 in
    kept_fault fault (BeginRefused (λ k. RefusesList k c.args.section c.args.variables.now) c.args.self.now) c.from_residual.result c.from_residual.ensures.1
    (λ all h of. list_refused fault.kind c.args.section c.args.variables.now c.lists.variables c.lists.lists.items c.args.self.now.words c.lists.self.words c.lists.invariant.words c.lists.invariant.declared c.lists.invariant.lawful (c.in_err-list.ensures.names all (c.lists.invariant.left.0 all h) of))

pub returns-in_err-list-clause-other : goal.returns-in_err-list-clause-other
returns-in_err-list-clause-other c =
    let fault = c.in_err-list.field-0.0 in
    kept_fault fault (λ f. f.kind ≢ Memory → (ls : List NameList) (rest : List Token) → c.args.self.now.words ≡ lists_words ls ++ rest → All (IsListLawful c.args.section) ls → AreVariables (c.args.variables.now ++ lists_variables c.args.section ls) → ⊥) c.from_residual.result c.from_residual.ensures.1
    (λ known ls rest e lawful are. list_allowed c.args.section c.args.variables.now c.lists.variables c.lists.lists.items ls c.args.self.now.words c.lists.self.words rest c.lists.invariant.words c.lists.invariant.declared (c.lists-test.ensures.no refl) e lawful are
    (c.in_err-list.ensures.other known))

pub returns-in_err-list-clause-stuck : goal.returns-in_err-list-clause-stuck
returns-in_err-list-clause-stuck c =
    let fault = c.in_err-list.field-0.0 in
    let s = c.args.section in
    let ds = c.args.variables.now in
    let ls = c.lists.lists.items in
    let now = ds ++ lists_variables s ls in
    let are : AreVariables now = subst AreVariables c.lists.invariant.declared c.len-declared.ensures.lawful in
    let Known : List Token → Type 0 = BeginsSound (judged_lists s ds) AreListsFormed in
    let Told : List Token → Type 0 = BeginsSound (judged_list s c.lists.variables) HasNames in
    kept_fault fault (GetsStuck Known (MoreLists ∷ []) c.args.self.now) c.from_residual.result c.from_residual.ensures.1
    (stuck_after Known (MoreLists ∷ []) (MoreLists ∷ []) (flat_map list_words c.lists.lists.items) c.args.self.now c.lists.self fault c.lists.invariant.words c.lists.invariant.left
    (λ behind. lists_walked c.lists.lists.items behind (lawful_lists_named c.args.section c.lists.lists.items c.lists.invariant.lawful))
    (stuck_in_list (λ w. Known (flat_map list_words ls ++ w)) c.lists.self fault (c.lists-test.ensures.no refl)
    (stuck_told (λ w. Known (flat_map list_words ls ++ w)) Told (AName ∷ list_rest) c.lists.self fault
    (λ w b. lift_sound (flat_map list_words ls) w (judged_list s now) HasNames (judged_lists s ds) AreListsFormed (λ fits. list_in_lists s ds ls c.lists.invariant.lawful are fits)
    (subst (λ (vs : List Declaration). BeginsSound (judged_list s vs) HasNames w) c.lists.invariant.declared b)) c.in_err-list.ensures.stuck)))
