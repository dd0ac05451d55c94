use Rattle.std.proofs.Common.{◌∙◌, ◌≡◌, ◌≢◌, ◌++◌, List, refl, sym, subst, ◌∷◌, []}
use Rattle.plant_grammar.specs.Lawful.{use_of, AreItemsLawful}
use Rattle.plant_grammar.specs.Grammar.{item_words, items_words}
use Rattle.plant_grammar.specs.Steps.ReadParts.{types_alone, MayFollow}
use Rattle.plant_grammar.proofs.WordLists.{words_more, items_done}
use Rattle.plant_grammar.proofs.ResourceLines.{items_more, tally_more}
use Rattle.plant_grammar.specs.declared.grammar.tree.Item.{Item}
use Rattle.plant_grammar.specs.Steps.NamesRead.{RefusesItems}
use Rattle.plant_grammar.specs.Steps.Declaring.{BeginWith, BeginRefused, IsLineBefore, RefusesItem}
use Rattle.plant_grammar.specs.Steps.Reading.{programs_of}
use Rattle.lists.proofs.Results.{kept_fault}
use Rattle.plant_grammar.proofs.RefusedPlaces.{item_refused}
use Rattle.plant_text.specs.declared.token.Token.{Token}
use Rattle.plant_grammar.specs.declared.grammar_fault.GrammarFaultKind.TheVariants.{Memory}
use Rattle.std.specs.List.{flat_map}
use Rattle.plant_grammar.specs.Steps.Refusing.{HasRoomFor, AreTypesApart}
use Rattle.plant_grammar.proofs.LawfulResources.{item_allowed}
use Rattle.plant_grammar.specs.SourceLines.{IsItemOn, EachBefore}
use Rattle.plant_grammar.proofs.PlacedSources.{each_more}
use Rattle.plant_grammar.specs.Steps.Expected.{MoreItems, GetsStuck, AnItem}
use Rattle.plant_grammar.proofs.WalkedResources.{stuck_in_line}
use Rattle.plant_grammar.specs.NameFaults.{judged_item}
use Rattle.plant_grammar.specs.Steps.SoundWords.{BeginsSound, IsItemFormed, judged_items, AreItemsFormed}
use Rattle.plant_grammar.specs.Steps.Refusing.{AreTypesApart}
use Rattle.plant_grammar.proofs.ExpectedWords.{stuck_told}
use Rattle.plant_grammar.proofs.SoundFronts.{line_begun}
use Rattle.plant_grammar.proofs.grammar.reader.Reader.items.Goals as goal

pub items-preserved : goal.items-preserved
items-preserved c = record {
  left = (λ all h. c.in_ok-item.ensures.left.0 all (c.items.invariant.left.0 all h), c.in_ok-item.ensures.left.1 ∙ c.items.invariant.left.1);
  words = words_more item_words c.items.items.items c.push.new.self.items c.in_ok-item.item c.args.self.now.words c.items.self.words c.item.new.self.words c.in_ok-push.ensures.items c.items.invariant.words c.in_ok-item.ensures.ok;
  lawful = items_more (types_alone c.args.types.now) c.items.items.items c.push.new.self.items c.in_ok-item.item c.in_ok-push.ensures.items c.items.invariant.lawful
      (subst (λ xs. MayFollow (types_alone c.args.types.now) xs c.in_ok-item.item) c.deref.ensures.value c.in_ok-item.ensures.lawful);
  lined = λ all h. each_more item_words (IsItemOn all) c.items.items.items c.push.new.self.items c.in_ok-item.item c.items.self.words c.item.new.self.words c.in_ok-push.ensures.items c.in_ok-item.ensures.ok (c.items.invariant.lined all h) (c.in_ok-item.ensures.lined all (c.items.invariant.left.0 all h));
  tally = tally_more use_of c.items.items.items c.push.new.self.items c.in_ok-item.item c.args.tally.now c.items.tally c.item.new.tally c.in_ok-push.ensures.items c.items.invariant.tally c.in_ok-item.ensures.tally;
}

pub returns : goal.returns
returns c = record {
  ok = items_done c.items.items.items c.args.self.now.words c.items.self.words c.keyword.new.self.words c.items.invariant.words c.in_ok-keyword.ensures.ok;
  left = (λ all h. c.in_ok-keyword.ensures.left.0 all (c.items.invariant.left.0 all h), c.in_ok-keyword.ensures.left.1 ∙ c.items.invariant.left.1);
  lawful = c.items.invariant.lawful;
  lined = λ all h. subst (EachBefore item_words (IsItemOn all) c.items.items.items) c.in_ok-keyword.ensures.ok (c.items.invariant.lined all h);
  tally = c.items.invariant.tally;
  other = tt;
  names = tt;
  stuck = tt;
  value = tt;
}

pub returns-in_err-item-clause-names : goal.returns-in_err-item-clause-names
returns-in_err-item-clause-names c =
    let fault = c.in_err-item.field-0.0 in
    kept_fault fault (BeginRefused (λ k. RefusesItems k c.args.tally.now.instances c.args.tally.now.binds (programs_of c.args.types.now)) c.args.self.now) c.from_residual.result c.from_residual.ensures.1
    (λ all h of. item_refused fault.kind c.args.tally.now c.items.tally (programs_of c.args.types.now) c.items.items.items c.args.self.now.words c.items.self.words c.items.invariant.words c.items.invariant.tally
    c.items.invariant.lawful c.instances-instances.ensures.few c.binds-binds.ensures.few
    (subst (λ (xs : List Item). BeginWith (IsLineBefore all fault.line) (RefusesItem c.items.tally (programs_of c.args.types.now) xs fault.kind) c.items.self.words) c.deref.ensures.value (c.in_err-item.ensures.names all (c.items.invariant.left.0 all h) of)))

pub returns-in_err-item-clause-other : goal.returns-in_err-item-clause-other
returns-in_err-item-clause-other c =
    let fault = c.in_err-item.field-0.0 in
    kept_fault fault (λ f. f.kind ≢ Memory → (xs : List Item) (rest : List Token) → c.args.self.now.words ≡ items_words xs ++ rest → AreTypesApart c.args.types.now → AreItemsLawful (types_alone c.args.types.now) xs → HasRoomFor c.args.tally.now (flat_map use_of xs) → ⊥) c.from_residual.result c.from_residual.ensures.1
    (λ known xs rest e apart lawful room. item_allowed (types_alone c.args.types.now) c.args.tally.now c.items.tally c.items.items.items xs c.args.self.now.words c.items.self.words rest c.items.invariant.words c.items.invariant.tally (c.items-test.ensures.no refl) e lawful room
    (λ x after h may left. c.in_err-item.ensures.other known x after h apart (subst (λ (ys : List Item). MayFollow (types_alone c.args.types.now) ys x) (sym c.deref.ensures.value) may) left))

pub returns-in_err-item-clause-stuck : goal.returns-in_err-item-clause-stuck
returns-in_err-item-clause-stuck c =
    let fault = c.in_err-item.field-0.0 in
    let programs = programs_of c.args.types.now in
    let i = c.args.tally.now.instances in
    let m = c.args.tally.now.binds in
    let xs = c.items.items.items in
    let Known : List Token → Type 0 = λ words. AreTypesApart c.args.types.now → BeginsSound (judged_items programs i m) AreItemsFormed words in
    kept_fault fault (GetsStuck Known (MoreItems ∷ []) c.args.self.now) c.from_residual.result c.from_residual.ensures.1
    (stuck_in_line Known xs c.args.self.now c.items.self fault c.items.invariant.words c.items.invariant.left c.items.invariant.lawful.intervals (c.items-test.ensures.no refl)
    (stuck_told (λ w. Known (flat_map item_words xs ++ w)) (BeginsSound (judged_item programs c.items.tally.instances c.items.tally.binds c.deref.result.now) IsItemFormed) (AnItem ∷ []) c.items.self fault
    (λ w b apart. line_begun programs c.args.tally.now c.items.tally xs w apart c.items.invariant.tally c.items.invariant.lawful c.instances-instances.ensures.few c.binds-binds.ensures.few
    (subst (λ (ys : List Item). BeginsSound (judged_item programs c.items.tally.instances c.items.tally.binds ys) IsItemFormed w) c.deref.ensures.value b)) c.in_err-item.ensures.stuck))
