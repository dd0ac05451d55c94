use Rattle.std.proofs.Common.{◌∙◌, rules, ◌≡◌, ◌≢◌, ◌<◌, ◌++◌, length, refl, sym, subst, List, ◌∷◌, [], arith}
use Rattle.plant_grammar.specs.declared.grammar.tree.Resource.{Resource}
use Rattle.plant_grammar.specs.Lawful.{uses_of, AreResourcesLawful}
use Rattle.plant_grammar.specs.Grammar.{resource_words, resources_words}
use Rattle.plant_grammar.specs.Steps.ReadParts.{types_alone}
use Rattle.plant_grammar.proofs.WordLists.{words_more, resources_done}
use Rattle.plant_grammar.proofs.ResourceLines.{resources_more, tally_more}
use Rattle.plant_grammar.specs.Steps.NamesRead.{RefusesResource, RefusesResources, IsNew}
use Rattle.plant_grammar.specs.Steps.Declaring.{BeginWith, BeginRefused, IsLineBefore}
use Rattle.plant_grammar.specs.Steps.Reading.{programs_of}
use Rattle.lists.proofs.Results.{kept_fault}
use Rattle.plant_grammar.proofs.RefusedPlaces.{resource_refused}
use Rattle.plant_text.specs.declared.token.Token.{Token}
use Rattle.plant_grammar.specs.declared.grammar_fault.GrammarFaultKind.TheVariants.{Memory}
use Rattle.std.specs.List.{flat_map}
use Rattle.plant_grammar.specs.Steps.Refusing.{HasRoomFor, AreTypesApart}
use Rattle.plant_grammar.proofs.LawfulResources.{resource_allowed, first_resource}
use Rattle.plant_grammar.specs.SourceLines.{IsResourceOn, EachBefore}
use Rattle.plant_grammar.proofs.PlacedSources.{each_more}
use Rattle.plant_text.specs.declared.token.Keyword.TheVariants as key
use Rattle.plant_grammar.specs.Steps.Expected.{Key, MoreResources, resource_rest, GetsStuck}
use Rattle.plant_grammar.proofs.WalkedResources.{stuck_in_resource, formed_resources}
use Rattle.plant_grammar.specs.NameFaults.{judged_resource}
use Rattle.plant_grammar.specs.WellFormed.{IsResourceWellFormed}
use Rattle.plant_grammar.specs.Steps.SoundWords.{BeginsSound, judged_resources_behind, AreResourcesFormed}
use Rattle.plant_grammar.specs.Steps.Refusing.{AreTypesApart}
use Rattle.plant_grammar.proofs.ExpectedWords.{stuck_told}
use Rattle.plant_grammar.proofs.SoundFronts.{further_resource_begun}
use Rattle.plant_grammar.proofs.grammar.reader.Reader.resources.Goals as goal
use Rattle.plant_grammar.proofs.grammar.reader.Reader.resources.Goals.{then-is_empty, else-is_empty+then-not-sees_keyword}

pub resources-preserved : goal.resources-preserved
resources-preserved c = record {
  left = (λ all h. c.in_ok-resource.ensures.left.0 all (c.resources.invariant.left.0 all h), c.in_ok-resource.ensures.left.1 ∙ c.resources.invariant.left.1);
  words = words_more resource_words c.resources.resources.items c.push.new.self.items c.in_ok-resource.resource c.args.self.now.words c.resources.self.words c.resource.new.self.words c.in_ok-push.ensures.items c.resources.invariant.words c.in_ok-resource.ensures.ok;
  lawful = resources_more (types_alone c.args.types.now) c.resources.resources.items c.push.new.self.items c.in_ok-resource.resource c.in_ok-push.ensures.items c.resources.invariant.lawful
      (subst (λ rs. IsNew (λ (r : Resource). r.name) rs c.in_ok-resource.resource.name) c.deref.ensures.value c.in_ok-resource.ensures.new) (subst (λ rs. length rs < 16) c.deref.ensures.value c.in_ok-resource.ensures.few) c.in_ok-resource.ensures.lawful;
  lined = λ all h. each_more resource_words (IsResourceOn all) c.resources.resources.items c.push.new.self.items c.in_ok-resource.resource c.resources.self.words c.resource.new.self.words c.in_ok-push.ensures.items c.in_ok-resource.ensures.ok (c.resources.invariant.lined all h) (c.in_ok-resource.ensures.lined all (c.resources.invariant.left.0 all h));
  tally = tally_more uses_of c.resources.resources.items c.push.new.self.items c.in_ok-resource.resource c.args.tally.now c.resources.tally c.resource.new.tally c.in_ok-push.ensures.items c.resources.invariant.tally c.in_ok-resource.ensures.tally;
}

pub returns-clause-lined : goal.returns-clause-lined
returns-clause-lined c = λ all h. subst (EachBefore resource_words (IsResourceOn all) c.resources.resources.items) c.in_ok-keyword.ensures.ok (c.resources.invariant.lined all h)

pub returns-clause-ok : goal.returns-clause-ok
returns-clause-ok c = resources_done c.resources.resources.items c.args.self.now.words c.resources.self.words c.keyword.new.self.words c.resources.invariant.words c.in_ok-keyword.ensures.ok

pub returns-in_err-resource-clause-names : goal.returns-in_err-resource-clause-names
returns-in_err-resource-clause-names c =
    let fault = c.in_err-resource.field-0.0 in
    kept_fault fault (BeginRefused (λ k. RefusesResources k c.args.tally.now.instances c.args.tally.now.binds (programs_of c.args.types.now)) c.args.self.now) c.from_residual.result c.from_residual.ensures.1
    (λ all h of. resource_refused fault.kind c.args.tally.now c.resources.tally (programs_of c.args.types.now) c.resources.resources.items c.args.self.now.words c.resources.self.words c.resources.invariant.words c.resources.invariant.tally
    c.resources.invariant.lawful c.instances-instances.ensures.few c.binds-binds.ensures.few
    (subst (λ (rs : List Resource). BeginWith (IsLineBefore all fault.line) (RefusesResource fault.kind c.resources.tally.instances c.resources.tally.binds (programs_of c.args.types.now) rs) c.resources.self.words) c.deref.ensures.value (c.in_err-resource.ensures.names all (c.resources.invariant.left.0 all h) of)))

pub returns-in_err-resource-clause-other : goal.returns-in_err-resource-clause-other
returns-in_err-resource-clause-other c =
    let fault = c.in_err-resource.field-0.0 in
    kept_fault fault (λ f. f.kind ≢ Memory → (rs : List Resource) (rest : List Token) → c.args.self.now.words ≡ resources_words rs ++ rest → 0 < length rs → AreTypesApart c.args.types.now → AreResourcesLawful (types_alone c.args.types.now) rs → HasRoomFor c.args.tally.now (flat_map uses_of rs) → ⊥) c.from_residual.result c.from_residual.ensures.1
    (λ known rs rest e some apart lawful room. resource_allowed (types_alone c.args.types.now) c.args.tally.now c.resources.tally c.resources.resources.items rs c.args.self.now.words c.resources.self.words rest c.resources.invariant.words c.resources.invariant.tally
    (λ i. elim c.if-is_empty.branch [
      | then-is_empty w ↦ first_resource rs c.resources.resources.items c.args.self.now.words c.resources.self.words rest rest some (search rules) c.resources.invariant.words e i
      | else-is_empty+then-not-sees_keyword w ↦ w.if-not-sees_keyword.ensures.no refl rest i
    ]) e lawful room
    (λ r after h new few known_r left. c.in_err-resource.ensures.other known r after h apart (subst (λ (ys : List Resource). IsNew (λ (r : Resource). r.name) ys r.name) (sym c.deref.ensures.value) new) (subst (λ (ys : List Resource). length ys < 16) (sym c.deref.ensures.value) few) known_r left))

pub returns-in_err-resource-clause-stuck : goal.returns-in_err-resource-clause-stuck
returns-in_err-resource-clause-stuck c =
    let fault = c.in_err-resource.field-0.0 in
    let programs = programs_of c.args.types.now in
    let i = c.args.tally.now.instances in
    let m = c.args.tally.now.binds in
    let rs = c.resources.resources.items in
    let Known : List Token → Type 0 = λ words. AreTypesApart c.args.types.now → BeginsSound (judged_resources_behind programs i m) AreResourcesFormed words in
    kept_fault fault (GetsStuck Known (Key key.Resource ∷ resource_rest ++ MoreResources ∷ []) c.args.self.now) c.from_residual.result c.from_residual.ensures.1
    (stuck_in_resource Known c.resources.resources.items c.args.self.now c.resources.self fault c.resources.invariant.words c.resources.invariant.left
    (formed_resources (types_alone c.args.types.now) c.resources.resources.items c.resources.invariant.lawful.lawful)
    (λ some. elim c.if-is_empty.branch [
      | then-is_empty w ↦ let none : length c.resources.resources.items ≡ 0 = search rules in absurd (omega (arith, none, some))
      | else-is_empty+then-not-sees_keyword w ↦ w.if-not-sees_keyword.ensures.no refl
    ])
    (stuck_told (λ w. Known (flat_map resource_words rs ++ w)) (λ words. AreTypesApart c.args.types.now → BeginsSound (judged_resource programs c.resources.tally.instances c.resources.tally.binds c.deref.result.now) IsResourceWellFormed words) (Key key.Resource ∷ resource_rest) c.resources.self fault
    (λ w b apart. further_resource_begun programs c.args.tally.now c.resources.tally rs w apart c.resources.invariant.tally c.resources.invariant.lawful c.instances-instances.ensures.few c.binds-binds.ensures.few
    (subst (λ (qs : List Resource). BeginsSound (judged_resource programs c.resources.tally.instances c.resources.tally.binds qs) IsResourceWellFormed w) c.deref.ensures.value (b apart))) c.in_err-resource.ensures.stuck))
