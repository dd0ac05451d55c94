use Rattle.plant.proofs.FaultySources.{fault_in_tree}
use Rattle.plant.specs.SourceFaults.{HasFirstSourceFault}
use Rattle.std.proofs.Common.{◌≡◌, ◌≢◌, ◌∙◌, ℕ, List, Vec, All, ap, sym, subst, length, map}
use Rattle.std.specs.Global.{Global}
use Rattle.std.specs.List.{AllZip}
use Rattle.std.proofs.lemmas.List.{length-map}
use Rattle.lists.proofs.Members.{all_from_places}
use Rattle.lists.proofs.Results.{kept_fault}
use Rattle.lists.proofs.Zips.{zip_length}
use Rattle.plant_grammar.specs.declared.grammar_fault.GrammarFault.{GrammarFault}
use Rattle.plant_grammar.specs.declared.grammar_fault.GrammarFaultKind.TheVariants.{Memory}
use Rattle.plant_grammar.specs.Lawful.{all_uses, IsResourceLawful}
use Rattle.plant_grammar.specs.WordFaults.{IsGrammarFault}
use Rattle.plant.specs.Faultless.{AreBindsFed}
use Rattle.plant.specs.declared.sources.source_fault.SourceFault.{SourceFault}
use Rattle.plant.specs.declared.sources.source_fault.SourceFault.TheVariants as fault
use Rattle.plant.specs.Steps.Reading.{tree_of}
use Rattle.plant.specs.StandsFor.{IsPlantOf}
use Rattle.plant.specs.Steps.Drafts.{drafted, programs_in, IsReady}
use Rattle.plant.specs.Steps.FedUses.{FedUseValue, AreUsesFed}
use Rattle.plant.specs.Steps.Found.{TellsOfSource}
use Rattle.plant.specs.Steps.SourceFaults.{word_fault}
use Rattle.plant.proofs.FedUses.{resources_resolved}
use Rattle.plant.proofs.Zips.{all_at}
use Rattle.plant.proofs.Sourcing.{fed_from_resolved, resolved_from_fed, resources_fed, tree_apart, types_known}
use Rattle.plant.proofs.ToldSources.{source_told, source_word, uses_told}
use Rattle.plant.proofs.LinkedPlants.{ready_from, stands, sound}
use Rattle.plant.proofs.sources.resolve.resolve.Goals as goal

pub draft_resources-requires : goal.draft_resources-requires
draft_resources-requires c =
    let reading = c.args.reading.now in
    rw (c.types-types.ensures, c.resources-resources.ensures) (types_known reading.types c.requires.lawful.0 reading.resources c.requires.lawful.1)

pub fed_resources-requires : goal.fed_resources-requires
fed_resources-requires c =
    let reading = c.args.reading.now in
    rw (c.types-types.ensures, c.resources-resources.ensures) (types_known reading.types c.requires.lawful.0 reading.resources c.requires.lawful.1)

pub link_resources-requires-clause-ready : goal.link_resources-requires-clause-ready
link_resources-requires-clause-ready c =
    let tree = tree_of c.requires.lawful.0 c.args.reading.now in
    rw c.resources-resources.ensures (all_from_places IsReady tree.resources (λ k r at. ready_from tree r (all_at (IsResourceLawful tree) tree.resources c.requires.lawful.1.resources_lawful k r at)))

pub link_resources-requires-clause-many : goal.link_resources-requires-clause-many
link_resources-requires-clause-many c =
    let reading = c.args.reading.now in
    let fed = c.in_ok-fed.fed.items in
    let plant = drafted c.in_ok-drafts.drafts.items in
    let all : AllZip (AreUsesFed plant reading.types) reading.resources (map (λ (f : Vec FedUseValue Global). f.items) fed) = rw (c.as_slice.ensures.value, c.types-types.ensures, c.resources-resources.ensures) at c.in_ok-fed.ensures.ok in
    rw (c.as_slice-3.ensures.value, c.resources-resources.ensures)
    (sym (length-map fed (λ (f : Vec FedUseValue Global). f.items)) ∙ sym (zip_length (AreUsesFed plant reading.types) reading.resources (map (λ (f : Vec FedUseValue Global). f.items) fed) all))

pub link_resources-requires-clause-fed : goal.link_resources-requires-clause-fed
link_resources-requires-clause-fed c =
    let reading = c.args.reading.now in
    let drafts = c.in_ok-drafts.drafts.items in
    let known = rw (c.types-types.ensures, c.resources-resources.ensures) at c.in_ok-drafts.ensures in
    let all = rw (c.as_slice.ensures.value, c.types-types.ensures, c.resources-resources.ensures) at c.in_ok-fed.ensures.ok in
    rw (c.as_slice-2.ensures.value, c.as_slice-3.ensures.value, c.resources-resources.ensures)
    (resources_fed reading.types c.requires.lawful.0 reading.resources drafts c.requires.drawn known c.requires.lawful.1 (map (λ (f : Vec FedUseValue Global). f.items) c.in_ok-fed.fed.items) all)

pub new-requires : goal.new-requires
new-requires c =
    let reading = c.args.reading.now in
    let known = rw (c.types-types.ensures, c.resources-resources.ensures) at c.in_ok-drafts.ensures in
    let many = c.in_ok-linked.ensures.many ∙ ap length c.resources-resources.ensures in
    let linked = rw (c.as_slice-2.ensures.value, c.resources-resources.ensures) at c.in_ok-linked.ensures.each in
    sound (programs_in reading.types) c.requires.lawful.0 reading.resources c.in_ok-drafts.drafts.items c.in_ok-linked.linked.items known many linked

pub returns-clause-ok : goal.returns-clause-ok
returns-clause-ok c = λ name.
    let reading = c.args.reading.now in
    let known = rw (c.types-types.ensures, c.resources-resources.ensures) at c.in_ok-drafts.ensures in
    let many = c.in_ok-linked.ensures.many ∙ ap length c.resources-resources.ensures in
    let linked = rw (c.as_slice-2.ensures.value, c.resources-resources.ensures) at c.in_ok-linked.ensures.each in
    subst (IsPlantOf (tree_of name reading)) (sym c.new.ensures) (stands (programs_in reading.types) name reading.resources c.in_ok-drafts.drafts.items c.in_ok-linked.linked.items known many linked)

pub returns-clause-sources : goal.returns-clause-sources
returns-clause-sources c = λ name.
    let reading = c.args.reading.now in
    let drafts = c.in_ok-drafts.drafts.items in
    let known = rw (c.types-types.ensures, c.resources-resources.ensures) at c.in_ok-drafts.ensures in
    let all = rw (c.as_slice.ensures.value, c.types-types.ensures, c.resources-resources.ensures) at c.in_ok-fed.ensures.ok in
    fed_from_resolved reading.types c.requires.lawful.0 reading.resources drafts c.requires.drawn known c.requires.lawful.1
    (resources_resolved (drafted drafts) reading.types reading.resources (map (λ (f : Vec FedUseValue Global). f.items) c.in_ok-fed.fed.items) all)

pub returns-in_err-fed-clause-refused : goal.returns-in_err-fed-clause-refused
returns-in_err-fed-clause-refused c =
    let reading = c.args.reading.now in
    let known = rw (c.types-types.ensures, c.resources-resources.ensures) at c.in_ok-drafts.ensures in
    let drafts = c.in_ok-drafts.drafts.items in
    let e = c.in_err-fed.field-0.0 in
    let apart = tree_apart reading.types c.requires.lawful.0 reading.resources drafts c.requires.drawn known c.requires.lawful.1 in
    kept_fault (word_fault e) (λ f. f.kind ≢ Memory → (name : List ℕ) → All (AreBindsFed (tree_of name reading)) (all_uses (tree_of name reading)) → ⊥) c.from_residual-in_err-fed.result c.from_residual-in_err-fed.ensures.1
    (λ other name each. uses_told drafts apart reading.types e (all_uses (tree_of name reading))
    ((rw (c.as_slice.ensures.value, c.types-types.ensures, c.resources-resources.ensures) at c.in_err-fed.ensures.why) (λ memory. other (ap (λ (x : SourceFault). (word_fault x).kind) memory)) apart)
    (resolved_from_fed reading.types c.requires.lawful.0 reading.resources drafts c.requires.drawn known c.requires.lawful.1 each))

pub returns-in_err-fed-clause-why : goal.returns-in_err-fed-clause-why
returns-in_err-fed-clause-why c =
    let reading = c.args.reading.now in
    let known = rw (c.types-types.ensures, c.resources-resources.ensures) at c.in_ok-drafts.ensures in
    let drafts = c.in_ok-drafts.drafts.items in
    let e = c.in_err-fed.field-0.0 in
    let apart = tree_apart reading.types c.requires.lawful.0 reading.resources drafts c.requires.drawn known c.requires.lawful.1 in
    kept_fault (word_fault e) (λ f. f.kind ≢ Memory → (name : List ℕ) → HasFirstSourceFault (tree_of name reading) f.kind f.line) c.from_residual-in_err-fed.result c.from_residual-in_err-fed.ensures.1
    (λ other name. fault_in_tree reading.types c.requires.lawful.0 reading.resources drafts c.requires.drawn known c.requires.lawful.1 e
    ((rw (c.as_slice.ensures.value, c.types-types.ensures, c.resources-resources.ensures) at c.in_err-fed.ensures.why) (λ memory. other (ap (λ (x : SourceFault). (word_fault x).kind) memory)) apart))

pub returns-in_err-fed-clause-tells : goal.returns-in_err-fed-clause-tells
returns-in_err-fed-clause-tells c =
    kept_fault (word_fault c.in_err-fed.field-0.0) (λ f. TellsOfSource f.kind) c.from_residual-in_err-fed.result c.from_residual-in_err-fed.ensures.1 (source_told c.in_err-fed.field-0.0)

pub returns-in_err-fed-clause-value : goal.returns-in_err-fed-clause-value
returns-in_err-fed-clause-value c =
    kept_fault (word_fault c.in_err-fed.field-0.0) IsGrammarFault c.from_residual-in_err-fed.result c.from_residual-in_err-fed.ensures.1 (source_word c.in_err-fed.field-0.0)
