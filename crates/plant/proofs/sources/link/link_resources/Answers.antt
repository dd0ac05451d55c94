use Rattle.std.proofs.Common.{◌≡◌, ◌∙◌, ◌<◌, ap, sym, subst, Some, Vec, length, map, option_map, refl, arith, slice_get}
use Rattle.std.specs.Global.{Global}
use Rattle.std.proofs.lemmas.List.{length_push}
use Rattle.std.proofs.lemmas.Option.{slice_get_read, slice_get-map}
use Rattle.lists.proofs.Places.{some_same}
use Rattle.lists.proofs.Zips.{zip_length, zip_at}
use Rattle.plant.specs.Steps.Drafts.{drafted, IsReady, IsResourceDraft, IsResourceLinked}
use Rattle.plant.specs.Steps.FedUses.{FedUseValue}
use Rattle.plant.proofs.Zips.{triples_push, all_at}
use Rattle.plant.proofs.sources.link.link_resources.Goals as goal

pub bounds-resources-i : goal.bounds-resources-i
bounds-resources-i c =
    let same = zip_length (IsResourceDraft c.requires.known.0) c.args.resources.now c.args.drafts.now c.requires.known.1 in
    omega arith

pub link_resource-requires-clause-known : goal.link_resource-requires-clause-known
link_resource-requires-clause-known c =
    let resources = c.args.resources.now in
    let drafts = c.args.drafts.now in
    let i = c.loop-i.i in
    let resource = c.index-resources-i.result in
    let draft = c.index-drafts-i.result in
    let same = zip_length (IsResourceDraft c.requires.known.0) resources drafts c.requires.known.1 in
    let here : i < length resources = omega arith in
    let at : slice_get resources i ≡ Some resource = slice_get_read resources (length resources) i resource refl here c.index-resources-i.is in
    let at' : slice_get drafts i ≡ Some draft = slice_get_read drafts (length drafts) i draft refl c.loop-i-test.true c.index-drafts-i.is in
    let found = zip_at (IsResourceDraft c.requires.known.0) resources drafts c.requires.known.1 i resource at in
    let one : found.0 ≡ draft = some_same (sym found.1 ∙ at') in
    (c.requires.known.0, subst (IsResourceDraft c.requires.known.0 resource) one found.2)

pub link_resource-requires-clause-ready : goal.link_resource-requires-clause-ready
link_resource-requires-clause-ready c =
    let resources = c.args.resources.now in
    let i = c.loop-i.i in
    let resource = c.index-resources-i.result in
    let same = zip_length (IsResourceDraft c.requires.known.0) resources c.args.drafts.now c.requires.known.1 in
    let here : i < length resources = omega arith in
    all_at IsReady resources c.requires.ready i resource (slice_get_read resources (length resources) i resource refl here c.index-resources-i.is)

pub bounds-fed-i : goal.bounds-fed-i
bounds-fed-i c =
    let same = zip_length (IsResourceDraft c.requires.known.0) c.args.resources.now c.args.drafts.now c.requires.known.1 in
    let many = c.requires.many in
    omega arith

pub link_resource-requires-clause-fed : goal.link_resource-requires-clause-fed
link_resource-requires-clause-fed c =
    let resources = c.args.resources.now in
    let drafts = c.args.drafts.now in
    let fed = c.args.fed.now in
    let i = c.loop-i.i in
    let resource = c.index-resources-i.result in
    let draft = c.index-drafts-i.result in
    let runs = c.index-fed-i.result in
    let same = zip_length (IsResourceDraft c.requires.known.0) resources drafts c.requires.known.1 in
    let many = c.requires.many in
    let here : i < length resources = omega arith in
    let there : i < length fed = omega arith in
    let given : slice_get (map (λ (f : Vec FedUseValue Global). f.items) fed) i ≡ Some runs.items =
    slice_get-map (λ (f : Vec FedUseValue Global). f.items) fed i ∙ ap (option_map (λ (f : Vec FedUseValue Global). f.items)) (slice_get_read fed (length fed) i runs refl there c.index-fed-i.is) in
    rw c.deref.ensures.value (c.requires.fed i resource draft runs.items (slice_get_read resources (length resources) i resource refl here c.index-resources-i.is) (slice_get_read drafts (length drafts) i draft refl c.loop-i-test.true c.index-drafts-i.is) given)

pub loop-i-preserved : goal.loop-i-preserved
loop-i-preserved c =
    let resources = c.args.resources.now in
    let drafts = c.args.drafts.now in
    let i = c.loop-i.i in
    let resource = c.index-resources-i.result in
    let draft = c.index-drafts-i.result in
    let same = zip_length (IsResourceDraft c.requires.known.0) resources drafts c.requires.known.1 in
    let here : i < length resources = omega arith in
    let grown = ap length c.in_ok-push.ensures.items in
    let longer = length_push c.loop-i.linked.items c.in_ok-resource.resource in
    record {
      many = omega arith;
      each = triples_push (IsResourceLinked (drafted drafts)) resources drafts c.loop-i.linked.items c.push.new.self.items i resource draft c.in_ok-resource.resource c.loop-i.invariant.many
          (slice_get_read resources (length resources) i resource refl here c.index-resources-i.is) (slice_get_read drafts (length drafts) i draft refl c.loop-i-test.true c.index-drafts-i.is)
          c.loop-i.invariant.each c.in_ok-resource.ensures c.in_ok-push.ensures.items;
    }

pub returns-clause-many : goal.returns-clause-many
returns-clause-many c =
    let same = zip_length (IsResourceDraft c.requires.known.0) c.args.resources.now c.args.drafts.now c.requires.known.1 in
    let end = c.loop-i.auto.i-end in
    omega arith
