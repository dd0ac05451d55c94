use Rattle.std.proofs.Common.{◌≡◌, ◌∙◌, [], ◌∷◌, ◌++◌, ap, Some, Vec, length, map, slice_get, take}
use Rattle.std.specs.Borrow.{Bor}
use Rattle.std.specs.Prelude.{All}
use Rattle.std.specs.Option.{option_map}
use Rattle.std.specs.Global.{Global}
use Rattle.std.specs.List.{AllZip}
use Rattle.std.proofs.lemmas.Option.{slice_get-map}
use Rattle.std.proofs.lemmas.List.{map-append}
use Rattle.lists.proofs.Zips.{zip_push}
use Rattle.task_codes.specs.declared.binding.Binding.{Binding}
use Rattle.plant.specs.Steps.Drafts.{seen, IsPlacedBinding, IsTakenFrom}
use Rattle.plant.specs.Steps.FedUses.{FedUseValue, feeds_in}
use Rattle.plant.proofs.FedUses.{feeds_more}
use Rattle.plant.proofs.Zips.{all_at, ref_at}
use Rattle.plant.proofs.sources.producers.bindings_of.Goals as goal

pub bindings-requires : goal.bindings-requires
bindings-requires c =
    let fed = c.args.fed.now in
    let i = c.loop-run.run-index in
    let u = c.run-item.result in
    let at : slice_get (feeds_in (seen fed)) i ≡ Some u.now.feeds =
    slice_get-map (λ (v : FedUseValue). v.feeds) (seen fed) i ∙ ap (option_map (λ (v : FedUseValue). v.feeds)) (ref_at fed i u c.loop-run-test.true c.run-item.is) in
    rw c.feeds.ensures (all_at (All (IsTakenFrom c.args.producers.now)) (feeds_in (seen fed)) c.requires i u.now.feeds at)

pub loop-run-preserved : goal.loop-run-preserved
loop-run-preserved c =
    let fed = c.args.fed.now in
    let i = c.loop-run.run-index in
    let u = c.run-item.result in
    let old = c.loop-run.all.items in
    let more = c.in_ok-bindings.field-0 in
    let grown : map (λ (b : Vec Binding Global). b.items) c.push.new.self.items ≡ map (λ (b : Vec Binding Global). b.items) old ++ more.items ∷ [] =
    ap (map (λ (b : Vec Binding Global). b.items)) c.in_ok-push.ensures.items ∙ map-append (λ (b : Vec Binding Global). b.items) old (more ∷ []) in
    rw (feeds_more fed i u c.loop-run-test.true c.run-item.is, grown)
    (zip_push (AllZip (IsPlacedBinding c.args.producers.now)) (feeds_in (map (λ (v : Bor FedUseValue). v.now) (take i fed))) (map (λ (b : Vec Binding Global). b.items) old) u.now.feeds more.items
    c.loop-run.invariant (rw c.feeds.ensures at c.in_ok-bindings.ensures))
