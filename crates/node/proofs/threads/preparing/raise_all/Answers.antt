-- One more keeper.
use Rattle.std.proofs.Common.{arith, rules, ◌≡◌, ℕ, Ok, ◌<◌, ◌++◌, List, [], ◌∷◌, length, map, refl, ap, sym, ◌∙◌, append_assoc, subst}
use Rattle.std.specs.List.{AllZip}
use Rattle.std.specs.Vec.Iter.{into_iter_items}
use Rattle.std.proofs.lemmas.List.{length-map, map_push}
use Rattle.lists.proofs.Results.{kept_fault}
use Rattle.lists.proofs.Zips.{zip_push}
use Rattle.std_blocks.specs.declared.value.Value.{Value}
use Rattle.node.specs.Steps.Working.{AreRaised, AreTold, openings_of_raised, lasts_of}
use Rattle.node.proofs.Alls.{zip_long}
use Rattle.node.proofs.Opened.{opened_push, lasts_push}
use Rattle.node.specs.Raises.{ComesAfterFirst, OneMayRefuse}
use Rattle.node.proofs.Refused.{first_asked, one_refused}
use Rattle.node.proofs.Told.{told_push}
use Rattle.node.proofs.threads.preparing.raise_all.Goals as goal

pub loop-keeper-preserved : goal.loop-keeper-preserved
loop-keeper-preserved g c =
    let was = c.loop-keeper.invariant.0 in
    let asked = c.loop-keeper.invariant.3 in
    let last = g.K.Keeper.last c.in-Some.keeper in
    let old : List ℕ = c.loop-keeper.firsts.items in
    let before = c.loop-keeper.raised.items in
    let rest_is : into_iter_items c.loop-keeper.keeper-iterator ≡ c.in-Some.keeper ∷ into_iter_items c.next.new.self = search rules in
    let many : length before ≡ length asked.0 =
    sym (length-map before (λ r. g.K.Keeper.last r.keeper)) ∙ ap length c.loop-keeper.invariant.1 ∙ zip_long (λ one first. g.K.Keeper.raise_gives one (Ok first)) asked.0 old asked.2 in
    let counted : c.len-resource.result ≡ length before = (let len = c.len-resource.ensures in let long = c.loop-keeper.raised.ok.0 in omega (arith, len, long)) in
    let told = told_push g.K.Keeper.kept_gives c.args.plant.now asked.0 (openings_of_raised before) c.in-Some.keeper c.in_ok-one.one.opening c.len-resource.result
    (length-map before (λ r. r.opening) ∙ many) (counted ∙ many) asked.3 c.in_ok-one.ensures.told in
    let firsts : c.push-in-loop-keeper.new.self.items ≡ old ++ c.in_ok-one.first ∷ [] = c.in-Ok-push.ensures.items in (
      (
        was.0 ++ last ∷ [],
        was.1 ∙ ap (λ ks. was.0 ++ map g.K.Keeper.last ks) rest_is ∙ sym (append_assoc was.0 (last ∷ []) (map g.K.Keeper.last (into_iter_items c.next.new.self))),
        subst (λ (fs : List ℕ). AllZip (λ (held first : ℕ). held < first) (was.0 ++ last ∷ []) fs) (sym firsts)
            (zip_push (λ (held first : ℕ). held < first) was.0 old last c.in_ok-one.first was.2 c.in_ok-one.ensures.above),
      ),
      ap (lasts_of g.K.Keeper.last) c.in-Ok.ensures.items
          ∙ lasts_push g.K.Keeper.last before c.in_ok-one.one
          ∙ ap (λ (ns : List ℕ). ns ++ g.K.Keeper.last c.in_ok-one.one.keeper ∷ []) c.loop-keeper.invariant.1
          ∙ ap (λ (n : ℕ). old ++ n ∷ []) c.in_ok-one.ensures.raised
          ∙ sym firsts,
      opened_push g.K.Keeper.kept_gives c.args.plant.now before c.in_ok-one.one c.push.new.self.items c.len-resource.result (search rules) c.in-Ok.ensures.items c.loop-keeper.invariant.2
          (record { suits = c.in_ok-one.ensures.opened; told = c.in_ok-one.ensures.keeps }),
      (
        asked.0 ++ c.in-Some.keeper ∷ [],
        asked.1 ∙ ap (λ ks. asked.0 ++ ks) rest_is ∙ sym (append_assoc asked.0 (c.in-Some.keeper ∷ []) (into_iter_items c.next.new.self)),
        subst (λ (fs : List ℕ). AreRaised g.K.Keeper.raise_gives (asked.0 ++ c.in-Some.keeper ∷ []) fs) (sym firsts)
            (zip_push (λ one first. g.K.Keeper.raise_gives one (Ok first)) asked.0 old c.in-Some.keeper c.in_ok-one.first asked.2 c.in_ok-one.ensures.given),
        subst (λ (os : List (List (List Value))). AreTold g.K.Keeper.kept_gives c.args.plant.now (asked.0 ++ c.in-Some.keeper ∷ []) os)
            (sym (ap openings_of_raised c.in-Ok.ensures.items ∙ map_push (λ r. r.opening) before c.in_ok-one.one)) told,
        first_asked g.K.Keeper.raise_gives (asked.0 ++ c.in-Some.keeper ∷ []) asked.0 c.in-Some.keeper [] refl asked.4 c.in_ok-one.ensures.may,
      ),
    )

-- it was this keeper that may have answered a fault
pub returns-in_err-one-clause-refused : goal.returns-in_err-one-clause-refused
returns-in_err-one-clause-refused g c =
    let found = c.in_err-one.field-0.0 in
    let asked = c.loop-keeper.invariant.3 in
    let old : List ℕ = c.loop-keeper.firsts.items in
    let before = c.loop-keeper.raised.items in
    let rest_is : into_iter_items c.loop-keeper.keeper-iterator ≡ c.in-Some.keeper ∷ into_iter_items c.next.new.self = search rules in
    let many : length before ≡ length asked.0 =
    sym (length-map before (λ r. g.K.Keeper.last r.keeper)) ∙ ap length c.loop-keeper.invariant.1 ∙ zip_long (λ one first. g.K.Keeper.raise_gives one (Ok first)) asked.0 old asked.2 in
    let counted : c.len-resource.result ≡ length before = (let len = c.len-resource.ensures in let long = c.loop-keeper.raised.ok.0 in omega (arith, len, long)) in
    kept_fault found (OneMayRefuse g.K.Keeper.raise_gives g.K.Keeper.kept_gives c.args.plant.now c.args.keepers.items) _ c.from_residual.ensures.1
    (one_refused found g.K.Keeper.raise_gives g.K.Keeper.kept_gives c.args.plant.now c.args.keepers.items asked.0 c.in-Some.keeper (into_iter_items c.next.new.self) c.len-resource.result
    (asked.1 ∙ ap (λ ks. asked.0 ++ ks) rest_is) (counted ∙ many) c.in_err-one.ensures.refused)

-- any other fault comes once the first one was raised
pub returns-in_err-one-clause-later : goal.returns-in_err-one-clause-later
returns-in_err-one-clause-later g c =
    let found = c.in_err-one.field-0.0 in
    let asked = c.loop-keeper.invariant.3 in
    let rest_is : into_iter_items c.loop-keeper.keeper-iterator ≡ c.in-Some.keeper ∷ into_iter_items c.next.new.self = search rules in
    kept_fault found (ComesAfterFirst g.K.Keeper.raise_gives c.args.keepers.items) _ c.from_residual.ensures.1
    (λ other. first_asked g.K.Keeper.raise_gives c.args.keepers.items asked.0 c.in-Some.keeper (into_iter_items c.next.new.self) (asked.1 ∙ ap (λ ks. asked.0 ++ ks) rest_is) asked.4
    (c.in_err-one.ensures.later other))

pub returns-in_default-clause-later : goal.returns-in_default-clause-later
returns-in_default-clause-later g c = λ other.
    let asked = c.loop-keeper.invariant.3 in
    let rest_is : into_iter_items c.loop-keeper.keeper-iterator ≡ c.in-Some.keeper ∷ into_iter_items c.next.new.self = search rules in
    first_asked g.K.Keeper.raise_gives c.args.keepers.items asked.0 c.in-Some.keeper (into_iter_items c.next.new.self) (asked.1 ∙ ap (λ ks. asked.0 ++ ks) rest_is) asked.4
    c.in_ok-one.ensures.may

pub returns-in_default-push-clause-later : goal.returns-in_default-push-clause-later
returns-in_default-push-clause-later g c = λ other.
    let asked = c.loop-keeper.invariant.3 in
    let rest_is : into_iter_items c.loop-keeper.keeper-iterator ≡ c.in-Some.keeper ∷ into_iter_items c.next.new.self = search rules in
    first_asked g.K.Keeper.raise_gives c.args.keepers.items asked.0 c.in-Some.keeper (into_iter_items c.next.new.self) (asked.1 ∙ ap (λ ks. asked.0 ++ ks) rest_is) asked.4
    c.in_ok-one.ensures.may
