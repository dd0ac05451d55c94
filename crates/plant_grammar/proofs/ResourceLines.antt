-- Lines of a resource, and what is known of them.
use Rattle.std.proofs.Common.{◌≡◌, inl, inr, ℕ, ◌+◌, ◌<◌, ◌≤◌, List, [], ◌∷◌, ◌++◌, length, map, take, Some, slice_get, cond, refl, sym, ap, subst, ◌∙◌, arith}
use Rattle.std.specs.Prelude.{All}
use Rattle.std.proofs.lemmas.List.{append-nil, length-append, take-append-le}
use Rattle.std.proofs.lemmas.List.Elements.{All-push}
use Rattle.std.proofs.lemmas.Option.{slice_get_within}
use Rattle.std.proofs.Math.Seq.{take-append_seam}
use Rattle.std.specs.List.{flat_map, count_by}
use Rattle.std.proofs.lemmas.List.Concat.{flat_map-cons, flat_map-append}
use Rattle.std.proofs.lemmas.List.Recursion.{is_count_by}
use Rattle.lists.proofs.Places.{push_cases}
use Rattle.plant_grammar.specs.declared.grammar.tree.Item.{Item}
use Rattle.plant_grammar.specs.declared.grammar.tree.Item.TheVariants as item
use Rattle.plant_grammar.specs.declared.grammar.tree.Bind.{Bind}
use Rattle.plant_grammar.specs.declared.grammar.tree.TaskLine.{TaskLine}
use Rattle.plant_grammar.specs.declared.grammar.tree.Use.{Use}
use Rattle.plant_grammar.specs.declared.grammar.tree.Resource.{Resource}
use Rattle.plant_grammar.specs.Grammar.{Tree}
use Rattle.plant_grammar.specs.Names.{AreNamesApart}
use Rattle.plant_grammar.specs.Lawful.{task_of, use_of, binds_of, IsUseLawful, IsResourceLawful, AreItemsLawful, AreResourcesLawful}
use Rattle.plant_grammar.specs.Steps.ReadParts.{TallyValue, tally_with, is_task_line, MayFollow}
use Rattle.plant_grammar.specs.Steps.NamesRead.{IsNew}
use Rattle.plant_grammar.proofs.Apart.{apart_more, apart_none}
use Rattle.plant_grammar.proofs.WordLists.{flat_map-push, flat_map-grown, grown}

counted : (x : Item) (xs : List Item) → length (flat_map task_of (x ∷ xs)) ≡ cond (is_task_line x) (1 + length (flat_map task_of xs)) (length (flat_map task_of xs))
counted (item.Task t) xs = omega (arith, ap length (flat_map-cons task_of (item.Task t) xs))
counted (item.Use u) xs = ap length (flat_map-cons task_of (item.Use u) xs)

pub tasks_counted : (xs : List Item) → length (flat_map task_of xs) ≡ count_by is_task_line xs
tasks_counted xs = is_count_by (λ ys. length (flat_map task_of ys)) is_task_line refl counted xs

-- the uses stay lawful when a line comes behind them, and it is lawful if it is a use
uses_more : (tree : Tree) (xs : List Item) (x : Item) → AreItemsLawful tree xs → ((u : Use) → x ≡ item.Use u → IsUseLawful tree xs u)
    → (k : ℕ) (u : Use) → slice_get (xs ++ x ∷ []) k ≡ Some (item.Use u) → IsUseLawful tree (take k (xs ++ x ∷ [])) u
uses_more tree xs x lawful last k u at = elim (push_cases xs x k (item.Use u) at) [
  | inl old ↦ let within = slice_get_within xs k (item.Use u) old in
      subst (λ before. IsUseLawful tree before u) (sym (take-append-le k xs (x ∷ []) (omega arith))) (lawful.uses_lawful k u old)
  | inr (here, is) ↦ subst (λ before. IsUseLawful tree before u) (sym (ap (λ n. take n (xs ++ x ∷ [])) here ∙ take-append_seam xs (x ∷ []))) (last u (sym is))
]

-- one more line was read
items_push : (tree : Tree) (xs : List Item) (x : Item) → AreItemsLawful tree xs → MayFollow tree xs x → AreItemsLawful tree (xs ++ x ∷ [])
items_push tree xs (item.Task t) lawful (new, few, positive) =
    let tasks : flat_map task_of (xs ++ item.Task t ∷ []) ≡ flat_map task_of xs ++ t ∷ [] = flat_map-push task_of xs (item.Task t) in
    let uses : flat_map use_of (xs ++ item.Task t ∷ []) ≡ flat_map use_of xs = flat_map-push use_of xs (item.Task t) ∙ append-nil (flat_map use_of xs) in
    record {
      tasks_apart = apart_more (λ (t : TaskLine). t.name) (flat_map task_of xs) _ t tasks lawful.tasks_apart new;
      few_tasks = omega (arith, few, grown (flat_map task_of xs) _ t tasks);
      intervals = subst (λ ts. All (λ (t : TaskLine). 0 < t.interval) ts) (sym tasks) (All-push (λ (t : TaskLine). 0 < t.interval) (flat_map task_of xs) t lawful.intervals positive);
      instances_apart = subst (λ us. AreNamesApart (map (λ (u : Use). u.instance) us)) (sym uses) lawful.instances_apart;
      uses_lawful = uses_more tree xs (item.Task t) lawful (λ u is. absurd cc);
    }
items_push tree xs (item.Use v) lawful (new, last) =
    let tasks : flat_map task_of (xs ++ item.Use v ∷ []) ≡ flat_map task_of xs = flat_map-push task_of xs (item.Use v) ∙ append-nil (flat_map task_of xs) in
    let uses : flat_map use_of (xs ++ item.Use v ∷ []) ≡ flat_map use_of xs ++ v ∷ [] = flat_map-push use_of xs (item.Use v) in
    record {
      tasks_apart = subst (λ ts. AreNamesApart (map (λ (t : TaskLine). t.name) ts)) (sym tasks) lawful.tasks_apart;
      few_tasks = subst (λ ts. length ts ≤ 16) (sym tasks) lawful.few_tasks;
      intervals = subst (λ ts. All (λ (t : TaskLine). 0 < t.interval) ts) (sym tasks) lawful.intervals;
      instances_apart = apart_more (λ (u : Use). u.instance) (flat_map use_of xs) _ v uses lawful.instances_apart new;
      uses_lawful = uses_more tree xs (item.Use v) lawful (λ u is. let same : v ≡ u = cc in subst (λ w. IsUseLawful tree xs w) same last);
    }

pub items_more : (tree : Tree) (xs ys : List Item) (x : Item) → ys ≡ xs ++ x ∷ [] → AreItemsLawful tree xs → MayFollow tree xs x → AreItemsLawful tree ys
items_more tree xs ys x e lawful follows = subst (AreItemsLawful tree) (sym e) (items_push tree xs x lawful follows)

pub no_items : (tree : Tree) → AreItemsLawful tree []
no_items tree = record {
  tasks_apart = apart_none;
  few_tasks = omega arith;
  intervals = λ k d lt. absurd (omega (arith, lt));
  instances_apart = apart_none;
  uses_lawful = λ k u at. absurd cc;
}

pub tallied : (t : TallyValue) (us vs : List Use) → tally_with (tally_with t us) vs ≡ tally_with t (us ++ vs)
tallied t us vs =
    let instances : t.instances + length us + length vs ≡ t.instances + length (us ++ vs) = omega (arith, length-append us vs) in
    let binds : t.binds + length (flat_map binds_of us) + length (flat_map binds_of vs) ≡ t.binds + length (flat_map binds_of (us ++ vs)) =
    omega (arith, length-append (flat_map binds_of us) (flat_map binds_of vs), ap length (flat_map-append binds_of us vs)) in
    cc

-- a line's instances are counted behind those of the lines before it
pub tally_more : {A : Type 0} (f : A → List Use) (xs ys : List A) (y : A) (old now new : TallyValue) → ys ≡ xs ++ y ∷ [] → now ≡ tally_with old (flat_map f xs) → new ≡ tally_with now (f y) → new ≡ tally_with old (flat_map f ys)
tally_more f xs ys y old now new e h1 h2 =
    h2 ∙ ap (λ t. tally_with t (f y)) h1 ∙ tallied old (flat_map f xs) (f y) ∙ ap (λ us. tally_with old us) (sym (flat_map-grown f xs ys y e))

pub resources_more : (tree : Tree) (xs ys : List Resource) (y : Resource) → ys ≡ xs ++ y ∷ [] → AreResourcesLawful tree xs → IsNew (λ r. r.name) xs y.name → length xs < 16 → IsResourceLawful tree y → AreResourcesLawful tree ys
resources_more tree xs ys y e lawful new few last = record {
  few = omega (arith, few, grown xs ys y e);
  apart = apart_more (λ (r : Resource). r.name) xs ys y e lawful.apart new;
  lawful = subst (All (IsResourceLawful tree)) (sym e) (All-push (IsResourceLawful tree) xs y lawful.lawful last);
}

pub no_resources : (tree : Tree) → AreResourcesLawful tree []
no_resources tree = record {
  few = omega arith;
  apart = apart_none;
  lawful = λ k d lt. absurd (omega (arith, lt));
}

pub resource_is_lawful : (tree : Tree) (r : Resource) → AreItemsLawful tree r.items.items → IsResourceLawful tree r
resource_is_lawful tree r lawful = record {
  tasks_apart = lawful.tasks_apart;
  few_tasks = lawful.few_tasks;
  intervals = lawful.intervals;
  instances_apart = lawful.instances_apart;
  uses_lawful = lawful.uses_lawful;
}

pub bind_counted : (bs cs : List Bind) (b : Bind) (old now new : TallyValue) → cs ≡ bs ++ b ∷ [] → now ≡ record { instances = old.instances; binds = old.binds + length bs } → new ≡ record { instances = now.instances; binds = now.binds + 1 }
    → new ≡ record { instances = old.instances; binds = old.binds + length cs }
bind_counted bs cs b old now new e h1 h2 =
    let first : now.binds ≡ old.binds + length bs = ap (λ t. t.binds) h1 in
    let binds : now.binds + 1 ≡ old.binds + length cs = omega (arith, grown bs cs b e) in
    let instances : now.instances ≡ old.instances = ap (λ t. t.instances) h1 in
    cc
