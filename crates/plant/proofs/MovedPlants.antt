-- A plant of a tree is one of each tree that says the same.
use Rattle.std.proofs.Common.{◌≡◌, ℕ, Bool, true, false, IsTrue, List, [], ◌∷◌, length, map, refl, sym, ap, ◌∙◌, subst}
use Rattle.std.specs.List.{filter, AllZip}
use Rattle.std.proofs.lemmas.List.{length-map}
use Rattle.declared_names.specs.declared.declarations.Declaration.{Declaration}
use Rattle.declared_names.specs.Names.{place_of}
use Rattle.task_codes.specs.declared.binding.Binding.{Binding}
use Rattle.task_codes.specs.CodeValue.{ProgramValue, CodeValue, bindings_at}
use Rattle.plant_grammar.specs.declared.grammar.tree.Program.{Program}
use Rattle.plant_grammar.specs.declared.grammar.tree.TaskLine.{TaskLine}
use Rattle.plant_grammar.specs.declared.grammar.tree.Bind.{Bind}
use Rattle.plant_grammar.specs.declared.grammar.tree.Use.{Use}
use Rattle.plant_grammar.specs.declared.grammar.tree.Resource.{Resource}
use Rattle.plant_grammar.specs.Grammar.{Tree}
use Rattle.plant_grammar.specs.Names.{is_named}
use Rattle.declared_names.specs.Kinds.{input_kind_at}
use Rattle.plant_grammar.specs.Lawful.{variables, tasks_of, uses_of, binds_of}
use Rattle.plant_grammar.specs.Parts.{ProgramParts, UseParts, ResourceParts, program_parts, use_parts, resource_parts, IsSameTree}
use Rattle.plant.specs.PlantValue.{ResourceValue, PlantValue}
use Rattle.plant.specs.StandsFor.{runs_in, IsBindingOf, IsInstanceOf, IsCodeOf, task_value, IsResourceOf, IsPlantOf}
use Rattle.plant.proofs.SameTrees.{partner, ladder_kept}
use Rattle.plant.proofs.Zips.{zip_imply}

-- what goes with the items of a list goes with items that say the same
zip_moved : {A V B : Type 0} (f : A → V) (R S : A → B → Type 0) → ((x y : A) (z : B) → f x ≡ f y → R x z → S y z) → (xs ys : List A) (zs : List B) → map f xs ≡ map f ys → AllZip R xs zs → AllZip S ys zs
zip_moved f R S go [] [] [] e each = tt
zip_moved f R S go [] [] (z ∷ zs) e each = absurd each
zip_moved f R S go [] (y ∷ ys) zs e each = absurd cc
zip_moved f R S go (x ∷ xs) [] zs e each = absurd cc
zip_moved f R S go (x ∷ xs) (y ∷ ys) [] e each = absurd each
zip_moved f R S go (x ∷ xs) (y ∷ ys) (z ∷ zs) e each =
    let first : f x ≡ f y = cc in
    let rest : map f xs ≡ map f ys = cc in
    (go x y z first each.0, zip_moved f R S go xs ys zs rest each.1)

-- the instances that a task runs
runs_same : (n : List ℕ) (us ws : List Use) → map use_parts us ≡ map use_parts ws → map use_parts (filter (λ u. is_named u.task n) us) ≡ map use_parts (filter (λ u. is_named u.task n) ws)
runs_same n [] [] e = refl
runs_same n [] (w ∷ ws) e = absurd cc
runs_same n (u ∷ us) [] e = absurd cc
runs_same n (u ∷ us) (w ∷ ws) e =
    let first : use_parts u ≡ use_parts w = cc in
    let rest : map use_parts us ≡ map use_parts ws = cc in
    by (is_named w.task n) (ap (λ (x : UseParts). is_named x.task n) first) refl first (runs_same n us ws rest)
  where
    by : (b : Bool) → is_named u.task n ≡ is_named w.task n → is_named w.task n ≡ b → use_parts u ≡ use_parts w → map use_parts (filter (λ u. is_named u.task n) us) ≡ map use_parts (filter (λ u. is_named u.task n) ws)
        → map use_parts (filter (λ u. is_named u.task n) (u ∷ us)) ≡ map use_parts (filter (λ u. is_named u.task n) (w ∷ ws))
    by true same is first more = rw (same, is) (ap (λ x. x ∷ map use_parts (filter (λ u. is_named u.task n) us)) first ∙ ap (λ xs. use_parts w ∷ xs) more)
    by false same is first more = rw (same, is) more

module _ (t u : Tree) (same : IsSameTree t u) (plant : PlantValue) where
  binding_moved : (c : CodeValue) (p q : Program) → program_parts p ≡ program_parts q → (b : Bind) (x : Binding) → IsBindingOf plant c p b x → IsBindingOf plant c q b x
  binding_moved c p q e b x is =
      let list : variables q ≡ variables p = ap (λ (y : ProgramParts). y.declarations) (sym e) in
      record {
        input_is = ap (λ (ds : List Declaration). place_of ds b.input) list ∙ is.input_is;
        source_is = is.source_is;
        kind = is.kind;
        input_kind_is = ap (λ (ds : List Declaration). input_kind_at ds x.place) list ∙ is.input_kind_is;
        source_kind_is = is.source_kind_is;
      }

  instance_moved : (c : CodeValue) (a b : Use) → use_parts a ≡ use_parts b → (p : ProgramValue) (bs : List Binding) → IsInstanceOf t plant c a p bs → IsInstanceOf u plant c b p bs
  instance_moved c a b e p bs is =
      let type = partner program_parts t.programs u.programs same.programs is.place is.type is.type_is.stands in
      let binds : binds_of a ≡ binds_of b = ap (λ (x : UseParts). x.binds) e in
      let named : IsTrue (is_named a.program type.0.name) = subst (λ (n : List ℕ). IsTrue (is_named a.program n)) (ap (λ (x : ProgramParts). x.name) type.2) is.type_is.named in
      record {
        name_is = is.name_is ∙ ap (λ (x : UseParts). x.instance) e;
        place = is.place;
        type = type.0;
        type_is = record { stands = type.1; named = subst (λ (n : List ℕ). IsTrue (is_named n type.0.name)) (ap (λ (x : UseParts). x.program) e) named };
        ladder_is = ladder_kept is.type type.0 type.2 p.ladder is.ladder_is;
        retained_is = is.retained_is ∙ ap (λ (x : ProgramParts). x.retained) type.2;
        bound = subst (λ (xs : List Bind). AllZip (IsBindingOf plant c type.0) xs bs) binds
            (zip_imply (IsBindingOf plant c is.type) (IsBindingOf plant c type.0) (binding_moved c is.type type.0 type.2) (binds_of a) bs is.bound);
      }

  code_moved : (r q : Resource) → resource_parts r ≡ resource_parts q → (l : TaskLine) (c : CodeValue) → IsCodeOf t plant r l c → IsCodeOf u plant q l c
  code_moved r q e l c is =
      let runs : map use_parts (runs_in r l) ≡ map use_parts (runs_in q l) = runs_same l.name (uses_of r) (uses_of q) (ap (λ (x : ResourceParts). x.uses) e) in
      record {
        many = is.many ∙ sym (length-map (runs_in r l) use_parts) ∙ ap (λ (xs : List UseParts). length xs) runs ∙ length-map (runs_in q l) use_parts;
        each = λ i w p at at'.
            let v = partner use_parts (runs_in q l) (runs_in r l) (sym runs) i w at in
            instance_moved c v.0 w (sym v.2) p (bindings_at c i) (is.each i v.0 p v.1 at');
        producers_are = is.producers_are;
        sound = is.sound;
        taken = is.taken;
      }

  resource_moved : (r q : Resource) (v : ResourceValue) → resource_parts r ≡ resource_parts q → IsResourceOf t plant r v → IsResourceOf u plant q v
  resource_moved r q v e is =
      let tasks : tasks_of r ≡ tasks_of q = ap (λ (x : ResourceParts). x.tasks) e in
      record {
        name_is = is.name_is ∙ ap (λ (x : ResourceParts). x.name) e;
        tasks_are = is.tasks_are ∙ ap (λ (ls : List TaskLine). map task_value ls) tasks;
        codes_are = subst (λ (ls : List TaskLine). AllZip (IsCodeOf u plant q) ls v.codes) tasks (zip_imply (IsCodeOf t plant r) (IsCodeOf u plant q) (code_moved r q e) (tasks_of r) v.codes is.codes_are);
      }

  pub plant_moved : IsPlantOf t plant → IsPlantOf u plant
  plant_moved is = zip_moved resource_parts (IsResourceOf t plant) (IsResourceOf u plant) resource_moved t.resources u.resources plant.resources same.resources is
