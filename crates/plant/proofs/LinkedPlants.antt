-- The resources that are linked over a draft make a plant, and it stands for the tree.
use Rattle.std.proofs.Common.{◌≡◌, ℕ, suc, List, [], ◌∷◌, Option, Some, None, length, map, IsTrue, refl, sym, ap, ◌∙◌, subst, arith}
use Rattle.std.specs.Prelude.{slice_get, All}
use Rattle.std.specs.List.{flat_map, AllZip}
use Rattle.std.proofs.lemmas.List.{length-map}
use Rattle.std.proofs.lemmas.List.Elements.{All-nil, All-cons}
use Rattle.lists.proofs.Places.{some_same}
use Rattle.lists.proofs.Zips.{zip_length, zip_at, zip_back}
use Rattle.declared_names.specs.declared.declarations.Declaration.{Declaration}
use Rattle.task_codes.specs.declared.binding.Source.{Source}
use Rattle.task_codes.specs.declared.binding.Source.TheVariants as source
use Rattle.task_codes.specs.declared.binding.Binding.{Binding}
use Rattle.task_codes.specs.declared.task_ref.TaskRef.{TaskRef}
use Rattle.plant_grammar.specs.declared.grammar.tree.Program.{Program}
use Rattle.plant_grammar.specs.declared.grammar.tree.TaskLine.{TaskLine}
use Rattle.plant_grammar.specs.declared.grammar.tree.SourceName.{SourceName}
use Rattle.plant_grammar.specs.declared.grammar.tree.SourceName.TheVariants as named
use Rattle.plant_grammar.specs.declared.grammar.tree.Bind.{Bind}
use Rattle.plant_grammar.specs.declared.grammar.tree.Use.{Use}
use Rattle.plant_grammar.specs.declared.grammar.tree.Item.{Item}
use Rattle.plant_grammar.specs.declared.grammar.tree.Item.TheVariants as item
use Rattle.plant_grammar.specs.declared.grammar.tree.Resource.{Resource}
use Rattle.plant_grammar.specs.Grammar.{Tree}
use Rattle.plant_grammar.specs.Names.{is_named, IsAt}
use Rattle.plant_grammar.specs.Lawful.{variables, tasks_of, use_of, binds_of, IsResourceLawful}
use Rattle.plant.specs.Ladders.{IsLadderOf}
use Rattle.plant.specs.PlantValue.{TaskValue, ResourceValue, PlantValue, code_at, IsSoundPlant, AreProducersOf}
use Rattle.task_codes.specs.CodeValue.{ProgramValue, CodeValue, bindings_at}
use Rattle.plant.specs.StandsFor.{runs_in, IsOrigin, IsSourceOf, IsBindingOf, IsCodeOf, IsResourceOf, IsPlantOf, task_value}
use Rattle.plant.specs.Steps.Drafts.{drafted, IsProgramOf, IsDraftOf, IsResourceDraft, IsReady, IsOnceBound, IsBindingBy, IsCodeLinked, IsResourceLinked, HasPrograms, Triples}
use Rattle.plant.proofs.Zips.{zip_imply, item_at}

-- two lists of one length whose items go together by place
pub zip_from : {A B : Type 0} (R : A → B → Type 0) (xs : List A) (ys : List B) → length xs ≡ length ys → ((k : ℕ) (x : A) (y : B) → slice_get xs k ≡ Some x → slice_get ys k ≡ Some y → R x y) → AllZip R xs ys
zip_from R [] [] e h = tt
zip_from R [] (y ∷ ys) e h = absurd (omega arith)
zip_from R (x ∷ xs) [] e h = absurd (omega arith)
zip_from R (x ∷ xs) (y ∷ ys) e h = (h 0 x y refl refl, zip_from R xs ys (omega arith) (λ k x' y' at at'. h (suc k) x' y' at at'))

-- where a task stands in a plant
pub code_found : (plant : PlantValue) (t : TaskRef) (c : CodeValue) → code_at plant t ≡ Some c → (r : ResourceValue) × (slice_get plant.resources t.resource ≡ Some r) × (slice_get r.codes t.task ≡ Some c)
code_found plant t c at = go (slice_get plant.resources t.resource) refl
  where
    go : (o : Option ResourceValue) → slice_get plant.resources t.resource ≡ o → (r : ResourceValue) × (slice_get plant.resources t.resource ≡ Some r) × (slice_get r.codes t.task ≡ Some c)
    go None e = let none : slice_get {X = CodeValue} [] t.task ≡ Some c = rw e at at in cc
    go (Some r) e = (r, e, rw e at at)

pub code_stands : (plant : PlantValue) (t : TaskRef) (r : ResourceValue) (c : CodeValue) → slice_get plant.resources t.resource ≡ Some r → slice_get r.codes t.task ≡ Some c → code_at plant t ≡ Some c
code_stands plant t r c e f = rw e f

module _ (programs : List Program) (name : List ℕ) (rs : List Resource) (ds vs : List ResourceValue) (known : AllZip (IsResourceDraft programs) rs ds) (many : length vs ≡ length rs)
    (linked : Triples (IsResourceLinked (drafted ds)) rs ds vs) where
  abbrev draft : PlantValue
  draft = drafted ds

  abbrev plant : PlantValue
  plant = drafted vs

  -- the resource of a draft
  later : (k : ℕ) (d : ResourceValue) → slice_get ds k ≡ Some d → (v : ResourceValue) × (slice_get vs k ≡ Some v) × ((r : Resource) × (slice_get rs k ≡ Some r) × IsResourceDraft programs r d × IsResourceLinked draft r d v)
  later k d at =
      let r = zip_back (IsResourceDraft programs) rs ds known k d at in
      let v = item_at vs rs many k r.0 r.1 in
      (v.0, v.1, (r.0, r.1, r.2, linked k r.0 d v.0 r.1 at v.1))

  -- the code of a draft
  code_later : (r : Resource) (d v : ResourceValue) → IsResourceDraft programs r d → IsResourceLinked draft r d v → (k : ℕ) (c : CodeValue) → slice_get d.codes k ≡ Some c
      → (e : CodeValue) × (slice_get v.codes k ≡ Some e) × HasPrograms c e
  code_later r d v of_draft is k c at =
      let t = zip_back (IsDraftOf programs r) (tasks_of r) d.codes of_draft.codes_are k c at in
      let e = item_at v.codes (tasks_of r) is.many k t.0 t.1 in
      (e.0, e.1, (is.codes_are k t.0 c e.0 t.1 at e.1).same)

  at_later : (t : TaskRef) (c : CodeValue) → code_at draft t ≡ Some c → (e : CodeValue) × (code_at plant t ≡ Some e) × HasPrograms c e
  at_later t c at =
      let d = code_found draft t c at in
      let v = later t.resource d.0 d.1 in
      let e = code_later v.2.0 d.0 v.0 v.2.2 v.2.3 t.task c d.2 in
      (e.0, code_stands plant t v.0 e.0 v.1 e.1, e.2)

  origin_later : (r i o : List ℕ) (t : TaskRef) (k : ℕ) → IsOrigin draft r i o t k → IsOrigin plant r i o t k
  origin_later r i o t k is =
      let v = later t.resource is.owner is.resource_is.stands in
      let e = code_later v.2.0 is.owner v.0 v.2.2 v.2.3 t.task is.code is.task_is in
      let same : v.0.name ≡ is.owner.name = v.2.3.name_is ∙ sym v.2.2.name_is in
      record {
        owner = v.0;
        code = e.0;
        given = is.given;
        program = is.program;
        variable = is.variable;
        resource_is = record { stands = v.1; named = subst (λ (n : List ℕ). IsTrue (is_named r n)) (sym same) is.resource_is.named };
        task_is = e.1;
        given_is = rw e.2.outputs_are is.given_is;
        program_is = subst (λ (ps : List ProgramValue). IsAt (λ (p : ProgramValue). p.name) ps i is.given.program is.program) (sym e.2.programs_are) is.program_is;
        variable_is = is.variable_is;
      }

  source_later : (c : CodeValue) (s : SourceName) (x : Source) → IsSourceOf draft c s x → IsSourceOf plant c s x
  source_later c (named.Field a) (source.Field b) is = is
  source_later c (named.Field a) (source.Given p k) is = absurd is
  source_later c (named.Output r i o) (source.Field b) is = absurd is
  source_later c (named.Output r i o) (source.Given p k) is = (is.0, is.1, origin_later r i o is.0 k is.2)

  producers_later : (c : CodeValue) → AreProducersOf draft c → AreProducersOf plant c
  producers_later c taken k t at =
      let p = taken k t at in
      let e = at_later t p.0 p.1 in
      (e.0, e.1, p.2 ∙ ap (λ os. Some (map (λ o. o.kind) os)) (sym e.2.outputs_are))

  binding_later : (c : CodeValue) (type : Program) (l : ProgramValue) → IsLadderOf type l.ladder → (b : Bind) (x : Binding) → IsBindingBy draft c l.ladder.declarations b x → IsBindingOf plant c type b x
  binding_later c type l is b x bound =
      let bound' : IsBindingBy draft c (variables type) b x = subst (λ (ds : List Declaration). IsBindingBy draft c ds b x) is.declared bound in
      record {
        input_is = bound'.input_is;
        source_is = source_later c b.source x.source bound'.source_is;
        kind = bound'.kind;
        input_kind_is = bound'.input_kind_is;
        source_kind_is = bound'.source_kind_is;
      }

  abbrev tree : Tree
  tree = record { programs = programs; name = name; resources = rs }

  code_is : (r : Resource) (t : TaskLine) (d c : CodeValue) → IsDraftOf programs r t d → IsCodeLinked draft (runs_in r t) d c → IsCodeOf tree plant r t c
  code_is r t d c of_draft is =
      record {
        many = ap length is.same.programs_are ∙ sym (zip_length (IsProgramOf programs) (runs_in r t) d.programs of_draft.programs_are);
        each = λ i u p at at'.
            let f = zip_at (IsProgramOf programs) (runs_in r t) d.programs of_draft.programs_are i u at in
            let same : f.0 ≡ p = some_same (sym f.1 ∙ sym (ap (λ (ps : List ProgramValue). slice_get ps i) is.same.programs_are) ∙ at') in
            let of_program : IsProgramOf programs u p = subst (IsProgramOf programs u) same f.2 in
            record {
              name_is = of_program.name_is;
              place = of_program.place;
              type = of_program.type;
              type_is = of_program.type_is;
              ladder_is = of_program.ladder_is;
              retained_is = of_program.retained_is;
              bound = zip_imply (IsBindingBy draft c p.ladder.declarations) (IsBindingOf plant c of_program.type) (binding_later c of_program.type p of_program.ladder_is) (binds_of u) (bindings_at c i)
                  (is.bound i u p at at');
            };
        producers_are = is.producers_are;
        sound = is.sound;
        taken = producers_later c is.taken;
      }

  resource_is : (r : Resource) (d v : ResourceValue) → IsResourceDraft programs r d → IsResourceLinked draft r d v → IsResourceOf tree plant r v
  resource_is r d v of_draft is = record {
    name_is = is.name_is;
    tasks_are = is.tasks_are;
    codes_are = zip_from (IsCodeOf tree plant r) (tasks_of r) v.codes (sym is.many) (λ k t c at at'.
        let e = zip_at (IsDraftOf programs r) (tasks_of r) d.codes of_draft.codes_are k t at in
        code_is r t e.0 c e.2 (is.codes_are k t e.0 c at e.1 at'));
  }

  pub stands : IsPlantOf tree plant
  stands = zip_from (IsResourceOf tree plant) rs vs (sym many) (λ k r v at at'.
      let d = zip_at (IsResourceDraft programs) rs ds known k r at in
      resource_is r d.0 v d.2 (linked k r d.0 v at d.1 at'))

  pub sound : IsSoundPlant plant
  sound = record {
    coded = λ v k at.
        let r = zip_back (IsResourceOf tree plant) rs vs stands k v at in
        sym (zip_length (IsCodeOf tree plant r.0) (tasks_of r.0) v.codes r.2.codes_are) ∙ sym (ap length r.2.tasks_are ∙ length-map (tasks_of r.0) _);
    taken = λ t c at.
        let v = code_found plant t c at in
        let r = zip_back (IsResourceOf tree plant) rs vs stands t.resource v.0 v.1 in
        (zip_back (IsCodeOf tree plant r.0) (tasks_of r.0) v.0.codes r.2.codes_are t.task c v.2).2.taken;
    distinct = λ t c at.
        let v = code_found plant t c at in
        let r = zip_back (IsResourceOf tree plant) rs vs stands t.resource v.0 v.1 in
        (zip_back (IsCodeOf tree plant r.0) (tasks_of r.0) v.0.codes r.2.codes_are t.task c v.2).2.sound.distinct;
  }

-- what holds of each use by its line holds of the uses
pub uses_all : (P : Use → Type 0) (xs : List Item) → ((k : ℕ) (u : Use) → slice_get xs k ≡ Some (item.Use u) → P u) → All P (flat_map use_of xs)
uses_all P [] h = All-nil P
uses_all P (item.Task t ∷ xs) h = uses_all P xs (λ k u at. h (suc k) u at)
uses_all P (item.Use u ∷ xs) h = All-cons P u (flat_map use_of xs) (h 0 u refl) (uses_all P xs (λ k v at. h (suc k) v at))

-- a lawful resource is ready to be resolved
pub ready_from : (t : Tree) (r : Resource) → IsResourceLawful t r → IsReady r
ready_from t r is = record { intervals = is.intervals; apart = uses_all IsOnceBound r.items.items (λ k u at. (is.uses_lawful k u at).apart) }

-- each task of a draft has the programs of its instances
pub runs_many : (programs : List Program) (r : Resource) (ts : List TaskLine) (ds : List CodeValue) → AllZip (IsDraftOf programs r) ts ds → (i : ℕ) (t : TaskLine) (d : CodeValue)
    → slice_get ts i ≡ Some t → slice_get ds i ≡ Some d → length (runs_in r t) ≡ length d.programs
runs_many programs r ts ds known i t d at at' =
    let found = zip_at (IsDraftOf programs r) ts ds known i t at in
    let same : found.0 ≡ d = some_same (sym found.1 ∙ at') in
    zip_length (IsProgramOf programs) (runs_in r t) found.0.programs found.2.programs_are ∙ ap (λ (c : CodeValue). length c.programs) same

-- a resource of linked parts
pub resource_made : (plant : PlantValue) (r : Resource) (draft v : ResourceValue) (n : List ℕ) (ls : List TaskLine) (ts : List TaskValue) (cs : List CodeValue)
    → v ≡ record { name = n; tasks = ts; codes = cs } → n ≡ r.name → ls ≡ tasks_of r → ts ≡ map task_value ls → length cs ≡ length ls
    → Triples (λ t d c. IsCodeLinked plant (runs_in r t) d c) ls draft.codes cs → IsResourceLinked plant r draft v
resource_made plant r draft v n ls ts cs e named lines tasks many each =
    let made : IsResourceLinked plant r draft (record { name = n; tasks = ts; codes = cs }) = record {
      name_is = named;
      tasks_are = tasks ∙ ap (map task_value) lines;
      many = many ∙ ap length lines;
      codes_are = subst (λ (l : List TaskLine). Triples (λ t d c. IsCodeLinked plant (runs_in r t) d c) l draft.codes cs) lines each;
    } in
    subst (IsResourceLinked plant r draft) (sym e) made
