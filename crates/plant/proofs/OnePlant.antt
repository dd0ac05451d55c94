-- A tree has one plant.
use Rattle.std.proofs.Common.{◌≡◌, ℕ, suc, List, [], ◌∷◌, Some, length, map, refl, sym, ap, ◌∙◌, subst, arith}
use Rattle.std.specs.Prelude.{slice_get}
use Rattle.std.specs.List.{flat_map, AllZip}
use Rattle.lists.proofs.Places.{some_same, same_by_each}
use Rattle.lists.proofs.Zips.{zip_at, zip_back}
use Rattle.declared_names.specs.declared.declarations.Kind.{Kind}
use Rattle.declared_names.specs.declared.declarations.Declaration.{Declaration}
use Rattle.declared_names.specs.Names.{place_of}
use Rattle.power_flow.specs.LadderValue.{LadderValue}
use Rattle.task_codes.specs.declared.task_ref.TaskRef.{TaskRef}
use Rattle.task_codes.specs.declared.binding.Source.{Source}
use Rattle.task_codes.specs.declared.binding.Source.TheVariants as source
use Rattle.task_codes.specs.declared.binding.Binding.{Binding}
use Rattle.task_codes.specs.declared.task_output.TaskOutput.{TaskOutput}
use Rattle.task_codes.specs.declared.retained_variable.RetainedVariable.{RetainedVariable}
use Rattle.task_codes.specs.CodeValue.{ProgramValue, CodeValue, outputs_of, image_kinds, retained_of}
use Rattle.plant_grammar.specs.declared.grammar.tree.Program.{Program}
use Rattle.plant_grammar.specs.declared.grammar.tree.TaskLine.{TaskLine}
use Rattle.plant_grammar.specs.declared.grammar.tree.SourceName.{SourceName}
use Rattle.plant_grammar.specs.declared.grammar.tree.SourceName.TheVariants as named
use Rattle.plant_grammar.specs.declared.grammar.tree.Bind.{Bind}
use Rattle.plant_grammar.specs.declared.grammar.tree.Use.{Use}
use Rattle.plant_grammar.specs.declared.grammar.tree.Resource.{Resource}
use Rattle.plant_grammar.specs.Grammar.{Tree}
use Rattle.lists.specs.Items.{items_or_none}
use Rattle.plant_grammar.specs.Names.{IsAt}
use Rattle.plant_grammar.specs.Retained.{retained_places}
use Rattle.plant_grammar.specs.Lawful.{variables, tasks_of, binds_of, IsTreeLawful}
use Rattle.plant.specs.Ladders.{IsLadderOf, OneLadder}
use Rattle.plant.specs.PlantValue.{TaskValue, ResourceValue, PlantValue, code_at}
use Rattle.plant.specs.StandsFor.{runs_in, IsOrigin, IsSourceOf, IsBindingOf, IsInstanceOf, one_or_none, mention, firsts, IsCodeOf, IsResourceOf, IsPlantOf}
use Rattle.plant.specs.Steps.Drafts.{IsProgramOf, IsDraftOf, IsResourceDraft, IsInstanceAt, AreDraftsApart, HasPrograms}
use Rattle.plant.proofs.LinkedPlants.{zip_from, code_found, code_stands}
use Rattle.plant.proofs.OutputOrder.{outputs_in_order, one_output}
use Rattle.plant.proofs.Sourcing.{one_place, one_item, drafts_apart}
use Rattle.plant.proofs.Zips.{zip_imply, item_at}

-- lists that go with the same list, item by item
zip_once : {A B : Type 0} (R S : A → B → Type 0) → ((w : A) (x y : B) → R w x → S w y → x ≡ y) → (ws : List A) (xs ys : List B) → AllZip R ws xs → AllZip S ws ys → xs ≡ ys
zip_once R S once [] [] [] each each' = refl
zip_once R S once [] [] (y ∷ ys) each each' = absurd each'
zip_once R S once [] (x ∷ xs) ys each each' = absurd each
zip_once R S once (w ∷ ws) [] ys each each' = absurd each
zip_once R S once (w ∷ ws) (x ∷ xs) [] each each' = absurd each'
zip_once R S once (w ∷ ws) (x ∷ xs) (y ∷ ys) each each' =
    let first : x ≡ y = once w x y each.0 each'.0 in
    let rest : xs ≡ ys = zip_once R S once ws xs ys each.1 each'.1 in
    rw (first, rest) refl

flat_zip : {A B C : Type 0} (R S : A → B → Type 0) (f g : B → List C) → ((w : A) (x y : B) → R w x → S w y → f x ≡ g y) → (ws : List A) (xs ys : List B) → AllZip R ws xs → AllZip S ws ys → flat_map f xs ≡ flat_map g ys
flat_zip R S f g once [] [] [] each each' = refl
flat_zip R S f g once [] [] (y ∷ ys) each each' = absurd each'
flat_zip R S f g once [] (x ∷ xs) ys each each' = absurd each
flat_zip R S f g once (w ∷ ws) [] ys each each' = absurd each
flat_zip R S f g once (w ∷ ws) (x ∷ xs) [] each each' = absurd each'
flat_zip R S f g once (w ∷ ws) (x ∷ xs) (y ∷ ys) each each' =
    let first : f x ≡ g y = once w x y each.0 each'.0 in
    let rest : flat_map f xs ≡ flat_map g ys = flat_zip R S f g once ws xs ys each.1 each'.1 in
    rw (first, rest) refl

flat_each : {B C : Type 0} (f g : B → List C) (xs ys : List B) → length xs ≡ length ys → ((k : ℕ) (x y : B) → slice_get xs k ≡ Some x → slice_get ys k ≡ Some y → f x ≡ g y) → flat_map f xs ≡ flat_map g ys
flat_each f g [] [] long once = refl
flat_each f g [] (y ∷ ys) long once = absurd (omega arith)
flat_each f g (x ∷ xs) [] long once = absurd (omega arith)
flat_each f g (x ∷ xs) (y ∷ ys) long once =
    let first : f x ≡ g y = once 0 x y refl refl in
    let rest : flat_map f xs ≡ flat_map g ys = flat_each f g xs ys (omega arith) (λ k. once (suc k)) in
    rw (first, rest) refl

-- values of the same parts
task_same : (t u : TaskRef) → t.resource ≡ u.resource → t.task ≡ u.task → t ≡ u
task_same t u resource task =
    let make : ℕ → ℕ → TaskRef = λ r k. record { resource = r; task = k } in
    ap (λ (r : ℕ). make r t.task) resource ∙ ap (make u.resource) task

binding_same : (x y : Binding) → x.place ≡ y.place → x.source ≡ y.source → x ≡ y
binding_same x y place from =
    let make : ℕ → Source → Binding = λ n s. record { place = n; source = s } in
    ap (λ (n : ℕ). make n x.source) place ∙ ap (make y.place) from

program_same : (x y : ProgramValue) → x.name ≡ y.name → x.ladder ≡ y.ladder → x.retained ≡ y.retained → x ≡ y
program_same x y name ladder retained =
    let make : List ℕ → LadderValue → List ℕ → ProgramValue = λ n l r. record { name = n; ladder = l; retained = r } in
    ap (λ n. make n x.ladder x.retained) name ∙ ap (λ l. make y.name l x.retained) ladder ∙ ap (make y.name y.ladder) retained

code_same : (c d : CodeValue) → c.programs ≡ d.programs → c.bindings ≡ d.bindings → c.producers ≡ d.producers → c.expected ≡ d.expected → c.outputs ≡ d.outputs → c.retained ≡ d.retained → c ≡ d
code_same c d programs bindings producers expected outputs retained =
    let make : List ProgramValue → List (List Binding) → List TaskRef → List (List Kind) → List TaskOutput → List RetainedVariable → CodeValue =
    λ ps bs ts es os rs. record { programs = ps; bindings = bs; producers = ts; expected = es; outputs = os; retained = rs } in
    ap (λ ps. make ps c.bindings c.producers c.expected c.outputs c.retained) programs
    ∙ ap (λ bs. make d.programs bs c.producers c.expected c.outputs c.retained) bindings
    ∙ ap (λ ts. make d.programs d.bindings ts c.expected c.outputs c.retained) producers
    ∙ ap (λ es. make d.programs d.bindings d.producers es c.outputs c.retained) expected
    ∙ ap (λ os. make d.programs d.bindings d.producers d.expected os c.retained) outputs
    ∙ ap (make d.programs d.bindings d.producers d.expected d.outputs) retained

resource_same : (v w : ResourceValue) → v.name ≡ w.name → v.tasks ≡ w.tasks → v.codes ≡ w.codes → v ≡ w
resource_same v w name tasks codes =
    let make : List ℕ → List TaskValue → List CodeValue → ResourceValue = λ n ts cs. record { name = n; tasks = ts; codes = cs } in
    ap (λ n. make n v.tasks v.codes) name ∙ ap (λ ts. make w.name ts v.codes) tasks ∙ ap (make w.name w.tasks) codes

-- in a plant whose names are apart, the names of a source mean one value
origin_place : (plant : PlantValue) → AreDraftsApart plant.resources → (r i o : List ℕ) (t u : TaskRef) (k m : ℕ) → IsOrigin plant r i o t k → IsOrigin plant r i o u m → (t ≡ u) × (k ≡ m)
origin_place plant apart r i o t u k m a b =
    let resource : t.resource ≡ u.resource = one_place (λ (v : ResourceValue). v.name) plant.resources r apart.resources t.resource u.resource a.owner b.owner a.resource_is b.resource_is in
    let owner : a.owner ≡ b.owner = one_item (λ (v : ResourceValue). v.name) plant.resources r apart.resources t.resource u.resource a.owner b.owner a.resource_is b.resource_is in
    let one : IsInstanceAt a.owner.codes i t.task a.given.program = record { code = a.code; program = a.program; code_is = a.task_is; program_is = a.program_is } in
    let other : IsInstanceAt a.owner.codes i u.task b.given.program =
    subst (λ (v : ResourceValue). IsInstanceAt v.codes i u.task b.given.program) (sym owner) (record { code = b.code; program = b.program; code_is = b.task_is; program_is = b.program_is }) in
    let places = apart.instances t.resource a.owner a.resource_is.stands i t.task a.given.program u.task b.given.program one other in
    let code : a.code ≡ b.code = some_same (sym a.task_is ∙ ap (λ (v : ResourceValue). slice_get v.codes t.task) owner ∙ ap (slice_get b.owner.codes) places.0 ∙ b.task_is) in
    let program : a.program ≡ b.program = some_same (sym a.program_is.stands ∙ ap (λ (c : CodeValue). slice_get c.programs a.given.program) code ∙ ap (slice_get b.code.programs) places.1 ∙ b.program_is.stands) in
    let of_code = apart.codes t.resource a.owner t.task a.code a.resource_is.stands a.task_is in
    let there : IsAt (λ (v : Declaration). v.name) a.program.ladder.declarations o b.given.place b.variable =
    subst (λ (x : ProgramValue). IsAt (λ (v : Declaration). v.name) x.ladder.declarations o b.given.place b.variable) (sym program) b.variable_is in
    let place : a.given.place ≡ b.given.place =
    one_place (λ (v : Declaration). v.name) a.program.ladder.declarations o (of_code.variables a.given.program a.program a.program_is.stands) a.given.place b.given.place a.variable b.variable a.variable_is there in
    let given : slice_get a.code.outputs m ≡ Some b.given = ap (λ (c : CodeValue). slice_get c.outputs m) code ∙ b.given_is in
    let position : k ≡ m = one_output a.code.outputs k m a.given b.given (outputs_in_order a.code.programs a.code.outputs of_code.outputs_are) a.given_is given places.1 place in
    (task_same t u resource places.0, position)

module _ (ladders : OneLadder) (programs : List Program) (name : List ℕ) (rs : List Resource) where
  abbrev tree : Tree
  tree = record { programs = programs; name = name; resources = rs }

  -- a plant of the tree is a draft of it too
  code_drafted : (plant : PlantValue) (r : Resource) (t : TaskLine) (c : CodeValue) → IsCodeOf tree plant r t c → IsDraftOf programs r t c
  code_drafted plant r t c is = record {
    programs_are = zip_from (IsProgramOf programs) (runs_in r t) c.programs (sym is.many) (λ i u p at at'.
        let x = is.each i u p at at' in
        record { name_is = x.name_is; place = x.place; type = x.type; type_is = x.type_is; ladder_is = x.ladder_is; retained_is = x.retained_is });
    outputs_are = is.sound.outputs_are;
  }

  resource_drafted : (plant : PlantValue) (r : Resource) (v : ResourceValue) → IsResourceOf tree plant r v → IsResourceDraft programs r v
  resource_drafted plant r v is = record {
    name_is = is.name_is;
    codes_are = zip_imply (IsCodeOf tree plant r) (IsDraftOf programs r) (code_drafted plant r) (tasks_of r) v.codes is.codes_are;
  }

  drafts_of : (plant : PlantValue) → IsPlantOf tree plant → AllZip (IsResourceDraft programs) rs plant.resources
  drafts_of plant is = zip_imply (IsResourceOf tree plant) (IsResourceDraft programs) (resource_drafted plant) rs plant.resources is

  module _ (lawful : IsTreeLawful tree) where
    type_once : (u : Use) (j k : ℕ) (a b : Program) → IsAt (λ (t : Program). t.name) programs u.program j a → IsAt (λ (t : Program). t.name) programs u.program k b → a ≡ b
    type_once u j k a b one other = one_item (λ (t : Program). t.name) programs u.program lawful.types_apart j k a b one other

    program_once : (u : Use) (x y : ProgramValue) → IsProgramOf programs u x → IsProgramOf programs u y → x ≡ y
    program_once u x y a b =
        let type : a.type ≡ b.type = type_once u a.place b.place a.type b.type a.type_is b.type_is in
        let ladder : x.ladder ≡ y.ladder = ladders b.type x.ladder y.ladder (subst (λ (t : Program). IsLadderOf t x.ladder) type a.ladder_is) b.ladder_is in
        program_same x y (a.name_is ∙ sym b.name_is) ladder (a.retained_is ∙ ap retained_places type ∙ sym b.retained_is)

    -- drafts of one task have the same programs and outputs
    draft_once : (r : Resource) (t : TaskLine) (c d : CodeValue) → IsDraftOf programs r t c → IsDraftOf programs r t d → HasPrograms c d
    draft_once r t c d a b =
        let same : d.programs ≡ c.programs = zip_once (IsProgramOf programs) (IsProgramOf programs) program_once (runs_in r t) d.programs c.programs b.programs_are a.programs_are in
        record { programs_are = same; outputs_are = b.outputs_are ∙ ap outputs_of same ∙ sym a.outputs_are }

    module _ (p q : PlantValue) (is_p : IsPlantOf tree p) (is_q : IsPlantOf tree q) where
      resource_there : (k : ℕ) (v : ResourceValue) → slice_get p.resources k ≡ Some v
          → (w : ResourceValue) × (slice_get q.resources k ≡ Some w) × ((r : Resource) × IsResourceDraft programs r v × IsResourceDraft programs r w)
      resource_there k v at =
          let r = zip_back (IsResourceDraft programs) rs p.resources (drafts_of p is_p) k v at in
          let w = zip_at (IsResourceDraft programs) rs q.resources (drafts_of q is_q) k r.0 r.1 in
          (w.0, w.1, (r.0, r.2, w.2))

      code_there : (r : Resource) (v w : ResourceValue) → IsResourceDraft programs r v → IsResourceDraft programs r w → (k : ℕ) (c : CodeValue) → slice_get v.codes k ≡ Some c
          → (d : CodeValue) × (slice_get w.codes k ≡ Some d) × HasPrograms c d
      code_there r v w a b k c at =
          let t = zip_back (IsDraftOf programs r) (tasks_of r) v.codes a.codes_are k c at in
          let d = zip_at (IsDraftOf programs r) (tasks_of r) w.codes b.codes_are k t.0 t.1 in
          (d.0, d.1, draft_once r t.0 c d.0 t.2 d.2)

      at_there : (t : TaskRef) (c : CodeValue) → code_at p t ≡ Some c → (d : CodeValue) × (code_at q t ≡ Some d) × HasPrograms c d
      at_there t c at =
          let v = code_found p t c at in
          let w = resource_there t.resource v.0 v.1 in
          let d = code_there w.2.0 v.0 w.0 w.2.1 w.2.2 t.task c v.2 in
          (d.0, code_stands q t w.0 d.0 w.1 d.1, d.2)

      origin_there : (r i o : List ℕ) (t : TaskRef) (k : ℕ) → IsOrigin p r i o t k → IsOrigin q r i o t k
      origin_there r i o t k is =
          let w = resource_there t.resource is.owner is.resource_is.stands in
          let d = code_there w.2.0 is.owner w.0 w.2.1 w.2.2 t.task is.code is.task_is in
          let name : is.owner.name ≡ w.0.name = w.2.1.name_is ∙ sym w.2.2.name_is in
          record {
            owner = w.0;
            code = d.0;
            given = is.given;
            program = is.program;
            variable = is.variable;
            resource_is = record { stands = w.1; named = rw (← name) is.resource_is.named };
            task_is = d.1;
            given_is = rw d.2.outputs_are is.given_is;
            program_is = subst (λ (ps : List ProgramValue). IsAt (λ (x : ProgramValue). x.name) ps i is.given.program is.program) (sym d.2.programs_are) is.program_is;
            variable_is = is.variable_is;
          }

      origin_once : (r i o : List ℕ) (t u : TaskRef) (k m : ℕ) → IsOrigin p r i o t k → IsOrigin q r i o u m → (t ≡ u) × (k ≡ m)
      origin_once r i o t u k m a b = origin_place q (drafts_apart programs name rs q.resources (drafts_of q is_q) lawful) r i o t u k m (origin_there r i o t k a) b

      -- the codes of one task
      module _ (r : Resource) (t : TaskLine) (c d : CodeValue) (a : IsCodeOf tree p r t c) (b : IsCodeOf tree q r t d) where
        programs_once : HasPrograms c d
        programs_once = draft_once r t c d (code_drafted p r t c a) (code_drafted q r t d b)

        -- of bindings of one bind: the tasks that they mention
        source_mention : (s : SourceName) (m n : ℕ) (x y : Source) → IsSourceOf p c s x → IsSourceOf q d s y → mention c.producers (record { place = m; source = x }) ≡ mention d.producers (record { place = n; source = y })
        source_mention (named.Field e) m n (source.Field f) (source.Field g) one other = refl
        source_mention (named.Field e) m n (source.Field f) (source.Given j k) one other = absurd other
        source_mention (named.Field e) m n (source.Given j k) y one other = absurd one
        source_mention (named.Output e i o) m n (source.Field f) y one other = absurd one
        source_mention (named.Output e i o) m n (source.Given j k) (source.Field g) one other = absurd other
        source_mention (named.Output e i o) m n (source.Given j k) (source.Given l h) one other =
            let same = origin_once e i o one.0 other.0 k h one.2 other.2 in
            ap one_or_none (one.1 ∙ ap (λ (x : TaskRef). Some x) same.0 ∙ sym other.1)

        bind_mention : (e f : Program) (s : Bind) (x y : Binding) → IsBindingOf p c e s x → IsBindingOf q d f s y → mention c.producers x ≡ mention d.producers y
        bind_mention e f s x y one other = source_mention s.source x.place y.place x.source y.source one.source_is other.source_is

        -- the instance of a place
        instance_of : (plant : PlantValue) (code : CodeValue) → IsCodeOf tree plant r t code → (k : ℕ) (bs : List Binding) → slice_get code.bindings k ≡ Some bs
            → (u : Use) × (slice_get (runs_in r t) k ≡ Some u) × ((x : ProgramValue) × IsInstanceOf tree plant code u x bs)
        instance_of plant code is k bs at =
            let x = item_at code.programs code.bindings (sym is.sound.each_bound) k bs at in
            let u = item_at (runs_in r t) code.programs (sym is.many) k x.0 x.1 in
            (u.0, u.1, (x.0, subst (IsInstanceOf tree plant code u.0 x.0) (ap items_or_none at) (is.each k u.0 x.0 u.1 x.1)))

        both_at : (k : ℕ) (xs ys : List Binding) → slice_get c.bindings k ≡ Some xs → slice_get d.bindings k ≡ Some ys
            → (u : Use) × ((x : ProgramValue) × IsInstanceOf tree p c u x xs) × ((y : ProgramValue) × IsInstanceOf tree q d u y ys)
        both_at k xs ys at at' =
            let one = instance_of p c a k xs at in
            let other = instance_of q d b k ys at' in
            let same : other.0 ≡ one.0 = some_same (sym other.1 ∙ one.1) in
            (one.0, one.2, (other.2.0, subst (λ (u : Use). IsInstanceOf tree q d u other.2.0 ys) same other.2.1))

        many_bound : length c.bindings ≡ length d.bindings
        many_bound = a.sound.each_bound ∙ a.many ∙ sym b.many ∙ sym b.sound.each_bound

        producers_once : c.producers ≡ d.producers
        producers_once =
            a.producers_are ∙ ap firsts (flat_each (λ bs. flat_map (mention c.producers) bs) (λ bs. flat_map (mention d.producers) bs) c.bindings d.bindings many_bound (λ k xs ys at at'.
            let both = both_at k xs ys at at' in
            let one = both.1.1 in
            let other = both.2.1 in
            flat_zip (IsBindingOf p c one.type) (IsBindingOf q d other.type) (mention c.producers) (mention d.producers) (bind_mention one.type other.type) (binds_of both.0) xs ys one.bound other.bound))
            ∙ sym b.producers_are

        source_once : (s : SourceName) (x y : Source) → IsSourceOf p c s x → IsSourceOf q d s y → x ≡ y
        source_once (named.Field e) (source.Field f) (source.Field g) one other = ap source.Field (sym one ∙ other)
        source_once (named.Field e) (source.Field f) (source.Given j k) one other = absurd other
        source_once (named.Field e) (source.Given j k) y one other = absurd one
        source_once (named.Output e i o) (source.Field f) y one other = absurd one
        source_once (named.Output e i o) (source.Given j k) (source.Field g) one other = absurd other
        source_once (named.Output e i o) (source.Given j k) (source.Given l h) one other =
            let same = origin_once e i o one.0 other.0 k h one.2 other.2 in
            let at : slice_get c.producers l ≡ Some one.0 = ap (λ (ts : List TaskRef). slice_get ts l) producers_once ∙ other.1 ∙ ap (λ (x : TaskRef). Some x) (sym same.0) in
            let position : j ≡ l = a.sound.distinct j l one.0 one.1 at in
            ap (λ (n : ℕ). source.Given n k) position ∙ ap (source.Given l) same.1

        bind_once : (e f : Program) → e ≡ f → (s : Bind) (x y : Binding) → IsBindingOf p c e s x → IsBindingOf q d f s y → x ≡ y
        bind_once e f same s x y one other =
            let place : x.place ≡ y.place = some_same (sym one.input_is ∙ ap (λ (z : Program). place_of (variables z) s.input) same ∙ other.input_is) in
            binding_same x y place (source_once s.source x.source y.source one.source_is other.source_is)

        bindings_once : c.bindings ≡ d.bindings
        bindings_once = same_by_each c.bindings d.bindings many_bound (λ k xs ys at at'.
            let both = both_at k xs ys at at' in
            let one = both.1.1 in
            let other = both.2.1 in
            let type : one.type ≡ other.type = type_once both.0 one.place other.place one.type other.type one.type_is other.type_is in
            zip_once (IsBindingOf p c one.type) (IsBindingOf q d other.type) (bind_once one.type other.type type) (binds_of both.0) xs ys one.bound other.bound)

        expected_once : c.expected ≡ d.expected
        expected_once = same_by_each c.expected d.expected (a.sound.each_expected ∙ ap (λ (ts : List TaskRef). length ts) producers_once ∙ sym b.sound.each_expected) (λ k xs ys at at'.
            let from = item_at c.producers c.expected (sym a.sound.each_expected) k xs at in
            let one = a.taken k from.0 from.1 in
            let other = b.taken k from.0 (ap (λ (ts : List TaskRef). slice_get ts k) (sym producers_once) ∙ from.1) in
            let there = at_there from.0 one.0 one.1 in
            let same : there.0 ≡ other.0 = some_same (sym there.1 ∙ other.1) in
            let outputs : one.0.outputs ≡ other.0.outputs = sym there.2.outputs_are ∙ ap (λ (x : CodeValue). x.outputs) same in
            let kinds : image_kinds one.0 ≡ image_kinds other.0 = ap (λ (os : List TaskOutput). map (λ (o : TaskOutput). o.kind) os) outputs in
            some_same (sym at ∙ one.2 ∙ ap (λ (ks : List Kind). Some ks) kinds ∙ sym other.2 ∙ at'))

        code_once : c ≡ d
        code_once =
            let programs = sym programs_once.programs_are in
            code_same c d programs bindings_once producers_once expected_once (sym programs_once.outputs_are) (a.sound.retained_are ∙ ap retained_of programs ∙ sym b.sound.retained_are)

      resource_once : (r : Resource) (v w : ResourceValue) → IsResourceOf tree p r v → IsResourceOf tree q r w → v ≡ w
      resource_once r v w a b =
          resource_same v w (a.name_is ∙ sym b.name_is) (a.tasks_are ∙ sym b.tasks_are) (zip_once (IsCodeOf tree p r) (IsCodeOf tree q r) (code_once r) (tasks_of r) v.codes w.codes a.codes_are b.codes_are)

      pub plant_once : p ≡ q
      plant_once =
          let make : List ResourceValue → PlantValue = λ vs. record { resources = vs } in
          ap make (zip_once (IsResourceOf tree p) (IsResourceOf tree q) resource_once rs p.resources q.resources is_p is_q)
