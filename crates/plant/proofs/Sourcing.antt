-- What the names of sources mean in the drafts of resources, and what they mean in the tree.
use Rattle.std.proofs.Common.{◌≡◌, ℕ, zero, suc, ◌+◌, ◌≤◌, Bool, true, false, cond, IsTrue, List, [], ◌∷◌, ◌++◌, Option, Some, None, length, map, take, drop, get_or, refl, sym, ap, ◌∙◌, subst, arith}
use Rattle.std.specs.Prelude.{slice_get, All, Any, Contains}
use Rattle.std.specs.List.{flat_map, filter, find, enumerate_from, position, position_or_len, AllZip}
use Rattle.std.specs.Option.{option_map, option_and_then}
use Rattle.std.proofs.lemmas.Grind.{common_steps, flat_map-append}
use Rattle.std.proofs.lemmas.List.{get_or-map, length-map, take-append-drop}
use Rattle.std.proofs.lemmas.List.Sums.{fails_before_first}
use Rattle.std.proofs.lemmas.Option.{slice_get_within, slice_get-map, get_or_from_slice_get}
use Rattle.lists.proofs.Places.{some_same}
use Rattle.lists.proofs.Members.{any_at, any_found, contains_at, at_contains}
use Rattle.lists.proofs.Zips.{zip_length, zip_at, zip_back}
use Rattle.lists.proofs.Mapped.{mapped_at, in_flat}
use Rattle.plant_grammar.specs.Steps.SameNames.{named_back, named_both}
use Rattle.declared_names.specs.declared.declarations.Kind.{Kind}
use Rattle.declared_names.specs.declared.declarations.Declared.{Declared}
use Rattle.declared_names.specs.declared.declarations.Declared.TheVariants as declared
use Rattle.declared_names.specs.declared.declarations.Declaration.{Declaration}
use Rattle.declared_names.specs.Names.{place_of}
use Rattle.task_codes.specs.declared.task_ref.TaskRef.{TaskRef}
use Rattle.task_codes.specs.declared.task_output.TaskOutput.{TaskOutput}
use Rattle.task_codes.specs.CodeValue.{ProgramValue, CodeValue, output_kind, output_at, outputs_in, outputs_of, image_kinds}
use Rattle.words.specs.declared.address.Address.{Address}
use Rattle.plant_grammar.specs.declared.grammar.tree.Program.{Program}
use Rattle.plant_grammar.specs.declared.grammar.tree.TaskLine.{TaskLine}
use Rattle.plant_grammar.specs.declared.grammar.tree.SourceName.{SourceName}
use Rattle.plant_grammar.specs.declared.grammar.tree.SourceName.TheVariants as named
use Rattle.plant_grammar.specs.declared.grammar.tree.Bind.{Bind}
use Rattle.plant_grammar.specs.declared.grammar.tree.Use.{Use}
use Rattle.plant_grammar.specs.declared.grammar.tree.Item.{Item}
use Rattle.plant_grammar.specs.declared.grammar.tree.Resource.{Resource}
use Rattle.plant_grammar.specs.Grammar.{Tree}
use Rattle.plant_grammar.specs.Names.{is_named, IsAt, AreNamesApart}
use Rattle.plant_grammar.specs.Kinds.{IsOfInputKind}
use Rattle.declared_names.specs.Kinds.{input_kind_at, kind_of_space}
use Rattle.plant_grammar.specs.Lawful.{variables, task_of, tasks_of, uses_of, binds_of, IsProgramLawful, IsResourceLawful, IsTreeLawful}
use Rattle.plant.specs.Ladders.{IsLadderOf}
use Rattle.plant.specs.ProgramTypes.{TypeValue}
use Rattle.plant.specs.declared.sources.feed.Origin.{Origin}
use Rattle.plant.specs.declared.sources.feed.Origin.TheVariants as origin
use Rattle.plant.specs.declared.sources.feed.Feed.{Feed}
use Rattle.plant.specs.PlantValue.{ResourceValue, PlantValue}
use Rattle.plant.specs.StandsFor.{runs_in, IsOrigin}
use Rattle.plant.specs.Faultless.{DeclaresOutput, RunsType, GivesOutput, HasSource, IsFed, AreBindsFed}
use Rattle.plant.specs.Steps.Drafts.{drafted, programs_in, IsProgramOf, IsDraftOf, IsResourceDraft, IsPlacedAt, IsOutputAt, IsInstanceAt, IsImageKind, IsValue, HasNoValue, IsOriginOf, HasNoOrigin, HasFeed, IsCodeApart, AreInstancesOnce, AreDraftsApart, IsUseResolved, IsTypeKnown, IsFeedOf, AreFeedsOf, Triples}
use Rattle.plant.specs.Steps.FedUses.{FedUseValue, IsUseFed, AreUsesFed, fed_in, runs_in_fed, feeds_in, AreRunsFed, IsResourceFed}
use Rattle.plant.proofs.FoldedNames.{same_letters, named_alike, at_place}
use Rattle.plant.proofs.ProgramOutputs.{outputs_placed}
use Rattle.plant.proofs.LinkedPlants.{code_found, code_stands, uses_all}
use Rattle.plant.proofs.Drafting.{found_place}
use Rattle.plant.proofs.FedUses.{runs_of_task, runs_are}
use Rattle.plant.proofs.FirstMentions.{all_flat}
use Rattle.plant.proofs.Members.{first_found}
use Rattle.plant.proofs.Zips.{all_at}

named_through : (a b c : List ℕ) → IsTrue (is_named a b) → IsTrue (is_named b c) → IsTrue (is_named a c)
named_through a b c one other = named_alike a c (same_letters a b one ∙ same_letters b c other)

-- where names are apart, one item has the name
pub one_place : {A : Type 0} (f : A → List ℕ) (xs : List A) (n : List ℕ) → AreNamesApart (map f xs) → (j k : ℕ) (x y : A) → IsAt f xs n j x → IsAt f xs n k y → j ≡ k
one_place f xs n apart j k x y one other =
    let a = slice_get_within xs j x one.stands in
    let b = slice_get_within xs k y other.stands in
    let long = length-map xs f in
    let left : get_or (map f xs) j (f x) ≡ f x = get_or-map f xs j x (f x) a ∙ ap f (get_or_from_slice_get xs j x x one.stands) in
    let right : get_or (map f xs) k (f x) ≡ f y = get_or-map f xs k y (f x) b ∙ ap f (get_or_from_slice_get xs k y y other.stands) in
    apart j k (f x) (omega (arith, a, long)) (omega (arith, b, long)) (rw (left, right) (named_both n (f x) (f y) one.named other.named))

pub one_item : {A : Type 0} (f : A → List ℕ) (xs : List A) (n : List ℕ) → AreNamesApart (map f xs) → (j k : ℕ) (x y : A) → IsAt f xs n j x → IsAt f xs n k y → x ≡ y
one_item f xs n apart j k x y one other = some_same (sym one.stands ∙ ap (slice_get xs) (one_place f xs n apart j k x y one other) ∙ other.stands)

-- the place of a name that is declared once
no_first : {A : Type 0} (p : A → Bool) (xs : List A) → position p xs ≡ None → length xs ≤ position_or_len p xs
no_first p xs e = grind (arith, common_steps)

pub place_found : (ds : List Declaration) (n : List ℕ) (k : ℕ) (v : Declaration) → AreNamesApart (map (λ (v : Declaration). v.name) ds) → IsAt (λ (v : Declaration). v.name) ds n k v → place_of ds n ≡ Some k
unfolding place_of
place_found ds n k v apart at = by (place_of ds n) refl
  where
    by : (o : Option ℕ) → place_of ds n ≡ o → place_of ds n ≡ Some k
    by (Some j) e = let w = at_place ds n j e in e ∙ ap Some (one_place (λ (v : Declaration). v.name) ds n apart j k w.0 v w.1 at)
    by None e =
        let within = slice_get_within ds k v at.stands in
        let past = no_first (λ (v : Declaration). is_named v.name n) ds e in
        let no : is_named (get_or ds k v).name n ≡ false = fails_before_first (λ (v : Declaration). is_named v.name n) ds k v (omega (arith, within, past)) in
        let yes : is_named (get_or ds k v).name n ≡ true = rw (get_or_from_slice_get ds k v v at.stands) (named_back n v.name at.named) in
        absurd cc

-- what a filter keeps
filtered : {A : Type 0} (p : A → Bool) (xs : List A) (i : ℕ) (x : A) → slice_get (filter p xs) i ≡ Some x → (k : ℕ) × (slice_get xs k ≡ Some x) × IsTrue (p x)
filtered p [] i x at = cc
filtered {A} p (z ∷ zs) i x at = by (p z) refl i at (λ i at'. filtered p zs i x at')
  where
    by : (b : Bool) → p z ≡ b → (i : ℕ) → slice_get (cond b (z ∷ filter p zs) (filter p zs)) i ≡ Some x → ((i : ℕ) → slice_get (filter p zs) i ≡ Some x → (k : ℕ) × (slice_get zs k ≡ Some x) × IsTrue (p x))
        → (k : ℕ) × (slice_get (z ∷ zs) k ≡ Some x) × IsTrue (p x)
    by true e zero at' later = (0, at', subst (λ (y : A). IsTrue (p y)) (some_same at') e)
    by true e (suc i) at' later = let rest = later i at' in (suc rest.0, rest.1, rest.2)
    by false e i at' later = let rest = later i at' in (suc rest.0, rest.1, rest.2)

pub kept : {A : Type 0} (p : A → Bool) (xs : List A) (k : ℕ) (x : A) → slice_get xs k ≡ Some x → IsTrue (p x) → (i : ℕ) × (slice_get (filter p xs) i ≡ Some x)
kept p [] k x at passes = cc
kept {A} p (z ∷ zs) zero x at passes =
    let same : z ≡ x = some_same at in
    let here : p z ≡ true = subst (λ (y : A). p y ≡ true) (sym same) passes in
    rw here (0, at)
kept p (z ∷ zs) (suc k) x at passes = by (p z) refl (kept p zs k x at passes)
  where
    by : (b : Bool) → p z ≡ b → (i : ℕ) × (slice_get (filter p zs) i ≡ Some x) → (i : ℕ) × (slice_get (filter p (z ∷ zs)) i ≡ Some x)
    by true e rest = rw e (suc rest.0, rest.1)
    by false e rest = rw e rest

abbrev IsOnce : {A : Type 0} → (A → List ℕ) → List ℕ → List A → Type 0
IsOnce {A} f n xs = (j k : ℕ) (x y : A) → IsAt f xs n j x → IsAt f xs n k y → j ≡ k

once_filtered : {A : Type 0} (f : A → List ℕ) (n : List ℕ) (p : A → Bool) (xs : List A) → IsOnce f n xs → IsOnce f n (filter p xs)
once_filtered f n p [] once = λ j k x y one other. let at = one.stands in cc
once_filtered f n p (z ∷ zs) once = by (p z) refl (once_filtered f n p zs (λ j k x y one other. let same = once (suc j) (suc k) x y (record { stands = one.stands; named = one.named }) (record { stands = other.stands; named = other.named }) in omega (arith, same)))
  where
    front : IsOnce f n (filter p zs) → IsOnce f n (z ∷ filter p zs)
    front rest zero zero x y one other = refl
    front rest zero (suc k) x y one other =
        let there = filtered p zs k y other.stands in
        let same = once 0 (suc there.0) x y (record { stands = one.stands; named = one.named }) (record { stands = there.1; named = other.named }) in
        absurd (omega (arith, same))
    front rest (suc j) zero x y one other =
        let there = filtered p zs j x one.stands in
        let same = once (suc there.0) 0 x y (record { stands = there.1; named = one.named }) (record { stands = other.stands; named = other.named }) in
        absurd (omega (arith, same))
    front rest (suc j) (suc k) x y one other = ap suc (rest j k x y (record { stands = one.stands; named = one.named }) (record { stands = other.stands; named = other.named }))

    by : (b : Bool) → p z ≡ b → IsOnce f n (filter p zs) → IsOnce f n (filter p (z ∷ zs))
    by true e rest = rw e (front rest)
    by false e rest = rw e rest

-- the outputs of a code
in_front : {A : Type 0} (xs ys : List A) (x : A) → Contains xs x → Contains (xs ++ ys) x
in_front [] ys x has = absurd (omega (arith, has.1))
in_front (z ∷ zs) ys x (zero, lt, is) = (0, omega arith, is)
in_front (z ∷ zs) ys x (suc k, lt, is) = let rest = in_front zs ys x (k, omega (arith, lt), is) in (suc rest.0, omega (arith, rest.1), rest.2)

behind : {A : Type 0} (xs ys : List A) (x : A) → Contains ys x → Contains (xs ++ ys) x
behind [] ys x has = has
behind (z ∷ zs) ys x has = let rest = behind zs ys x has in (suc rest.0, omega (arith, rest.1), rest.2)

enumerated : {A : Type 0} (n : ℕ) (xs : List A) (k m : ℕ) (x : A) → n + k ≡ m → slice_get xs k ≡ Some x → slice_get (enumerate_from n xs) k ≡ Some (m, x)
enumerated n [] k m x e at = cc
enumerated n (z ∷ zs) zero m x e at = let here : n ≡ m = omega (arith, e) in let same : z ≡ x = some_same at in cc
enumerated n (z ∷ zs) (suc k) m x e at = enumerated (n + 1) zs k m x (omega (arith, e)) at

output_stands : (c : CodeValue) (i n : ℕ) (p : ProgramValue) (v : Declaration) (kind : Kind) → c.outputs ≡ outputs_of c.programs → slice_get c.programs i ≡ Some p → slice_get p.ladder.declarations n ≡ Some v → v.declared ≡ declared.Output kind
    → (k : ℕ) × IsPlacedAt c.outputs i n k kind
output_stands c i n p v kind are at here is =
    let o : TaskOutput = record { program = i; place = n; kind = kind } in
    let one : Contains (output_at i n v) o = rw is (0, omega arith, refl) in
    let inner : Contains (outputs_in i p.ladder.declarations) o = in_flat (λ (e : ℕ × Declaration). output_at i e.0 e.1) (enumerate_from 0 p.ladder.declarations) n (n, v) o (enumerated 0 p.ladder.declarations n n v (omega arith) here) one in
    let all : Contains (outputs_of c.programs) o = in_flat (λ (e : ℕ × ProgramValue). outputs_in e.0 e.1.ladder.declarations) (enumerate_from 0 c.programs) i (i, p) o (enumerated 0 c.programs i i p (omega arith) at) inner in
    at_contains c.outputs o (subst (λ (os : List TaskOutput). Contains os o) (sym are) all)

output_is : (d : Declared) (kind : Kind) → output_kind d ≡ Some kind → d ≡ declared.Output kind
output_is (declared.Input k) kind e = cc
output_is (declared.Output k) kind e = ap declared.Output (some_same e)
output_is (declared.Local k) kind e = cc
output_is (declared.Instance b) kind e = cc

-- the value of a program's output
pub value_found : (ds : List ResourceValue) (r i o : List ℕ) (k m n : ℕ) (d : ResourceValue) (c : CodeValue) (p : ProgramValue) (place : ℕ) (kind : Kind) → IsAt (λ (d : ResourceValue). d.name) ds r k d → slice_get d.codes m ≡ Some c
    → IsAt (λ (p : ProgramValue). p.name) c.programs i n p → IsOutputAt c n o place kind → IsValue (drafted ds) r i o (record { resource = k; task = m }, place, kind)
value_found ds r i o k m n d c p place kind at code program is =
    let t : TaskRef = record { resource = k; task = m } in
    let same : p ≡ is.owner = some_same (sym program.stands ∙ is.owner_is) in (
      record {
        owner = d;
        code = c;
        given = record { program = n; place = is.place; kind = kind };
        program = is.owner;
        variable = is.variable;
        resource_is = at;
        task_is = code;
        given_is = is.given_is;
        program_is = record { stands = is.owner_is; named = subst (λ (q : ProgramValue). IsTrue (is_named i q.name)) same program.named };
        variable_is = is.variable_is;
      },
      record { code = c; code_is = code_stands (drafted ds) t d c at.stands code; kind_is = slice_get-map (λ (o : TaskOutput). o.kind) c.outputs place ∙ ap (option_map (λ (o : TaskOutput). o.kind)) is.given_is },
    )

-- a source gives none, where its names mean no value
pub no_origin : (plant : PlantValue) (r i o : List ℕ) → HasNoValue plant r i o → HasNoOrigin plant (named.Output r i o)
no_origin plant r i o none (origin.Field a) k is = is
no_origin plant r i o none (origin.Output t n) k is = none (t, n, k) is

-- what a value of a draft is
module _ (ds : List ResourceValue) (apart : AreDraftsApart ds) where
  value_kind : (r i o : List ℕ) (x : TaskRef × ℕ × Kind) → (is : IsValue (drafted ds) r i o x) → is.0.variable.declared ≡ declared.Output x.2
  value_kind r i o x is =
      let found = is.0 in
      let image = is.1 in
      let at = code_found (drafted ds) x.0 image.code image.code_is in
      let owner : at.0 ≡ found.owner = some_same (sym at.1 ∙ found.resource_is.stands) in
      let code : image.code ≡ found.code = some_same (sym at.2 ∙ ap (λ (d : ResourceValue). slice_get d.codes x.0.task) owner ∙ found.task_is) in
      let kinds : slice_get (image_kinds found.code) x.1 ≡ Some x.2 = ap (λ (c : CodeValue). slice_get (image_kinds c) x.1) (sym code) ∙ image.kind_is in
      let kind : found.given.kind ≡ x.2 = some_same (sym (slice_get-map (λ (o : TaskOutput). o.kind) found.code.outputs x.1 ∙ ap (option_map (λ (o : TaskOutput). o.kind)) found.given_is) ∙ kinds) in
      let of_code = apart.codes x.0.resource found.owner x.0.task found.code found.resource_is.stands found.task_is in
      let placed = outputs_placed found.code of_code.outputs_are x.1 found.given found.given_is in
      let program : placed.program ≡ found.program = some_same (sym placed.run ∙ found.program_is.stands) in
      let variable : placed.variable ≡ found.variable = some_same (sym placed.declared ∙ ap (λ (p : ProgramValue). slice_get p.ladder.declarations found.given.place) program ∙ found.variable_is.stands) in
      output_is found.variable.declared x.2 (ap (λ (v : Declaration). output_kind v.declared) (sym variable) ∙ placed.kind_is ∙ ap Some kind)

  -- the resource of a value
  pub value_resource : (r i o : List ℕ) (x : TaskRef × ℕ × Kind) (is : IsValue (drafted ds) r i o x) (k : ℕ) (d : ResourceValue) → IsAt (λ (d : ResourceValue). d.name) ds r k d → (x.0.resource ≡ k) × (is.0.owner ≡ d)
  value_resource r i o x is k d at = (
    one_place (λ (d : ResourceValue). d.name) ds r apart.resources x.0.resource k is.0.owner d is.0.resource_is at,
    one_item (λ (d : ResourceValue). d.name) ds r apart.resources x.0.resource k is.0.owner d is.0.resource_is at,
  )

  value_instance : (r i o : List ℕ) (x : TaskRef × ℕ × Kind) (is : IsValue (drafted ds) r i o x) → IsInstanceAt is.0.owner.codes i x.0.task is.0.given.program
  value_instance r i o x is = record { code = is.0.code; program = is.0.program; code_is = is.0.task_is; program_is = is.0.program_is }

  -- none, where the resource has no such instance
  pub no_instance : (r i o : List ℕ) (k : ℕ) (d : ResourceValue) → IsAt (λ (d : ResourceValue). d.name) ds r k d → ((m n : ℕ) → IsInstanceAt d.codes i m n → ⊥) → (x : TaskRef × ℕ × Kind) → IsValue (drafted ds) r i o x → ⊥
  no_instance r i o k d at none x is =
      let same = value_resource r i o x is k d at in
      none x.0.task is.0.given.program (subst (λ (e : ResourceValue). IsInstanceAt e.codes i x.0.task is.0.given.program) same.1 (value_instance r i o x is))

  -- what a value is, where the resource has such an instance
  value_program : (r i o : List ℕ) (k : ℕ) (d : ResourceValue) → IsAt (λ (d : ResourceValue). d.name) ds r k d → (m n : ℕ) (c : CodeValue) (p : ProgramValue) → slice_get d.codes m ≡ Some c → IsAt (λ (p : ProgramValue). p.name) c.programs i n p
      → (x : TaskRef × ℕ × Kind) (is : IsValue (drafted ds) r i o x) → (is.0.code ≡ c) × (is.0.program ≡ p) × (is.0.given.program ≡ n)
  value_program r i o k d at m n c p code program x is =
      let same = value_resource r i o x is k d at in
      let there : IsInstanceAt d.codes i x.0.task is.0.given.program = subst (λ (e : ResourceValue). IsInstanceAt e.codes i x.0.task is.0.given.program) same.1 (value_instance r i o x is) in
      let places = apart.instances k d at.stands i x.0.task is.0.given.program m n there (record { code = c; program = p; code_is = code; program_is = program }) in
      let one : is.0.code ≡ c = some_same (sym is.0.task_is ∙ ap (λ (e : ResourceValue). slice_get e.codes x.0.task) same.1 ∙ ap (slice_get d.codes) places.0 ∙ code) in
      (one, some_same (sym is.0.program_is.stands ∙ ap (λ (e : CodeValue). slice_get e.programs is.0.given.program) one ∙ ap (slice_get c.programs) places.1 ∙ program.stands), places.1)

  -- none, where its program has no such output
  pub no_output : (r i o : List ℕ) (k : ℕ) (d : ResourceValue) → IsAt (λ (d : ResourceValue). d.name) ds r k d → (m n : ℕ) (c : CodeValue) (p : ProgramValue) → slice_get d.codes m ≡ Some c → IsAt (λ (p : ProgramValue). p.name) c.programs i n p
      → ((k : ℕ) (kind : Kind) → IsOutputAt c n o k kind → ⊥) → (x : TaskRef × ℕ × Kind) → IsValue (drafted ds) r i o x → ⊥
  no_output r i o k d at m n c p code program none x is =
      let same = value_program r i o k d at m n c p code program x is in
      let found = is.0 in
      let of_code = apart.codes k d m c at.stands code in
      let variable : IsAt (λ (v : Declaration). v.name) p.ladder.declarations o found.given.place found.variable = subst (λ (q : ProgramValue). IsAt (λ (v : Declaration). v.name) q.ladder.declarations o found.given.place found.variable) same.1 found.variable_is in
      let given : slice_get c.outputs x.1 ≡ Some found.given = ap (λ (e : CodeValue). slice_get e.outputs x.1) (sym same.0) ∙ found.given_is in
      let made : ℕ → TaskOutput = λ n. record { program = n; place = found.given.place; kind = found.given.kind } in
      none x.1 found.given.kind (record {
        owner = p;
        place = found.given.place;
        variable = found.variable;
        owner_is = program.stands;
        place_is = place_found p.ladder.declarations o found.given.place found.variable (of_code.variables n p program.stands) variable;
        variable_is = variable;
        given_is = given ∙ ap (λ n. Some (made n)) same.2;
      })

  -- values of one name have one kind
  value_once : (r i o : List ℕ) (x y : TaskRef × ℕ × Kind) → IsValue (drafted ds) r i o x → IsValue (drafted ds) r i o y → x.2 ≡ y.2
  value_once r i o x y one other =
      let a = one.0 in
      let same = value_program r i o x.0.resource a.owner a.resource_is x.0.task a.given.program a.code a.program a.task_is a.program_is y other in
      let of_code = apart.codes x.0.resource a.owner x.0.task a.code a.resource_is.stands a.task_is in
      let there : IsAt (λ (v : Declaration). v.name) a.program.ladder.declarations o other.0.given.place other.0.variable =
      subst (λ (q : ProgramValue). IsAt (λ (v : Declaration). v.name) q.ladder.declarations o other.0.given.place other.0.variable) same.1 other.0.variable_is in
      let variable : a.variable ≡ other.0.variable =
      one_item (λ (v : Declaration). v.name) a.program.ladder.declarations o (of_code.variables a.given.program a.program a.program_is.stands) a.given.place other.0.given.place a.variable other.0.variable a.variable_is there in
      let kinds : declared.Output x.2 ≡ declared.Output y.2 = sym (value_kind r i o x one) ∙ ap (λ (v : Declaration). v.declared) variable ∙ value_kind r i o y other in
      some_same (ap output_kind kinds)

  pub origin_once : (s : SourceName) (a b : Origin) (k l : Kind) → IsOriginOf (drafted ds) s a k → IsOriginOf (drafted ds) s b l → k ≡ l
  origin_once (named.Field a) (origin.Field b) (origin.Field d) k l one other = sym one.1 ∙ ap (λ (x : Address). kind_of_space x.space) (sym one.0 ∙ other.0) ∙ other.1
  origin_once (named.Field a) (origin.Field b) (origin.Output t n) k l one other = absurd other
  origin_once (named.Field a) (origin.Output t n) b k l one other = absurd one
  origin_once (named.Output r i o) (origin.Field a) b k l one other = absurd one
  origin_once (named.Output r i o) (origin.Output t n) (origin.Field b) k l one other = absurd other
  origin_once (named.Output r i o) (origin.Output t n) (origin.Output u m) k l one other = value_once r i o (t, n, k) (u, m, l) one other

-- what holds of a task among the first lines holds of one among all
before_all : (P : TaskLine → Type 0) (xs : List Item) (k : ℕ) → Any P (flat_map task_of (take k xs)) → Any P (flat_map task_of xs)
before_all P xs k any =
    let whole : flat_map task_of xs ≡ flat_map task_of (take k xs) ++ flat_map task_of (drop k xs) = ap (flat_map task_of) (sym (take-append-drop k xs)) ∙ flat_map-append task_of (take k xs) (drop k xs) in
    let found = any_found P (flat_map task_of (take k xs)) any in
    let there = in_front (flat_map task_of (take k xs)) (flat_map task_of (drop k xs)) found.1 (contains_at (flat_map task_of (take k xs)) found.0 found.1 found.2) in
    let at = at_contains (flat_map task_of xs) found.1 (subst (λ (ts : List TaskLine). Contains ts found.1) (sym whole) there) in
    any_at P (flat_map task_of xs) at.0 found.1 at.1 found.3

-- drafts of a lawful tree
module _ (programs : List Program) (name : List ℕ) (rs : List Resource) (ds : List ResourceValue) (known : AllZip (IsResourceDraft programs) rs ds) where
  abbrev tree : Tree
  tree = record { programs = programs; name = name; resources = rs }

  names_same : (rs : List Resource) (ds : List ResourceValue) → AllZip (IsResourceDraft programs) rs ds → map (λ (r : Resource). r.name) rs ≡ map (λ (d : ResourceValue). d.name) ds
  names_same [] [] z = refl
  names_same [] (d ∷ ds) z = absurd z
  names_same (r ∷ rs) [] z = absurd z
  names_same (r ∷ rs) (d ∷ ds) z = let first : r.name ≡ d.name = sym z.0.name_is in let rest = names_same rs ds z.1 in cc

  -- an instance of a draft is one of the resource, run by the task of its line
  pub run_of : (r : Resource) (d : ResourceValue) → IsResourceDraft programs r d → (i : List ℕ) (m n : ℕ) → IsInstanceAt d.codes i m n
      → (t : TaskLine) × (u : Use) × (k : ℕ) × (slice_get (tasks_of r) m ≡ Some t) × (slice_get (runs_in r t) n ≡ Some u) × IsAt (λ (u : Use). u.instance) (uses_of r) i k u × IsTrue (is_named u.task t.name)
  run_of r d of_draft i m n at =
      let t = zip_back (IsDraftOf programs r) (tasks_of r) d.codes of_draft.codes_are m at.code at.code_is in
      let u = zip_back (IsProgramOf programs) (runs_in r t.0) at.code.programs t.2.programs_are n at.program at.program_is.stands in
      let line = filtered (λ (u : Use). is_named u.task t.0.name) (uses_of r) n u.0 u.1 in
      (t.0, u.0, line.0, t.1, u.1, record { stands = line.1; named = subst (λ (x : List ℕ). IsTrue (is_named i x)) u.2.name_is at.program_is.named }, line.2)

  instances_once : (r : Resource) (d : ResourceValue) → IsResourceDraft programs r d → IsResourceLawful tree r → AreInstancesOnce d.codes
  instances_once r d of_draft lawful i m n j k one other =
      let a = run_of r d of_draft i m n one in
      let b = run_of r d of_draft i j k other in
      let same : a.1 ≡ b.1 = one_item (λ (u : Use). u.instance) (uses_of r) i lawful.instances_apart a.2 b.2 a.1 b.1 a.5 b.5 in
      let task : IsTrue (is_named a.1.task b.0.name) = subst (λ (u : Use). IsTrue (is_named u.task b.0.name)) (sym same) b.6 in
      let first : m ≡ j = one_place (λ (t : TaskLine). t.name) (tasks_of r) a.1.task lawful.tasks_apart m j a.0 b.0 (record { stands = a.3; named = a.6 }) (record { stands = b.3; named = task }) in
      let line : a.0 ≡ b.0 = some_same (sym a.3 ∙ ap (slice_get (tasks_of r)) first ∙ b.3) in
      let runs : slice_get (runs_in r a.0) k ≡ Some b.1 = ap (λ (t : TaskLine). slice_get (runs_in r t) k) line ∙ b.4 in
      let once = once_filtered (λ (u : Use). u.instance) i (λ (u : Use). is_named u.task a.0.name) (uses_of r) (λ j k x y one other. one_place (λ (u : Use). u.instance) (uses_of r) i lawful.instances_apart j k x y one other) in
      (first, once n k a.1 b.1 (record { stands = a.4; named = a.5.named }) (record { stands = runs; named = b.5.named }))

  code_apart : All IsProgramLawful programs → (r : Resource) (t : TaskLine) (c : CodeValue) → IsDraftOf programs r t c → IsCodeApart c
  code_apart lawful r t c of_draft = record {
    outputs_are = of_draft.outputs_are;
    variables = λ j p at.
        let u = zip_back (IsProgramOf programs) (runs_in r t) c.programs of_draft.programs_are j p at in
        let type = all_at IsProgramLawful programs lawful u.2.place u.2.type u.2.type_is.stands in
        subst (λ (ds : List Declaration). AreNamesApart (map (λ (v : Declaration). v.name) ds)) (sym u.2.ladder_is.declared) type.apart;
  }

  pub drafts_apart : IsTreeLawful tree → AreDraftsApart ds
  drafts_apart lawful = record {
    resources = subst AreNamesApart (names_same rs ds known) lawful.resources_apart;
    instances = λ k d at.
        let r = zip_back (IsResourceDraft programs) rs ds known k d at in
        instances_once r.0 d r.2 (all_at (IsResourceLawful tree) rs lawful.resources_lawful k r.0 r.1);
    codes = λ k d i c at at'.
        let r = zip_back (IsResourceDraft programs) rs ds known k d at in
        let t = zip_back (IsDraftOf programs r.0) (tasks_of r.0) d.codes r.2.codes_are i c at' in
        code_apart lawful.programs_lawful r.0 t.0 c t.2;
  }

  -- a value is an output that the names of a source mean in the tree
  source_of_value : AreDraftsApart ds → (r i o : List ℕ) (x : TaskRef × ℕ × Kind) → IsValue (drafted ds) r i o x → HasSource tree (named.Output r i o) x.2
  source_of_value apart r i o x is =
      let found = is.0 in
      let owner = zip_back (IsResourceDraft programs) rs ds known x.0.resource found.owner found.resource_is.stands in
      let line = zip_back (IsDraftOf programs owner.0) (tasks_of owner.0) found.owner.codes owner.2.codes_are x.0.task found.code found.task_is in
      let run = zip_back (IsProgramOf programs) (runs_in owner.0 line.0) found.code.programs line.2.programs_are found.given.program found.program found.program_is.stands in
      let placed_run = filtered (λ (u : Use). is_named u.task line.0.name) (uses_of owner.0) found.given.program run.0 run.1 in
      let at : slice_get (variables run.2.type) found.given.place ≡ Some found.variable = ap (λ (ds : List Declaration). slice_get ds found.given.place) (sym run.2.ladder_is.declared) ∙ found.variable_is.stands in
      any_at (λ (r' : Resource). IsTrue (is_named r r'.name) × GivesOutput tree i o x.2 r') rs x.0.resource owner.0 owner.1 (
        subst (λ (n : List ℕ). IsTrue (is_named r n)) owner.2.name_is found.resource_is.named,
        any_at (λ (u : Use). IsTrue (is_named i u.instance) × RunsType tree (DeclaresOutput o x.2) u) (uses_of owner.0) placed_run.0 run.0 placed_run.1 (
          subst (λ (n : List ℕ). IsTrue (is_named i n)) run.2.name_is found.program_is.named,
          any_at (λ (p : Program). IsTrue (is_named run.0.program p.name) × DeclaresOutput o x.2 p) programs run.2.place run.2.type run.2.type_is.stands (
            run.2.type_is.named,
            any_at (λ (v : Declaration). IsTrue (is_named o v.name) × (v.declared ≡ declared.Output x.2)) (variables run.2.type) found.given.place found.variable at (found.variable_is.named, value_kind ds apart r i o x is),
          ),
        ),
      )

  -- the task that runs an instance
  pub line_of : (r : Resource) → IsResourceLawful tree r → (k : ℕ) (u : Use) → slice_get (uses_of r) k ≡ Some u → (m : ℕ) × (t : TaskLine) × (slice_get (tasks_of r) m ≡ Some t) × IsTrue (is_named u.task t.name)
  line_of r lawful k u at =
      let each : All (λ (u : Use). Any (λ (t : TaskLine). IsTrue (is_named u.task t.name)) (tasks_of r)) (uses_of r) =
      uses_all (λ (u : Use). Any (λ (t : TaskLine). IsTrue (is_named u.task t.name)) (tasks_of r)) r.items.items (λ j v at'. before_all (λ (t : TaskLine). IsTrue (is_named v.task t.name)) r.items.items j (lawful.uses_lawful j v at').task_is) in
      let found = any_found (λ (t : TaskLine). IsTrue (is_named u.task t.name)) (tasks_of r) (all_at (λ (u : Use). Any (λ (t : TaskLine). IsTrue (is_named u.task t.name)) (tasks_of r)) (uses_of r) each k u at) in
      (found.0, found.1, found.2, found.3)

  -- the type of an instance, where types are apart
  pub one_type : IsTreeLawful tree → (u : Use) (k : ℕ) (p q : Program) (l : ℕ) → IsAt (λ (p : Program). p.name) programs u.program k p → IsAt (λ (p : Program). p.name) programs u.program l q → p ≡ q
  one_type lawful u k p q l one other = one_item (λ (p : Program). p.name) programs u.program lawful.types_apart k l p q one other

  -- the names of a source mean a value
  value_of_source : IsTreeLawful tree → (r i o : List ℕ) (kind : Kind) → HasSource tree (named.Output r i o) kind → (x : TaskRef × ℕ) × IsValue (drafted ds) r i o (x.0, x.1, kind)
  value_of_source lawful r i o kind has =
      let owner = any_found (λ (r' : Resource). IsTrue (is_named r r'.name) × GivesOutput tree i o kind r') rs has in
      let placed_run = any_found (λ (u : Use). IsTrue (is_named i u.instance) × RunsType tree (DeclaresOutput o kind) u) (uses_of owner.1) owner.3.1 in
      let type = any_found (λ (p : Program). IsTrue (is_named placed_run.1.program p.name) × DeclaresOutput o kind p) programs placed_run.3.1 in
      let variable = any_found (λ (v : Declaration). IsTrue (is_named o v.name) × (v.declared ≡ declared.Output kind)) (variables type.1) type.3.1 in
      let d = zip_at (IsResourceDraft programs) rs ds known owner.0 owner.1 owner.2 in
      let line = line_of owner.1 (all_at (IsResourceLawful tree) rs lawful.resources_lawful owner.0 owner.1 owner.2) placed_run.0 placed_run.1 placed_run.2 in
      let code = zip_at (IsDraftOf programs owner.1) (tasks_of owner.1) d.0.codes d.2.codes_are line.0 line.1 line.2 in
      let run = kept (λ (u : Use). is_named u.task line.1.name) (uses_of owner.1) placed_run.0 placed_run.1 placed_run.2 line.3 in
      let program = zip_at (IsProgramOf programs) (runs_in owner.1 line.1) code.0.programs code.2.programs_are run.0 placed_run.1 run.1 in
      let same : program.2.type ≡ type.1 = one_type lawful placed_run.1 program.2.place program.2.type type.1 type.0 program.2.type_is (record { stands = type.2; named = type.3.0 }) in
      let declared : program.0.ladder.declarations ≡ variables type.1 = program.2.ladder_is.declared ∙ ap variables same in
      let at : slice_get program.0.ladder.declarations variable.0 ≡ Some variable.1 = ap (λ (ds : List Declaration). slice_get ds variable.0) declared ∙ variable.2 in
      let output = output_stands code.0 run.0 variable.0 program.0 variable.1 kind code.2.outputs_are program.1 at variable.3.1 in
      let t : TaskRef = record { resource = owner.0; task = line.0 } in
      let of_origin : IsOrigin (drafted ds) r i o t output.0 = record {
        owner = d.0;
        code = code.0;
        given = record { program = run.0; place = variable.0; kind = kind };
        program = program.0;
        variable = variable.1;
        resource_is = record { stands = d.1; named = subst (λ (n : List ℕ). IsTrue (is_named r n)) (sym d.2.name_is) owner.3.0 };
        task_is = code.1;
        given_is = output.1;
        program_is = record { stands = program.1; named = subst (λ (n : List ℕ). IsTrue (is_named i n)) (sym program.2.name_is) placed_run.3.0 };
        variable_is = record { stands = at; named = variable.3.0 };
      } in
      let of_image : IsImageKind (drafted ds) t output.0 kind = record {
        code = code.0;
        code_is = code_stands (drafted ds) t d.0 code.0 d.1 code.1;
        kind_is = slice_get-map (λ (o : TaskOutput). o.kind) code.0.outputs output.0 ∙ ap (option_map (λ (o : TaskOutput). o.kind)) output.1;
      } in
      ((t, output.0), (of_origin, of_image))

  -- a source in the drafts is one in the tree, and the other way round
  pub source_of_origin : AreDraftsApart ds → (s : SourceName) (o : Origin) (kind : Kind) → IsOriginOf (drafted ds) s o kind → HasSource tree s kind
  source_of_origin apart (named.Field a) (origin.Field b) kind at = ap (λ (x : Address). kind_of_space x.space) at.0 ∙ at.1
  source_of_origin apart (named.Field a) (origin.Output t k) kind at = absurd at
  source_of_origin apart (named.Output r i o) (origin.Field b) kind at = absurd at
  source_of_origin apart (named.Output r i o) (origin.Output t k) kind at = source_of_value apart r i o (t, k, kind) at

  pub origin_of_source : IsTreeLawful tree → (s : SourceName) (kind : Kind) → HasSource tree s kind → (o : Origin) × IsOriginOf (drafted ds) s o kind
  origin_of_source lawful (named.Field a) kind at = (origin.Field a, (refl, at))
  origin_of_source lawful (named.Output r i o) kind at = let x = value_of_source lawful r i o kind at in (origin.Output x.0.0 x.0.1, x.1)

  -- so it is with a bind that is fed
  pub fed_in_tree : AreDraftsApart ds → (p : Program) (b : Bind) → HasFeed (drafted ds) (variables p) b → IsFed tree p b
  fed_in_tree apart p b (f, is) = (f.kind, ap (option_and_then (input_kind_at (variables p))) is.input_is ∙ is.input_kind_is, source_of_origin apart b.source f.origin f.kind is.origin_is)

  fed_in_drafts : IsTreeLawful tree → (p : Program) (b : Bind) → IsFed tree p b → HasFeed (drafted ds) (variables p) b
  fed_in_drafts lawful p b (kind, input, source) = by (place_of (variables p) b.input) refl
    where
      by : (o : Option ℕ) → place_of (variables p) b.input ≡ o → HasFeed (drafted ds) (variables p) b
      by None e = let none : option_and_then (input_kind_at (variables p)) None ≡ Some kind = ap (option_and_then (input_kind_at (variables p))) (sym e) ∙ input in absurd cc
      by (Some place) e =
          let at : input_kind_at (variables p) place ≡ Some kind = ap (option_and_then (input_kind_at (variables p))) (sym e) ∙ input in
          let o = origin_of_source lawful b.source kind source in
          (record { place = place; kind = kind; origin = o.0 }, record { input_is = e; input_kind_is = at; origin_is = o.1 })

any_map : {A B : Type 0} (f : A → B) (P : B → Type 0) (xs : List A) → Any P (map f xs) → Any (λ x. P (f x)) xs
any_map {A} {B} f P xs any =
    let found = any_found P (map f xs) any in
    let at = mapped_at f xs found.0 found.1 found.2 in
    any_at (λ x. P (f x)) xs found.0 at.0 at.1 (subst P (sym at.2) found.3)

-- the drafts of a lawful tree, by types with their ladders
module _ (types : List TypeValue) (name : List ℕ) (rs : List Resource) (ds : List ResourceValue) (drawn : All (λ (t : TypeValue). IsLadderOf t.program t.ladder) types) (known : AllZip (IsResourceDraft (programs_in types)) rs ds)
    (lawful : IsTreeLawful (record { programs = programs_in types; name = name; resources = rs })) where
  abbrev written : Tree
  written = record { programs = programs_in types; name = name; resources = rs }

  pub tree_apart : AreDraftsApart ds
  tree_apart = drafts_apart (programs_in types) name rs ds known lawful

  -- the type that is found by its name
  pub type_of : (u : Use) (t : TypeValue) → find (λ (t : TypeValue). is_named u.program t.program.name) types ≡ Some t
      → (k : ℕ) × IsAt (λ (p : Program). p.name) (programs_in types) u.program k t.program × (t.ladder.declarations ≡ variables t.program)
  type_of u t found =
      let at = found_place (λ (t : TypeValue). is_named u.program t.program.name) types t found in (
        at.0,
        record { stands = slice_get-map (λ (t : TypeValue). t.program) types at.0 ∙ ap (option_map (λ (t : TypeValue). t.program)) at.1; named = at.2 },
        (all_at (λ (t : TypeValue). IsLadderOf t.program t.ladder) types drawn at.0 t at.1).declared,
      )

  pub use_in_tree : (u : Use) → IsUseResolved (drafted ds) types u → AreBindsFed written u
  use_in_tree u is =
      let t = type_of u is.type is.type_is in
      let each : All (HasFeed (drafted ds) (variables is.type.program)) (binds_of u) = subst (λ (vs : List Declaration). All (HasFeed (drafted ds) vs) (binds_of u)) t.2 is.each in
      any_at (λ (p : Program). IsTrue (is_named u.program p.name) × All (IsFed written p) (binds_of u)) (programs_in types) t.0 is.type.program t.1.stands
      (t.1.named, λ k d lt. fed_in_tree (programs_in types) name rs ds known tree_apart is.type.program (get_or (binds_of u) k d) (each k d lt))

  use_in_drafts : (u : Use) → AreBindsFed written u → IsUseResolved (drafted ds) types u
  use_in_drafts u fed =
      let p = any_found (λ (p : Program). IsTrue (is_named u.program p.name) × All (IsFed written p) (binds_of u)) (programs_in types) fed in
      let some = any_found (λ (t : TypeValue). IsTrue (is_named u.program t.program.name)) types
      (any_map (λ (t : TypeValue). t.program) (λ (p : Program). IsTrue (is_named u.program p.name)) types (any_at (λ (p : Program). IsTrue (is_named u.program p.name)) (programs_in types) p.0 p.1 p.2 p.3.0)) in
      let first = first_found (λ (t : TypeValue). is_named u.program t.program.name) types some.0 some.1 some.2 some.3 in
      let t = type_of u first.0 first.1 in
      let same : p.1 ≡ first.0.program = one_type (programs_in types) name rs ds known lawful u p.0 p.1 first.0.program t.0 (record { stands = p.2; named = p.3.0 }) t.1 in
      let list : variables p.1 ≡ first.0.ladder.declarations = ap variables same ∙ sym t.2 in
      let each : All (HasFeed (drafted ds) (variables p.1)) (binds_of u) = λ k d lt. fed_in_drafts (programs_in types) name rs ds known lawful p.1 (get_or (binds_of u) k d) (p.3.1 k d lt) in
      record { type = first.0; type_is = first.1; each = subst (λ (vs : List Declaration). All (HasFeed (drafted ds) vs) (binds_of u)) list each }

  pub fed_from_resolved : All (IsUseResolved (drafted ds) types) (flat_map uses_of rs) → All (AreBindsFed written) (flat_map uses_of rs)
  fed_from_resolved each k d lt = use_in_tree (get_or (flat_map uses_of rs) k d) (each k d lt)

  pub resolved_from_fed : All (AreBindsFed written) (flat_map uses_of rs) → All (IsUseResolved (drafted ds) types) (flat_map uses_of rs)
  resolved_from_fed each k d lt = use_in_drafts (get_or (flat_map uses_of rs) k d) (each k d lt)

  -- so the binds of each program of a draft are resolved, by its variables
  run_fed : (r : Resource) (t : TaskLine) (c : CodeValue) (fed : List FedUseValue) → IsDraftOf (programs_in types) r t c → AreUsesFed (drafted ds) types r fed → (n : ℕ) (u : Use) (p : ProgramValue) (fs : List Feed)
      → slice_get (runs_in_fed (fed_in t fed)) n ≡ Some u → slice_get c.programs n ≡ Some p → slice_get (feeds_in (fed_in t fed)) n ≡ Some fs → AreFeedsOf (drafted ds) u p fs
  run_fed r t c fed of_task of_fed n u p fs run program feeds =
      let plant = drafted ds in
      let a = mapped_at (λ (f : FedUseValue). f.run) (fed_in t fed) n u run in
      let b = mapped_at (λ (f : FedUseValue). f.feeds) (fed_in t fed) n fs feeds in
      let one : b.0 ≡ a.0 = some_same (sym b.1 ∙ a.1) in
      let placed_run = filtered (λ (f : FedUseValue). is_named f.run.task t.name) fed n a.0 a.1 in
      let written_run = zip_back (IsUseFed plant types) (uses_of r) fed of_fed placed_run.0 a.0 placed_run.1 in
      let is : IsUseFed plant types u a.0 = subst (λ (v : Use). IsUseFed plant types v a.0) (sym written_run.2.run_is ∙ a.2) written_run.2 in
      let listed : slice_get (runs_in r t) n ≡ Some u = ap (λ (us : List Use). slice_get us n) (sym (runs_of_task fed r t (runs_are plant types (uses_of r) fed of_fed))) ∙ run in
      let pd = zip_at (IsProgramOf (programs_in types)) (runs_in r t) c.programs of_task.programs_are n u listed in
      let of_program : IsProgramOf (programs_in types) u p = subst (IsProgramOf (programs_in types) u) (some_same (sym pd.1 ∙ program)) pd.2 in
      let found = type_of u is.type is.type_is in
      let same : is.type.program ≡ of_program.type = one_type (programs_in types) name rs ds known lawful u found.0 is.type.program of_program.type of_program.place found.1 of_program.type_is in
      let list : is.type.ladder.declarations ≡ p.ladder.declarations = found.2 ∙ ap variables same ∙ sym of_program.ladder_is.declared in
      let fed_so : fs ≡ a.0.feeds = sym b.2 ∙ ap (λ (f : FedUseValue). f.feeds) one in
      let each : AllZip (IsFeedOf plant is.type.ladder.declarations) (binds_of u) fs = subst (λ (gs : List Feed). AllZip (IsFeedOf plant is.type.ladder.declarations) (binds_of u) gs) (sym fed_so) is.each in
      subst (λ (vs : List Declaration). AllZip (IsFeedOf plant vs) (binds_of u) fs) list each

  runs_fed : (r : Resource) (t : TaskLine) (c : CodeValue) (fed : List FedUseValue) → IsDraftOf (programs_in types) r t c → AreUsesFed (drafted ds) types r fed → AreRunsFed (drafted ds) c.programs (fed_in t fed)
  runs_fed r t c fed of_task of_fed =
      let runs : runs_in_fed (fed_in t fed) ≡ runs_in r t = runs_of_task fed r t (runs_are (drafted ds) types (uses_of r) fed of_fed) in
      record {
        many = sym (length-map (fed_in t fed) (λ (f : FedUseValue). f.run)) ∙ ap length runs ∙ zip_length (IsProgramOf (programs_in types)) (runs_in r t) c.programs of_task.programs_are;
        each = λ n u p fs run program feeds. run_fed r t c fed of_task of_fed n u p fs run program feeds;
      }

  pub resources_fed : (fed : List (List FedUseValue)) → AllZip (AreUsesFed (drafted ds) types) rs fed → Triples (IsResourceFed (drafted ds)) rs ds fed
  resources_fed fed all i r d fs at at' given =
      let rd = zip_at (IsResourceDraft (programs_in types)) rs ds known i r at in
      let of_resource : IsResourceDraft (programs_in types) r d = subst (IsResourceDraft (programs_in types) r) (some_same (sym rd.1 ∙ at')) rd.2 in
      let rf = zip_at (AreUsesFed (drafted ds) types) rs fed all i r at in
      let of_fed : AreUsesFed (drafted ds) types r fs = subst (AreUsesFed (drafted ds) types r) (some_same (sym rf.1 ∙ given)) rf.2 in
      record {
        runs_are = runs_are (drafted ds) types (uses_of r) fs of_fed;
        each = λ j t c line code.
            let td = zip_at (IsDraftOf (programs_in types) r) (tasks_of r) d.codes of_resource.codes_are j t line in
            runs_fed r t c fs (subst (IsDraftOf (programs_in types) r t) (some_same (sym td.1 ∙ code)) td.2) of_fed;
      }

-- the type of each instance of a lawful tree is known
pub types_known : (types : List TypeValue) (name : List ℕ) (rs : List Resource) → IsTreeLawful (record { programs = programs_in types; name = name; resources = rs }) → All (IsTypeKnown types) (flat_map uses_of rs)
types_known types name rs lawful =
    let written : Tree = record { programs = programs_in types; name = name; resources = rs } in
    all_flat (IsTypeKnown types) uses_of rs (λ k d lt. known_of (get_or rs k d) (lawful.resources_lawful k d lt))
  where
    known_of : (r : Resource) → IsResourceLawful (record { programs = programs_in types; name = name; resources = rs }) r → All (IsTypeKnown types) (uses_of r)
    known_of r of_resource = uses_all (IsTypeKnown types) r.items.items (λ j u at.
        let p = any_found (λ (p : Program). IsTrue (is_named u.program p.name) × All (IsOfInputKind (variables p)) (binds_of u)) (programs_in types) (of_resource.uses_lawful j u at).type_is in
        any_map (λ (t : TypeValue). t.program) (λ (p : Program). IsTrue (is_named u.program p.name)) types (any_at (λ (p : Program). IsTrue (is_named u.program p.name)) (programs_in types) p.0 p.1 p.2 p.3.0))
