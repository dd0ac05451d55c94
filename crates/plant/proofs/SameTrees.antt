-- Trees that say the same are both without a fault.
use Rattle.std.proofs.Common.{◌≡◌, ℕ, IsTrue, List, Some, map, take, drop, refl, sym, ap, ◌∙◌, subst}
use Rattle.std.specs.Prelude.{slice_get, All, Any}
use Rattle.std.specs.List.{flat_map}
use Rattle.std.specs.Option.{option_map}
use Rattle.std.proofs.lemmas.Option.{slice_get-map}
use Rattle.std.proofs.lemmas.List.{take-append-drop}
use Rattle.lists.proofs.Members.{any_at, any_found, all_from_places, all_first}
use Rattle.lists.proofs.Mapped.{mapped_at, mapped_flat}
use Rattle.declared_names.specs.declared.declarations.Kind.{Kind}
use Rattle.declared_names.specs.declared.declarations.Declared.TheVariants.{Output}
use Rattle.declared_names.specs.declared.declarations.Declaration.{Declaration}
use Rattle.plant_grammar.specs.declared.grammar.tree.Program.{Program}
use Rattle.plant_grammar.specs.declared.grammar.tree.SourceName.{SourceName}
use Rattle.plant_grammar.specs.declared.grammar.tree.SourceName.TheVariants as source
use Rattle.plant_grammar.specs.declared.grammar.tree.Bind.{Bind}
use Rattle.plant_grammar.specs.declared.grammar.tree.Use.{Use}
use Rattle.plant_grammar.specs.declared.grammar.tree.Resource.{Resource}
use Rattle.plant_grammar.specs.Grammar.{Tree, TextValue}
use Rattle.plant_grammar.specs.Steps.Reading.{programs_of}
use Rattle.plant_grammar.specs.Names.{is_named}
use Rattle.plant_grammar.specs.Kinds.{input_kind_of}
use Rattle.plant_grammar.specs.Lawful.{variables, uses_of, binds_of, all_uses}
use Rattle.plant_grammar.specs.Parts.{ProgramParts, UseParts, ResourceParts, program_parts, use_parts, resource_parts, IsSameTree}
use Rattle.power_flow.specs.LadderValue.{LadderValue}
use Rattle.plant.specs.Ladders.{IsLadderOf, HasLadder}
use Rattle.plant.specs.Faultless.{DeclaresOutput, RunsType, GivesOutput, HasSource, IsFed, AreBindsFed}
use Rattle.plant.proofs.Zips.{all_at}

-- lists whose items say the same, place by place
pub partner : {A V : Type 0} (f : A → V) (xs ys : List A) → map f xs ≡ map f ys → (k : ℕ) (x : A) → slice_get xs k ≡ Some x → (y : A) × (slice_get ys k ≡ Some y) × (f x ≡ f y)
partner {A} {V} f xs ys e k x at =
    let there : slice_get (map f ys) k ≡ Some (f x) = ap (λ (vs : List V). slice_get vs k) (sym e) ∙ slice_get-map f xs k ∙ ap (option_map f) at in
    let y = mapped_at f ys k (f x) there in
    (y.0, y.1, sym y.2)

any_same : {A V : Type 0} (f : A → V) (P Q : A → Type 0) (xs ys : List A) → map f xs ≡ map f ys → ((x y : A) → f x ≡ f y → P x → Q y) → Any P xs → Any Q ys
any_same f P Q xs ys e go any =
    let found = any_found P xs any in
    let y = partner f xs ys e found.0 found.1 found.2 in
    any_at Q ys found.0 y.0 y.1 (go found.1 y.0 y.2 found.3)

all_same : {A V : Type 0} (f : A → V) (P Q : A → Type 0) (xs ys : List A) → map f xs ≡ map f ys → ((x y : A) → f x ≡ f y → P x → Q y) → All P xs → All Q ys
all_same f P Q xs ys e go all = all_from_places Q ys (λ k y at.
    let x = partner f ys xs (sym e) k y at in
    go x.0 y (sym x.2) (all_at P xs all k x.0 x.1))

uses_are : (rs : List Resource) → map use_parts (flat_map uses_of rs) ≡ flat_map (λ (r : ResourceParts). r.uses) (map resource_parts rs)
uses_are = mapped_flat resource_parts uses_of use_parts (λ (r : ResourceParts). r.uses) (λ r. refl)

-- sources of trees that say the same
module _ (t u : Tree) (same : IsSameTree t u) where
  runs_same : (P Q : Program → Type 0) → ((p q : Program) → program_parts p ≡ program_parts q → P p → Q q) → (a b : Use) → use_parts a ≡ use_parts b → RunsType t P a → RunsType u Q b
  runs_same P Q go a b e runs =
      let named : a.program ≡ b.program = ap (λ (x : UseParts). x.program) e in
      any_same program_parts (λ (p : Program). IsTrue (is_named a.program p.name) × P p) (λ (p : Program). IsTrue (is_named b.program p.name) × Q p) t.programs u.programs same.programs
      (λ p q e' is. (
        subst (λ (n : List ℕ). IsTrue (is_named n q.name)) named (subst (λ (n : List ℕ). IsTrue (is_named a.program n)) (ap (λ (x : ProgramParts). x.name) e') is.0),
        go p q e' is.1,
      )) runs

  output_same : (o : List ℕ) (k : Kind) (p q : Program) → program_parts p ≡ program_parts q → DeclaresOutput o k p → DeclaresOutput o k q
  output_same o k p q e is = subst (λ (ds : List Declaration). Any (λ (v : Declaration). IsTrue (is_named o v.name) × (v.declared ≡ Output k)) ds) (ap (λ (x : ProgramParts). x.declarations) e) is

  gives_same : (i o : List ℕ) (k : Kind) (r q : Resource) → resource_parts r ≡ resource_parts q → GivesOutput t i o k r → GivesOutput u i o k q
  gives_same i o k r q e is =
      any_same use_parts (λ (a : Use). IsTrue (is_named i a.instance) × RunsType t (DeclaresOutput o k) a) (λ (b : Use). IsTrue (is_named i b.instance) × RunsType u (DeclaresOutput o k) b) (uses_of r) (uses_of q)
      (ap (λ (x : ResourceParts). x.uses) e)
      (λ a b e' is'. (
        subst (λ (n : List ℕ). IsTrue (is_named i n)) (ap (λ (x : UseParts). x.instance) e') is'.0,
        runs_same (DeclaresOutput o k) (DeclaresOutput o k) (output_same o k) a b e' is'.1,
      )) is

  source_same : (s : SourceName) (k : Kind) → HasSource t s k → HasSource u s k
  source_same (source.Field a) k is = is
  source_same (source.Output r i o) k is =
      any_same resource_parts (λ (x : Resource). IsTrue (is_named r x.name) × GivesOutput t i o k x) (λ (x : Resource). IsTrue (is_named r x.name) × GivesOutput u i o k x) t.resources u.resources same.resources
      (λ x y e is'. (subst (λ (n : List ℕ). IsTrue (is_named r n)) (ap (λ (x : ResourceParts). x.name) e) is'.0, gives_same i o k x y e is'.1)) is

  fed_same : (p q : Program) → program_parts p ≡ program_parts q → (b : Bind) → IsFed t p b → IsFed u q b
  fed_same p q e b (k, input, has) = (k, ap (λ (x : ProgramParts). input_kind_of x.declarations b.input) (sym e) ∙ input, source_same b.source k has)

  binds_same : (a b : Use) → use_parts a ≡ use_parts b → AreBindsFed t a → AreBindsFed u b
  binds_same a b e is =
      let binds : binds_of a ≡ binds_of b = ap (λ (x : UseParts). x.binds) e in
      runs_same (λ p. All (IsFed t p) (binds_of a)) (λ p. All (IsFed u p) (binds_of b))
      (λ p q e' each. subst (λ (bs : List Bind). All (IsFed u q) bs) binds (λ k d lt. fed_same p q e' _ (each k d lt))) a b e is

  pub sources_same : All (AreBindsFed t) (all_uses t) → All (AreBindsFed u) (all_uses u)
  sources_same all = all_same use_parts (AreBindsFed t) (AreBindsFed u) (all_uses t) (all_uses u) (uses_are t.resources ∙ ap (flat_map (λ (r : ResourceParts). r.uses)) same.resources ∙ sym (uses_are u.resources)) binds_same all

-- a ladder of a program is one of each that says the same
pub ladder_kept : (p q : Program) → program_parts p ≡ program_parts q → (l : LadderValue) → IsLadderOf p l → IsLadderOf q l
ladder_kept p q e l is =
    let body : p.body ≡ q.body = ap (λ (x : ProgramParts). x.body) e in
    let declared : variables p ≡ variables q = ap (λ (x : ProgramParts). x.declarations) e in
    record {
      first_line = is.first_line;
      graph = is.graph;
      well_drawn = rw (← body) is.well_drawn;
      built = rw (← body) is.built;
      networks_faultless = rw (← body) is.networks_faultless;
      declared = is.declared ∙ declared;
      networks_are = is.networks_are;
      bound = rw (← declared) is.bound;
      room = is.room;
    }

ladder_same : (p q : Program) → program_parts p ≡ program_parts q → HasLadder p → HasLadder q
ladder_same p q e (l, is) = (l, ladder_kept p q e l is)

-- programs that say the same as the first of others have ladders if these do
pub first_have_ladders : (ps qs : List Program) (n : ℕ) → map program_parts ps ≡ map program_parts (take n qs) → All HasLadder qs → All HasLadder ps
first_have_ladders ps qs n e all =
    let front : All HasLadder (take n qs) = all_first HasLadder (take n qs) (drop n qs) (subst (All HasLadder) (sym (take-append-drop n qs)) all) in
    all_same program_parts HasLadder HasLadder (take n qs) ps (sym e) ladder_same front

pub ladders_same : (ts : List TextValue) (qs : List Program) (n : ℕ) → map program_parts (programs_of ts) ≡ map program_parts (take n qs) → All HasLadder qs → All (λ (t : TextValue). HasLadder t.program) ts
ladders_same ts qs n e all =
    let programs : All HasLadder (programs_of ts) = first_have_ladders (programs_of ts) qs n e all in
    all_from_places (λ (t : TextValue). HasLadder t.program) ts (λ k t at. all_at HasLadder (programs_of ts) programs k t.program (slice_get-map (λ (t : TextValue). t.program) ts k ∙ ap (option_map (λ (t : TextValue). t.program)) at))
