-- The code of a draft whose sources are resolved.
use Rattle.std.proofs.Common.{◌≡◌, ℕ, List, [], ◌∷◌, Option, Some, None, length, map, get_or, IsTrue, refl, sym, ap, ◌∙◌, subst, arith}
use Rattle.std.specs.Prelude.{slice_get, All, Contains}
use Rattle.std.specs.List.{flat_map, AllZip}
use Rattle.std.specs.Option.{option_map}
use Rattle.std.proofs.lemmas.Option.{slice_get-get_or, slice_get-map, get_or_from_slice_get}
use Rattle.std.proofs.lemmas.List.{length-map}
use Rattle.std.proofs.lemmas.List.Elements.{All-nil, All-cons}
use Rattle.lists.proofs.Places.{some_same}
use Rattle.lists.proofs.Members.{all_from_places}
use Rattle.lists.proofs.Zips.{zip_length, zip_at, zip_back}
use Rattle.declared_names.specs.declared.declarations.Kind.{Kind}
use Rattle.declared_names.specs.declared.declarations.Declaration.{Declaration}
use Rattle.task_codes.specs.declared.binding.Source.{Source}
use Rattle.task_codes.specs.declared.binding.Source.TheVariants as source
use Rattle.task_codes.specs.declared.binding.Binding.{Binding}
use Rattle.task_codes.specs.declared.task_ref.TaskRef.{TaskRef}
use Rattle.task_codes.specs.declared.task_output.TaskOutput.{TaskOutput}
use Rattle.task_codes.specs.declared.retained_variable.RetainedVariable.{RetainedVariable}
use Rattle.plant_grammar.specs.declared.grammar.tree.SourceName.{SourceName}
use Rattle.plant_grammar.specs.declared.grammar.tree.SourceName.TheVariants as named
use Rattle.plant_grammar.specs.declared.grammar.tree.Bind.{Bind}
use Rattle.plant_grammar.specs.declared.grammar.tree.Use.{Use}
use Rattle.plant.specs.declared.sources.feed.Origin.{Origin}
use Rattle.plant.specs.declared.sources.feed.Origin.TheVariants as origin
use Rattle.plant.specs.declared.sources.feed.Feed.{Feed}
use Rattle.plant_grammar.specs.Names.{is_named, AreNamesApart}
use Rattle.plant_grammar.specs.Lawful.{binds_of}
use Rattle.declared_names.specs.Kinds.{input_kind_at, kind_of_space}
use Rattle.lists.specs.Items.{items_or_none}
use Rattle.plant.specs.PlantValue.{PlantValue}
use Rattle.task_codes.specs.CodeValue.{ProgramValue, CodeValue, image_kinds, outputs_of, retained_of, source_kind, expected_at, AreOnce, AreDistinct, IsBindingSound, IsSoundCode}
use Rattle.plant.specs.StandsFor.{IsOrigin, IsSourceOf, firsts, mention}
use Rattle.plant.specs.Steps.Drafts.{IsOriginOf, AreKindsOf, IsFeedOf, AreFeedsOf, IsPlacedBinding, IsPlacedSource, IsBindingBy, IsCodeLinked, IsOnceBound, Triples, tasks_taken, all_taken, IsTakenFrom, IsTaskOf}
use Rattle.plant.proofs.FoldedNames.{one_name}
use Rattle.plant.proofs.ProgramOutputs.{outputs_placed}
use Rattle.plant.proofs.RetainedVariables.{retained_placed}
use Rattle.plant.proofs.FirstMentions.{firsts_all, firsts_hold, firsts_distinct, all_flat, flat_all}
use Rattle.plant.proofs.Zips.{item_at, all_at}

-- a source is resolved, with its task by its place among the producers
pub source_linked : (plant : PlantValue) (c : CodeValue) (s : SourceName) (o : Origin) (x : Source) (kind : Kind) → AllZip (AreKindsOf plant) c.producers c.expected
    → IsOriginOf plant s o kind → IsPlacedSource c.producers o x → IsSourceOf plant c s x × (source_kind c x ≡ Some kind)
source_linked plant c (named.Field a) (origin.Field b) (source.Field d) kind es is at = (is.0 ∙ at, ap (λ a. Some (kind_of_space a.space)) (sym at) ∙ ap Some is.1)
source_linked plant c (named.Field a) (origin.Field b) (source.Given p j) kind es is at = absurd at
source_linked plant c (named.Field a) (origin.Output t k) x kind es is at = absurd is
source_linked plant c (named.Output r i o) (origin.Field b) x kind es is at = absurd is
source_linked plant c (named.Output r i o) (origin.Output t k) (source.Field d) kind es is at = absurd at
source_linked plant c (named.Output r i o) (origin.Output t k) (source.Given p j) kind es is at =
    let found = zip_at (AreKindsOf plant) c.producers c.expected es p t at.0 in
    let of_task = is.1 in
    let same : found.2.code ≡ of_task.code = some_same (sym found.2.code_is ∙ of_task.code_is) in
    let kinds : found.0 ≡ image_kinds of_task.code = found.2.kinds_are ∙ ap image_kinds same in
    let listed : expected_at c p ≡ image_kinds of_task.code = ap items_or_none found.1 ∙ kinds in
    ((t, at.0, subst (λ (n : ℕ). IsOrigin plant r i o t n) (sym at.1) is.0), ap (λ (ks : List Kind). slice_get ks j) listed ∙ ap (slice_get (image_kinds of_task.code)) at.1 ∙ of_task.kind_is)

-- a bound input has its binding
pub binding_linked : (plant : PlantValue) (c : CodeValue) (ds : List Declaration) (b : Bind) (f : Feed) (x : Binding) → AllZip (AreKindsOf plant) c.producers c.expected
    → IsFeedOf plant ds b f → IsPlacedBinding c.producers f x → IsBindingBy plant c ds b x
binding_linked plant c ds b f x es fed placed =
    let s = source_linked plant c b.source f.origin x.source f.kind es fed.origin_is placed.source_is in
    record {
      input_is = fed.input_is ∙ ap Some (sym placed.place_is);
      source_is = s.0;
      kind = f.kind;
      input_kind_is = ap (input_kind_at ds) placed.place_is ∙ fed.input_kind_is;
      source_kind_is = s.1;
    }

bindings_linked : (plant : PlantValue) (c : CodeValue) (ds : List Declaration) → AllZip (AreKindsOf plant) c.producers c.expected → (bs : List Bind) (fs : List Feed) (xs : List Binding)
    → AllZip (IsFeedOf plant ds) bs fs → AllZip (IsPlacedBinding c.producers) fs xs → AllZip (IsBindingBy plant c ds) bs xs
bindings_linked plant c ds es [] [] [] fed placed = tt
bindings_linked plant c ds es [] [] (x ∷ xs) fed placed = absurd placed
bindings_linked plant c ds es [] (f ∷ fs) xs fed placed = absurd fed
bindings_linked plant c ds es (b ∷ bs) [] xs fed placed = absurd fed
bindings_linked plant c ds es (b ∷ bs) (f ∷ fs) [] fed placed = absurd placed
bindings_linked plant c ds es (b ∷ bs) (f ∷ fs) (x ∷ xs) fed placed = (binding_linked plant c ds b f x es fed.0 placed.0, bindings_linked plant c ds es bs fs xs fed.1 placed.1)

-- bindings of inputs that are apart have places of their own
pub once_bound : (plant : PlantValue) (c : CodeValue) (ds : List Declaration) (bs : List Bind) (xs : List Binding) → AreNamesApart (map (λ b. b.input) bs) → AllZip (IsBindingBy plant c ds) bs xs → AreOnce xs
once_bound plant c ds bs xs apart each j k d within inside same =
    let one = zip_back (IsBindingBy plant c ds) bs xs each j (get_or xs j d) (slice_get-get_or xs j d within) in
    let two = zip_back (IsBindingBy plant c ds) bs xs each k (get_or xs k d) (slice_get-get_or xs k d inside) in
    let names = map (λ (b : Bind). b.input) bs in
    let many : length names ≡ length xs = length-map bs (λ (b : Bind). b.input) ∙ zip_length (IsBindingBy plant c ds) bs xs each in
    let first : get_or names j [] ≡ one.0.input = get_or_from_slice_get names j one.0.input [] (slice_get-map (λ (b : Bind). b.input) bs j ∙ ap (option_map (λ (b : Bind). b.input)) one.1) in
    let second : get_or names k [] ≡ two.0.input = get_or_from_slice_get names k two.0.input [] (slice_get-map (λ (b : Bind). b.input) bs k ∙ ap (option_map (λ (b : Bind). b.input)) two.1) in
    let alike : IsTrue (is_named one.0.input two.0.input) = one_name ds one.0.input two.0.input (get_or xs j d).place one.2.input_is (two.2.input_is ∙ ap Some (sym same)) in
    apart j k [] (omega arith) (omega arith) (subst (λ (n : List ℕ). IsTrue (is_named n (get_or names k []))) (sym first) (subst (λ (n : List ℕ). IsTrue (is_named one.0.input n)) (sym second) alike))

-- a binding takes from the task of its bound input
mention_is : (ps : List TaskRef) (place m : ℕ) (kind : Kind) (o : Origin) (s : Source) → IsPlacedSource ps o s → mention ps (record { place = m; source = s }) ≡ tasks_taken (record { place = place; kind = kind; origin = o })
mention_is ps place m kind (origin.Field a) (source.Field b) at = refl
mention_is ps place m kind (origin.Field a) (source.Given p k) at = absurd at
mention_is ps place m kind (origin.Output t k) (source.Field b) at = absurd at
mention_is ps place m kind (origin.Output t k) (source.Given p j) at = rw at.0 refl

mentions_are : (ps : List TaskRef) (fs : List Feed) (xs : List Binding) → AllZip (IsPlacedBinding ps) fs xs → flat_map (mention ps) xs ≡ flat_map tasks_taken fs
mentions_are ps [] [] z = refl
mentions_are ps [] (x ∷ xs) z = absurd z
mentions_are ps (f ∷ fs) [] z = absurd z
mentions_are ps (f ∷ fs) (x ∷ xs) z = rw (mention_is ps f.place x.place f.kind f.origin x.source z.0.source_is, mentions_are ps fs xs z.1) refl

pub all_mentions_are : (ps : List TaskRef) (fs : List (List Feed)) (bs : List (List Binding)) → AllZip (AllZip (IsPlacedBinding ps)) fs bs → flat_map (λ xs. flat_map (mention ps) xs) bs ≡ all_taken fs
all_mentions_are ps [] [] z = refl
all_mentions_are ps [] (x ∷ xs) z = absurd z
all_mentions_are ps (f ∷ fs) [] z = absurd z
all_mentions_are ps (f ∷ fs) (x ∷ xs) z = rw (mentions_are ps f x z.0, all_mentions_are ps fs xs z.1) refl

-- a bound input takes from a task of the plant
taken_is : (plant : PlantValue) (place : ℕ) (kind given : Kind) (s : SourceName) (o : Origin) → IsOriginOf plant s o given → All (IsTaskOf plant) (tasks_taken (record { place = place; kind = kind; origin = o }))
taken_is plant place kind given s (origin.Field a) is = All-nil (IsTaskOf plant)
taken_is plant place kind given (named.Field a) (origin.Output t k) is = absurd is
taken_is plant place kind given (named.Output r i o) (origin.Output t k) is = All-cons (IsTaskOf plant) t [] (record { code = is.1.code; code_is = is.1.code_is }) (All-nil (IsTaskOf plant))

module _ (plant : PlantValue) (us : List Use) (ps : List ProgramValue) (fs : List (List Feed)) (many : length us ≡ length ps) (fed : length fs ≡ length ps) (feeds : Triples (AreFeedsOf plant) us ps fs) where
  feed_taken : (i : ℕ) (f : List Feed) → slice_get fs i ≡ Some f → All (IsTaskOf plant) (flat_map tasks_taken f)
  feed_taken i f at =
      let p = item_at ps fs (sym fed) i f at in
      let u = item_at us ps many i p.0 p.1 in
      let each = feeds i u.0 p.0 f u.1 p.1 at in
      all_flat (IsTaskOf plant) tasks_taken f (all_from_places (λ x. All (IsTaskOf plant) (tasks_taken x)) f (λ k x here.
      let b = zip_back (IsFeedOf plant p.0.ladder.declarations) (binds_of u.0) f each k x here in
      taken_is plant x.place x.kind x.kind b.0.source x.origin b.2.origin_is))

  -- each producer is a task of the plant
  pub producers_known : (producers : List TaskRef) → producers ≡ firsts (all_taken fs) → All (IsTaskOf plant) producers
  producers_known producers e =
      let all : All (IsTaskOf plant) (all_taken fs) = all_flat (IsTaskOf plant) (λ f. flat_map tasks_taken f) fs (all_from_places (λ f. All (IsTaskOf plant) (flat_map tasks_taken f)) fs feed_taken) in
      subst (λ (ts : List TaskRef). All (IsTaskOf plant) ts) (sym e) (firsts_all (IsTaskOf plant) (all_taken fs) all)

-- each bound input takes from one of the producers
pub taken_known : (fs : List (List Feed)) (producers : List TaskRef) → producers ≡ firsts (all_taken fs) → All (All (IsTakenFrom producers)) fs
taken_known fs producers e =
    let all : All (Contains producers) (all_taken fs) = subst (λ (ts : List TaskRef). All (Contains ts) (all_taken fs)) (sym e) (firsts_hold (all_taken fs)) in
    let pieces = flat_all (Contains producers) (λ f. flat_map tasks_taken f) fs all in
    λ k d lt. flat_all (Contains producers) tasks_taken (get_or fs k d) (pieces k d lt)

module _ (plant : PlantValue) (us : List Use) (draft : CodeValue) (fs : List (List Feed)) (ps : List TaskRef) (es : List (List Kind)) (bs : List (List Binding))
    (outputs-are : draft.outputs ≡ outputs_of draft.programs) (many : length us ≡ length draft.programs) (apart : All IsOnceBound us)
    (fed : length fs ≡ length draft.programs) (feeds : Triples (AreFeedsOf plant) us draft.programs fs) (producers-are : ps ≡ firsts (all_taken fs))
    (kinds : AllZip (AreKindsOf plant) ps es) (placed : AllZip (AllZip (IsPlacedBinding ps)) fs bs) where
  abbrev pub code : CodeValue
  code = record { programs = draft.programs; bindings = bs; producers = ps; expected = es; outputs = draft.outputs; retained = retained_of draft.programs }

  -- the bindings of each program
  pub bound_at : (i : ℕ) (u : Use) (p : ProgramValue) → slice_get us i ≡ Some u → slice_get draft.programs i ≡ Some p
      → AllZip (IsBindingBy plant code p.ladder.declarations) (binds_of u) (items_or_none (slice_get bs i))
  bound_at i u p at at' =
      let f = item_at fs draft.programs fed i p at' in
      let x = zip_at (AllZip (IsPlacedBinding ps)) fs bs placed i f.0 f.1 in
      let both = bindings_linked plant code p.ladder.declarations kinds (binds_of u) f.0 x.0 (feeds i u p f.0 at at' f.1) x.2 in
      rw x.1 both

  once_at : (i : ℕ) (o : Option (List Binding)) → slice_get bs i ≡ o → AreOnce (items_or_none o)
  once_at i None e = λ j k d within inside same. absurd (omega arith)
  once_at i (Some xs) e =
      let f = zip_back (AllZip (IsPlacedBinding ps)) fs bs placed i xs e in
      let p = item_at draft.programs fs (sym fed) i f.0 f.1 in
      let u = item_at us draft.programs many i p.0 p.1 in
      let each = rw e at (bound_at i u.0 p.0 u.1 p.1) in
      once_bound plant code p.0.ladder.declarations (binds_of u.0) xs (all_at IsOnceBound us apart i u.0 u.1) each

  sound_at : (i : ℕ) (p : ProgramValue) → slice_get draft.programs i ≡ Some p
      → All (IsBindingSound code p) (items_or_none (slice_get bs i))
  sound_at i p at =
      let c : CodeValue = code in
      let u = item_at us draft.programs many i p at in
      let each = bound_at i u.0 p u.1 at in
      all_from_places (IsBindingSound c p) (items_or_none (slice_get bs i)) (λ k x here.
      let b = zip_back (IsBindingBy plant c p.ladder.declarations) (binds_of u.0) (items_or_none (slice_get bs i)) each k x here in
      (b.2.kind, b.2.input_kind_is, b.2.source_kind_is))

  pub linked_sound : IsSoundCode code
  linked_sound = record {
    each_bound = sym (zip_length (AllZip (IsPlacedBinding ps)) fs bs placed) ∙ fed;
    each_expected = sym (zip_length (AreKindsOf plant) ps es kinds);
    outputs_are = outputs-are;
    each_output = outputs_placed code outputs-are;
    sound = sound_at;
    once = λ i. once_at i (slice_get bs i) refl;
    distinct = subst AreDistinct (sym producers-are) (firsts_distinct (all_taken fs));
    retained_are = refl;
    each_retained = retained_placed code refl;
  }

  pub linked : IsCodeLinked plant us draft code
  linked = record {
    same = record { programs_are = refl; outputs_are = refl };
    bound = bound_at;
    producers_are = producers-are ∙ ap firsts (sym (all_mentions_are ps fs bs placed));
    sound = linked_sound;
    taken = λ k t at. let found = zip_at (AreKindsOf plant) ps es kinds k t at in (found.2.code, found.2.code_is, found.1 ∙ ap Some found.2.kinds_are);
  }

  -- the same of copies of the programs and outputs
  pub linked_copy : (qs : List ProgramValue) (os : List TaskOutput) (vs : List RetainedVariable) → qs ≡ draft.programs → os ≡ draft.outputs → vs ≡ retained_of draft.programs
      → IsCodeLinked plant us draft (record { programs = qs; bindings = bs; producers = ps; expected = es; outputs = os; retained = vs })
  linked_copy qs os vs e f g = rw (e, f, g) linked
