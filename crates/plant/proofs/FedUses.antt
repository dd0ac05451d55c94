-- Instances whose binds are resolved: which of them a task runs, and what is known of each.
use Rattle.std.proofs.Common.{◌≡◌, ℕ, ◌+◌, ◌<◌, Bool, true, false, List, [], ◌∷◌, ◌++◌, length, map, take, get_or, refl, sym, ap, ◌∙◌}
use Rattle.std.specs.Borrow.{Bor}
use Rattle.std.specs.Prelude.{All}
use Rattle.std.specs.List.{flat_map, filter, AllZip}
use Rattle.std.proofs.lemmas.List.{append-nil, flat_map_more, map-append, take_more}
use Rattle.std.proofs.lemmas.List.Elements.{filter-append}
use Rattle.lists.proofs.Members.{all_from_places}
use Rattle.lists.proofs.Zips.{zip_at}
use Rattle.plant_grammar.specs.declared.grammar.tree.TaskLine.{TaskLine}
use Rattle.plant_grammar.specs.declared.grammar.tree.Bind.{Bind}
use Rattle.plant_grammar.specs.declared.grammar.tree.Use.{Use}
use Rattle.plant_grammar.specs.declared.grammar.tree.Resource.{Resource}
use Rattle.plant_grammar.specs.Names.{is_named}
use Rattle.plant_grammar.specs.Lawful.{uses_of, binds_of}
use Rattle.plant.specs.declared.sources.feed.Feed.{Feed}
use Rattle.plant.specs.PlantValue.{PlantValue}
use Rattle.plant.specs.ProgramTypes.{TypeValue}
use Rattle.plant.specs.StandsFor.{runs_in}
use Rattle.plant.specs.Steps.Drafts.{IsFeedOf, HasFeed, IsUseResolved, tasks_taken, all_taken}
use Rattle.plant.specs.Steps.FedUses.{FedUseValue, IsUseFed, AreUsesFed, fed_in, runs_in_fed, feeds_in}
use Rattle.plant.proofs.FirstMentions.{all_flat}

-- what follows of each pair holds of the first list
pub zip_all : {A B : Type 0} (R : A → B → Type 0) (P : A → Type 0) → ((x : A) (y : B) → R x y → P x) → (xs : List A) (ys : List B) → AllZip R xs ys → All P xs
zip_all R P f xs ys z = all_from_places P xs (λ k x at. let y = zip_at R xs ys z k x at in f x y.0 y.2)

-- of what is kept by what is made of it, that is kept
map-filter : {A B : Type 0} (f : A → B) (p : B → Bool) (xs : List A) → map f (filter (λ x. p (f x)) xs) ≡ filter p (map f xs)
map-filter f p [] = refl
map-filter {A} {B} f p (x ∷ xs) = by (p (f x)) refl (map-filter f p xs)
  where
    by : (b : Bool) → p (f x) ≡ b → map f (filter (λ y. p (f y)) xs) ≡ filter p (map f xs) → map f (filter (λ y. p (f y)) (x ∷ xs)) ≡ filter p (map f (x ∷ xs))
    by true e rest = rw e (ap (λ ys. f x ∷ ys) rest)
    by false e rest = rw e rest

pub runs_in_fed-fed_in : (fed : List FedUseValue) (t : TaskLine) → runs_in_fed (fed_in t fed) ≡ filter (λ (u : Use). is_named u.task t.name) (runs_in_fed fed)
runs_in_fed-fed_in fed t = map-filter (λ (u : FedUseValue). u.run) (λ (u : Use). is_named u.task t.name) fed

-- the instances of a task, among those of its resource
pub runs_of_task : (fed : List FedUseValue) (r : Resource) (t : TaskLine) → runs_in_fed fed ≡ uses_of r → runs_in_fed (fed_in t fed) ≡ runs_in r t
runs_of_task fed r t are = runs_in_fed-fed_in fed t ∙ ap (filter (λ (u : Use). is_named u.task t.name)) are

-- an instance that the task runs is added, and another isn't
pub fed_pushed : (olds news : List (Bor FedUseValue)) (u : Bor FedUseValue) (t : TaskLine) → news ≡ olds ++ u ∷ [] → is_named u.now.run.task t.name ≡ true
    → map (λ (v : Bor FedUseValue). v.now) news ≡ map (λ (v : Bor FedUseValue). v.now) olds ++ fed_in t (u.now ∷ [])
fed_pushed olds news u t e named = rw (e, map-append (λ (v : Bor FedUseValue). v.now) olds (u ∷ []), named) refl

pub fed_left : (olds : List FedUseValue) (u : FedUseValue) (t : TaskLine) → is_named u.run.task t.name ≡ false → olds ≡ olds ++ fed_in t (u ∷ [])
fed_left olds u t other = rw other (sym (append-nil olds))

-- one more instance
pub fed_more : (t : TaskLine) (fed : List FedUseValue) (i : ℕ) (u : FedUseValue) (olds news : List FedUseValue) → i < length fed → u ≡ get_or fed i u → olds ≡ fed_in t (take i fed) → news ≡ olds ++ fed_in t (u ∷ [])
    → news ≡ fed_in t (take (i + 1) fed)
fed_more t fed i u olds news lt is e f =
    let runs : FedUseValue → Bool = λ (v : FedUseValue). is_named v.run.task t.name in
    let front : take (i + 1) fed ≡ take i fed ++ u ∷ [] = take_more fed i u lt ∙ ap (λ v. take i fed ++ v ∷ []) (sym is) in
    rw (front, filter-append runs (take i fed) (u ∷ [])) (f ∙ ap (λ l. l ++ fed_in t (u ∷ [])) e)

module _ (plant : PlantValue) (types : List TypeValue) where
  pub runs_are : (us : List Use) (fed : List FedUseValue) → AllZip (IsUseFed plant types) us fed → runs_in_fed fed ≡ us
  runs_are [] [] z = refl
  runs_are [] (f ∷ fed) z = absurd z
  runs_are (u ∷ us) [] z = absurd z
  runs_are (u ∷ us) (f ∷ fed) z = let first : f.run ≡ u = z.0.run_is in let rest = runs_are us fed z.1 in cc

  resolved : (u : Use) (fed : FedUseValue) → IsUseFed plant types u fed → IsUseResolved plant types u
  resolved u fed is = record {
    type = is.type;
    type_is = is.type_is;
    each = zip_all (IsFeedOf plant is.type.ladder.declarations) (HasFeed plant is.type.ladder.declarations) (λ (b : Bind) (f : Feed) of. (f, of)) (binds_of u) fed.feeds is.each;
  }

  pub all_resolved : (us : List Use) (fed : List FedUseValue) → AllZip (IsUseFed plant types) us fed → All (IsUseResolved plant types) us
  all_resolved us fed z = zip_all (IsUseFed plant types) (IsUseResolved plant types) resolved us fed z

  pub resources_resolved : (rs : List Resource) (fed : List (List FedUseValue)) → AllZip (AreUsesFed plant types) rs fed → All (IsUseResolved plant types) (flat_map uses_of rs)
  resources_resolved rs fed z =
      all_flat (IsUseResolved plant types) uses_of rs (zip_all (AreUsesFed plant types) (λ (r : Resource). All (IsUseResolved plant types) (uses_of r)) (λ (r : Resource) (f : List FedUseValue) of. all_resolved (uses_of r) f of) rs fed z)

-- the binds of one more instance
pub feeds_more : (fed : List (Bor FedUseValue)) (i : ℕ) (u : Bor FedUseValue) → i < length fed → u ≡ get_or fed i u
    → feeds_in (map (λ (v : Bor FedUseValue). v.now) (take (i + 1) fed)) ≡ feeds_in (map (λ (v : Bor FedUseValue). v.now) (take i fed)) ++ u.now.feeds ∷ []
feeds_more fed i u lt is =
    let front : take (i + 1) fed ≡ take i fed ++ u ∷ [] = take_more fed i u lt ∙ ap (λ v. take i fed ++ v ∷ []) (sym is) in
    ap (λ (us : List (Bor FedUseValue)). feeds_in (map (λ (v : Bor FedUseValue). v.now) us)) front
    ∙ ap feeds_in (map-append (λ (v : Bor FedUseValue). v.now) (take i fed) (u ∷ []))
    ∙ map-append (λ (v : FedUseValue). v.feeds) (map (λ (v : Bor FedUseValue). v.now) (take i fed)) (u.now ∷ [])

pub taken_more : (fed : List (Bor FedUseValue)) (i : ℕ) (u : Bor FedUseValue) → i < length fed → u ≡ get_or fed i u
    → all_taken (feeds_in (map (λ (v : Bor FedUseValue). v.now) (take (i + 1) fed))) ≡ all_taken (feeds_in (map (λ (v : Bor FedUseValue). v.now) (take i fed))) ++ flat_map tasks_taken u.now.feeds
taken_more fed i u lt is =
    ap all_taken (feeds_more fed i u lt is) ∙ sym (flat_map_more (λ (f : List Feed). flat_map tasks_taken f) [] (feeds_in (map (λ (v : Bor FedUseValue). v.now) (take i fed))) u.now.feeds)
