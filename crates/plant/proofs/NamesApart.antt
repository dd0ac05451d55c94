-- The names of a plant that a text spells are plain, and apart.
use Rattle.std.proofs.Common.{◌≡◌, ℕ, Bool, true, false, IsTrue, cond, List, [], ◌∷◌, ◌++◌, Option, Some, None, All, map, refl, sym, ap, ◌∙◌, subst}
use Rattle.std.specs.Prelude.{unwrap_or}
use Rattle.std.specs.Option.{option_map}
use Rattle.std.specs.List.{AllByRecursion, AllZip, flat_map}
use Rattle.std.proofs.lemmas.List.Elements.{All-nil, All-cons, All-map}
use Rattle.lists.proofs.Zips.{zip_back}
use Rattle.lists.proofs.Members.{all_from_places, all_at}
use Rattle.std_blocks.specs.declared.block_type.BlockType.{BlockType}
use Rattle.words.specs.Chars.{is_plain_name, block_type}
use Rattle.words.specs.Addresses.{address}
use Rattle.words.specs.Numbers.{number_up_to, duration_up_to}
use Rattle.words.specs.declared.address.Address.{Address}
use Rattle.plant_text.specs.declared.token.Token.{Token}
use Rattle.plant_text.specs.declared.token.Token.TheVariants as token
use Rattle.plant_text.specs.declared.token.Keyword.{Keyword}
use Rattle.plant_text.specs.declared.token.Punctuation.{Punctuation}
use Rattle.plant_text.specs.Words.{or_else, keyword, punctuation, fixed_word, value_word, name, word_of}
use Rattle.plant_text.specs.Spelling.{Spells}
use Rattle.plant_grammar.specs.declared.grammar.tree.TaskLine.{TaskLine}
use Rattle.plant_grammar.specs.declared.grammar.tree.Item.{Item}
use Rattle.plant_grammar.specs.declared.grammar.tree.Item.TheVariants as item
use Rattle.plant_grammar.specs.declared.grammar.tree.Resource.{Resource}
use Rattle.plant_grammar.specs.Grammar.{Tree, task_words, use_words, items_words, resource_words, resources_words, program_words, words_of}
use Rattle.plant_grammar.specs.Names.{AreNamesApart}
use Rattle.plant_grammar.specs.Lawful.{task_of, tasks_of, IsResourceLawful}
use Rattle.plant.specs.PlantValue.{TaskValue, ResourceValue, PlantValue}
use Rattle.plant.specs.StandsFor.{task_value, IsResourceOf}
use Rattle.plant.specs.NamesApart.{AreTasksNamed, NamesAreApart}

-- a word that is a name is a plain one
abbrev IsPlainWord : Token → Type 0
IsPlainWord (token.Name n) = IsTrue (is_plain_name n)
IsPlainWord _ = Unit {0}

plain_word : (w : List ℕ) (t : Token) → word_of w ≡ t → IsPlainWord t
unfolding word_of fixed_word value_word name
plain_word w t e = subst IsPlainWord e (by (keyword w) (block_type w) (punctuation w) (number_up_to 65535 w) (duration_up_to 2147483647 w) (address w) (is_plain_name w) refl)
  where
    by : (k : Option Keyword) (b : Option BlockType) (p : Option Punctuation) (n d : Option ℕ) (a : Option Address) (plain : Bool) → is_plain_name w ≡ plain
        → IsPlainWord (unwrap_or (or_else
        (or_else (option_map (λ k. token.Keyword k) k) (or_else (option_map (λ b. token.Block b) b) (option_map (λ p. token.Punctuation p) p)))
        (or_else (or_else (option_map (λ n. token.Number n) n) (or_else (option_map (λ n. token.Duration n) d) (option_map (λ a. token.Address a) a)))
        (cond plain (Some (token.Name w)) None))) token.Unknown)
    by (Some k) b p n d a plain is = tt
    by None (Some b) p n d a plain is = tt
    by None None (Some p) n d a plain is = tt
    by None None None (Some n) d a plain is = tt
    by None None None None (Some d) a plain is = tt
    by None None None None None (Some a) plain is = tt
    by None None None None None None true is = is
    by None None None None None None false is = tt

-- each word that a text spells is so
spelled_plain : (text : List ℕ) (ts : List Token) → Spells text ts → AllByRecursion IsPlainWord ts
spelled_plain text [] s = tt
spelled_plain text (token.Body b ∷ more) s = (tt, spelled_plain s.2 more s.10)
spelled_plain text (token.Keyword k ∷ more) s = (tt, spelled_plain s.2 more s.7)
spelled_plain text (token.Block b ∷ more) s = (tt, spelled_plain s.2 more s.7)
spelled_plain text (token.Punctuation p ∷ more) s = (tt, spelled_plain s.2 more s.7)
spelled_plain text (token.Name n ∷ more) s = (plain_word s.1 (token.Name n) s.5, spelled_plain s.2 more s.7)
spelled_plain text (token.Number n ∷ more) s = (tt, spelled_plain s.2 more s.7)
spelled_plain text (token.Duration n ∷ more) s = (tt, spelled_plain s.2 more s.7)
spelled_plain text (token.Address a ∷ more) s = (tt, spelled_plain s.2 more s.7)
spelled_plain text (token.Unknown ∷ more) s = (tt, spelled_plain s.2 more s.7)

first_part : (ts us : List Token) → AllByRecursion IsPlainWord (ts ++ us) → AllByRecursion IsPlainWord ts
first_part [] us all = tt
first_part (t ∷ ts) us all = (all.0, first_part ts us all.1)

last_part : (ts us : List Token) → AllByRecursion IsPlainWord (ts ++ us) → AllByRecursion IsPlainWord us
last_part [] us all = all
last_part (t ∷ ts) us all = last_part ts us all.1

-- the names of a resource and of its tasks are plain
abbrev IsTaskPlain : TaskLine → Type 0
IsTaskPlain t = IsTrue (is_plain_name t.name)

record IsPlain (r : Resource) : Type 0 where
  resource : IsTrue (is_plain_name r.name)
  tasks : All IsTaskPlain (tasks_of r)

items_plain : (xs : List Item) → AllByRecursion IsPlainWord (items_words xs) → All IsTaskPlain (flat_map task_of xs)
unfolding task_words
items_plain [] all = All-nil IsTaskPlain
items_plain (item.Task t ∷ xs) all = All-cons IsTaskPlain t (flat_map task_of xs) all.1.0 (items_plain xs (last_part (task_words t) (items_words xs) all))
items_plain (item.Use u ∷ xs) all = items_plain xs (last_part (use_words u) (items_words xs) all)

resources_plain : (rs : List Resource) → AllByRecursion IsPlainWord (resources_words rs) → All IsPlain rs
unfolding resource_words
resources_plain [] all = All-nil IsPlain
resources_plain (r ∷ rs) all =
    let mine = first_part (resource_words r) (resources_words rs) all in
    All-cons IsPlain r rs (record { resource = mine.1.0; tasks = items_plain r.items.items mine.1.1.1.1 }) (resources_plain rs (last_part (resource_words r) (resources_words rs) all))

tree_plain : (text : List ℕ) (tree : Tree) → Spells text (words_of tree) → All IsPlain tree.resources
unfolding words_of
tree_plain text tree spelled =
    let all = last_part (flat_map program_words tree.programs) _ (spelled_plain text (words_of tree) spelled) in
    resources_plain tree.resources all.1.1

-- a plant has the names of its tree
abbrev name_of : ResourceValue → List ℕ
name_of v = v.name

abbrev task_name_of : TaskValue → List ℕ
task_name_of t = t.name

same_names : (tree : Tree) (plant : PlantValue) (rs : List Resource) (vs : List ResourceValue) → AllZip (IsResourceOf tree plant) rs vs → map (λ r. r.name) rs ≡ map name_of vs
same_names tree plant [] [] each = refl
same_names tree plant [] (v ∷ vs) each = absurd each
same_names tree plant (r ∷ rs) [] each = absurd each
same_names tree plant (r ∷ rs) (v ∷ vs) each =
    ap (λ n. n ∷ map (λ s. s.name) rs) (sym each.0.name_is) ∙ ap (λ ns. v.name ∷ ns) (same_names tree plant rs vs each.1)

same_tasks : (ts : List TaskLine) → map (λ t. t.name) ts ≡ map task_name_of (map task_value ts)
same_tasks [] = refl
same_tasks (t ∷ ts) = ap (λ ns. t.name ∷ ns) (same_tasks ts)

named_tasks : (tree : Tree) (plant : PlantValue) (r : Resource) (v : ResourceValue) → IsResourceLawful tree r → IsPlain r → IsResourceOf tree plant r v → AreTasksNamed v
named_tasks tree plant r v lawful plain of =
    record {
      plain = subst (All (λ (t : TaskValue). IsTrue (is_plain_name t.name))) (sym of.tasks_are)
          (All-map (λ (t : TaskValue). IsTrue (is_plain_name t.name)) task_value (tasks_of r) plain.tasks);
      apart = subst AreNamesApart (same_tasks (tasks_of r) ∙ ap (map task_name_of) (sym of.tasks_are)) lawful.tasks_apart;
    }

pub names_apart : NamesAreApart
names_apart text plant read =
    let tree = read.tree in
    let lawful = read.faultless.lawful in
    let plain = tree_plain _ tree read.spelled in
    record {
      plain = all_from_places (λ (v : ResourceValue). IsTrue (is_plain_name v.name)) plant.resources (λ k v at.
          let r = zip_back (IsResourceOf tree plant) tree.resources plant.resources read.stands k v at in
          let mine = all_at IsPlain tree.resources k r.0 plain r.1 in
          subst (λ n. IsTrue (is_plain_name n)) (sym r.2.name_is) mine.resource);
      apart = subst AreNamesApart (same_names tree plant tree.resources plant.resources read.stands) lawful.resources_apart;
      tasks = all_from_places AreTasksNamed plant.resources (λ k v at.
          let r = zip_back (IsResourceOf tree plant) tree.resources plant.resources read.stands k v at in
          named_tasks tree plant r.0 v (all_at (IsResourceLawful tree) tree.resources k r.0 lawful.resources_lawful r.1) (all_at IsPlain tree.resources k r.0 plain r.1) r.2);
    }
