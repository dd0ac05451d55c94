-- Lists of words that grow at their end.
use Rattle.std.proofs.Common.{◌≡◌, ℕ, ◌+◌, ◌<◌, List, [], ◌∷◌, ◌++◌, length, map, get_or, refl, sym, ap, ◌∙◌, append_assoc, subst, arith}
use Rattle.std.specs.Prelude.{All}
use Rattle.std.proofs.lemmas.List.Elements.{All-push}
use Rattle.std.specs.List.{flat_map}
use Rattle.std.proofs.lemmas.List.{length-append, flat_map_more}
use Rattle.std.proofs.lemmas.List.Concat.{flat_map-cons}
use Rattle.plant_text.specs.declared.token.Token.{Token}
use Rattle.plant_text.specs.declared.token.Punctuation.TheVariants.{Comma, Colon, Semicolon}
use Rattle.plant_text.specs.declared.token.Token.TheVariants as token
use Rattle.plant_text.specs.declared.token.Keyword.TheVariants as key
use Rattle.plant_grammar.specs.declared.grammar.tree.Bind.{Bind}
use Rattle.plant_grammar.specs.declared.grammar.tree.Item.{Item}
use Rattle.plant_grammar.specs.declared.grammar.tree.Item.TheVariants as item
use Rattle.plant_grammar.specs.declared.grammar.tree.TaskLine.{TaskLine}
use Rattle.plant_grammar.specs.declared.grammar.tree.Use.{Use}
use Rattle.plant_grammar.specs.declared.grammar.tree.Resource.{Resource}
use Rattle.plant_grammar.specs.declared.grammar.tree.Section.{Section}
use Rattle.plant_grammar.specs.declared.grammar.tree.Section.TheVariants as section
use Rattle.plant_grammar.specs.declared.grammar.tree.NameList.{NameList}
use Rattle.plant_grammar.specs.declared.grammar.tree.VarBlock.{VarBlock}
use Rattle.plant_grammar.specs.declared.grammar.tree.Program.{Program}
use Rattle.plant_text.specs.Lines.{WordValue}
use Rattle.plant_grammar.specs.Grammar.{mark_word, key_word, bind_words, with_commas, item_words, items_words, task_words, use_words, resource_words, resources_words, name_words, list_words, lists_words, type_word, section_words, block_words, program_words}

pub flat_map-push : {A B : Type 0} (f : A → List B) (xs : List A) (y : A) → flat_map f (xs ++ y ∷ []) ≡ flat_map f xs ++ f y
flat_map-push f xs y = sym (flat_map_more f [] xs y)

pub flat_map-grown : {A B : Type 0} (f : A → List B) (xs ys : List A) (y : A) → ys ≡ xs ++ y ∷ [] → flat_map f ys ≡ flat_map f xs ++ f y
flat_map-grown f xs ys y e = ap (λ zs. flat_map f zs) e ∙ flat_map-push f xs y

-- one more was read
pub words_more : {A : Type 0} (f : A → List Token) (xs ys : List A) (y : A) (start now new : List Token) → ys ≡ xs ++ y ∷ [] → start ≡ flat_map f xs ++ now → now ≡ f y ++ new → start ≡ flat_map f ys ++ new
words_more f xs ys y start now new e h1 h2 =
    h1 ∙ ap (λ r. flat_map f xs ++ r) h2 ∙ sym (append_assoc (flat_map f xs) (f y) new) ∙ ap (λ ws. ws ++ new) (sym (flat_map-grown f xs ys y e))

-- one more was declared
pub declared_more : {A B : Type 0} (f : A → List B) (xs ys : List A) (y : A) (old now new : List B) → ys ≡ xs ++ y ∷ [] → now ≡ old ++ flat_map f xs → new ≡ now ++ f y → new ≡ old ++ flat_map f ys
declared_more f xs ys y old now new e h1 h2 =
    h2 ∙ ap (λ ds. ds ++ f y) h1 ∙ append_assoc old (flat_map f xs) (f y) ∙ ap (λ ds. old ++ ds) (sym (flat_map-grown f xs ys y e))

pub all_more : {A : Type 0} (P : A → Type 0) (xs ys : List A) (y : A) → ys ≡ xs ++ y ∷ [] → All P xs → P y → All P ys
all_more P xs ys y e each last = subst (All P) (sym e) (All-push P xs y each last)

-- the word that ends them was read
ended : {A : Type 0} (f : A → List Token) (end : Token) (all : List A → List Token) → ((xs : List A) → all xs ≡ flat_map f xs ++ end ∷ []) → (xs : List A) (start now after : List Token) → start ≡ flat_map f xs ++ now → now ≡ end ∷ after → start ≡ all xs ++ after
ended f end all law xs start now after h1 h2 =
    h1 ∙ ap (λ r. flat_map f xs ++ r) h2 ∙ sym (append_assoc (flat_map f xs) (end ∷ []) after) ∙ ap (λ ws. ws ++ after) (sym (law xs))

pub items_end : (xs : List Item) → items_words xs ≡ flat_map item_words xs ++ key_word key.EndResource ∷ []
items_end [] = refl
items_end (x ∷ xs) = ap (λ ws. item_words x ++ ws) (items_end xs) ∙ sym (append_assoc (item_words x) (flat_map item_words xs) (key_word key.EndResource ∷ [])) ∙ ap (λ ws. ws ++ key_word key.EndResource ∷ []) (sym (flat_map-cons item_words x xs))

pub items_done : (xs : List Item) (start now after : List Token) → start ≡ flat_map item_words xs ++ now → now ≡ key_word key.EndResource ∷ after → start ≡ items_words xs ++ after
items_done xs start now after h1 h2 = ended item_words (key_word key.EndResource) items_words items_end xs start now after h1 h2

pub resources_end : (xs : List Resource) → resources_words xs ≡ flat_map resource_words xs ++ key_word key.EndConfiguration ∷ []
resources_end [] = refl
resources_end (x ∷ xs) = ap (λ ws. resource_words x ++ ws) (resources_end xs) ∙ sym (append_assoc (resource_words x) (flat_map resource_words xs) (key_word key.EndConfiguration ∷ [])) ∙ ap (λ ws. ws ++ key_word key.EndConfiguration ∷ []) (sym (flat_map-cons resource_words x xs))

pub resources_done : (xs : List Resource) (start now after : List Token) → start ≡ flat_map resource_words xs ++ now → now ≡ key_word key.EndConfiguration ∷ after → start ≡ resources_words xs ++ after
resources_done xs start now after h1 h2 = ended resource_words (key_word key.EndConfiguration) resources_words resources_end xs start now after h1 h2

pub lists_end : (xs : List NameList) → lists_words xs ≡ flat_map list_words xs ++ key_word key.EndVar ∷ []
lists_end [] = refl
lists_end (x ∷ xs) = ap (λ ws. list_words x ++ ws) (lists_end xs) ∙ sym (append_assoc (list_words x) (flat_map list_words xs) (key_word key.EndVar ∷ [])) ∙ ap (λ ws. ws ++ key_word key.EndVar ∷ []) (sym (flat_map-cons list_words x xs))

pub lists_done : (xs : List NameList) (start now after : List Token) → start ≡ flat_map list_words xs ++ now → now ≡ key_word key.EndVar ∷ after → start ≡ lists_words xs ++ after
lists_done xs start now after h1 h2 = ended list_words (key_word key.EndVar) lists_words lists_end xs start now after h1 h2

with_commas_push : (bs : List Bind) (b : Bind) → 0 < length bs → with_commas (bs ++ b ∷ []) ≡ with_commas bs ++ mark_word Comma ∷ bind_words b
with_commas_push [] b some = absurd (omega (arith, some))
with_commas_push (x ∷ []) b some = refl
with_commas_push (x ∷ y ∷ ys) b some =
    ap (λ ws. bind_words x ++ mark_word Comma ∷ ws) (with_commas_push (y ∷ ys) b (omega arith)) ∙ sym (append_assoc (bind_words x) (mark_word Comma ∷ with_commas (y ∷ ys)) (mark_word Comma ∷ bind_words b))

-- a comma and a bind were read
pub binds_more : (bs cs : List Bind) (b : Bind) (start now mid after : List Token) → 0 < length bs → cs ≡ bs ++ b ∷ [] → start ≡ with_commas bs ++ now → now ≡ mark_word Comma ∷ mid → mid ≡ bind_words b ++ after → start ≡ with_commas cs ++ after
binds_more bs cs b start now mid after some h0 h1 h2 h3 =
    h1 ∙ ap (λ r. with_commas bs ++ r) (h2 ∙ ap (λ r. mark_word Comma ∷ r) h3) ∙ sym (append_assoc (with_commas bs) (mark_word Comma ∷ bind_words b) after)
    ∙ ap (λ ws. ws ++ after) (sym (with_commas_push bs b some)) ∙ ap (λ xs. with_commas xs ++ after) (sym h0)

name_words_push : (ns : List (List ℕ)) (n : List ℕ) → 0 < length ns → name_words (ns ++ n ∷ []) ≡ name_words ns ++ mark_word Comma ∷ token.Name n ∷ []
name_words_push [] n some = absurd (omega (arith, some))
name_words_push (x ∷ []) n some = refl
name_words_push (x ∷ y ∷ ys) n some = ap (λ ws. token.Name x ∷ mark_word Comma ∷ ws) (name_words_push (y ∷ ys) n (omega arith))

-- a comma and a name were read
pub names_more : (ns ms : List (List ℕ)) (n : List ℕ) (start now mid after : List Token) → 0 < length ns → ms ≡ ns ++ n ∷ [] → start ≡ name_words ns ++ now → now ≡ mark_word Comma ∷ mid → mid ≡ token.Name n ∷ after → start ≡ name_words ms ++ after
names_more ns ms n start now mid after some h0 h1 h2 h3 =
    h1 ∙ ap (λ r. name_words ns ++ r) (h2 ∙ ap (λ r. mark_word Comma ∷ r) h3) ∙ sym (append_assoc (name_words ns) (mark_word Comma ∷ token.Name n ∷ []) after)
    ∙ ap (λ ws. ws ++ after) (sym (name_words_push ns n some)) ∙ ap (λ xs. name_words xs ++ after) (sym h0)

-- there is one more
pub grown : {A : Type 0} (xs ys : List A) (y : A) → ys ≡ xs ++ y ∷ [] → length ys ≡ length xs + 1
grown xs ys y e = ap length e ∙ length-append xs (y ∷ [])

task_has_words : (t : TaskLine) (rest : List Token) → length rest < length (task_words t ++ rest)
unfolding task_words
task_has_words t rest = omega (arith, length-append (task_words t) rest)

use_has_words : (u : Use) (rest : List Token) → length rest < length (use_words u ++ rest)
unfolding use_words
use_has_words u rest = omega (arith, length-append (use_words u) rest)

-- each item has a word
pub item_has_words : (x : Item) (rest : List Token) → length rest < length (item_words x ++ rest)
item_has_words (item.Task t) rest = task_has_words t rest
item_has_words (item.Use u) rest = use_has_words u rest

pub resource_has_words : (r : Resource) (rest : List Token) → length rest < length (resource_words r ++ rest)
unfolding resource_words
resource_has_words r rest = omega (arith, length-append (resource_words r) rest)

pub list_has_words : (l : NameList) (rest : List Token) → length rest < length (list_words l ++ rest)
unfolding list_words
list_has_words l rest =
    let marks = mark_word Colon ∷ type_word l.type_name ∷ mark_word Semicolon ∷ [] in
    omega (arith, length-append (list_words l) rest, length-append (name_words l.names.items) marks)

section_has_words : (s : Section) → 0 < length (section_words s)
section_has_words section.Input = omega arith
section_has_words section.Output = omega arith
section_has_words section.Local = omega arith
section_has_words section.Retained = omega arith

pub block_has_words : (b : VarBlock) (rest : List Token) → length rest < length (block_words b ++ rest)
unfolding block_words
block_has_words b rest =
    let lists = lists_words b.lists.items in
    omega (arith, section_has_words b.section, length-append (section_words b.section ++ lists) rest, length-append (section_words b.section) lists)

pub program_has_words : (p : Program) (rest : List Token) → length rest < length (program_words p ++ rest)
unfolding program_words
program_has_words p rest = omega (arith, length-append (program_words p) rest)

-- the word in front of a list of words with their lines
pub front_word : (ws : List WordValue) (w : WordValue) → 0 < length ws → w ≡ get_or ws 0 w → (rest : List Token) × (map (λ (v : WordValue). v.token) ws ≡ w.token ∷ rest)
front_word [] w lt is = absurd (omega arith)
front_word (v ∷ vs) w lt is = (map (λ (v : WordValue). v.token) vs, ap (λ (u : WordValue). u.token ∷ map (λ (v : WordValue). v.token) vs) (sym is))
