-- The words of a tree stand where the text of a plant may have them.
use Rattle.plant_grammar.proofs.OneTree.{tree_parts_of}
use Rattle.std.proofs.Common.{◌≡◌, ◌&&◌, ℕ, ◌+◌, ◌≤◌, Bool, true, false, List, [], ◌∷◌, ◌++◌, length, Option, None, Some, refl, sym, ap, ◌∙◌, append_assoc, subst, arith}
use Rattle.std.specs.List.{flat_map, list_all}
use Rattle.std.proofs.lemmas.List.Concat.{flat_map-cons}
use Rattle.std.proofs.lemmas.Bool.{and_parts}
use Rattle.plant_text.specs.declared.token.Token.{Token}
use Rattle.plant_text.specs.declared.token.Token.TheVariants as token
use Rattle.plant_text.specs.declared.token.Keyword.TheVariants as key
use Rattle.plant_text.specs.declared.token.Punctuation.TheVariants.{Close, Colon, Semicolon, Comma}
use Rattle.plant_text.specs.declared.lexer.Stage.{Stage}
use Rattle.plant_text.specs.declared.lexer.Stage.TheVariants as stage
use Rattle.plant_text.specs.Steps.Lexing.{stage_behind, is_due, is_section, AreInPlace, AreWordsInPlace}
use Rattle.declared_names.specs.declared.declarations.Kind.TheVariants as kind
use Rattle.plant_grammar.specs.declared.grammar.tree.Section.{Section}
use Rattle.plant_grammar.specs.declared.grammar.tree.Section.TheVariants as section
use Rattle.plant_grammar.specs.declared.grammar.tree.TypeName.{TypeName}
use Rattle.plant_grammar.specs.declared.grammar.tree.TypeName.TheVariants.{Elementary, Block}
use Rattle.plant_grammar.specs.declared.grammar.tree.NameList.{NameList}
use Rattle.plant_grammar.specs.declared.grammar.tree.VarBlock.{VarBlock}
use Rattle.plant_grammar.specs.declared.grammar.tree.Program.{Program}
use Rattle.plant_grammar.specs.declared.grammar.tree.Order.{Order}
use Rattle.plant_grammar.specs.declared.grammar.tree.Order.TheVariants.{IntervalFirst, PriorityFirst}
use Rattle.plant_grammar.specs.declared.grammar.tree.TaskLine.{TaskLine}
use Rattle.plant_grammar.specs.declared.grammar.tree.SourceName.{SourceName}
use Rattle.plant_grammar.specs.declared.grammar.tree.SourceName.TheVariants as source
use Rattle.plant_grammar.specs.declared.grammar.tree.Bind.{Bind}
use Rattle.plant_grammar.specs.declared.grammar.tree.Use.{Use}
use Rattle.plant_grammar.specs.declared.grammar.tree.Item.{Item}
use Rattle.plant_grammar.specs.declared.grammar.tree.Item.TheVariants as item
use Rattle.plant_grammar.specs.declared.grammar.tree.Resource.{Resource}
use Rattle.plant_grammar.specs.WellFormed.{is_plain}
use Rattle.plant_grammar.specs.Grammar.{Tree, key_word, mark_word, section_words, type_word, name_words, list_words, lists_words, block_words, program_words, settings, task_words, source_words, bind_words, with_commas, binds_words, binds_listed, use_words, item_words, items_words, resource_words, resources_words, words_of}

-- a word inside a block of variables
abbrev is_inner : Token → Bool
is_inner (token.Keyword key.EndVar) = false
is_inner (token.Body b) = false
is_inner token.Unknown = false
is_inner _ = true

both : (p : Token → Bool) (xs ys : List Token) → list_all p xs ≡ true → list_all p ys ≡ true → list_all p (xs ++ ys) ≡ true
both p [] ys h k = k
both p (x ∷ xs) ys h k = go (p x) (list_all p xs) h (both p xs ys)
  where
    go : (a b : Bool) → (a && b) ≡ true → (b ≡ true → list_all p ys ≡ true → list_all p (xs ++ ys) ≡ true) → (a && list_all p (xs ++ ys)) ≡ true
    go true true h f = f refl k
    go true false h f = absurd cc
    go false b h f = absurd cc

rest_of : (a b : Bool) → (a && b) ≡ true → b ≡ true
rest_of true b h = h
rest_of false b h = absurd cc

placed : (s : Stage) (n : ℕ) (t : Token) (more : List Token) → is_plain t ≡ true → (is_due s ≡ true → (is_section t ≡ true) × (n ≤ 64)) → AreInPlace (stage_behind t s) n more → AreInPlace s n (t ∷ more)
placed s n (token.Keyword k) more h d a = ((λ e. cc, d), a)
placed s n (token.Block k) more h d a = ((λ e. cc, d), a)
placed s n (token.Punctuation k) more h d a = ((λ e. cc, d), a)
placed s n (token.Name k) more h d a = ((λ e. cc, d), a)
placed s n (token.Number k) more h d a = ((λ e. cc, d), a)
placed s n (token.Duration k) more h d a = ((λ e. cc, d), a)
placed s n (token.Address k) more h d a = ((λ e. cc, d), a)
placed s n (token.Body k) more h d a = absurd cc
placed s n token.Unknown more h d a = absurd cc

inner_plain : (t : Token) → is_inner t ≡ true → is_plain t ≡ true
inner_plain (token.Keyword k) h = refl
inner_plain (token.Block k) h = refl
inner_plain (token.Punctuation k) h = refl
inner_plain (token.Name k) h = refl
inner_plain (token.Number k) h = refl
inner_plain (token.Duration k) h = refl
inner_plain (token.Address k) h = refl
inner_plain (token.Body k) h = h
inner_plain token.Unknown h = h

inner_stays : (t : Token) → is_inner t ≡ true → stage_behind t stage.Blocks ≡ stage.Blocks
inner_stays (token.Keyword key.EndVar) h = absurd cc
inner_stays _ h = refl

plain_stays : (t : Token) → stage_behind t stage.Configuration ≡ stage.Configuration
plain_stays (token.Keyword key.Program) = refl
plain_stays _ = refl

in_block : (ts rest : List Token) (n : ℕ) → list_all is_inner ts ≡ true → AreInPlace stage.Blocks n rest → AreInPlace stage.Blocks n (ts ++ rest)
in_block [] rest n h a = a
in_block (t ∷ ts) rest n h a =
    let first = (and_parts (is_inner t) (list_all is_inner ts) h).0 in
    placed stage.Blocks n t (ts ++ rest) (inner_plain t first) (λ d. absurd cc)
    (subst (λ (s : Stage). AreInPlace s n (ts ++ rest)) (sym (inner_stays t first)) (in_block ts rest n (rest_of (is_inner t) (list_all is_inner ts) h) a))

in_configuration : (ts : List Token) (n : ℕ) → list_all is_plain ts ≡ true → AreInPlace stage.Configuration n ts
in_configuration [] n h = refl
in_configuration (t ∷ ts) n h =
    placed stage.Configuration n t ts (and_parts (is_plain t) (list_all is_plain ts) h).0 (λ d. absurd cc)
    (subst (λ (s : Stage). AreInPlace s n ts) (sym (plain_stays t)) (in_configuration ts n (rest_of (is_plain t) (list_all is_plain ts) h)))

-- programs
names_inner : (ns : List (List ℕ)) → list_all is_inner (name_words ns) ≡ true
names_inner [] = refl
names_inner (n ∷ []) = refl
names_inner (n ∷ m ∷ more) = names_inner (m ∷ more)

type_inner : (t : TypeName) → list_all is_inner (mark_word Colon ∷ type_word t ∷ mark_word Semicolon ∷ []) ≡ true
type_inner (Elementary kind.Bool) = refl
type_inner (Elementary kind.Int) = refl
type_inner (Elementary kind.Time) = refl
type_inner (Block b) = refl

list_inner : (l : NameList) → list_all is_inner (list_words l) ≡ true
unfolding list_words
list_inner l = both is_inner (name_words l.names.items) (mark_word Colon ∷ type_word l.type_name ∷ mark_word Semicolon ∷ []) (names_inner l.names.items) (type_inner l.type_name)

lists_placed : (ls : List NameList) (rest : List Token) (n : ℕ) → AreInPlace stage.BodyDue n rest → AreInPlace stage.Blocks n (lists_words ls ++ rest)
lists_placed [] rest n a = ((λ e. cc, λ d. absurd cc), a)
lists_placed (l ∷ ls) rest n a =
    subst (λ (ts : List Token). AreInPlace stage.Blocks n ts) (sym (append_assoc (list_words l) (lists_words ls) rest)) (in_block (list_words l) (lists_words ls ++ rest) n (list_inner l) (lists_placed ls rest n a))

block_placed : (b : VarBlock) (rest : List Token) (n : ℕ) → n ≤ 64 → AreInPlace stage.BodyDue n rest → AreInPlace stage.BodyDue n (block_words b ++ rest)
unfolding block_words
block_placed b rest n few a = go b.section
  where
    go : (s : Section) → AreInPlace stage.BodyDue n ((section_words s ++ lists_words b.lists.items) ++ rest)
    go section.Input = ((λ e. cc, λ d. (refl, few)), lists_placed b.lists.items rest n a)
    go section.Output = ((λ e. cc, λ d. (refl, few)), lists_placed b.lists.items rest n a)
    go section.Local = ((λ e. cc, λ d. (refl, few)), lists_placed b.lists.items rest n a)
    go section.Retained = ((λ e. cc, λ d. (refl, few)), ((λ e. cc, λ d. absurd cc), lists_placed b.lists.items rest n a))

blocks_placed : (bs : List VarBlock) (rest : List Token) (n : ℕ) → n ≤ 64 → AreInPlace stage.BodyDue n rest → AreInPlace stage.BodyDue n (flat_map block_words bs ++ rest)
blocks_placed [] rest n few a = a
blocks_placed (b ∷ bs) rest n few a =
    let e : flat_map block_words (b ∷ bs) ++ rest ≡ block_words b ++ (flat_map block_words bs ++ rest) = ap (λ ts. ts ++ rest) (flat_map-cons block_words b bs) ∙ append_assoc (block_words b) (flat_map block_words bs) rest in
    subst (λ (ts : List Token). AreInPlace stage.BodyDue n ts) (sym e) (block_placed b (flat_map block_words bs ++ rest) n few (blocks_placed bs rest n few a))

program_placed : (p : Program) (rest : List Token) (n : ℕ) → n ≤ 64 → AreInPlace stage.Outside (n + 1) rest → AreInPlace stage.Outside n (program_words p ++ rest)
unfolding program_words
program_placed p rest n few a =
    let e : (flat_map block_words p.blocks.items ++ token.Body p.body ∷ key_word key.EndProgram ∷ []) ++ rest ≡ flat_map block_words p.blocks.items ++ token.Body p.body ∷ key_word key.EndProgram ∷ rest = append_assoc (flat_map block_words p.blocks.items) (token.Body p.body ∷ key_word key.EndProgram ∷ []) rest in
    let behind : AreInPlace stage.BodyDue n (token.Body p.body ∷ key_word key.EndProgram ∷ rest) = (refl, few, ((λ e. cc, λ d. absurd cc), a)) in
    let body : AreInPlace stage.BodyDue n ((flat_map block_words p.blocks.items ++ token.Body p.body ∷ key_word key.EndProgram ∷ []) ++ rest) =
    subst (λ (ts : List Token). AreInPlace stage.BodyDue n ts) (sym e) (blocks_placed p.blocks.items (token.Body p.body ∷ key_word key.EndProgram ∷ rest) n few behind) in
    ((λ e. cc, λ d. absurd cc), ((λ e. cc, λ d. absurd cc), body))

programs_placed : (ps : List Program) (rest : List Token) (n : ℕ) → n + length ps ≤ 65 → ((k : ℕ) → AreInPlace stage.Outside k rest) → AreInPlace stage.Outside n (flat_map program_words ps ++ rest)
programs_placed [] rest n few a = a n
programs_placed (p ∷ ps) rest n few a =
    let e : flat_map program_words (p ∷ ps) ++ rest ≡ program_words p ++ (flat_map program_words ps ++ rest) = ap (λ ts. ts ++ rest) (flat_map-cons program_words p ps) ∙ append_assoc (program_words p) (flat_map program_words ps) rest in
    subst (λ (ts : List Token). AreInPlace stage.Outside n ts) (sym e) (program_placed p (flat_map program_words ps ++ rest) n (omega (arith, few)) (programs_placed ps rest (n + 1) (omega (arith, few)) a))

-- the configuration
settings_plain : (o : Order) (interval priority : ℕ) → list_all is_plain (settings o interval priority) ≡ true
settings_plain IntervalFirst interval priority = refl
settings_plain PriorityFirst interval priority = refl

task_plain : (t : TaskLine) → list_all is_plain (task_words t) ≡ true
unfolding task_words
task_plain t = both is_plain (settings t.order t.interval t.priority) (mark_word Close ∷ mark_word Semicolon ∷ []) (settings_plain t.order t.interval t.priority) refl

bind_plain : (b : Bind) → list_all is_plain (bind_words b) ≡ true
unfolding bind_words
bind_plain b = go b.source
  where
    go : (s : SourceName) → list_all is_plain (source_words s) ≡ true
    go (source.Field a) = refl
    go (source.Output r i o) = refl

with_commas_plain : (bs : List Bind) → list_all is_plain (with_commas bs) ≡ true
with_commas_plain [] = refl
with_commas_plain (b ∷ []) = bind_plain b
with_commas_plain (b ∷ c ∷ bs) = both is_plain (bind_words b) (mark_word Comma ∷ with_commas (c ∷ bs)) (bind_plain b) (with_commas_plain (c ∷ bs))

binds_plain : (bs : Option (List Bind)) → list_all is_plain (binds_words bs) ≡ true
binds_plain None = refl
binds_plain (Some bs) = both is_plain (with_commas bs) (mark_word Close ∷ []) (with_commas_plain bs) refl

use_plain : (u : Use) → list_all is_plain (use_words u) ≡ true
unfolding use_words
use_plain u = both is_plain (binds_words (binds_listed u.binds)) (mark_word Semicolon ∷ []) (binds_plain (binds_listed u.binds)) refl

item_plain : (x : Item) → list_all is_plain (item_words x) ≡ true
item_plain (item.Task t) = task_plain t
item_plain (item.Use u) = use_plain u

items_plain : (xs : List Item) → list_all is_plain (items_words xs) ≡ true
items_plain [] = refl
items_plain (x ∷ xs) = both is_plain (item_words x) (items_words xs) (item_plain x) (items_plain xs)

resource_plain : (r : Resource) → list_all is_plain (resource_words r) ≡ true
unfolding resource_words
resource_plain r = items_plain r.items.items

resources_plain : (rs : List Resource) → list_all is_plain (resources_words rs) ≡ true
resources_plain [] = refl
resources_plain (r ∷ rs) = both is_plain (resource_words r) (resources_words rs) (resource_plain r) (resources_plain rs)

-- the words of a tree of at most 65 program types
pub tree_placed : (tree : Tree) → length tree.programs ≤ 65 → AreWordsInPlace (words_of tree)
unfolding words_of
tree_placed tree few =
    programs_placed tree.programs (key_word key.Configuration ∷ token.Name tree.name ∷ resources_words tree.resources) 0 (omega (arith, few))
    (λ k. ((λ e. cc, λ d. absurd cc), in_configuration (token.Name tree.name ∷ resources_words tree.resources) k (resources_plain tree.resources)))

-- and plain words behind it
pub tree_placed_before : (tree : Tree) (more : List Token) → length tree.programs ≤ 65 → list_all is_plain more ≡ true → AreWordsInPlace (words_of tree ++ more)
tree_placed_before tree more few plain =
    let end = token.Name tree.name ∷ (resources_words tree.resources ++ more) in
    subst AreWordsInPlace (sym (tree_parts_of tree more))
    (programs_placed tree.programs (key_word key.Configuration ∷ end) 0 (omega (arith, few))
    (λ k. ((λ e. cc, λ d. absurd cc), in_configuration end k (both is_plain (resources_words tree.resources) more (resources_plain tree.resources) plain))))
