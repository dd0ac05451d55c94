-- The words of a tree are words.
use Rattle.std.proofs.Common.{◌≡◌, ◌≢◌, ℕ, List, [], ◌∷◌, ◌++◌, Option, Some, None, All, sym, subst}
use Rattle.std.specs.List.{flat_map}
use Rattle.std.proofs.lemmas.List.Elements.{All-nil, All-cons, All-append}
use Rattle.std.proofs.lemmas.List.Concat.{flat_map-cons}
use Rattle.declared_names.specs.declared.declarations.Kind.TheVariants as kind
use Rattle.plant_text.specs.declared.token.Token.{Token}
use Rattle.plant_text.specs.declared.token.Token.TheVariants as token
use Rattle.plant_text.specs.declared.token.Keyword.{Keyword}
use Rattle.plant_text.specs.declared.token.Keyword.TheVariants as key
use Rattle.plant_text.specs.declared.token.Punctuation.{Punctuation}
use Rattle.plant_text.specs.declared.token.Punctuation.TheVariants.{Open, Close, Colon, Semicolon, Comma, Dot, Assign}
use Rattle.plant_grammar.specs.declared.grammar.tree.Section.{Section}
use Rattle.plant_grammar.specs.declared.grammar.tree.Section.TheVariants as section
use Rattle.plant_grammar.specs.declared.grammar.tree.TypeName.{TypeName}
use Rattle.plant_grammar.specs.declared.grammar.tree.TypeName.TheVariants.{Elementary, Block}
use Rattle.plant_grammar.specs.declared.grammar.tree.NameList.{NameList}
use Rattle.plant_grammar.specs.declared.grammar.tree.VarBlock.{VarBlock}
use Rattle.plant_grammar.specs.declared.grammar.tree.Program.{Program}
use Rattle.plant_grammar.specs.declared.grammar.tree.Order.{Order}
use Rattle.plant_grammar.specs.declared.grammar.tree.Order.TheVariants.{IntervalFirst, PriorityFirst}
use Rattle.plant_grammar.specs.declared.grammar.tree.TaskLine.{TaskLine}
use Rattle.plant_grammar.specs.declared.grammar.tree.SourceName.{SourceName}
use Rattle.plant_grammar.specs.declared.grammar.tree.SourceName.TheVariants as source
use Rattle.plant_grammar.specs.declared.grammar.tree.Bind.{Bind}
use Rattle.plant_grammar.specs.declared.grammar.tree.Use.{Use}
use Rattle.plant_grammar.specs.declared.grammar.tree.Item.{Item}
use Rattle.plant_grammar.specs.declared.grammar.tree.Item.TheVariants as item
use Rattle.plant_grammar.specs.declared.grammar.tree.Resource.{Resource}
use Rattle.plant_grammar.specs.Grammar.{Tree, key_word, mark_word, section_words, type_word, name_words, list_words, lists_words, block_words, program_words, interval_words, priority_words, settings, task_words, source_words, bind_words, with_commas, binds_words, binds_listed, use_words, item_words, items_words, resource_words, resources_words, words_of}

abbrev pub IsKnown : Token → Type 0
IsKnown t = t ≢ token.Unknown

abbrev pub AreKnown : List Token → Type 0
AreKnown ts = All IsKnown ts

pub nothing : AreKnown []
nothing = All-nil IsKnown

pub key_is : (k : Keyword) → IsKnown (key_word k)
key_is k e = absurd cc

pub mark_is : (p : Punctuation) → IsKnown (mark_word p)
mark_is p e = absurd cc

pub name_is : (n : List ℕ) → IsKnown (token.Name n)
name_is n e = absurd cc

pub behind : (t : Token) (ts : List Token) → IsKnown t → AreKnown ts → AreKnown (t ∷ ts)
behind t ts one more = All-cons IsKnown t ts one more

pub both : (ts us : List Token) → AreKnown ts → AreKnown us → AreKnown (ts ++ us)
both ts us one more = All-append IsKnown ts us one more

pub all_of : {X : Type 0} (f : X → List Token) → ((x : X) → AreKnown (f x)) → (xs : List X) → AreKnown (flat_map f xs)
all_of f each [] = nothing
all_of f each (x ∷ xs) = subst AreKnown (sym (flat_map-cons f x xs)) (both (f x) (flat_map f xs) (each x) (all_of f each xs))

pub section_is : (s : Section) → AreKnown (section_words s)
section_is section.Input = behind (key_word key.VarInput) [] (key_is key.VarInput) nothing
section_is section.Output = behind (key_word key.VarOutput) [] (key_is key.VarOutput) nothing
section_is section.Local = behind (key_word key.Var) [] (key_is key.Var) nothing
section_is section.Retained = behind (key_word key.Var) (key_word key.Retain ∷ []) (key_is key.Var) (behind (key_word key.Retain) [] (key_is key.Retain) nothing)

pub type_is : (t : TypeName) → IsKnown (type_word t)
type_is (Elementary kind.Bool) e = absurd cc
type_is (Elementary kind.Int) e = absurd cc
type_is (Elementary kind.Time) e = absurd cc
type_is (Block b) e = absurd cc

pub names_are : (ns : List (List ℕ)) → AreKnown (name_words ns)
names_are [] = nothing
names_are (n ∷ []) = behind (token.Name n) [] (name_is n) nothing
names_are (n ∷ m ∷ more) = behind (token.Name n) (mark_word Comma ∷ name_words (m ∷ more)) (name_is n) (behind (mark_word Comma) (name_words (m ∷ more)) (mark_is Comma) (names_are (m ∷ more)))

pub list_is : (l : NameList) → AreKnown (list_words l)
unfolding list_words
list_is l = both (name_words l.names.items) (mark_word Colon ∷ type_word l.type_name ∷ mark_word Semicolon ∷ []) (names_are l.names.items)
    (behind (mark_word Colon) (type_word l.type_name ∷ mark_word Semicolon ∷ []) (mark_is Colon) (behind (type_word l.type_name) (mark_word Semicolon ∷ []) (type_is l.type_name) (behind (mark_word Semicolon) [] (mark_is Semicolon) nothing)))

lists_are : (ls : List NameList) → AreKnown (lists_words ls)
lists_are [] = behind (key_word key.EndVar) [] (key_is key.EndVar) nothing
lists_are (l ∷ ls) = both (list_words l) (lists_words ls) (list_is l) (lists_are ls)

pub block_is : (b : VarBlock) → AreKnown (block_words b)
unfolding block_words
block_is b = both (section_words b.section) (lists_words b.lists.items) (section_is b.section) (lists_are b.lists.items)

body_is : (b : List ℕ) → IsKnown (token.Body b)
body_is b e = absurd cc

pub program_is : (p : Program) → AreKnown (program_words p)
unfolding program_words
program_is p = let end = token.Body p.body ∷ key_word key.EndProgram ∷ [] in
    behind (key_word key.Program) (token.Name p.name ∷ flat_map block_words p.blocks.items ++ end) (key_is key.Program)
    (behind (token.Name p.name) (flat_map block_words p.blocks.items ++ end) (name_is p.name)
    (both (flat_map block_words p.blocks.items) end (all_of block_words block_is p.blocks.items)
    (behind (token.Body p.body) (key_word key.EndProgram ∷ []) (body_is p.body) (behind (key_word key.EndProgram) [] (key_is key.EndProgram) nothing))))

duration_is : (n : ℕ) → IsKnown (token.Duration n)
duration_is n e = absurd cc

number_is : (n : ℕ) → IsKnown (token.Number n)
number_is n e = absurd cc

interval_is : (n : ℕ) → AreKnown (interval_words n)
interval_is n = behind (key_word key.Interval) (mark_word Assign ∷ token.Duration n ∷ []) (key_is key.Interval) (behind (mark_word Assign) (token.Duration n ∷ []) (mark_is Assign) (behind (token.Duration n) [] (duration_is n) nothing))

priority_is : (n : ℕ) → AreKnown (priority_words n)
priority_is n = behind (key_word key.Priority) (mark_word Assign ∷ token.Number n ∷ []) (key_is key.Priority) (behind (mark_word Assign) (token.Number n ∷ []) (mark_is Assign) (behind (token.Number n) [] (number_is n) nothing))

settings_are : (o : Order) (m n : ℕ) → AreKnown (settings o m n)
settings_are IntervalFirst m n = both (interval_words m) (mark_word Comma ∷ priority_words n) (interval_is m) (behind (mark_word Comma) (priority_words n) (mark_is Comma) (priority_is n))
settings_are PriorityFirst m n = both (priority_words n) (mark_word Comma ∷ interval_words m) (priority_is n) (behind (mark_word Comma) (interval_words m) (mark_is Comma) (interval_is m))

task_is : (t : TaskLine) → AreKnown (task_words t)
unfolding task_words
task_is t = let s = settings t.order t.interval t.priority in let end = mark_word Close ∷ mark_word Semicolon ∷ [] in
    behind (key_word key.Task) (token.Name t.name ∷ mark_word Open ∷ s ++ end) (key_is key.Task)
    (behind (token.Name t.name) (mark_word Open ∷ s ++ end) (name_is t.name)
    (behind (mark_word Open) (s ++ end) (mark_is Open)
    (both s end (settings_are t.order t.interval t.priority) (behind (mark_word Close) (mark_word Semicolon ∷ []) (mark_is Close) (behind (mark_word Semicolon) [] (mark_is Semicolon) nothing)))))

source_is : (s : SourceName) → AreKnown (source_words s)
source_is (source.Field a) = behind (token.Address a) [] (λ e. address_is e) nothing where
  address_is : token.Address a ≡ token.Unknown → ⊥
  address_is e = absurd cc
source_is (source.Output r i o) =
    behind (token.Name r) (mark_word Dot ∷ token.Name i ∷ mark_word Dot ∷ token.Name o ∷ []) (name_is r)
    (behind (mark_word Dot) (token.Name i ∷ mark_word Dot ∷ token.Name o ∷ []) (mark_is Dot)
    (behind (token.Name i) (mark_word Dot ∷ token.Name o ∷ []) (name_is i)
    (behind (mark_word Dot) (token.Name o ∷ []) (mark_is Dot) (behind (token.Name o) [] (name_is o) nothing))))

pub bind_is : (b : Bind) → AreKnown (bind_words b)
unfolding bind_words
bind_is b = behind (token.Name b.input) (mark_word Assign ∷ source_words b.source) (name_is b.input) (behind (mark_word Assign) (source_words b.source) (mark_is Assign) (source_is b.source))

commas_are : (bs : List Bind) → AreKnown (with_commas bs)
commas_are [] = nothing
commas_are (b ∷ []) = bind_is b
commas_are (b ∷ c ∷ bs) = both (bind_words b) (mark_word Comma ∷ with_commas (c ∷ bs)) (bind_is b) (behind (mark_word Comma) (with_commas (c ∷ bs)) (mark_is Comma) (commas_are (c ∷ bs)))

binds_are : (bs : Option (List Bind)) → AreKnown (binds_words bs)
binds_are None = nothing
binds_are (Some bs) = behind (mark_word Open) (with_commas bs ++ mark_word Close ∷ []) (mark_is Open) (both (with_commas bs) (mark_word Close ∷ []) (commas_are bs) (behind (mark_word Close) [] (mark_is Close) nothing))

use_is : (u : Use) → AreKnown (use_words u)
unfolding use_words
use_is u = let end = binds_words (binds_listed u.binds) ++ mark_word Semicolon ∷ [] in
    behind (key_word key.Program) (token.Name u.instance ∷ key_word key.With ∷ token.Name u.task ∷ mark_word Colon ∷ token.Name u.program ∷ end) (key_is key.Program)
    (behind (token.Name u.instance) (key_word key.With ∷ token.Name u.task ∷ mark_word Colon ∷ token.Name u.program ∷ end) (name_is u.instance)
    (behind (key_word key.With) (token.Name u.task ∷ mark_word Colon ∷ token.Name u.program ∷ end) (key_is key.With)
    (behind (token.Name u.task) (mark_word Colon ∷ token.Name u.program ∷ end) (name_is u.task)
    (behind (mark_word Colon) (token.Name u.program ∷ end) (mark_is Colon)
    (behind (token.Name u.program) end (name_is u.program)
    (both (binds_words (binds_listed u.binds)) (mark_word Semicolon ∷ []) (binds_are (binds_listed u.binds)) (behind (mark_word Semicolon) [] (mark_is Semicolon) nothing)))))))

pub item_is : (x : Item) → AreKnown (item_words x)
item_is (item.Task t) = task_is t
item_is (item.Use u) = use_is u

items_are : (xs : List Item) → AreKnown (items_words xs)
items_are [] = behind (key_word key.EndResource) [] (key_is key.EndResource) nothing
items_are (x ∷ xs) = both (item_words x) (items_words xs) (item_is x) (items_are xs)

pub resource_is : (r : Resource) → AreKnown (resource_words r)
unfolding resource_words
resource_is r =
    behind (key_word key.Resource) (token.Name r.name ∷ key_word key.On ∷ token.Name r.node ∷ items_words r.items.items) (key_is key.Resource)
    (behind (token.Name r.name) (key_word key.On ∷ token.Name r.node ∷ items_words r.items.items) (name_is r.name)
    (behind (key_word key.On) (token.Name r.node ∷ items_words r.items.items) (key_is key.On)
    (behind (token.Name r.node) (items_words r.items.items) (name_is r.node) (items_are r.items.items))))

resources_are : (rs : List Resource) → AreKnown (resources_words rs)
resources_are [] = behind (key_word key.EndConfiguration) [] (key_is key.EndConfiguration) nothing
resources_are (r ∷ rs) = both (resource_words r) (resources_words rs) (resource_is r) (resources_are rs)

-- none of the words of programs is unknown
pub programs_known : (ps : List Program) → All (λ w. w ≢ token.Unknown) (flat_map program_words ps)
programs_known ps = all_of program_words program_is ps

-- none of a tree's words is unknown
pub words_known : (t : Tree) → All (λ w. w ≢ token.Unknown) (words_of t)
unfolding words_of
words_known t = let end = key_word key.Configuration ∷ token.Name t.name ∷ resources_words t.resources in
    both (flat_map program_words t.programs) end (all_of program_words program_is t.programs)
    (behind (key_word key.Configuration) (token.Name t.name ∷ resources_words t.resources) (key_is key.Configuration)
    (behind (token.Name t.name) (resources_words t.resources) (name_is t.name) (resources_are t.resources)))
