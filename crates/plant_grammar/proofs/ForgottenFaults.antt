-- Judged words without their faults are the words.
use Rattle.std.proofs.Common.{◌≡◌, ℕ, ◌+◌, List, [], ◌∷◌, ◌++◌, length, map, Option, Some, None, refl, sym, ap, ◌∙◌}
use Rattle.std.specs.List.{flat_map}
use Rattle.std.proofs.lemmas.List.{map-append}
use Rattle.std.proofs.lemmas.List.Concat.{flat_map-cons}
use Rattle.declared_names.specs.declared.declarations.Kind.{Kind}
use Rattle.declared_names.specs.declared.declarations.Declaration.{Declaration}
use Rattle.plant_text.specs.declared.token.Token.{Token}
use Rattle.plant_text.specs.declared.token.Token.TheVariants as token
use Rattle.plant_text.specs.declared.token.Keyword.TheVariants as key
use Rattle.plant_text.specs.declared.token.Punctuation.TheVariants.{Open, Close, Colon, Semicolon, Comma, Assign}
use Rattle.plant_grammar.specs.declared.grammar.tree.Section.{Section}
use Rattle.plant_grammar.specs.declared.grammar.tree.NameList.{NameList}
use Rattle.plant_grammar.specs.declared.grammar.tree.VarBlock.{VarBlock}
use Rattle.plant_grammar.specs.declared.grammar.tree.Program.{Program}
use Rattle.plant_grammar.specs.declared.grammar.tree.TaskLine.{TaskLine}
use Rattle.plant_grammar.specs.declared.grammar.tree.SourceName.{SourceName}
use Rattle.plant_grammar.specs.declared.grammar.tree.SourceName.TheVariants as source
use Rattle.plant_grammar.specs.declared.grammar.tree.Bind.{Bind}
use Rattle.plant_grammar.specs.declared.grammar.tree.Use.{Use}
use Rattle.plant_grammar.specs.declared.grammar.tree.Item.{Item}
use Rattle.plant_grammar.specs.declared.grammar.tree.Item.TheVariants as item
use Rattle.plant_grammar.specs.declared.grammar.tree.Resource.{Resource}
use Rattle.plant_grammar.specs.Grammar.{Tree, key_word, mark_word, section_words, type_word, name_words, list_words, lists_words, block_words, program_words, settings, task_words, source_words, bind_words, with_commas, binds_words, binds_listed, use_words, item_words, resource_words, resources_words, words_of}
use Rattle.plant_grammar.specs.JudgedWords.{Judged, sound, sounds, in_order, listed, judged_source}
use Rattle.plant_grammar.specs.Lawful.{lists_variables, block_variables, uses_of, binds_of}
use Rattle.plant_grammar.specs.NameFaults.{judged_variable, judged_list, judged_block, judged_program, judged_task, judged_bind, judged_binds, judged_use, judged_item, judged_resource, judged_of}
use Rattle.plant_grammar.specs.Steps.SoundWords.{judged_lists, judged_names, bind_behind, item_behind}
use Rattle.plant_grammar.proofs.WordLists.{lists_end, items_end, resources_end}

-- the words
abbrev pub forget : List Judged → List Token
forget js = map (λ (j : Judged). j.word) js

pub forget_both : (xs ys : List Judged) → forget (xs ++ ys) ≡ forget xs ++ forget ys
forget_both xs ys = map-append (λ (j : Judged). j.word) xs ys

pub forget_sounds : (ts : List Token) → forget (sounds ts) ≡ ts
forget_sounds [] = refl
forget_sounds (t ∷ ts) = ap (λ (us : List Token). t ∷ us) (forget_sounds ts)

-- of things in order, and with commas between them
forget_in_order : {A : Type 0} (judge : List A → A → List Judged) (f : A → List Token) → ((before : List A) (x : A) → forget (judge before x) ≡ f x) → (before xs : List A) → forget (in_order judge before xs) ≡ flat_map f xs
forget_in_order judge f each before [] = refl
forget_in_order judge f each before (x ∷ xs) =
    forget_both (judge before x) (in_order judge (before ++ x ∷ []) xs)
    ∙ ap (λ (a : List Token). a ++ forget (in_order judge (before ++ x ∷ []) xs)) (each before x)
    ∙ ap (λ (b : List Token). f x ++ b) (forget_in_order judge f each (before ++ x ∷ []) xs)
    ∙ sym (flat_map-cons f x xs)

forget_listed : {A : Type 0} (judge : List A → A → List Judged) (f : A → List Token) (all : List A → List Token) → all [] ≡ [] → ((x : A) → all (x ∷ []) ≡ f x) → ((x y : A) (ys : List A) → all (x ∷ y ∷ ys) ≡ f x ++ mark_word Comma ∷ all (y ∷ ys))
    → ((before : List A) (x : A) → forget (judge before x) ≡ f x) → (before xs : List A) → forget (listed judge before xs) ≡ all xs
forget_listed judge f all nothing one more each before [] = sym nothing
forget_listed judge f all nothing one more each before (x ∷ []) = each before x ∙ sym (one x)
forget_listed judge f all nothing one more each before (x ∷ y ∷ ys) =
    forget_both (judge before x) (sound (mark_word Comma) ∷ listed judge (before ++ x ∷ []) (y ∷ ys))
    ∙ ap (λ (a : List Token). a ++ mark_word Comma ∷ forget (listed judge (before ++ x ∷ []) (y ∷ ys))) (each before x)
    ∙ ap (λ (b : List Token). f x ++ mark_word Comma ∷ b) (forget_listed judge f all nothing one more each (before ++ x ∷ []) (y ∷ ys))
    ∙ sym (more x y ys)

list_forgotten : (s : Section) (ds : List Declaration) (l : NameList) → forget (judged_list s ds l) ≡ list_words l
unfolding judged_list list_words
list_forgotten s ds l =
    let rest : List Token = mark_word Colon ∷ type_word l.type_name ∷ mark_word Semicolon ∷ [] in
    map-append (λ (j : Judged). j.word) (judged_names ds l.names.items) _
    ∙ ap (λ (a : List Token). a ++ rest) (forget_listed (judged_variable ds) (λ (n : List ℕ). token.Name n ∷ []) name_words refl (λ n. refl) (λ n m more. refl) (λ before n. refl) [] l.names.items)

lists_forgotten : (s : Section) (ds : List Declaration) (ls : List NameList) → forget (judged_lists s ds ls) ≡ lists_words ls
lists_forgotten s ds ls =
    forget_both (in_order (λ ms l. judged_list s (ds ++ lists_variables s ms) l) [] ls) (sound (key_word key.EndVar) ∷ [])
    ∙ ap (λ (a : List Token). a ++ key_word key.EndVar ∷ []) (forget_in_order (λ ms l. judged_list s (ds ++ lists_variables s ms) l) list_words (λ ms l. list_forgotten s (ds ++ lists_variables s ms) l) [] ls)
    ∙ sym (lists_end ls)

block_forgotten : (ds : List Declaration) (b : VarBlock) → forget (judged_block ds b) ≡ block_words b
unfolding judged_block block_words
block_forgotten ds b =
    forget_both (sounds (section_words b.section)) (judged_lists b.section ds b.lists.items)
    ∙ ap (λ (a : List Token). a ++ forget (judged_lists b.section ds b.lists.items)) (forget_sounds (section_words b.section))
    ∙ ap (λ (c : List Token). section_words b.section ++ c) (lists_forgotten b.section ds b.lists.items)

pub program_forgotten : (before : List Program) (p : Program) → forget (judged_program before p) ≡ program_words p
unfolding judged_program program_words
program_forgotten before p =
    let judge : List VarBlock → VarBlock → List Judged = λ bs b. judged_block (flat_map block_variables bs) b in
    ap (λ (r : List Token). key_word key.Program ∷ token.Name p.name ∷ r)
    (forget_both (in_order judge [] p.blocks.items) (sounds (token.Body p.body ∷ key_word key.EndProgram ∷ []))
    ∙ ap (λ (a : List Token). a ++ token.Body p.body ∷ key_word key.EndProgram ∷ []) (forget_in_order judge block_words (λ bs b. block_forgotten (flat_map block_variables bs) b) [] p.blocks.items))

task_forgotten : (before : List TaskLine) (t : TaskLine) → forget (judged_task before t) ≡ task_words t
unfolding judged_task task_words
task_forgotten before t =
    ap (λ (r : List Token). key_word key.Task ∷ token.Name t.name ∷ r) (forget_sounds (mark_word Open ∷ settings t.order t.interval t.priority ++ mark_word Close ∷ mark_word Semicolon ∷ []))

source_forgotten : (k : Option Kind) (s : SourceName) → forget (judged_source k s) ≡ source_words s
source_forgotten k (source.Field a) = refl
source_forgotten k (source.Output r i o) = refl

bind_forgotten : (ds : List Declaration) (n : ℕ) (before : List Bind) (b : Bind) → forget (judged_bind ds n before b) ≡ bind_words b
unfolding judged_bind bind_words
bind_forgotten ds n before b = ap (λ (r : List Token). token.Name b.input ∷ mark_word Assign ∷ r) (source_forgotten _ b.source)

binds_forgotten : (ds : List Declaration) (n : ℕ) (bs : Option (List Bind)) → forget (judged_binds ds n bs) ≡ binds_words bs
binds_forgotten ds n None = refl
binds_forgotten ds n (Some bs) =
    ap (λ (r : List Token). mark_word Open ∷ r) (forget_both (listed (bind_behind ds n) [] bs) (sound (mark_word Close) ∷ [])
    ∙ ap (λ (a : List Token). a ++ mark_word Close ∷ []) (forget_listed (bind_behind ds n) bind_words with_commas refl (λ b. refl) (λ b c cs. refl) (λ before b. bind_forgotten ds (n + length before) before b) [] bs))

use_forgotten : (programs : List Program) (i m : ℕ) (before : List Item) (u : Use) → forget (judged_use programs i m before u) ≡ use_words u
unfolding judged_use use_words
use_forgotten programs i m before u =
    ap (λ (r : List Token). key_word key.Program ∷ token.Name u.instance ∷ key_word key.With ∷ token.Name u.task ∷ mark_word Colon ∷ token.Name u.program ∷ r)
    (map-append (λ (j : Judged). j.word) (judged_binds _ m (binds_listed u.binds)) (sound (mark_word Semicolon) ∷ [])
    ∙ ap (λ (a : List Token). a ++ mark_word Semicolon ∷ []) (binds_forgotten _ m (binds_listed u.binds)))

item_forgotten : (programs : List Program) (i m : ℕ) (before : List Item) (x : Item) → forget (judged_item programs i m before x) ≡ item_words x
item_forgotten programs i m before (item.Task t) = task_forgotten _ t
item_forgotten programs i m before (item.Use u) = use_forgotten programs i m before u

resource_forgotten : (programs : List Program) (i m : ℕ) (before : List Resource) (r : Resource) → forget (judged_resource programs i m before r) ≡ resource_words r
unfolding judged_resource resource_words
resource_forgotten programs i m before r =
    ap (λ (ws : List Token). key_word key.Resource ∷ token.Name r.name ∷ key_word key.On ∷ token.Name r.node ∷ ws)
    (forget_both (in_order (item_behind programs i m) [] r.items.items) (sound (key_word key.EndResource) ∷ [])
    ∙ ap (λ (a : List Token). a ++ key_word key.EndResource ∷ []) (forget_in_order (item_behind programs i m) item_words (λ before x. item_forgotten programs _ _ before x) [] r.items.items)
    ∙ sym (items_end r.items.items))

-- a tree's words
pub forgotten : (t : Tree) → forget (judged_of t) ≡ words_of t
unfolding judged_of words_of
forgotten t =
    let judge : List Resource → Resource → List Judged = λ rs r. judged_resource t.programs (length (flat_map uses_of rs)) (length (flat_map binds_of (flat_map uses_of rs))) rs r in
    let end : List Judged = sound (key_word key.EndConfiguration) ∷ [] in
    let resources : forget (in_order judge [] t.resources ++ end) ≡ resources_words t.resources =
    forget_both (in_order judge [] t.resources) end
    ∙ ap (λ (a : List Token). a ++ key_word key.EndConfiguration ∷ []) (forget_in_order judge resource_words (λ rs r. resource_forgotten t.programs _ _ rs r) [] t.resources)
    ∙ sym (resources_end t.resources) in
    forget_both (in_order judged_program [] t.programs) (sounds (key_word key.Configuration ∷ token.Name t.name ∷ []) ++ (in_order judge [] t.resources ++ end))
    ∙ ap (λ (a : List Token). a ++ key_word key.Configuration ∷ token.Name t.name ∷ forget (in_order judge [] t.resources ++ end)) (forget_in_order judged_program program_words (λ ps p. program_forgotten ps p) [] t.programs)
    ∙ ap (λ (b : List Token). flat_map program_words t.programs ++ key_word key.Configuration ∷ token.Name t.name ∷ b) resources
