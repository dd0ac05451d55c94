-- Words have one tree: what stands behind a part of the grammar, and what the part says, follow from the words.
use Rattle.std.proofs.Common.{◌≡◌, ℕ, ◌<◌, List, [], ◌∷◌, ◌++◌, Option, None, Some, suc, length, map, take, refl, sym, ap, ◌∙◌, append_assoc, arith}
use Rattle.std.specs.Prelude.{All}
use Rattle.std.specs.List.{flat_map, enumerate_from}
use Rattle.std.proofs.lemmas.List.{map-append}
use Rattle.std.proofs.lemmas.List.Concat.{flat_map-cons}
use Rattle.std.proofs.lemmas.List.Elements.{All-head, All-tail}
use Rattle.declared_names.specs.declared.declarations.Kind.TheVariants as kind
use Rattle.declared_names.specs.declared.declarations.Declaration.{Declaration}
use Rattle.plant_text.specs.declared.token.Token.{Token}
use Rattle.plant_text.specs.declared.token.Token.TheVariants as token
use Rattle.plant_text.specs.declared.token.Keyword.TheVariants as key
use Rattle.plant_text.specs.declared.token.Punctuation.TheVariants.{Open, Close, Colon, Semicolon, Comma}
use Rattle.plant_grammar.specs.declared.grammar.tree.Section.{Section}
use Rattle.plant_grammar.specs.declared.grammar.tree.Section.TheVariants as section
use Rattle.plant_grammar.specs.declared.grammar.tree.TypeName.{TypeName}
use Rattle.plant_grammar.specs.declared.grammar.tree.TypeName.TheVariants.{Elementary, Block}
use Rattle.plant_grammar.specs.declared.grammar.tree.NameList.{NameList}
use Rattle.plant_grammar.specs.declared.grammar.tree.VarBlock.{VarBlock}
use Rattle.plant_grammar.specs.declared.grammar.tree.Program.{Program}
use Rattle.plant_grammar.specs.declared.grammar.tree.Order.{Order}
use Rattle.plant_grammar.specs.declared.grammar.tree.Order.TheVariants.{IntervalFirst, PriorityFirst}
use Rattle.plant_grammar.specs.declared.grammar.tree.TaskLine.{TaskLine}
use Rattle.plant_grammar.specs.declared.grammar.tree.SourceName.{SourceName}
use Rattle.plant_grammar.specs.declared.grammar.tree.SourceName.TheVariants as source
use Rattle.plant_grammar.specs.declared.grammar.tree.Bind.{Bind}
use Rattle.plant_grammar.specs.declared.grammar.tree.Use.{Use}
use Rattle.plant_grammar.specs.declared.grammar.tree.Item.{Item}
use Rattle.plant_grammar.specs.declared.grammar.tree.Item.TheVariants as item
use Rattle.plant_grammar.specs.declared.grammar.tree.Resource.{Resource}
use Rattle.lists.specs.Items.{items_or_none}
use Rattle.plant_grammar.specs.Grammar.{Tree, key_word, mark_word, section_words, type_word, name_words, list_words, lists_words, block_words, program_words, settings, task_words, source_words, bind_words, with_commas, binds_words, binds_listed, use_words, item_words, items_words, resource_words, resources_words, words_of}
use Rattle.plant_grammar.specs.Lawful.{declared_as, list_variables, lists_variables, block_variables, variables, task_of, use_of, binds_of, tasks_of, uses_of}
use Rattle.plant_grammar.specs.Retained.{block_sections, sections, place_if_retained, retained_places}
use Rattle.plant_grammar.specs.Parts.{UseParts, program_parts, use_parts, resource_parts, IsSameTree}
use Rattle.plant_grammar.specs.Steps.Lines.{IsNoneNext}
use Rattle.plant_grammar.specs.WellFormed.{IsProgramWellFormed}
use Rattle.plant_grammar.specs.Steps.ReadParts.{section_start, IsSectionWhole}
use Rattle.plant_grammar.specs.Steps.Reading.{AreAllPrograms}
use Rattle.plant_grammar.proofs.NewNames.{list_parts}
use Rattle.plant_grammar.proofs.WordLists.{lists_done, items_done, resources_done}

-- things one after the other
pub cons_parts : {A : Type 0} (f : A → List Token) (x : A) (xs : List A) (rest : List Token) → flat_map f (x ∷ xs) ++ rest ≡ f x ++ (flat_map f xs ++ rest)
cons_parts f x xs rest = ap (λ ts. ts ++ rest) (flat_map-cons f x xs) ∙ append_assoc (f x) (flat_map f xs) rest

-- pieces that say the same say the same together
pub flat_map_same : {A B : Type 0} (f : A → List B) (xs ys : List A) → map f xs ≡ map f ys → flat_map f xs ≡ flat_map f ys
flat_map_same f [] [] e = refl
flat_map_same f [] (y ∷ ys) e = absurd cc
flat_map_same f (x ∷ xs) [] e = absurd cc
flat_map_same f (x ∷ xs) (y ∷ ys) e =
    let first : f x ≡ f y = cc in
    let rest : map f xs ≡ map f ys = cc in
    flat_map-cons f x xs ∙ ap (λ a. a ++ flat_map f xs) first ∙ ap (λ b. f y ++ b) (flat_map_same f xs ys rest) ∙ sym (flat_map-cons f y ys)

-- things that were read are the first of those that stand there: their views are the same, and the others are left
pub first_read : {A V : Type 0} (f : A → List Token) (view : A → V) → ((x y : A) (r q : List Token) → f x ++ r ≡ f y ++ q → (view x ≡ view y) × (r ≡ q)) → (xs ys : List A) (now tail : List Token)
    → ((x : A) (q : List Token) → tail ≡ f x ++ q → ⊥) → flat_map f xs ++ now ≡ flat_map f ys ++ tail
    → (front : List A) × (more : List A) × (ys ≡ front ++ more) × (map view front ≡ map view xs) × (now ≡ flat_map f more ++ tail)
first_read f view one [] ys now tail stops e = ([], ys, refl, refl, e)
first_read f view one (x ∷ xs) [] now tail stops e = absurd (stops x (flat_map f xs ++ now) (sym e ∙ cons_parts f x xs now))
first_read f view one (x ∷ xs) (y ∷ ys) now tail stops e =
    let same = one x y (flat_map f xs ++ now) (flat_map f ys ++ tail) (sym (cons_parts f x xs now) ∙ e ∙ cons_parts f y ys tail) in
    let r = first_read f view one xs ys now tail stops same.1 in
    let whole : y ∷ ys ≡ (y ∷ r.0) ++ r.1 = ap (λ zs. y ∷ zs) r.2 in
    let views : view y ∷ map view r.0 ≡ view x ∷ map view xs = cc (same.0, r.3) in
    (y ∷ r.0, r.1, whole, views, r.4)

-- none is left where none follows
none_left : {A : Type 0} (f : A → List Token) (more : List A) (now tail : List Token) → ((x : A) (q : List Token) → now ≡ f x ++ q → ⊥) → now ≡ flat_map f more ++ tail → (more ≡ []) × (now ≡ tail)
none_left f [] now tail stops e = (refl, e)
none_left f (x ∷ more) now tail stops e = absurd (stops x (flat_map f more ++ tail) (e ∙ cons_parts f x more tail))

-- one is left where it doesn't end
one_left : {A : Type 0} (f : A → List Token) (more : List A) (now tail : List Token) → (now ≡ tail → ⊥) → now ≡ flat_map f more ++ tail → (x : A) × (xs : List A) × (more ≡ x ∷ xs) × (now ≡ f x ++ (flat_map f xs ++ tail))
one_left f [] now tail goes_on e = absurd (goes_on e)
one_left f (x ∷ more) now tail goes_on e = (x, more, refl, e ∙ cons_parts f x more tail)

-- all of them were read, and what is left is what stands behind them
pub all_read : {A V : Type 0} (f : A → List Token) (view : A → V) → ((x y : A) (r q : List Token) → f x ++ r ≡ f y ++ q → (view x ≡ view y) × (r ≡ q)) → (xs ys : List A) (start now tail : List Token)
    → ((x : A) (q : List Token) → now ≡ f x ++ q → ⊥) → ((x : A) (q : List Token) → tail ≡ f x ++ q → ⊥) → start ≡ flat_map f xs ++ now → start ≡ flat_map f ys ++ tail → (map view xs ≡ map view ys) × (now ≡ tail)
all_read f view one xs ys start now tail ends stops e h =
    let r = first_read f view one xs ys now tail stops (sym e ∙ h) in
    let l = none_left f r.1 now tail ends r.4 in
    (sym (ap (map view) r.2 ∙ map-append view r.0 r.1 ∙ ap (λ zs. map view r.0 ++ map view zs) l.0 ∙ nil_behind (map view r.0) ∙ r.3), l.1)
  where
    nil_behind : {B : Type 0} (zs : List B) → zs ++ [] ≡ zs
    nil_behind [] = refl
    nil_behind (z ∷ zs) = ap (λ ws. z ∷ ws) (nil_behind zs)

-- the next of them stands there, behind those that were read
pub next_read : {A V : Type 0} (f : A → List Token) (view : A → V) → ((x y : A) (r q : List Token) → f x ++ r ≡ f y ++ q → (view x ≡ view y) × (r ≡ q)) → (xs ys : List A) (start now tail : List Token)
    → (now ≡ tail → ⊥) → ((x : A) (q : List Token) → tail ≡ f x ++ q → ⊥) → start ≡ flat_map f xs ++ now → start ≡ flat_map f ys ++ tail
    → (front : List A) × (x : A) × (more : List A) × (ys ≡ front ++ x ∷ more) × (map view front ≡ map view xs) × (now ≡ f x ++ (flat_map f more ++ tail))
next_read f view one xs ys start now tail goes_on stops e h =
    let r = first_read f view one xs ys now tail stops (sym e ∙ h) in
    let l = one_left f r.1 now tail goes_on r.4 in
    (r.0, l.0, l.1, r.2 ∙ ap (λ zs. r.0 ++ zs) l.2, r.3, l.3)

-- declarations
one_names : (ns ms : List (List ℕ)) (r q : List Token) → name_words ns ++ mark_word Colon ∷ r ≡ name_words ms ++ mark_word Colon ∷ q → (ns ≡ ms) × (r ≡ q)
one_names [] [] r q e = let rest : r ≡ q = cc in (refl, rest)
one_names [] (m ∷ []) r q e = absurd cc
one_names [] (m ∷ k ∷ ms) r q e = absurd cc
one_names (n ∷ []) [] r q e = absurd cc
one_names (n ∷ x ∷ ns) [] r q e = absurd cc
one_names (n ∷ []) (m ∷ []) r q e = let same : n ≡ m = cc in let rest : r ≡ q = cc in (ap (λ x. x ∷ []) same, rest)
one_names (n ∷ []) (m ∷ k ∷ ms) r q e = absurd cc
one_names (n ∷ x ∷ ns) (m ∷ []) r q e = absurd cc
one_names (n ∷ x ∷ ns) (m ∷ k ∷ ms) r q e =
    let same : n ≡ m = cc in
    let left : name_words (x ∷ ns) ++ mark_word Colon ∷ r ≡ name_words (k ∷ ms) ++ mark_word Colon ∷ q = cc in
    let more = one_names (x ∷ ns) (k ∷ ms) r q left in
    let all : n ∷ x ∷ ns ≡ m ∷ k ∷ ms = cc (same, more.0) in
    (all, more.1)

abbrev type_of : Token → Option TypeName
type_of (token.Keyword key.Bool) = Some (Elementary kind.Bool)
type_of (token.Keyword key.Int) = Some (Elementary kind.Int)
type_of (token.Keyword key.Time) = Some (Elementary kind.Time)
type_of (token.Block b) = Some (Block b)
type_of _ = None

type_told : (t : TypeName) → type_of (type_word t) ≡ Some t
type_told (Elementary kind.Bool) = refl
type_told (Elementary kind.Int) = refl
type_told (Elementary kind.Time) = refl
type_told (Block b) = refl

one_type : (t u : TypeName) → type_word t ≡ type_word u → t ≡ u
one_type t u e = let told : Some t ≡ Some u = sym (type_told t) ∙ ap type_of e ∙ type_told u in cc

pub one_list : (s : Section) (l m : NameList) (r q : List Token) → list_words l ++ r ≡ list_words m ++ q → (list_variables s l ≡ list_variables s m) × (r ≡ q)
one_list s l m r q e =
    let parts = sym (list_parts l (list_words l ++ r) r refl) ∙ list_parts m (list_words l ++ r) q e in
    let names = one_names l.names.items m.names.items (type_word l.type_name ∷ mark_word Semicolon ∷ r) (type_word m.type_name ∷ mark_word Semicolon ∷ q) parts in
    let type : type_word l.type_name ≡ type_word m.type_name = cc (names.1) in
    let rest : r ≡ q = cc (names.1) in (
      ap (λ (ns : List (List ℕ)). map (λ (n : List ℕ). record { name = n; declared = declared_as s l.type_name }) ns) names.0
          ∙ ap (λ (t : TypeName). map (λ (n : List ℕ). record { name = n; declared = declared_as s t }) m.names.items) (one_type l.type_name m.type_name type),
      rest,
    )

pub list_stops : (rest : List Token) (l : NameList) (q : List Token) → key_word key.EndVar ∷ rest ≡ list_words l ++ q → ⊥
list_stops rest l q e = go l.names.items (list_parts l (key_word key.EndVar ∷ rest) q e)
  where
    go : (ns : List (List ℕ)) → key_word key.EndVar ∷ rest ≡ name_words ns ++ mark_word Colon ∷ (type_word l.type_name ∷ mark_word Semicolon ∷ q) → ⊥
    go [] h = cc
    go (n ∷ []) h = cc
    go (n ∷ m ∷ ns) h = cc

pub lists_parts : (ls : List NameList) (rest : List Token) → lists_words ls ++ rest ≡ flat_map list_words ls ++ key_word key.EndVar ∷ rest
lists_parts ls rest = sym (lists_done ls (flat_map list_words ls ++ key_word key.EndVar ∷ rest) (key_word key.EndVar ∷ rest) rest refl refl)

one_lists : (s : Section) (ls ms : List NameList) (r q : List Token) → lists_words ls ++ r ≡ lists_words ms ++ q → (lists_variables s ls ≡ lists_variables s ms) × (r ≡ q)
one_lists s ls ms r q e =
    let a = all_read list_words (list_variables s) (one_list s) ls ms (lists_words ls ++ r) (key_word key.EndVar ∷ r) (key_word key.EndVar ∷ q) (list_stops r) (list_stops q) (lists_parts ls r) (e ∙ lists_parts ms q) in
    let rest : r ≡ q = cc (a.1) in
    (flat_map_same (list_variables s) ls ms a.0, rest)

-- lists begin with no RETAIN
lists_no_retain : (ls : List NameList) (rest q : List Token) → lists_words ls ++ rest ≡ key_word key.Retain ∷ q → ⊥
lists_no_retain [] rest q e = cc
lists_no_retain (l ∷ ls) rest q e = go l.names.items (sym (list_parts l (key_word key.Retain ∷ q) (lists_words ls ++ rest) (sym e ∙ append_assoc (list_words l) (lists_words ls) rest)))
  where
    go : (ns : List (List ℕ)) → name_words ns ++ mark_word Colon ∷ (type_word l.type_name ∷ mark_word Semicolon ∷ (lists_words ls ++ rest)) ≡ key_word key.Retain ∷ q → ⊥
    go [] h = cc
    go (n ∷ []) h = cc
    go (n ∷ m ∷ ns) h = cc

pub lists_whole : (s : Section) (ls : List NameList) (rest : List Token) → IsSectionWhole s (lists_words ls ++ rest)
lists_whole section.Input ls rest = tt
lists_whole section.Output ls rest = tt
lists_whole section.Local ls rest = lists_no_retain ls rest
lists_whole section.Retained ls rest = tt

-- words begin with those of one section
pub one_section : (s t : Section) (r q : List Token) → IsSectionWhole s r → IsSectionWhole t q → section_words s ++ r ≡ section_words t ++ q → (s ≡ t) × (r ≡ q)
one_section section.Input section.Input r q h k e = let rest : r ≡ q = cc in (refl, rest)
one_section section.Input section.Output r q h k e = absurd cc
one_section section.Input section.Local r q h k e = absurd cc
one_section section.Input section.Retained r q h k e = absurd cc
one_section section.Output section.Input r q h k e = absurd cc
one_section section.Output section.Output r q h k e = let rest : r ≡ q = cc in (refl, rest)
one_section section.Output section.Local r q h k e = absurd cc
one_section section.Output section.Retained r q h k e = absurd cc
one_section section.Local section.Input r q h k e = absurd cc
one_section section.Local section.Output r q h k e = absurd cc
one_section section.Local section.Local r q h k e = let rest : r ≡ q = cc in (refl, rest)
one_section section.Local section.Retained r q h k e = let rest : r ≡ key_word key.Retain ∷ q = cc in absurd (h q rest)
one_section section.Retained section.Input r q h k e = absurd cc
one_section section.Retained section.Output r q h k e = absurd cc
one_section section.Retained section.Local r q h k e = let rest : q ≡ key_word key.Retain ∷ r = cc in absurd (k r rest)
one_section section.Retained section.Retained r q h k e = let rest : r ≡ q = cc in (refl, rest)

pub block_parts_of : (b : VarBlock) (rest : List Token) → block_words b ++ rest ≡ section_words b.section ++ (lists_words b.lists.items ++ rest)
unfolding block_words
block_parts_of b rest = append_assoc (section_words b.section) (lists_words b.lists.items) rest

-- what a block says: its section, and its variables
abbrev block_parts : VarBlock → Section × List Declaration
block_parts b = (b.section, block_variables b)

one_block_whole : (b c : VarBlock) (r q : List Token) → block_words b ++ r ≡ block_words c ++ q → (block_parts b ≡ block_parts c) × (r ≡ q)
one_block_whole b c r q e =
    let words : section_words b.section ++ (lists_words b.lists.items ++ r) ≡ section_words c.section ++ (lists_words c.lists.items ++ q) = sym (block_parts_of b r) ∙ e ∙ block_parts_of c q in
    let s = one_section b.section c.section (lists_words b.lists.items ++ r) (lists_words c.lists.items ++ q) (lists_whole b.section b.lists.items r) (lists_whole c.section c.lists.items q) words in
    let l = one_lists b.section b.lists.items c.lists.items r q s.1 in
    let declared : block_variables b ≡ block_variables c = l.0 ∙ ap (λ (t : Section). lists_variables t c.lists.items) s.0 in
    ((λ i. (s.0 i, declared i)), l.1)

pub one_block : (b c : VarBlock) (r q : List Token) → block_words b ++ r ≡ block_words c ++ q → (block_variables b ≡ block_variables c) × (r ≡ q)
one_block b c r q e = let both = one_block_whole b c r q e in (ap (λ (p : Section × List Declaration). p.1) both.0, both.1)

-- the first word of a section
pub section_starts : (s : Section) (rest : List Token) → (more : List Token) × (section_words s ++ rest ≡ section_start s ∷ more)
section_starts section.Input rest = (rest, refl)
section_starts section.Output rest = (rest, refl)
section_starts section.Local rest = (rest, refl)
section_starts section.Retained rest = (key_word key.Retain ∷ rest, refl)

-- no block stands where no section begins
pub block_stops : (tail : List Token) → IsNoneNext section_start tail → (b : VarBlock) (q : List Token) → tail ≡ block_words b ++ q → ⊥
block_stops tail none b q e =
    let first = section_starts b.section (lists_words b.lists.items ++ q) in
    none b.section first.0 (e ∙ block_parts_of b q ∙ first.1)

pub body_no_section : (body : List ℕ) (rest : List Token) → IsNoneNext section_start (token.Body body ∷ rest)
body_no_section body rest section.Input q e = cc
body_no_section body rest section.Output q e = cc
body_no_section body rest section.Local q e = cc
body_no_section body rest section.Retained q e = cc

-- what follows from what two lists say is the same
same_further : {A B C : Type 0} (f : A → B) (g : B → C) (xs ys : List A) → map f xs ≡ map f ys → map (λ (x : A). g (f x)) xs ≡ map (λ (x : A). g (f x)) ys
same_further f g [] [] e = refl
same_further f g [] (y ∷ ys) e = absurd cc
same_further f g (x ∷ xs) [] e = absurd cc
same_further {A} {B} {C} f g (x ∷ xs) (y ∷ ys) e =
    let first : f x ≡ f y = cc in
    let rest : map f xs ≡ map f ys = cc in
    ap (λ (c : C). c ∷ map (λ (a : A). g (f a)) xs) (ap g first) ∙ ap (λ zs. g (f y) ∷ zs) (same_further f g xs ys rest)

pub program_parts_of : (p : Program) (rest : List Token) → program_words p ++ rest ≡ key_word key.Program ∷ token.Name p.name ∷ (flat_map block_words p.blocks.items ++ token.Body p.body ∷ key_word key.EndProgram ∷ rest)
unfolding program_words
program_parts_of p rest = ap (λ ts. key_word key.Program ∷ token.Name p.name ∷ ts) (append_assoc (flat_map block_words p.blocks.items) (token.Body p.body ∷ key_word key.EndProgram ∷ []) rest)

pub one_program : (p w : Program) (r q : List Token) → program_words p ++ r ≡ program_words w ++ q → (program_parts p ≡ program_parts w) × (r ≡ q)
one_program p w r q e =
    let h = sym (program_parts_of p r) ∙ e ∙ program_parts_of w q in
    let name : p.name ≡ w.name = cc (h) in
    let blocks : flat_map block_words p.blocks.items ++ token.Body p.body ∷ key_word key.EndProgram ∷ r ≡ flat_map block_words w.blocks.items ++ token.Body w.body ∷ key_word key.EndProgram ∷ q = cc (h) in
    let a = all_read block_words block_parts one_block_whole p.blocks.items w.blocks.items (flat_map block_words p.blocks.items ++ token.Body p.body ∷ key_word key.EndProgram ∷ r) (token.Body p.body ∷ key_word key.EndProgram ∷ r) (token.Body w.body ∷ key_word key.EndProgram ∷ q)
    (block_stops (token.Body p.body ∷ key_word key.EndProgram ∷ r) (body_no_section p.body (key_word key.EndProgram ∷ r))) (block_stops (token.Body w.body ∷ key_word key.EndProgram ∷ q) (body_no_section w.body (key_word key.EndProgram ∷ q))) refl blocks in
    let declarations : variables p ≡ variables w = flat_map_same block_variables p.blocks.items w.blocks.items (same_further block_parts (λ x. x.1) p.blocks.items w.blocks.items a.0) in
    let marked : sections p ≡ sections w = flat_map_same block_sections p.blocks.items w.blocks.items (same_further block_parts (λ x. map (λ (v : Declaration). x.0) x.1) p.blocks.items w.blocks.items a.0) in
    let retained : retained_places p ≡ retained_places w = ap (λ (ss : List Section). flat_map (λ (e : ℕ × Section). place_if_retained e.0 e.1) (enumerate_from 0 ss)) marked in
    let body : p.body ≡ w.body = cc (a.1) in
    let rest : r ≡ q = cc (a.1) in
    ((λ i. record { name = name i; declarations = declarations i; retained = retained i; body = body i }), rest)

-- no program stands where PROGRAM doesn't
pub program_stops : (tail : List Token) → ((q : List Token) → tail ≡ key_word key.Program ∷ q → ⊥) → (p : Program) (q : List Token) → tail ≡ program_words p ++ q → ⊥
unfolding program_words
program_stops tail none p q e = none _ e

-- tasks and instances
one_settings : (o p : Order) (i n j m : ℕ) (r q : List Token) → settings o i n ++ r ≡ settings p j m ++ q → (o ≡ p) × (i ≡ j) × (n ≡ m) × (r ≡ q)
one_settings IntervalFirst IntervalFirst i n j m r q e = let a : i ≡ j = cc in let b : n ≡ m = cc in let c : r ≡ q = cc in (refl, a, b, c)
one_settings IntervalFirst PriorityFirst i n j m r q e = absurd cc
one_settings PriorityFirst IntervalFirst i n j m r q e = absurd cc
one_settings PriorityFirst PriorityFirst i n j m r q e = let a : i ≡ j = cc in let b : n ≡ m = cc in let c : r ≡ q = cc in (refl, a, b, c)

pub task_parts : (t : TaskLine) (rest : List Token) → task_words t ++ rest ≡ key_word key.Task ∷ token.Name t.name ∷ mark_word Open ∷ (settings t.order t.interval t.priority ++ mark_word Close ∷ mark_word Semicolon ∷ rest)
unfolding task_words
task_parts t rest = ap (λ ts. key_word key.Task ∷ token.Name t.name ∷ mark_word Open ∷ ts) (append_assoc (settings t.order t.interval t.priority) (mark_word Close ∷ mark_word Semicolon ∷ []) rest)

one_task : (t u : TaskLine) (r q : List Token) → task_words t ++ r ≡ task_words u ++ q → (t ≡ u) × (r ≡ q)
one_task t u r q e =
    let h = sym (task_parts t r) ∙ e ∙ task_parts u q in
    let name : t.name ≡ u.name = cc (h) in
    let left : settings t.order t.interval t.priority ++ mark_word Close ∷ mark_word Semicolon ∷ r ≡ settings u.order u.interval u.priority ++ mark_word Close ∷ mark_word Semicolon ∷ q = cc (h) in
    let s = one_settings t.order u.order t.interval t.priority u.interval u.priority (mark_word Close ∷ mark_word Semicolon ∷ r) (mark_word Close ∷ mark_word Semicolon ∷ q) left in
    let order = s.0 in
    let interval = s.1 in
    let priority = s.2 in
    let rest : r ≡ q = cc (s.3) in
    ((λ i. record { name = name i; order = order i; interval = interval i; priority = priority i }), rest)

one_source : (s t : SourceName) (r q : List Token) → source_words s ++ r ≡ source_words t ++ q → (s ≡ t) × (r ≡ q)
one_source (source.Field a) (source.Field b) r q e = let same : a ≡ b = cc in let rest : r ≡ q = cc in (ap source.Field same, rest)
one_source (source.Field a) (source.Output x i o) r q e = absurd cc
one_source (source.Output x i o) (source.Field a) r q e = absurd cc
one_source (source.Output x i o) (source.Output y j p) r q e =
    let first : x ≡ y = cc in
    let second : i ≡ j = cc in
    let third : o ≡ p = cc in
    let rest : r ≡ q = cc in
    let all : source.Output x i o ≡ source.Output y j p = cc (first, second, third) in
    (all, rest)

pub one_bind : (b c : Bind) (r q : List Token) → bind_words b ++ r ≡ bind_words c ++ q → (b ≡ c) × (r ≡ q)
unfolding bind_words
one_bind b c r q e =
    let input : b.input ≡ c.input = cc in
    let left : source_words b.source ++ r ≡ source_words c.source ++ q = cc in
    let s = one_source b.source c.source r q left in
    let source = s.0 in
    ((λ i. record { input = input i; source = source i }), s.1)

-- the words behind binds that are read, where these are still to be read, up to the parenthesis
abbrev pub binds_left : List Bind → List Token → List Token
binds_left [] rest = mark_word Close ∷ rest
binds_left (b ∷ more) rest = mark_word Comma ∷ (with_commas (b ∷ more) ++ mark_word Close ∷ rest)

pub first_bind_words : (b : Bind) (more : List Bind) (rest : List Token) → with_commas (b ∷ more) ++ mark_word Close ∷ rest ≡ bind_words b ++ binds_left more rest
first_bind_words b [] rest = refl
first_bind_words b (c ∷ more) rest = append_assoc (bind_words b) (mark_word Comma ∷ with_commas (c ∷ more)) (mark_word Close ∷ rest)

no_bind : (b : Bind) (r q : List Token) → mark_word Close ∷ q ≡ bind_words b ++ r → ⊥
unfolding bind_words
no_bind b r q e = cc

-- binds that are read are the first of those that stand there
pub binds_split : (read bs : List Bind) (now rest : List Token) → 0 < length read → with_commas read ++ now ≡ with_commas bs ++ mark_word Close ∷ rest → (more : List Bind) × (bs ≡ read ++ more) × (now ≡ binds_left more rest)
binds_split [] bs now rest some e = absurd (omega arith)
binds_split (b ∷ []) [] now rest some e = absurd (no_bind b now rest (sym e))
binds_split (b ∷ []) (c ∷ cs) now rest some e =
    let one = one_bind b c now (binds_left cs rest) (e ∙ first_bind_words c cs rest) in
    (cs, ap (λ (x : Bind). x ∷ cs) (sym one.0), one.1)
binds_split (b ∷ d ∷ read) [] now rest some e = absurd (no_bind b (mark_word Comma ∷ with_commas (d ∷ read) ++ now) rest (sym (sym (append_assoc (bind_words b) (mark_word Comma ∷ with_commas (d ∷ read)) now) ∙ e)))
binds_split (b ∷ d ∷ read) (c ∷ []) now rest some e =
    let one = one_bind b c (mark_word Comma ∷ with_commas (d ∷ read) ++ now) (mark_word Close ∷ rest) (sym (append_assoc (bind_words b) (mark_word Comma ∷ with_commas (d ∷ read)) now) ∙ e) in
    absurd (let h = one.1 in cc)
binds_split (b ∷ d ∷ read) (c ∷ x ∷ cs) now rest some e =
    let one = one_bind b c (mark_word Comma ∷ with_commas (d ∷ read) ++ now) (mark_word Comma ∷ (with_commas (x ∷ cs) ++ mark_word Close ∷ rest)) (sym (append_assoc (bind_words b) (mark_word Comma ∷ with_commas (d ∷ read)) now) ∙ e ∙ first_bind_words c (x ∷ cs) rest) in
    let left : with_commas (d ∷ read) ++ now ≡ with_commas (x ∷ cs) ++ mark_word Close ∷ rest = cc (one.1) in
    let r = binds_split (d ∷ read) (x ∷ cs) now rest (omega arith) left in
    (r.0, ap (λ (y : Bind). y ∷ x ∷ cs) (sym one.0) ∙ ap (λ (ys : List Bind). b ∷ ys) r.1, r.2)

-- behind the last bind stands the parenthesis
pub last_bind : (more : List Bind) (now rest : List Token) → now ≡ binds_left more rest → ((mid : List Token) → now ≡ mark_word Comma ∷ mid → ⊥) → (more ≡ []) × (now ≡ mark_word Close ∷ rest)
last_bind [] now rest e refuses = (refl, e)
last_bind (b ∷ more) now rest e refuses = absurd (refuses (with_commas (b ∷ more) ++ mark_word Close ∷ rest) e)

pub one_binds : (bs cs : List Bind) (r q : List Token) → with_commas bs ++ mark_word Close ∷ r ≡ with_commas cs ++ mark_word Close ∷ q → (bs ≡ cs) × (r ≡ q)
one_binds [] [] r q e = let rest : r ≡ q = cc in (refl, rest)
one_binds [] (c ∷ cs) r q e = absurd (no_bind c (binds_left cs q) r (e ∙ first_bind_words c cs q))
one_binds (b ∷ bs) cs r q e =
    let s = binds_split (b ∷ bs) cs (mark_word Close ∷ r) q (omega arith) e in
    let l = last_bind s.0 (mark_word Close ∷ r) q s.2 (λ mid h. cc) in
    let rest : r ≡ q = cc (l.1) in
    (sym (s.1 ∙ ap (λ (ms : List Bind). (b ∷ bs) ++ ms) l.0 ∙ nil_behind (b ∷ bs)), rest)
  where
    nil_behind : (zs : List Bind) → zs ++ [] ≡ zs
    nil_behind [] = refl
    nil_behind (z ∷ zs) = ap (λ ws. z ∷ ws) (nil_behind zs)

pub one_listed : (bs cs : Option (List Bind)) (r q : List Token) → binds_words bs ++ mark_word Semicolon ∷ r ≡ binds_words cs ++ mark_word Semicolon ∷ q → (items_or_none bs ≡ items_or_none cs) × (r ≡ q)
one_listed None None r q e = let rest : r ≡ q = cc in (refl, rest)
one_listed None (Some cs) r q e = absurd cc
one_listed (Some bs) None r q e = absurd cc
one_listed (Some bs) (Some cs) r q e =
    let left : (with_commas bs ++ mark_word Close ∷ []) ++ mark_word Semicolon ∷ r ≡ (with_commas cs ++ mark_word Close ∷ []) ++ mark_word Semicolon ∷ q = cc in
    let b = one_binds bs cs (mark_word Semicolon ∷ r) (mark_word Semicolon ∷ q) (sym (append_assoc (with_commas bs) (mark_word Close ∷ []) (mark_word Semicolon ∷ r)) ∙ left ∙ append_assoc (with_commas cs) (mark_word Close ∷ []) (mark_word Semicolon ∷ q)) in
    let rest : r ≡ q = cc (b.1) in
    (b.0, rest)

pub use_parts_of : (u : Use) (rest : List Token) → use_words u ++ rest ≡ key_word key.Program ∷ token.Name u.instance ∷ key_word key.With ∷ token.Name u.task ∷ mark_word Colon ∷ token.Name u.program ∷ (binds_words (binds_listed u.binds) ++ mark_word Semicolon ∷ rest)
unfolding use_words
use_parts_of u rest =
    ap (λ ts. key_word key.Program ∷ token.Name u.instance ∷ key_word key.With ∷ token.Name u.task ∷ mark_word Colon ∷ token.Name u.program ∷ ts) (append_assoc (binds_words (binds_listed u.binds)) (mark_word Semicolon ∷ []) rest)

one_use : (u v : Use) (r q : List Token) → use_words u ++ r ≡ use_words v ++ q → (use_parts u ≡ use_parts v) × (r ≡ q)
one_use u v r q e =
    let h = sym (use_parts_of u r) ∙ e ∙ use_parts_of v q in
    let instance : u.instance ≡ v.instance = cc (h) in
    let task : u.task ≡ v.task = cc (h) in
    let program : u.program ≡ v.program = cc (h) in
    let left : binds_words (binds_listed u.binds) ++ mark_word Semicolon ∷ r ≡ binds_words (binds_listed v.binds) ++ mark_word Semicolon ∷ q = cc (h) in
    let b = one_listed (binds_listed u.binds) (binds_listed v.binds) r q left in
    let binds : binds_of u ≡ binds_of v = b.0 in
    ((λ i. record { instance = instance i; task = task i; program = program i; binds = binds i }), b.1)

-- what a line of a resource says
pub record ItemParts : Type 0 where
  pub tasks : List TaskLine
  pub uses : List UseParts

abbrev pub item_parts : Item → ItemParts
item_parts x = record { tasks = task_of x; uses = map use_parts (use_of x) }

pub task_no_use : (t : TaskLine) (u : Use) (r q : List Token) → task_words t ++ r ≡ use_words u ++ q → ⊥
task_no_use t u r q e = let h = sym (task_parts t r) ∙ e ∙ use_parts_of u q in cc

pub one_item : (x y : Item) (r q : List Token) → item_words x ++ r ≡ item_words y ++ q → (item_parts x ≡ item_parts y) × (r ≡ q)
one_item (item.Task t) (item.Task u) r q e = let o = one_task t u r q e in (ap (λ (w : TaskLine). item_parts (item.Task w)) o.0, o.1)
one_item (item.Task t) (item.Use u) r q e = absurd (task_no_use t u r q e)
one_item (item.Use u) (item.Task t) r q e = absurd (task_no_use t u q r (sym e))
one_item (item.Use u) (item.Use v) r q e = let o = one_use u v r q e in (ap (λ (w : UseParts). record { tasks = []; uses = w ∷ [] }) o.0, o.1)

pub item_stops : (rest : List Token) (x : Item) (q : List Token) → key_word key.EndResource ∷ rest ≡ item_words x ++ q → ⊥
item_stops rest (item.Task t) q e = let h = e ∙ task_parts t q in cc
item_stops rest (item.Use u) q e = let h = e ∙ use_parts_of u q in cc

pub items_parts : (xs : List Item) (rest : List Token) → items_words xs ++ rest ≡ flat_map item_words xs ++ key_word key.EndResource ∷ rest
items_parts xs rest = sym (items_done xs (flat_map item_words xs ++ key_word key.EndResource ∷ rest) (key_word key.EndResource ∷ rest) rest refl refl)

-- lines that say the same have the same tasks, and instances that say the same
pub same_tasks : (xs ys : List Item) → map item_parts xs ≡ map item_parts ys → flat_map task_of xs ≡ flat_map task_of ys
same_tasks [] [] e = refl
same_tasks [] (y ∷ ys) e = absurd cc
same_tasks (x ∷ xs) [] e = absurd cc
same_tasks (x ∷ xs) (y ∷ ys) e =
    let first : item_parts x ≡ item_parts y = cc in
    let rest : map item_parts xs ≡ map item_parts ys = cc in
    flat_map-cons task_of x xs ∙ ap (λ a. a ++ flat_map task_of xs) (ap (λ (p : ItemParts). p.tasks) first) ∙ ap (λ b. task_of y ++ b) (same_tasks xs ys rest) ∙ sym (flat_map-cons task_of y ys)

pub same_uses : (xs ys : List Item) → map item_parts xs ≡ map item_parts ys → map use_parts (flat_map use_of xs) ≡ map use_parts (flat_map use_of ys)
same_uses [] [] e = refl
same_uses [] (y ∷ ys) e = absurd cc
same_uses (x ∷ xs) [] e = absurd cc
same_uses (x ∷ xs) (y ∷ ys) e =
    let first : item_parts x ≡ item_parts y = cc in
    let rest : map item_parts xs ≡ map item_parts ys = cc in
    ap (map use_parts) (flat_map-cons use_of x xs) ∙ map-append use_parts (use_of x) (flat_map use_of xs)
    ∙ ap (λ a. a ++ map use_parts (flat_map use_of xs)) (ap (λ (p : ItemParts). p.uses) first) ∙ ap (λ b. map use_parts (use_of y) ++ b) (same_uses xs ys rest)
    ∙ sym (ap (map use_parts) (flat_map-cons use_of y ys) ∙ map-append use_parts (use_of y) (flat_map use_of ys))

-- resources
pub resource_parts_of : (x : Resource) (rest : List Token) → resource_words x ++ rest ≡ key_word key.Resource ∷ token.Name x.name ∷ key_word key.On ∷ token.Name x.node ∷ (flat_map item_words x.items.items ++ key_word key.EndResource ∷ rest)
unfolding resource_words
resource_parts_of x rest = ap (λ ts. key_word key.Resource ∷ token.Name x.name ∷ key_word key.On ∷ token.Name x.node ∷ ts) (items_parts x.items.items rest)

pub one_resource : (x y : Resource) (r q : List Token) → resource_words x ++ r ≡ resource_words y ++ q → (resource_parts x ≡ resource_parts y) × (r ≡ q)
one_resource x y r q e =
    let h = sym (resource_parts_of x r) ∙ e ∙ resource_parts_of y q in
    let name : x.name ≡ y.name = cc (h) in
    let node : x.node ≡ y.node = cc (h) in
    let left : flat_map item_words x.items.items ++ key_word key.EndResource ∷ r ≡ flat_map item_words y.items.items ++ key_word key.EndResource ∷ q = cc (h) in
    let a = all_read item_words item_parts one_item x.items.items y.items.items (flat_map item_words x.items.items ++ key_word key.EndResource ∷ r) (key_word key.EndResource ∷ r) (key_word key.EndResource ∷ q) (item_stops r) (item_stops q) refl left in
    let tasks : tasks_of x ≡ tasks_of y = same_tasks x.items.items y.items.items a.0 in
    let uses : map use_parts (uses_of x) ≡ map use_parts (uses_of y) = same_uses x.items.items y.items.items a.0 in
    let rest : r ≡ q = cc (a.1) in
    ((λ i. record { name = name i; node = node i; tasks = tasks i; uses = uses i }), rest)

pub resource_stops : (rest : List Token) (x : Resource) (q : List Token) → key_word key.EndConfiguration ∷ rest ≡ resource_words x ++ q → ⊥
resource_stops rest x q e = let h = e ∙ resource_parts_of x q in cc

pub resources_parts : (xs : List Resource) (rest : List Token) → resources_words xs ++ rest ≡ flat_map resource_words xs ++ key_word key.EndConfiguration ∷ rest
resources_parts xs rest = sym (resources_done xs (flat_map resource_words xs ++ key_word key.EndConfiguration ∷ rest) (key_word key.EndConfiguration ∷ rest) rest refl refl)

one_resources : (xs ys : List Resource) (r q : List Token) → resources_words xs ++ r ≡ resources_words ys ++ q → (map resource_parts xs ≡ map resource_parts ys) × (r ≡ q)
one_resources xs ys r q e =
    let a = all_read resource_words resource_parts one_resource xs ys (resources_words xs ++ r) (key_word key.EndConfiguration ∷ r) (key_word key.EndConfiguration ∷ q) (resource_stops r) (resource_stops q) (resources_parts xs r) (e ∙ resources_parts ys q) in
    let rest : r ≡ q = cc (a.1) in
    (a.0, rest)

-- whole trees
pub tree_parts_of : (t : Tree) (rest : List Token) → words_of t ++ rest ≡ flat_map program_words t.programs ++ key_word key.Configuration ∷ token.Name t.name ∷ (resources_words t.resources ++ rest)
unfolding words_of
tree_parts_of t rest = append_assoc (flat_map program_words t.programs) (key_word key.Configuration ∷ token.Name t.name ∷ resources_words t.resources) rest

pub configuration_stops : (rest : List Token) (p : Program) (q : List Token) → key_word key.Configuration ∷ rest ≡ program_words p ++ q → ⊥
configuration_stops rest p q e = program_stops (key_word key.Configuration ∷ rest) (λ more h. cc) p q e

pub one_tree : (t u : Tree) (rest more : List Token) → words_of t ++ rest ≡ words_of u ++ more → (rest ≡ more) × IsSameTree t u
one_tree t u rest more e =
    let a = all_read program_words program_parts one_program t.programs u.programs (words_of t ++ rest) (key_word key.Configuration ∷ token.Name t.name ∷ (resources_words t.resources ++ rest)) (key_word key.Configuration ∷ token.Name u.name ∷ (resources_words u.resources ++ more))
    (configuration_stops (token.Name t.name ∷ (resources_words t.resources ++ rest))) (configuration_stops (token.Name u.name ∷ (resources_words u.resources ++ more))) (tree_parts_of t rest) (e ∙ tree_parts_of u more) in
    let name : t.name ≡ u.name = cc (a.1) in
    let left : resources_words t.resources ++ rest ≡ resources_words u.resources ++ more = cc (a.1) in
    let r = one_resources t.resources u.resources rest more left in
    (r.1, record { programs = a.0; name = name; resources = r.0 })

-- programs of a kind that begin the words of others, behind which none of the kind stands, are the first of these
first_programs : (P : Program → Type 0) (ps qs : List Program) (rest tail : List Token) → ((p : Program) (q : List Token) → P p → tail ≡ program_words p ++ q → ⊥) → All P ps → flat_map program_words ps ++ rest ≡ flat_map program_words qs ++ tail
    → (n : ℕ) × (map program_parts ps ≡ map program_parts (take n qs))
first_programs P [] qs rest tail stops each e = (0, refl)
first_programs P (p ∷ ps) [] rest tail stops each e = absurd (stops p (flat_map program_words ps ++ rest) (All-head P p ps each) (sym e ∙ cons_parts program_words p ps rest))
first_programs P (p ∷ ps) (q ∷ qs) rest tail stops each e =
    let both = one_program p q (flat_map program_words ps ++ rest) (flat_map program_words qs ++ tail) (sym (cons_parts program_words p ps rest) ∙ e ∙ cons_parts program_words q qs tail) in
    let more = first_programs P ps qs rest tail stops (All-tail P p ps each) both.1 in
    let first : program_parts p ≡ program_parts q = both.0 in
    let others : map program_parts ps ≡ map program_parts (take more.0 qs) = more.1 in
    (suc more.0, cc)

pub programs_first : (ps : List Program) (t : Tree) (rest more : List Token) → flat_map program_words ps ++ rest ≡ words_of t ++ more → (n : ℕ) × (map program_parts ps ≡ map program_parts (take n t.programs))
programs_first ps t rest more e =
    let left = token.Name t.name ∷ (resources_words t.resources ++ more) in
    first_programs (λ p. Unit {0}) ps t.programs rest (key_word key.Configuration ∷ left) (λ p q any. configuration_stops left p q) (λ k d lt. tt) (e ∙ tree_parts_of t more)

-- programs behind which no further one stands are all that begin the words
pub all_programs : (qs : List Program) (words tail : List Token) → words ≡ flat_map program_words qs ++ tail → ((p : Program) (q : List Token) → IsProgramWellFormed p → tail ≡ program_words p ++ q → ⊥) → AreAllPrograms words qs
all_programs qs words tail e stops = λ ps more formed parts. first_programs IsProgramWellFormed ps qs more tail stops formed (sym parts ∙ e)

-- so they are where PROGRAM doesn't stand next
pub all_programs_read : (qs : List Program) (words tail : List Token) → words ≡ flat_map program_words qs ++ tail → ((q : List Token) → tail ≡ key_word key.Program ∷ q → ⊥) → AreAllPrograms words qs
all_programs_read qs words tail e none = all_programs qs words tail e (λ p q formed. program_stops tail none p q)
