-- Binds, instances, lines and resources that may stand where they do, so that no rule may refuse them.
use Rattle.std.proofs.Common.{◌≡◌, ◌≢◌, ℕ, ◌+◌, ◌<◌, ◌≤◌, Bool, true, false, is_some, IsTrue, List, [], ◌∷◌, ◌++◌, Option, None, Some, length, map, take, slice_get, refl, sym, ap, subst, ◌∙◌, append_assoc, arith}
use Rattle.std.specs.Prelude.{All, Any}
use Rattle.std.specs.List.{flat_map, find}
use Rattle.std.proofs.lemmas.List.{append-nil, length-append, length-map, map-append, get_or-map}
use Rattle.std.proofs.lemmas.List.Concat.{flat_map-cons, flat_map-append}
use Rattle.std.proofs.lemmas.List.Elements.{All-head}
use Rattle.std.proofs.lemmas.Option.{slice_get_within, get_or_from_slice_get}
use Rattle.lists.proofs.Members.{any_found}
use Rattle.declared_names.specs.declared.declarations.Declaration.{Declaration}
use Rattle.plant_text.specs.declared.token.Token.{Token}
use Rattle.plant_text.specs.declared.token.Token.TheVariants as token
use Rattle.plant_text.specs.declared.token.Keyword.TheVariants as key
use Rattle.plant_text.specs.declared.token.Punctuation.TheVariants.{Open, Close, Colon, Semicolon, Comma}
use Rattle.plant_grammar.specs.declared.grammar.tree.Program.{Program}
use Rattle.plant_grammar.specs.declared.grammar.tree.TaskLine.{TaskLine}
use Rattle.plant_grammar.specs.declared.grammar.tree.Bind.{Bind}
use Rattle.plant_grammar.specs.declared.grammar.tree.Use.{Use}
use Rattle.plant_grammar.specs.declared.grammar.tree.Item.{Item}
use Rattle.plant_grammar.specs.declared.grammar.tree.Item.TheVariants as item
use Rattle.plant_grammar.specs.declared.grammar.tree.Resource.{Resource}
use Rattle.plant_grammar.specs.Kinds.{IsOfInputKind}
use Rattle.lists.specs.Items.{items_or_none}
use Rattle.plant_grammar.specs.Steps.SameNames.{named_both}
use Rattle.plant_grammar.specs.Grammar.{Tree, TextValue, key_word, mark_word, bind_words, with_commas, binds_words, binds_listed, task_words, use_words, item_words, items_words, resource_words, resources_words}
use Rattle.plant_grammar.specs.Names.{is_named, AreNamesApart}
use Rattle.plant_grammar.specs.Lawful.{variables, task_of, use_of, uses_of, binds_of, IsUseLawful, IsResourceLawful, AreItemsLawful, AreResourcesLawful}
use Rattle.plant_grammar.specs.Parts.{UseParts, ResourceParts, use_parts, resource_parts}
use Rattle.plant_grammar.specs.Steps.Lines.{IsWordNext, IsNotNext}
use Rattle.plant_grammar.specs.Steps.ReadParts.{TallyValue, tally_with, with_instance, EndWithBinds, MayFollow}
use Rattle.plant_grammar.specs.Steps.NamesRead.{IsNew}
use Rattle.plant_grammar.specs.Steps.Reading.{programs_of}
use Rattle.plant_grammar.specs.Steps.Refusing.{HasRoomFor, AreTypesApart}
use Rattle.plant_grammar.proofs.Apart.{any_with}
use Rattle.plant_grammar.proofs.FoundTypes.{found_type, found_any_of}
use Rattle.plant_grammar.proofs.LawfulPrograms.{all_at, new_name, as_many}
use Rattle.plant_grammar.proofs.OneTree.{flat_map_same, next_read, binds_left, first_bind_words, binds_split, last_bind, one_binds, use_parts_of, item_parts, one_item, item_stops, items_parts, same_tasks, same_uses, one_resource, resource_stops, resources_parts}

-- the first of binds is refused wrongly
pub first_bind_allowed : (vs : List Declaration) (n : ℕ) (bs : List Bind) (start rest : List Token) → EndWithBinds bs start rest → IsNotNext (mark_word Close) start → AreNamesApart (map (λ (b : Bind). b.input) bs) → All (IsOfInputKind vs) bs → n + length bs ≤ 4096
    → ((b : Bind) (after : List Token) → start ≡ bind_words b ++ after → IsOfInputKind vs b → IsNew (λ (b : Bind). b.input) [] b.input → n < 4096 → ⊥) → ⊥
first_bind_allowed vs n [] start rest e goes_on apart kinds few refuses = goes_on rest e
first_bind_allowed vs n (b ∷ bs) start rest e goes_on apart kinds few refuses =
    let new : IsNew (λ (b : Bind). b.input) [] b.input = new_name (λ (b : Bind). b.input) [] (b ∷ bs) [] b bs refl refl apart in
    refuses b (binds_left bs rest) (e ∙ first_bind_words b bs rest) (All-head (IsOfInputKind vs) b bs kinds) new (omega (arith, few))

-- a further bind is refused wrongly
pub next_bind_allowed : (vs : List Declaration) (n m : ℕ) (read bs : List Bind) (start now mid rest : List Token) → 0 < length read → start ≡ with_commas read ++ now → now ≡ mark_word Comma ∷ mid → n ≡ m + length read → EndWithBinds bs start rest
    → AreNamesApart (map (λ (b : Bind). b.input) bs) → All (IsOfInputKind vs) bs → m + length bs ≤ 4096
    → ((b : Bind) (after : List Token) → mid ≡ bind_words b ++ after → IsOfInputKind vs b → IsNew (λ (b : Bind). b.input) read b.input → n < 4096 → ⊥) → ⊥
next_bind_allowed vs n m read bs start now mid rest some e comma many h apart kinds few refuses =
    let s = binds_split read bs now rest some (sym e ∙ h) in
    go s.0 s.1 s.2
  where
    go : (more : List Bind) → bs ≡ read ++ more → now ≡ binds_left more rest → ⊥
    go [] whole left = let wrong : mark_word Close ∷ rest ≡ mark_word Comma ∷ mid = sym left ∙ comma in cc
    go (b ∷ more) whole left =
        let behind : mark_word Comma ∷ (with_commas (b ∷ more) ++ mark_word Close ∷ rest) ≡ mark_word Comma ∷ mid = sym left ∙ comma in
        let words : mid ≡ with_commas (b ∷ more) ++ mark_word Close ∷ rest = cc (behind) in
        let long : length bs ≡ length (read ++ b ∷ more) = ap length whole in
        refuses b (binds_left more rest) (words ∙ first_bind_words b more rest) (all_at (IsOfInputKind vs) bs read b more whole kinds) (new_name (λ (b : Bind). b.input) read bs read b more whole refl apart)
        (omega (arith, many, few, long, length-append read (b ∷ more)))

-- the parenthesis behind binds is refused wrongly
pub close_allowed : (read bs : List Bind) (start now rest : List Token) → 0 < length read → start ≡ with_commas read ++ now → IsNotNext (mark_word Comma) now → EndWithBinds bs start rest → IsNotNext (mark_word Close) now → ⊥
close_allowed read bs start now rest some e last h refuses =
    let s = binds_split read bs now rest some (sym e ∙ h) in
    let l = last_bind s.0 now rest s.2 (λ mid i. last mid i) in
    refuses rest l.1

-- binds in parentheses are refused wrongly
pub listed_allowed : (vs : List Declaration) (n : ℕ) (bs : Option (List Bind)) (start mid rest : List Token) → start ≡ mark_word Open ∷ mid → start ≡ binds_words bs ++ mark_word Semicolon ∷ rest
    → AreNamesApart (map (λ (b : Bind). b.input) (items_or_none bs)) → All (IsOfInputKind vs) (items_or_none bs) → n + length (items_or_none bs) ≤ 4096
    → ((cs : List Bind) (after : List Token) → EndWithBinds cs mid after → AreNamesApart (map (λ (b : Bind). b.input) cs) → All (IsOfInputKind vs) cs → n + length cs ≤ 4096 → ⊥) → ⊥
listed_allowed vs n None start mid rest e h apart kinds few refuses = let wrong : mark_word Open ∷ mid ≡ mark_word Semicolon ∷ rest = sym e ∙ h in cc
listed_allowed vs n (Some bs) start mid rest e h apart kinds few refuses =
    let left : mark_word Open ∷ mid ≡ mark_word Open ∷ ((with_commas bs ++ mark_word Close ∷ []) ++ mark_word Semicolon ∷ rest) = sym e ∙ h in
    let words : mid ≡ (with_commas bs ++ mark_word Close ∷ []) ++ mark_word Semicolon ∷ rest = cc (left) in
    refuses bs (mark_word Semicolon ∷ rest) (words ∙ append_assoc (with_commas bs) (mark_word Close ∷ []) (mark_word Semicolon ∷ rest)) apart kinds few

-- behind binds that are read stands the semicolon
pub behind_binds : (bs : Option (List Bind)) (read : List Bind) (start mid now rest : List Token) → start ≡ mark_word Open ∷ mid → EndWithBinds read mid now → start ≡ binds_words bs ++ mark_word Semicolon ∷ rest → now ≡ mark_word Semicolon ∷ rest
behind_binds None read start mid now rest e b h = absurd (let wrong : mark_word Open ∷ mid ≡ mark_word Semicolon ∷ rest = sym e ∙ h in cc)
behind_binds (Some bs) read start mid now rest e b h =
    let left : mark_word Open ∷ mid ≡ mark_word Open ∷ ((with_commas bs ++ mark_word Close ∷ []) ++ mark_word Semicolon ∷ rest) = sym e ∙ h in
    let words : mid ≡ (with_commas bs ++ mark_word Close ∷ []) ++ mark_word Semicolon ∷ rest = cc (left) in
    let o = one_binds read bs now (mark_word Semicolon ∷ rest) (sym b ∙ words ∙ append_assoc (with_commas bs) (mark_word Close ∷ []) (mark_word Semicolon ∷ rest)) in
    o.1

-- where no parenthesis stands, the semicolon does
pub without_binds : (bs : Option (List Bind)) (now rest : List Token) → IsNotNext (mark_word Open) now → now ≡ binds_words bs ++ mark_word Semicolon ∷ rest → now ≡ mark_word Semicolon ∷ rest
without_binds None now rest none h = h
without_binds (Some bs) now rest none h = absurd (none ((with_commas bs ++ mark_word Close ∷ []) ++ mark_word Semicolon ∷ rest) h)

-- of types whose names are apart one alone has a name
pub the_type : (types : List TextValue) (name : List ℕ) (t : TextValue) (Q : Program → Type 0) → AreTypesApart types → find (λ (t : TextValue). is_named name t.program.name) types ≡ Some t → Any (λ (p : Program). IsTrue (is_named name p.name) × Q p) (programs_of types) → Q t.program
the_type types name t Q apart found some =
    let programs = programs_of types in
    let names = map (λ (p : Program). p.name) programs in
    let one = any_found (λ (p : Program). IsTrue (is_named name p.name) × (p ≡ t.program)) programs (found_type types name t (λ (p : Program). p ≡ t.program) found refl) in
    let two = any_found (λ (p : Program). IsTrue (is_named name p.name) × Q p) programs some in
    let first = slice_get_within programs one.0 one.1 one.2 in
    let second = slice_get_within programs two.0 two.1 two.2 in
    let long = length-map programs (λ (p : Program). p.name) in
    let here = get_or-map (λ (p : Program). p.name) programs one.0 one.1 name first ∙ ap (λ (p : Program). p.name) (get_or_from_slice_get programs one.0 one.1 one.1 one.2) in
    let there = get_or-map (λ (p : Program). p.name) programs two.0 two.1 name second ∙ ap (λ (p : Program). p.name) (get_or_from_slice_get programs two.0 two.1 two.1 two.2) in
    let place : one.0 ≡ two.0 = apart one.0 two.0 name (omega (arith, first, long)) (omega (arith, second, long)) (rw (here, there) (named_both name one.1.name two.1.name one.3.0 two.3.0)) in
    let both : Some two.1 ≡ Some one.1 = sym two.2 ∙ ap (slice_get programs) (sym place) ∙ one.2 in
    let same : two.1 ≡ t.program = (let q : two.1 ≡ one.1 = cc (both) in q ∙ one.3.1) in
    subst Q same two.3.1

-- a type that is among the types is found
pub some_type : (types : List TextValue) (name : List ℕ) (Q : Program → Type 0) → Any (λ (p : Program). IsTrue (is_named name p.name) × Q p) (programs_of types) → find (λ (t : TextValue). is_named name t.program.name) types ≢ None
some_type types name Q some none =
    let is : TextValue → Bool = λ t. is_named name t.program.name in
    let any : Any (λ (p : Program). IsTrue (is_named name p.name)) (programs_of types) = any_with (λ (p : Program). IsTrue (is_named name p.name) × Q p) (λ (p : Program). IsTrue (is_named name p.name)) (programs_of types) (λ p h. h.0) some in
    let found : is_some (find is types) ≡ true = (found_any_of (λ (t : TextValue). t.program) (λ (p : Program). is_named name p.name) types).1 any in
    let lost : is_some (find is types) ≡ false = ap is_some none in
    let wrong : true ≡ false = sym found ∙ lost in
    cc

-- what stands behind the start of an instance
pub use_started : (u : Use) (i : List ℕ) (start now rest : List Token) → start ≡ key_word key.Program ∷ token.Name i ∷ now → start ≡ use_words u ++ rest
    → now ≡ key_word key.With ∷ token.Name u.task ∷ mark_word Colon ∷ token.Name u.program ∷ (binds_words (binds_listed u.binds) ++ mark_word Semicolon ∷ rest)
use_started u i start now rest e h = let parts = h ∙ use_parts_of u rest in cc (e, parts)

-- and behind its task
pub use_tasked : (u : Use) (i t : List ℕ) (start one two rest : List Token) → start ≡ key_word key.Program ∷ token.Name i ∷ one → one ≡ key_word key.With ∷ token.Name t ∷ two → start ≡ use_words u ++ rest
    → two ≡ mark_word Colon ∷ token.Name u.program ∷ (binds_words (binds_listed u.binds) ++ mark_word Semicolon ∷ rest)
use_tasked u i t start one two rest e f h = let parts = use_started u i start one rest e h in cc (f, parts)

-- and behind its type
pub use_typed : (u : Use) (i t p : List ℕ) (start one two three rest : List Token) → start ≡ key_word key.Program ∷ token.Name i ∷ one → one ≡ key_word key.With ∷ token.Name t ∷ two → two ≡ mark_word Colon ∷ token.Name p ∷ three → start ≡ use_words u ++ rest
    → (p ≡ u.program) × (three ≡ binds_words (binds_listed u.binds) ++ mark_word Semicolon ∷ rest)
use_typed u i t p start one two three rest e f g h =
    let parts = use_tasked u i t start one two rest e f h in
    let name : p ≡ u.program = cc (g, parts) in
    let left : three ≡ binds_words (binds_listed u.binds) ++ mark_word Semicolon ∷ rest = cc (g, parts) in
    (name, left)

-- the room that an instance has for its binds
pub room_for_binds : (old now : TallyValue) (u : Use) → now ≡ with_instance old → HasRoomFor old (u ∷ []) → now.binds + length (binds_of u) ≤ 4096
room_for_binds old now u e room =
    let same : now.binds ≡ old.binds = ap (λ (t : TallyValue). t.binds) e in
    let binds : length (flat_map binds_of (u ∷ [])) ≡ length (binds_of u) = ap length (flat_map-cons binds_of u [] ∙ append-nil (binds_of u)) in
    omega (arith, same, binds, room.1)

-- a line that is a task is refused wrongly
pub task_allowed : (tree : Tree) (before : List Item) (x : Item) (start rest : List Token) → start ≡ item_words x ++ rest → IsWordNext (key_word key.Task) start → MayFollow tree before x
    → ((t : TaskLine) (after : List Token) → start ≡ task_words t ++ after → IsNew (λ (t : TaskLine). t.name) (flat_map task_of before) t.name → length (flat_map task_of before) < 16 → 0 < t.interval → ⊥) → ⊥
task_allowed tree before (item.Task t) start rest h next may refuses = refuses t rest h may.0 may.1 may.2
task_allowed tree before (item.Use u) start rest h next may refuses = let parts = sym next.1 ∙ h ∙ use_parts_of u rest in cc

-- another word than TASK begins no task
no_task : (t : TaskLine) (start rest : List Token) → IsNotNext (key_word key.Task) start → start ≡ task_words t ++ rest → ⊥
unfolding task_words
no_task t start rest none h = none _ h

-- a line that is an instance is refused wrongly
pub use_allowed : (tree : Tree) (before : List Item) (tally : TallyValue) (x : Item) (start rest : List Token) → start ≡ item_words x ++ rest → IsNotNext (key_word key.Task) start → MayFollow tree before x → HasRoomFor tally (use_of x)
    → ((u : Use) (after : List Token) → start ≡ use_words u ++ after → IsNew (λ (u : Use). u.instance) (flat_map use_of before) u.instance → IsUseLawful tree before u → HasRoomFor tally (u ∷ []) → ⊥) → ⊥
use_allowed tree before tally (item.Task t) start rest h none may room refuses = no_task t start rest none h
use_allowed tree before tally (item.Use u) start rest h none may room refuses = refuses u rest h may.0 may.1 room

-- what follows from views that are the same
map_through : {A V B : Type 0} (view : A → V) (f : V → B) (xs : List A) → map (λ x. f (view x)) xs ≡ map f (map view xs)
map_through view f [] = refl
map_through view f (x ∷ xs) = ap (λ ys. f (view x) ∷ ys) (map_through view f xs)

pub same_through : {A V B : Type 0} (view : A → V) (f : V → B) (xs ys : List A) → map view xs ≡ map view ys → map (λ x. f (view x)) xs ≡ map (λ y. f (view y)) ys
same_through view f xs ys same = map_through view f xs ∙ ap (map f) same ∙ sym (map_through view f ys)

-- the room that is left behind instances that were read
pub room_left : (old now : TallyValue) (read all front us more : List Use) → all ≡ front ++ (us ++ more) → map use_parts front ≡ map use_parts read → now ≡ tally_with old read → HasRoomFor old all → HasRoomFor now us
room_left old now read all front us more whole same counted room =
    let instances : now.instances ≡ old.instances + length read = ap (λ (t : TallyValue). t.instances) counted in
    let binds : now.binds ≡ old.binds + length (flat_map binds_of read) = ap (λ (t : TallyValue). t.binds) counted in
    let many = as_many use_parts front read same in
    let bound : length (flat_map binds_of front) ≡ length (flat_map binds_of read) = ap length (flat_map_same binds_of front read (same_through use_parts (λ (v : UseParts). v.binds) front read same)) in
    let all_long : length all ≡ length (front ++ (us ++ more)) = ap length whole in
    let all_binds : length (flat_map binds_of all) ≡ length (flat_map binds_of front ++ (flat_map binds_of us ++ flat_map binds_of more)) = ap length (ap (flat_map binds_of) whole ∙ flat_map-append binds_of front (us ++ more) ∙ ap (λ bs. flat_map binds_of front ++ bs) (flat_map-append binds_of us more)) in (
      omega (arith, instances, many, all_long, length-append front (us ++ more), length-append us more, room.0),
      omega (arith, binds, bound, all_binds, length-append (flat_map binds_of front) (flat_map binds_of us ++ flat_map binds_of more), length-append (flat_map binds_of us) (flat_map binds_of more), room.1),
    )

-- pieces around one
pub pieces : {A B : Type 0} (f : A → List B) (all front : List A) (x : A) (more : List A) → all ≡ front ++ x ∷ more → flat_map f all ≡ flat_map f front ++ (f x ++ flat_map f more)
pieces f all front x more whole = ap (flat_map f) whole ∙ flat_map-append f front (x ∷ more) ∙ ap (λ ys. flat_map f front ++ ys) (flat_map-cons f x more)

seam : {A : Type 0} (front : List A) (x : A) (more : List A) → slice_get (front ++ x ∷ more) (length front) ≡ Some x
seam [] x more = refl
seam (y ∷ front) x more = seam front x more

front_taken : {A : Type 0} (front : List A) (x : A) (more : List A) → take (length front) (front ++ x ∷ more) ≡ front
front_taken [] x more = refl
front_taken (y ∷ front) x more = ap (λ ys. y ∷ ys) (front_taken front x more)

-- a line of lawful lines may follow those that were read
pub may_follow : (tree : Tree) (read xs front : List Item) (x : Item) (more : List Item) → xs ≡ front ++ x ∷ more → map item_parts front ≡ map item_parts read → AreItemsLawful tree xs → MayFollow tree read x
may_follow tree read xs front (item.Task t) more whole same lawful =
    let tasks : flat_map task_of xs ≡ flat_map task_of front ++ t ∷ flat_map task_of more = pieces task_of xs front (item.Task t) more whole in
    let read_tasks = same_tasks front read same in
    let long : length (flat_map task_of xs) ≡ length (flat_map task_of front ++ t ∷ flat_map task_of more) = ap length tasks in
    let many : length (flat_map task_of front) ≡ length (flat_map task_of read) = ap length read_tasks in (
      new_name (λ (t : TaskLine). t.name) (flat_map task_of read) (flat_map task_of xs) (flat_map task_of front) t (flat_map task_of more) tasks (ap (map (λ (t : TaskLine). t.name)) read_tasks) lawful.tasks_apart,
      omega (arith, lawful.few_tasks, long, many, length-append (flat_map task_of front) (t ∷ flat_map task_of more)),
      all_at (λ (t : TaskLine). 0 < t.interval) (flat_map task_of xs) (flat_map task_of front) t (flat_map task_of more) tasks lawful.intervals,
    )
may_follow tree read xs front (item.Use u) more whole same lawful =
    let uses : flat_map use_of xs ≡ flat_map use_of front ++ u ∷ flat_map use_of more = pieces use_of xs front (item.Use u) more whole in
    let names = same_through use_parts (λ (v : UseParts). v.instance) (flat_map use_of front) (flat_map use_of read) (same_uses front read same) in
    let known = lawful.uses_lawful (length front) u (ap (λ (ys : List Item). slice_get ys (length front)) whole ∙ seam front (item.Use u) more) in
    let before : take (length front) xs ≡ front = ap (take (length front)) whole ∙ front_taken front (item.Use u) more in (
      new_name (λ (u : Use). u.instance) (flat_map use_of read) (flat_map use_of xs) (flat_map use_of front) u (flat_map use_of more) uses names lawful.instances_apart,
      record {
        task_is = subst (λ (ts : List TaskLine). Any (λ (t : TaskLine). IsTrue (is_named u.task t.name)) ts) (ap (flat_map task_of) before ∙ same_tasks front read same) known.task_is;
        type_is = known.type_is;
        apart = known.apart;
      },
    )

-- a line behind others of its resource is refused wrongly
pub item_allowed : (tree : Tree) (old now_tally : TallyValue) (read xs : List Item) (start now rest : List Token) → start ≡ flat_map item_words read ++ now → now_tally ≡ tally_with old (flat_map use_of read) → IsNotNext (key_word key.EndResource) now
    → start ≡ items_words xs ++ rest → AreItemsLawful tree xs → HasRoomFor old (flat_map use_of xs)
    → ((x : Item) (after : List Token) → now ≡ item_words x ++ after → MayFollow tree read x → HasRoomFor now_tally (use_of x) → ⊥) → ⊥
item_allowed tree old now_tally read xs start now rest e counted goes_on h lawful room refuses =
    let n = next_read item_words item_parts one_item read xs start now (key_word key.EndResource ∷ rest) (λ i. goes_on rest i) (item_stops rest) e (h ∙ items_parts xs rest) in
    let x = n.1 in
    refuses x (flat_map item_words n.2 ++ key_word key.EndResource ∷ rest) n.5 (may_follow tree read xs n.0 x n.2 n.3 n.4 lawful)
    (room_left old now_tally (flat_map use_of read) (flat_map use_of xs) (flat_map use_of n.0) (use_of x) (flat_map use_of n.2) (pieces use_of xs n.0 x n.2 n.3) (same_uses n.0 read n.4) counted room)

pub items_of_resource : (tree : Tree) (r : Resource) → IsResourceLawful tree r → AreItemsLawful tree r.items.items
items_of_resource tree r lawful = record {
  tasks_apart = lawful.tasks_apart;
  few_tasks = lawful.few_tasks;
  intervals = lawful.intervals;
  instances_apart = lawful.instances_apart;
  uses_lawful = lawful.uses_lawful;
}

-- instances of resources that say the same say the same
all_uses_same : (xs ys : List Resource) → map resource_parts xs ≡ map resource_parts ys → map use_parts (flat_map uses_of xs) ≡ map use_parts (flat_map uses_of ys)
all_uses_same [] [] e = refl
all_uses_same [] (y ∷ ys) e = absurd cc
all_uses_same (x ∷ xs) [] e = absurd cc
all_uses_same (x ∷ xs) (y ∷ ys) e =
    let first : resource_parts x ≡ resource_parts y = cc in
    let rest : map resource_parts xs ≡ map resource_parts ys = cc in
    ap (map use_parts) (flat_map-cons uses_of x xs) ∙ map-append use_parts (uses_of x) (flat_map uses_of xs)
    ∙ ap (λ a. a ++ map use_parts (flat_map uses_of xs)) (ap (λ (p : ResourceParts). p.uses) first) ∙ ap (λ b. map use_parts (uses_of y) ++ b) (all_uses_same xs ys rest)
    ∙ sym (ap (map use_parts) (flat_map-cons uses_of y ys) ∙ map-append use_parts (uses_of y) (flat_map uses_of ys))

-- a resource behind others is refused wrongly
pub resource_allowed : (tree : Tree) (old now_tally : TallyValue) (read rs : List Resource) (start now rest : List Token) → start ≡ flat_map resource_words read ++ now → now_tally ≡ tally_with old (flat_map uses_of read) → (now ≡ key_word key.EndConfiguration ∷ rest → ⊥)
    → start ≡ resources_words rs ++ rest → AreResourcesLawful tree rs → HasRoomFor old (flat_map uses_of rs)
    → ((r : Resource) (after : List Token) → now ≡ resource_words r ++ after → IsNew (λ (r : Resource). r.name) read r.name → length read < 16 → IsResourceLawful tree r → HasRoomFor now_tally (uses_of r) → ⊥) → ⊥
resource_allowed tree old now_tally read rs start now rest e counted goes_on h lawful room refuses =
    let n = next_read resource_words resource_parts one_resource read rs start now (key_word key.EndConfiguration ∷ rest) goes_on (resource_stops rest) e (h ∙ resources_parts rs rest) in
    let r = n.1 in
    let long : length rs ≡ length (n.0 ++ r ∷ n.2) = ap length n.3 in
    let many = as_many resource_parts n.0 read n.4 in
    refuses r (flat_map resource_words n.2 ++ key_word key.EndConfiguration ∷ rest) n.5
    (new_name (λ (r : Resource). r.name) read rs n.0 r n.2 n.3 (same_through resource_parts (λ (p : ResourceParts). p.name) n.0 read n.4) lawful.apart)
    (omega (arith, lawful.few, long, many, length-append n.0 (r ∷ n.2))) (all_at (IsResourceLawful tree) rs n.0 r n.2 n.3 lawful.lawful)
    (room_left old now_tally (flat_map uses_of read) (flat_map uses_of rs) (flat_map uses_of n.0) (uses_of r) (flat_map uses_of n.2) (pieces uses_of rs n.0 r n.2 n.3) (all_uses_same n.0 read n.4) counted room)

-- before the first resource no configuration ends, if there is one
pub first_resource : (rs read : List Resource) (start now rest after : List Token) → 0 < length rs → length read ≡ 0 → start ≡ flat_map resource_words read ++ now → start ≡ resources_words rs ++ rest → now ≡ key_word key.EndConfiguration ∷ after → ⊥
first_resource [] read start now rest after some none e h i = omega (arith, some)
first_resource (r ∷ rs) [] start now rest after some none e h i = resource_stops after r (resources_words rs ++ rest) (sym i ∙ sym e ∙ h ∙ append_assoc (resource_words r) (resources_words rs) rest)
first_resource (r ∷ rs) (x ∷ read) start now rest after some none e h i = absurd (omega (arith, none))

-- the type that was found takes the binds of an instance that some type of its name takes
pub kinds_of_type : (types : List TextValue) (u : Use) (name : List ℕ) (t : TextValue) → AreTypesApart types → find (λ (t : TextValue). is_named name t.program.name) types ≡ Some t → name ≡ u.program
    → Any (λ (p : Program). IsTrue (is_named u.program p.name) × All (IsOfInputKind (variables p)) (binds_of u)) (programs_of types) → All (IsOfInputKind (variables t.program)) (binds_of u)
kinds_of_type types u name t apart found same some =
    the_type types u.program t (λ (p : Program). All (IsOfInputKind (variables p)) (binds_of u)) apart (subst (λ (n : List ℕ). find (λ (t : TextValue). is_named n t.program.name) types ≡ Some t) same found) some

-- what stands behind the start of a resource
pub resource_started : (r : Resource) (name node : List ℕ) (start one two three four rest : List Token) → start ≡ key_word key.Resource ∷ one → one ≡ token.Name name ∷ two → two ≡ key_word key.On ∷ three → three ≡ token.Name node ∷ four
    → start ≡ resource_words r ++ rest → four ≡ items_words r.items.items ++ rest
unfolding resource_words
resource_started r name node start one two three four rest e f g h i = cc (e, f, g, h, i)
