-- Where a name is refused, its word has that fault in view of those before it.
use Rattle.std.proofs.Common.{◌≡◌, ◌≢◌, ◌⊎◌, inl, inr, ℕ, ◌+◌, ◌<◌, ◌≤◌, leb, Bool, true, false, not, IsTrue, List, [], ◌∷◌, ◌++◌, length, map, position, Option, Some, None, is_none, is_some, refl, sym, ap, subst, ◌∙◌, append_assoc, arith}
use Rattle.std.specs.Prelude.{All}
use Rattle.std.specs.List.{flat_map, find}
use Rattle.std.specs.Option.{option_and_then}
use Rattle.std.proofs.lemmas.Bool.{leb-false, false_from_ne_true, true_from_ne_false}
use Rattle.std.proofs.lemmas.List.{length-append}
use Rattle.std.proofs.lemmas.List.Folds.{Any-from_list_any, list_any-from_Any}
use Rattle.std.proofs.lemmas.List.Elements.{All-nil}
use Rattle.std_blocks.specs.declared.block_type.BlockType.{BlockType}
use Rattle.declared_names.specs.declared.declarations.Kind.{Kind}
use Rattle.declared_names.specs.declared.declarations.Kind.TheVariants as value
use Rattle.declared_names.specs.declared.declarations.Declaration.{Declaration}
use Rattle.declared_names.specs.Kinds.{kind_of_space, input_kind_at}
use Rattle.declared_names.specs.Names.{place_of}
use Rattle.words.specs.declared.address.Space.{Space}
use Rattle.words.specs.declared.address.Space.TheVariants.{Bit, Word}
use Rattle.plant_text.specs.declared.token.Token.{Token}
use Rattle.plant_text.specs.declared.token.Token.TheVariants as token
use Rattle.plant_text.specs.declared.token.Keyword.TheVariants as key
use Rattle.plant_text.specs.declared.token.Punctuation.TheVariants.{Open, Close, Colon, Semicolon, Assign}
use Rattle.plant_grammar.specs.declared.grammar_fault.GrammarFaultKind.{GrammarFaultKind}
use Rattle.plant_grammar.specs.declared.grammar_fault.GrammarFaultKind.TheVariants as kind
use Rattle.plant_grammar.specs.declared.grammar.tree.Section.{Section}
use Rattle.plant_grammar.specs.declared.grammar.tree.Section.TheVariants as section
use Rattle.plant_grammar.specs.declared.grammar.tree.TypeName.TheVariants.{Elementary, Block}
use Rattle.plant_grammar.specs.declared.grammar.tree.Program.{Program}
use Rattle.plant_grammar.specs.declared.grammar.tree.Order.TheVariants.{IntervalFirst}
use Rattle.plant_grammar.specs.declared.grammar.tree.TaskLine.{TaskLine}
use Rattle.plant_grammar.specs.declared.grammar.tree.SourceName.TheVariants as source
use Rattle.plant_grammar.specs.declared.grammar.tree.Bind.{Bind}
use Rattle.plant_grammar.specs.declared.grammar.tree.Use.{Use}
use Rattle.plant_grammar.specs.declared.grammar.tree.Item.{Item}
use Rattle.plant_grammar.specs.declared.grammar.tree.Resource.{Resource}
use Rattle.plant_grammar.specs.Grammar.{key_word, mark_word, section_words, name_words, list_words, block_words, program_words, settings, item_words, resource_words}
use Rattle.plant_grammar.specs.JudgedWords.{Judged, sound, sounds, if_so, is_among, new_name, known_name, input_name, may_take, judged_source, judged_type}
use Rattle.plant_grammar.specs.Kinds.{input_kind_of, IsOfInputKind}
use Rattle.plant_grammar.specs.Names.{is_named, AreNamesApart}
use Rattle.plant_grammar.specs.Lawful.{lists_variables, block_variables, variables, IsTypeLawful, AreProgramsDeclared, task_of, use_of, uses_of, binds_of}
use Rattle.plant_grammar.specs.WellFormed.{HasNames, IsBlockWellFormed, IsProgramWellFormed, IsResourceWellFormed, IsTreeWellFormed}
use Rattle.plant_grammar.specs.NameFaults.{judged_variable, judged_list, judged_block, judged_program, judged_task, judged_bind, judged_use, judged_resource, judged_of, IsLastRefused}
use Rattle.plant_grammar.specs.Steps.NamesRead.{IsOfName, Tells, TellsOfName, TellsOfSoughtName, IsNameTaken, IsRefused, IsUnknown, IsAfter, IsAfterName, name_and_comma, bind_and_comma, RefusesVariable, RefusesType, RefusesOneList, RefusesList, RefusesBlock, RefusesBlocks, MayNameProgram, RefusesProgram, RefusesTask, RefusesOneBind, RefusesBind, RefusesTyped, RefusesBinds, MayNameInstance, RefusesInstance, RefusesItems, MayNameResource, RefusesResource, RefusesResources, RefusesBehind}
use Rattle.plant_grammar.specs.Steps.SameNames.{named_back, named_both}
use Rattle.plant_grammar.specs.Steps.SoundWords.{Fits, EndsFaulty, judged_lists, AreListsFormed, judged_blocks, AreBlocksFormed, bind_behind, judged_in_parentheses, IsItemFormed, item_behind, judged_items, AreItemsFormed, judged_resources_behind, AreResourcesFormed}
use Rattle.plant_grammar.proofs.FoundTypes.{found_any}
use Rattle.plant_grammar.proofs.RefusedNames.{tells_with}
use Rattle.plant_grammar.proofs.JudgedParts.{sounds_both, listed_last, among_taken, taken_among, new_sound, new_faulty, known_sound, unknown_faulty, among_first, among_last, among_parts}
use Rattle.plant_grammar.proofs.SoundParts.{variables_sound, names_sound, input_sound, not_among}
use Rattle.plant_grammar.proofs.LiftedWords.{vec_of, lift_faulty, list_in_lists, lists_in_block, block_in_blocks, blocks_in_program, program_in_tree, bind_in_binds, IsTyped, binds_in_use, use_in_item, task_in_item, item_in_items, items_in_resource, resource_in_resources, resources_in_tree}

-- a new name of which this is told, in other words for the names that there are
new_told : {A : Type 0} (k : GrammarFaultKind) (name_of : A → List ℕ) (xs : List A) (count most : ℕ) (n : List ℕ) → IsOfName k → TellsOfName k (IsNameTaken name_of xs n) (most ≤ count) → new_name (map name_of xs) count most n ≡ record { word = token.Name n; fault = Some k }
new_told k name_of xs count most n of told =
    new_faulty k (map name_of xs) count most n of (tells_with k (IsNameTaken name_of xs n) (most ≤ count) (IsTrue (is_among (map name_of xs) n)) (most ≤ count) (among_taken name_of xs n) (taken_among name_of xs n) (λ many. many) told)

-- a list up to a name refused
variable_faulty : (k : GrammarFaultKind) (s : Section) (ds : List Declaration) (words : List Token) → IsOfName k → RefusesVariable k ds words → EndsFaulty (judged_list s ds) HasNames k words
unfolding RefusesVariable judged_list
variable_faulty k s ds words of h =
    let names : List (List ℕ) = h.whole in
    let n : List ℕ = h.holds.name in
    let declared : List (List ℕ) = map (λ (d : Declaration). d.name) ds in
    let fits : Fits (names ++ n ∷ []) = omega (arith, h.lawful.1, length-append names (n ∷ [])) in
    let behind : List Judged = sound (mark_word Colon) ∷ judged_type s (Elementary value.Bool) ∷ sound (mark_word Semicolon) ∷ [] in
    let before : List Token = flat_map name_and_comma names in
    let faulty : new_name (declared ++ names) (length ds + length names) 1000 n ≡ record { word = token.Name n; fault = Some k } =
    new_faulty k (declared ++ names) (length ds + length names) 1000 n of
    (tells_with k (IsNameTaken (λ (d : Declaration). d.name) ds n ⊎ IsNameTaken (λ (m : List ℕ). m) names n) (1000 ≤ length ds + length names) (IsTrue (is_among (declared ++ names) n)) (1000 ≤ length ds + length names)
    (taken names n) (back names n) (λ many. many) h.holds.told) in
    record {
      before = before;
      word = token.Name n;
      parts = h.parts ∙ ap (λ (r : List Token). before ++ r) h.holds.alone;
      value = record { names = vec_of (names ++ n ∷ []) fits; type_name = Elementary value.Bool };
      more = behind;
      judged = ap (λ (a : List Judged). a ++ behind) (listed_last (judged_variable ds) (λ (m : List ℕ). token.Name m ∷ []) [] names n (variables_sound ds names h.lawful))
          ∙ append_assoc (sounds before) (judged_variable ds names n) behind
          ∙ ap (λ (j : Judged). sounds before ++ j ∷ behind) faulty;
      holds = omega (arith, length-append names (n ∷ []));
    }
  where
    taken : (names : List (List ℕ)) (n : List ℕ) → IsNameTaken (λ (d : Declaration). d.name) ds n ⊎ IsNameTaken (λ (m : List ℕ). m) names n → IsTrue (is_among (map (λ (d : Declaration). d.name) ds ++ names) n)
    taken names n (inl t) = among_first (map (λ (d : Declaration). d.name) ds) names n (among_taken (λ (d : Declaration). d.name) ds n t)
    taken names n (inr t) = among_last (map (λ (d : Declaration). d.name) ds) names n (list_any-from_Any (λ m. is_named n m) names t)

    either : (names : List (List ℕ)) (n : List ℕ) → IsTrue (is_among (map (λ (d : Declaration). d.name) ds) n) ⊎ IsTrue (is_among names n) → IsNameTaken (λ (d : Declaration). d.name) ds n ⊎ IsNameTaken (λ (m : List ℕ). m) names n
    either names n (inl a) = inl (taken_among (λ (d : Declaration). d.name) ds n a)
    either names n (inr a) = inr (Any-from_list_any (λ m. is_named n m) names a)

    back : (names : List (List ℕ)) (n : List ℕ) → IsTrue (is_among (map (λ (d : Declaration). d.name) ds ++ names) n) → IsNameTaken (λ (d : Declaration). d.name) ds n ⊎ IsNameTaken (λ (m : List ℕ). m) names n
    back names n a = either names n (among_parts (map (λ (d : Declaration). d.name) ds) names n a)

-- a kind that is WrongKind alone
wrong_told : (k : GrammarFaultKind) (W : Type 0) → IsOfName k → Tells k ⊥ ⊥ W ⊥ ⊥ → (k ≡ kind.WrongKind) × W
wrong_told kind.Syntax W of told = absurd of
wrong_told kind.NameTwice W of told = absurd told
wrong_told kind.UnknownName W of told = absurd told
wrong_told kind.WrongKind W of told = (refl, told)
wrong_told kind.InputBoundTwice W of told = absurd told
wrong_told kind.TooMany W of told = absurd told
wrong_told kind.Memory W of told = absurd of

-- a kind that is UnknownName alone
unknown_told : (k : GrammarFaultKind) (U : Type 0) → IsOfName k → TellsOfSoughtName k U ⊥ ⊥ → (k ≡ kind.UnknownName) × U
unknown_told kind.Syntax U of told = absurd of
unknown_told kind.NameTwice U of told = absurd told
unknown_told kind.UnknownName U of told = (refl, told)
unknown_told kind.WrongKind U of told = absurd told
unknown_told kind.InputBoundTwice U of told = absurd told
unknown_told kind.TooMany U of told = absurd told.0
unknown_told kind.Memory U of told = absurd of

-- a block that its section doesn't have
type_wrong : (s : Section) (b : BlockType) → (IsTypeLawful s (Block b) → ⊥) → judged_type s (Block b) ≡ record { word = token.Block b; fault = Some kind.WrongKind }
type_wrong section.Input b wrong = refl
type_wrong section.Output b wrong = refl
type_wrong section.Local b wrong = absurd (wrong tt)
type_wrong section.Retained b wrong = refl

-- a list up to its type
type_faulty : (k : GrammarFaultKind) (s : Section) (ds : List Declaration) (words : List Token) → IsOfName k → RefusesType k s ds words → EndsFaulty (judged_list s ds) HasNames k words
unfolding judged_list
type_faulty k s ds words of h =
    let told = wrong_told k (IsTypeLawful s (Block h.block) → ⊥) of h.told in
    let colon : List Token = mark_word Colon ∷ [] in
    let behind : List Judged = sound (mark_word Semicolon) ∷ [] in
    let names = name_words h.names in
    let fits : Fits h.names = omega (arith, h.may.1) in
    let typed : List Judged = sound (mark_word Colon) ∷ judged_type s (Block h.block) ∷ behind in
    let wrong : judged_type s (Block h.block) ≡ record { word = token.Block h.block; fault = Some k } = type_wrong s h.block told.1 ∙ ap (λ (j : GrammarFaultKind). record { word = token.Block h.block; fault = Some j }) (sym told.0) in
    record {
      before = names ++ colon;
      word = token.Block h.block;
      parts = h.parts ∙ sym (append_assoc names colon (token.Block h.block ∷ []));
      value = record { names = vec_of h.names fits; type_name = Block h.block };
      more = behind;
      judged = ap (λ (a : List Judged). a ++ typed) (names_sound ds h.names h.may)
          ∙ ap (λ (j : Judged). sounds names ++ sound (mark_word Colon) ∷ j ∷ behind) wrong
          ∙ sym (append_assoc (sounds names) (sounds colon) (record { word = token.Block h.block; fault = Some k } ∷ behind))
          ∙ ap (λ (a : List Judged). a ++ record { word = token.Block h.block; fault = Some k } ∷ behind) (sym (sounds_both names colon));
      holds = h.some;
    }

one_list_faulty : (k : GrammarFaultKind) (s : Section) (ds : List Declaration) (words : List Token) → IsOfName k → RefusesOneList s ds k words → EndsFaulty (judged_list s ds) HasNames k words
one_list_faulty k s ds words of (inl h) = variable_faulty k s ds words of h
one_list_faulty k s ds words of (inr h) = type_faulty k s ds words of h

-- words behind others, that are these
behind_words : {A : Type 0} (k : GrammarFaultKind) (judge : A → List Judged) (P : A → Type 0) (words other : List Token) → words ≡ other → EndsFaulty judge P k other → EndsFaulty judge P k words
behind_words k judge P words other e h = subst (EndsFaulty judge P k) (sym e) h

-- what stands in front fits into memory if all does
front_fits : (front more words : List Token) → words ≡ front ++ more → Fits words → Fits front
front_fits front more words e fits = let long = ap length e in omega (arith, fits, long, length-append front more)

pub rest_fits : (front more words : List Token) → words ≡ front ++ more → Fits words → Fits more
rest_fits front more words e fits = let long = ap length e in omega (arith, fits, long, length-append front more)

list_faulty : (k : GrammarFaultKind) (s : Section) (ds : List Declaration) (words : List Token) → IsOfName k → Fits words → RefusesList k s ds words → EndsFaulty (judged_lists s ds) AreListsFormed k words
unfolding RefusesList
list_faulty k s ds words of fits h =
    let front = flat_map list_words h.whole in
    let now = ds ++ lists_variables s h.whole in
    behind_words k (judged_lists s ds) AreListsFormed words (front ++ h.more) h.parts
    (lift_faulty k front h.more (judged_list s now) HasNames (judged_lists s ds) AreListsFormed (list_in_lists s ds h.whole h.lawful.0 h.lawful.1 (front_fits front h.more words h.parts fits)) (one_list_faulty k s now h.more of h.holds))

block_faulty : (k : GrammarFaultKind) (ds : List Declaration) (words : List Token) → IsOfName k → Fits words → RefusesBlock k ds words → EndsFaulty (judged_block ds) IsBlockWellFormed k words
unfolding RefusesBlock
block_faulty k ds words of fits (s, h) =
    behind_words k (judged_block ds) IsBlockWellFormed words (section_words s ++ h.more) h.parts
    (lift_faulty k (section_words s) h.more (judged_lists s ds) AreListsFormed (judged_block ds) IsBlockWellFormed (lists_in_block s ds) (list_faulty k s ds h.more of (rest_fits (section_words s) h.more words h.parts fits) h.holds))

blocks_faulty : (k : GrammarFaultKind) (ds : List Declaration) (words : List Token) → IsOfName k → Fits words → RefusesBlocks k ds words → EndsFaulty (judged_blocks ds) AreBlocksFormed k words
unfolding RefusesBlocks
blocks_faulty k ds words of fits h =
    let front = flat_map block_words h.whole in
    let now = ds ++ flat_map block_variables h.whole in
    behind_words k (judged_blocks ds) AreBlocksFormed words (front ++ h.more) h.parts
    (lift_faulty k front h.more (judged_block now) IsBlockWellFormed (judged_blocks ds) AreBlocksFormed (block_in_blocks ds h.whole h.lawful.0 h.lawful.1 (front_fits front h.more words h.parts fits)) (block_faulty k now h.more of (rest_fits front h.more words h.parts fits) h.holds))

-- a word, and behind it others
after_word : (t : Token) (words more rest : List Token) → words ≡ t ∷ more → more ≡ rest → words ≡ t ∷ rest
after_word t words more rest e f = e ∙ ap (λ (r : List Token). t ∷ r) f

-- a program up to its name, or a word behind it
pub program_faulty : (k : GrammarFaultKind) (before : List Program) (words : List Token) → IsOfName k → Fits words → RefusesProgram k before words → EndsFaulty (judged_program before) IsProgramWellFormed k words
unfolding RefusesProgram judged_program
program_faulty k before words of fits h = go h.holds
  where
    go : IsRefused k (IsNameTaken (λ (p : Program). p.name) before) (64 ≤ length before) h.more ⊎ IsAfterName (MayNameProgram before) (RefusesBlocks k []) h.more → EndsFaulty (judged_program before) IsProgramWellFormed k words
    go (inl r) =
        let end : List Judged = sounds (token.Body [] ∷ key_word key.EndProgram ∷ []) in
        record {
          before = key_word key.Program ∷ [];
          word = token.Name r.name;
          parts = after_word (key_word key.Program) words h.more (token.Name r.name ∷ []) h.parts r.alone;
          value = record { name = r.name; blocks = vec_of [] (omega arith); body = [] };
          more = end;
          judged = ap (λ (j : Judged). sound (key_word key.Program) ∷ j ∷ end) (new_told k (λ (p : Program). p.name) before (length before) 64 r.name of r.told);
          holds = All-nil IsBlockWellFormed;
        }
    go (inr r) =
        let front : List Token = key_word key.Program ∷ token.Name r.name ∷ [] in
        let parts : words ≡ front ++ r.after.more = after_word (key_word key.Program) words h.more (token.Name r.name ∷ r.after.more) h.parts r.after.parts in
        behind_words k (judged_program before) IsProgramWellFormed words (front ++ r.after.more) parts
        (lift_faulty k front r.after.more (judged_blocks []) AreBlocksFormed (judged_program before) IsProgramWellFormed (blocks_in_program before r.name (not_among (λ (p : Program). p.name) before r.name r.may.0) r.may.1)
        (blocks_faulty k [] r.after.more of (rest_fits front r.after.more words parts fits) r.after.holds))

-- a task up to its name
task_faulty : (k : GrammarFaultKind) (items : List Item) (words : List Token) → IsOfName k → RefusesTask k items words → EndsFaulty (judged_task (flat_map task_of items)) (λ (t : TaskLine). 0 < t.interval) k words
unfolding RefusesTask judged_task
task_faulty k items words of h =
    let tasks = flat_map task_of items in
    let r = h.holds in
    let behind : List Token = mark_word Open ∷ settings IntervalFirst 1 0 ++ mark_word Close ∷ mark_word Semicolon ∷ [] in
    record {
      before = key_word key.Task ∷ [];
      word = token.Name r.name;
      parts = after_word (key_word key.Task) words h.more (token.Name r.name ∷ []) h.parts r.alone;
      value = record { name = r.name; order = IntervalFirst; interval = 1; priority = 0 };
      more = sounds behind;
      judged = ap (λ (j : Judged). sound (key_word key.Task) ∷ j ∷ sounds behind) (new_told k (λ (t : TaskLine). t.name) tasks (length tasks) 16 r.name of r.told);
      holds = omega arith;
    }

-- names that are one name are of one input
bools_same : (a b : Bool) → (a ≡ true → b ≡ true) → (b ≡ true → a ≡ true) → a ≡ b
bools_same true true f g = refl
bools_same true false f g = sym (f refl)
bools_same false true f g = g refl
bools_same false false f g = refl

same_place : (ds : List Declaration) (n m : List ℕ) → IsTrue (is_named n m) → place_of ds n ≡ place_of ds m
unfolding place_of
same_place ds n m same =
    let each : (d : Declaration) → is_named d.name n ≡ is_named d.name m =
    λ d. bools_same (is_named d.name n) (is_named d.name m) (λ e. named_both n d.name m (named_back d.name n e) same) (λ e. named_both m d.name n (named_back d.name m e) (named_back n m same)) in
    λ i. position (λ (d : Declaration). each d i) ds

same_input : (ds : List Declaration) (n m : List ℕ) → IsTrue (is_named n m) → input_kind_of ds n ≡ input_kind_of ds m
same_input ds n m same = ap (option_and_then (input_kind_at ds)) (same_place ds n m same)

-- an input that an earlier bind has is known
bound_known : (ds : List Declaration) (before : List Bind) (n : List ℕ) → All (IsOfInputKind ds) before → IsNameTaken (λ (b : Bind). b.input) before n → (k : Kind) × (input_kind_of ds n ≡ Some k)
bound_known ds before n kinds (i, b, lt, at, named) =
    let is = subst (IsOfInputKind ds) at (kinds i b lt) in
    (is.0, same_input ds n b.input named ∙ is.1)

-- an input of which this is told
input_told : (k : GrammarFaultKind) (ds : List Declaration) (before : List Bind) (count : ℕ) (n : List ℕ) → All (IsOfInputKind ds) before → IsOfName k → TellsOfSoughtName k (input_kind_of ds n ≡ None) (IsNameTaken (λ (b : Bind). b.input) before n) (4096 ≤ count)
    → input_name ds before count n ≡ record { word = token.Name n; fault = Some k }
input_told k ds before count n kinds of told = go k of told
  where
    bound : Bool
    bound = is_among (map (λ (b : Bind). b.input) before) n

    known : (o : Option Kind) → input_kind_of ds n ≡ o → input_name ds before count n ≡ record { word = token.Name n; fault = if_so (is_none o) kind.UnknownName (if_so bound kind.InputBoundTwice (if_so (leb 4096 count) kind.TooMany None)) }
    known o e = ap (λ (o : Option Kind). record { word = token.Name n; fault = if_so (is_none o) kind.UnknownName (if_so bound kind.InputBoundTwice (if_so (leb 4096 count) kind.TooMany None)) }) e

    many : (o : Option Kind) → input_kind_of ds n ≡ o → (o ≡ None → ⊥) → (bound ≡ true → ⊥) → 4096 ≤ count → input_name ds before count n ≡ record { word = token.Name n; fault = Some kind.TooMany }
    many None e some new full = absurd (some refl)
    many (Some l) e some new full =
        known (Some l) e
        ∙ ap (λ (b : Bool). record { word = token.Name n; fault = if_so b kind.InputBoundTwice (if_so (leb 4096 count) kind.TooMany None) }) (false_from_ne_true bound new)
        ∙ ap (λ (b : Bool). record { word = token.Name n; fault = if_so b kind.TooMany None }) (true_from_ne_false (leb 4096 count) (λ e. omega (arith, full, leb-false 4096 count e)))

    go : (k : GrammarFaultKind) → IsOfName k → TellsOfSoughtName k (input_kind_of ds n ≡ None) (IsNameTaken (λ (b : Bind). b.input) before n) (4096 ≤ count) → input_name ds before count n ≡ record { word = token.Name n; fault = Some k }
    go kind.Syntax of told = absurd of
    go kind.NameTwice of told = absurd told
    go kind.UnknownName of told = known None told
    go kind.WrongKind of told = absurd told
    go kind.InputBoundTwice of told =
        let its = bound_known ds before n kinds told in
        known (Some its.0) its.1 ∙ ap (λ (b : Bool). record { word = token.Name n; fault = if_so b kind.InputBoundTwice (if_so (leb 4096 count) kind.TooMany None) }) (among_taken (λ (b : Bind). b.input) before n told)
    go kind.TooMany of told = many (input_kind_of ds n) refl told.1 (λ among. told.2 (taken_among (λ (b : Bind). b.input) before n among)) told.0
    go kind.Memory of told = absurd of

-- an address of another kind
misfit : (k : Kind) (s : Space) → kind_of_space s ≢ k → may_take (Some k) s ≡ false
misfit value.Bool Bit other = absurd (other refl)
misfit value.Bool Word other = refl
misfit value.Int Bit other = refl
misfit value.Int Word other = absurd (other refl)
misfit value.Time Bit other = refl
misfit value.Time Word other = refl

-- a bind up to the word refused
bind_faulty : (k : GrammarFaultKind) (n : ℕ) (ds : List Declaration) (before : List Bind) (words : List Token) → IsOfName k → All (IsOfInputKind ds) before → RefusesOneBind n ds before k words → EndsFaulty (judged_bind ds n before) (λ (b : Bind). Unit {0}) k words
unfolding judged_bind
bind_faulty k n ds before words of kinds (inl r) =
    let s = source.Output [] [] [] in
    let behind : List Judged = sound (mark_word Assign) ∷ judged_source (input_kind_of ds r.name) s in
    record {
      before = [];
      word = token.Name r.name;
      parts = r.alone;
      value = record { input = r.name; source = s };
      more = behind;
      judged = ap (λ (j : Judged). j ∷ behind) (input_told k ds before n r.name kinds of r.told);
      holds = tt;
    }
bind_faulty k n ds before words of kinds (inr r) =
    let told = wrong_told k (kind_of_space r.address.space ≢ r.its) of r.told in
    let s = source.Field r.address in
    let wrong : Judged = record { word = token.Address r.address; fault = Some k } in
    let source : judged_source (Some r.its) s ≡ wrong ∷ [] =
    ap (λ (b : Bool). record { word = token.Address r.address; fault = if_so (not b) kind.WrongKind None } ∷ []) (misfit r.its r.address.space told.1)
    ∙ ap (λ (j : GrammarFaultKind). record { word = token.Address r.address; fault = Some j } ∷ []) (sym told.0) in
    record {
      before = token.Name r.input ∷ mark_word Assign ∷ [];
      word = token.Address r.address;
      parts = r.parts;
      value = record { input = r.input; source = s };
      more = [];
      judged = ap (λ (j : Judged). j ∷ sound (mark_word Assign) ∷ judged_source (input_kind_of ds r.input) s) (input_sound ds before n r.input r.its r.its_is (not_among (λ (b : Bind). b.input) before r.input r.new) r.few)
          ∙ ap (λ (o : Option Kind). sound (token.Name r.input) ∷ sound (mark_word Assign) ∷ judged_source o s) r.its_is
          ∙ ap (λ (a : List Judged). sound (token.Name r.input) ∷ sound (mark_word Assign) ∷ a) source;
      holds = tt;
    }

binds_faulty : (k : GrammarFaultKind) (n : ℕ) (ds : List Declaration) (words : List Token) → IsOfName k → RefusesBind k n ds words → EndsFaulty (judged_in_parentheses ds n) Fits k words
unfolding RefusesBind
binds_faulty k n ds words of h =
    let front = flat_map bind_and_comma h.whole in
    behind_words k (judged_in_parentheses ds n) Fits words (front ++ h.more) h.parts
    (lift_faulty k front h.more (bind_behind ds n h.whole) (λ (b : Bind). Unit {0}) (judged_in_parentheses ds n) Fits (bind_in_binds ds n h.whole h.lawful) (bind_faulty k (n + length h.whole) ds h.whole h.more of h.lawful.kinds h.holds))

-- what is known of an instance up to its name
abbrev NamesInstance : ℕ → List Item → List ℕ → Type 0
NamesInstance i before n = (IsTrue (is_among (map (λ (v : Use). v.instance) (flat_map use_of before)) n) → ⊥) × (i < 64)

-- the first program of a name has it
pub found_among : (programs : List Program) (name : List ℕ) (p : Program) → find (λ (q : Program). is_named name q.name) programs ≡ Some p → IsTrue (is_among (map (λ (q : Program). q.name) programs) name)
found_among programs name p found = among_taken (λ (q : Program). q.name) programs name ((found_any (λ (q : Program). is_named name q.name) programs).0 (ap is_some found))

-- an instance up to its type, or to a word in its binds
typed_faulty : (k : GrammarFaultKind) (i m : ℕ) (programs : List Program) (before : List Item) (name task : List ℕ) (words : List Token) → IsOfName k → NamesInstance i before name → IsTrue (is_among (map (λ (t : TaskLine). t.name) (flat_map task_of before)) task) → RefusesTyped k m programs words
    → EndsFaulty (judged_use programs i m before) (λ (u : Use). Unit {0}) k (key_word key.Program ∷ token.Name name ∷ key_word key.With ∷ token.Name task ∷ mark_word Colon ∷ words)
unfolding RefusesTyped judged_use
typed_faulty k i m programs before name task words of (new, few) known (inl r) =
    let told = unknown_told k (IsNameTaken (λ (p : Program). p.name) programs r.name → ⊥) of r.told in
    let types : List (List ℕ) = map (λ (p : Program). p.name) programs in
    let tasks : List (List ℕ) = map (λ (t : TaskLine). t.name) (flat_map task_of before) in
    let behind : List Judged = sound (mark_word Semicolon) ∷ [] in
    record {
      before = key_word key.Program ∷ token.Name name ∷ key_word key.With ∷ token.Name task ∷ mark_word Colon ∷ [];
      word = token.Name r.name;
      parts = ap (λ (r : List Token). key_word key.Program ∷ token.Name name ∷ key_word key.With ∷ token.Name task ∷ mark_word Colon ∷ r) r.alone;
      value = record { instance = name; task = task; program = r.name; binds = None; lines = vec_of [] (omega arith) };
      more = behind;
      judged = ap (λ (j : Judged). sound (key_word key.Program) ∷ j ∷ sound (key_word key.With) ∷ known_name tasks task ∷ sound (mark_word Colon) ∷ known_name types r.name ∷ behind) (new_sound (map (λ (v : Use). v.instance) (flat_map use_of before)) i 64 name new few)
          ∙ ap (λ (j : Judged). sound (key_word key.Program) ∷ sound (token.Name name) ∷ sound (key_word key.With) ∷ j ∷ sound (mark_word Colon) ∷ known_name types r.name ∷ behind) (known_sound tasks task known)
          ∙ ap (λ (j : Judged). sound (key_word key.Program) ∷ sound (token.Name name) ∷ sound (key_word key.With) ∷ sound (token.Name task) ∷ sound (mark_word Colon) ∷ j ∷ behind)
          (unknown_faulty types r.name (λ among. told.1 (taken_among (λ (p : Program). p.name) programs r.name among)) ∙ ap (λ (l : GrammarFaultKind). record { word = token.Name r.name; fault = Some l }) (sym told.0));
      holds = tt;
    }
typed_faulty k i m programs before name task words of (new, few) known (inr r) =
    let binds = r.after.holds in
    let front : List Token = key_word key.Program ∷ token.Name name ∷ key_word key.With ∷ token.Name task ∷ mark_word Colon ∷ token.Name r.name ∷ mark_word Open ∷ [] in
    let parts : words ≡ token.Name r.name ∷ mark_word Open ∷ binds.more = after_word (token.Name r.name) words r.after.more (mark_word Open ∷ binds.more) r.after.parts binds.parts in
    let is : IsTyped programs i before name task r.name r.type = record { new = new; few = few; task_is = known; type_is = found_among programs r.name r.type r.known; found = r.known } in
    behind_words k (judged_use programs i m before) (λ (u : Use). Unit {0}) (key_word key.Program ∷ token.Name name ∷ key_word key.With ∷ token.Name task ∷ mark_word Colon ∷ words) (front ++ binds.more)
    (ap (λ (r : List Token). key_word key.Program ∷ token.Name name ∷ key_word key.With ∷ token.Name task ∷ mark_word Colon ∷ r) parts)
    (lift_faulty k front binds.more (judged_in_parentheses (variables r.type) m) Fits (judged_use programs i m before) (λ (u : Use). Unit {0}) (binds_in_use programs i m before name task r.name r.type is) (binds_faulty k m (variables r.type) binds.more of binds.holds))

-- an instance up to its task, or to a word behind it
behind_name_faulty : (k : GrammarFaultKind) (i m : ℕ) (programs : List Program) (before : List Item) (name : List ℕ) (words : List Token) → IsOfName k → NamesInstance i before name → RefusesBinds k m programs before words
    → EndsFaulty (judged_use programs i m before) (λ (u : Use). Unit {0}) k (key_word key.Program ∷ token.Name name ∷ words)
unfolding RefusesBinds judged_use
behind_name_faulty k i m programs before name words of (new, few) h = go h.holds
  where
    go : IsUnknown k (λ (t : TaskLine). t.name) (flat_map task_of before) h.more ⊎ IsAfterName (λ n. IsNameTaken (λ (t : TaskLine). t.name) (flat_map task_of before) n) (IsAfter (mark_word Colon) (RefusesTyped k m programs)) h.more
        → EndsFaulty (judged_use programs i m before) (λ (u : Use). Unit {0}) k (key_word key.Program ∷ token.Name name ∷ words)
    go (inl r) =
        let told = unknown_told k (IsNameTaken (λ (t : TaskLine). t.name) (flat_map task_of before) r.name → ⊥) of r.told in
        let tasks : List (List ℕ) = map (λ (t : TaskLine). t.name) (flat_map task_of before) in
        let behind : List Judged = sound (mark_word Colon) ∷ known_name (map (λ (p : Program). p.name) programs) [] ∷ sound (mark_word Semicolon) ∷ [] in
        record {
          before = key_word key.Program ∷ token.Name name ∷ key_word key.With ∷ [];
          word = token.Name r.name;
          parts = ap (λ (r : List Token). key_word key.Program ∷ token.Name name ∷ r) (after_word (key_word key.With) words h.more (token.Name r.name ∷ []) h.parts r.alone);
          value = record { instance = name; task = r.name; program = []; binds = None; lines = vec_of [] (omega arith) };
          more = behind;
          judged = ap (λ (j : Judged). sound (key_word key.Program) ∷ j ∷ sound (key_word key.With) ∷ known_name tasks r.name ∷ behind) (new_sound (map (λ (v : Use). v.instance) (flat_map use_of before)) i 64 name new few)
              ∙ ap (λ (j : Judged). sound (key_word key.Program) ∷ sound (token.Name name) ∷ sound (key_word key.With) ∷ j ∷ behind)
              (unknown_faulty tasks r.name (λ among. told.1 (taken_among (λ (t : TaskLine). t.name) (flat_map task_of before) r.name among)) ∙ ap (λ (l : GrammarFaultKind). record { word = token.Name r.name; fault = Some l }) (sym told.0));
          holds = tt;
        }
    go (inr r) =
        let colon = r.after.holds in
        let parts : words ≡ key_word key.With ∷ token.Name r.name ∷ mark_word Colon ∷ colon.more =
        after_word (key_word key.With) words h.more (token.Name r.name ∷ mark_word Colon ∷ colon.more) h.parts (after_word (token.Name r.name) h.more r.after.more (mark_word Colon ∷ colon.more) r.after.parts colon.parts) in
        behind_words k (judged_use programs i m before) (λ (u : Use). Unit {0}) (key_word key.Program ∷ token.Name name ∷ words) (key_word key.Program ∷ token.Name name ∷ key_word key.With ∷ token.Name r.name ∷ mark_word Colon ∷ colon.more)
        (ap (λ (r : List Token). key_word key.Program ∷ token.Name name ∷ r) parts)
        (typed_faulty k i m programs before name r.name colon.more of (new, few) (among_taken (λ (t : TaskLine). t.name) (flat_map task_of before) r.name r.may) colon.holds)

-- an instance up to its name, or to a word behind it
use_faulty : (k : GrammarFaultKind) (i m : ℕ) (programs : List Program) (before : List Item) (words : List Token) → IsOfName k → RefusesInstance k i m programs before words → EndsFaulty (judged_use programs i m before) (λ (u : Use). Unit {0}) k words
unfolding RefusesInstance judged_use
use_faulty k i m programs before words of h = go h.holds
  where
    go : IsRefused k (IsNameTaken (λ (u : Use). u.instance) (flat_map use_of before)) (64 ≤ i) h.more ⊎ IsAfterName (MayNameInstance i before) (RefusesBinds k m programs before) h.more → EndsFaulty (judged_use programs i m before) (λ (u : Use). Unit {0}) k words
    go (inl r) =
        let behind : List Judged = sound (key_word key.With) ∷ known_name (map (λ (t : TaskLine). t.name) (flat_map task_of before)) [] ∷ sound (mark_word Colon) ∷ known_name (map (λ (p : Program). p.name) programs) [] ∷ sound (mark_word Semicolon) ∷ [] in
        record {
          before = key_word key.Program ∷ [];
          word = token.Name r.name;
          parts = after_word (key_word key.Program) words h.more (token.Name r.name ∷ []) h.parts r.alone;
          value = record { instance = r.name; task = []; program = []; binds = None; lines = vec_of [] (omega arith) };
          more = behind;
          judged = ap (λ (j : Judged). sound (key_word key.Program) ∷ j ∷ behind) (new_told k (λ (u : Use). u.instance) (flat_map use_of before) i 64 r.name of r.told);
          holds = tt;
        }
    go (inr r) =
        let parts : words ≡ key_word key.Program ∷ token.Name r.name ∷ r.after.more = after_word (key_word key.Program) words h.more (token.Name r.name ∷ r.after.more) h.parts r.after.parts in
        behind_words k (judged_use programs i m before) (λ (u : Use). Unit {0}) words (key_word key.Program ∷ token.Name r.name ∷ r.after.more) parts
        (behind_name_faulty k i m programs before r.name r.after.more of (not_among (λ (u : Use). u.instance) (flat_map use_of before) r.name r.may.0, r.may.1) r.after.holds)

-- lines of a resource up to a word refused
items_faulty : (k : GrammarFaultKind) (i m : ℕ) (programs : List Program) (words : List Token) → IsOfName k → AreNamesApart (map (λ (p : Program). p.name) programs) → Fits words → RefusesItems k i m programs words → EndsFaulty (judged_items programs i m) AreItemsFormed k words
unfolding RefusesItems
items_faulty k i m programs words of apart fits h =
    let front = flat_map item_words h.whole in
    behind_words k (judged_items programs i m) AreItemsFormed words (front ++ h.more) h.parts
    (lift_faulty k front h.more (item_behind programs i m h.whole) IsItemFormed (judged_items programs i m) AreItemsFormed (item_in_items programs i m h.whole apart h.lawful (front_fits front h.more words h.parts fits)) (go h.holds))
  where
    uses : List Use
    uses = flat_map use_of h.whole

    go : RefusesTask k h.whole h.more ⊎ RefusesInstance k (i + length uses) (m + length (flat_map binds_of uses)) programs h.whole h.more → EndsFaulty (item_behind programs i m h.whole) IsItemFormed k h.more
    go (inl t) = lift_faulty k [] h.more (judged_task (flat_map task_of h.whole)) (λ (t : TaskLine). 0 < t.interval) (item_behind programs i m h.whole) IsItemFormed (task_in_item programs (i + length uses) (m + length (flat_map binds_of uses)) h.whole) (task_faulty k h.whole h.more of t)
    go (inr u) = lift_faulty k [] h.more (judged_use programs (i + length uses) (m + length (flat_map binds_of uses)) h.whole) (λ (u : Use). Unit {0}) (item_behind programs i m h.whole) IsItemFormed (use_in_item programs (i + length uses) (m + length (flat_map binds_of uses)) h.whole) (use_faulty k (i + length uses) (m + length (flat_map binds_of uses)) programs h.whole h.more of u)

-- a resource up to its name, or to a word in its lines
resource_faulty : (k : GrammarFaultKind) (i m : ℕ) (programs : List Program) (before : List Resource) (words : List Token) → IsOfName k → AreNamesApart (map (λ (p : Program). p.name) programs) → Fits words → RefusesResource k i m programs before words
    → EndsFaulty (judged_resource programs i m before) IsResourceWellFormed k words
unfolding RefusesResource judged_resource
resource_faulty k i m programs before words of apart fits h = go h.holds
  where
    go : IsRefused k (IsNameTaken (λ (r : Resource). r.name) before) (16 ≤ length before) h.more ⊎ IsAfterName (MayNameResource before) (IsAfter (key_word key.On) (IsAfterName (λ (n : List ℕ). Unit {0}) (RefusesItems k i m programs))) h.more
        → EndsFaulty (judged_resource programs i m before) IsResourceWellFormed k words
    go (inl r) =
        let behind : List Judged = sound (key_word key.On) ∷ sound (token.Name []) ∷ sound (key_word key.EndResource) ∷ [] in
        record {
          before = key_word key.Resource ∷ [];
          word = token.Name r.name;
          parts = after_word (key_word key.Resource) words h.more (token.Name r.name ∷ []) h.parts r.alone;
          value = record { name = r.name; node = []; items = vec_of [] (omega arith) };
          more = behind;
          judged = ap (λ (j : Judged). sound (key_word key.Resource) ∷ j ∷ behind) (new_told k (λ (q : Resource). q.name) before (length before) 16 r.name of r.told);
          holds = All-nil (λ (t : TaskLine). 0 < t.interval);
        }
    go (inr r) =
        let on = r.after.holds in
        let node = on.holds in
        let items = node.after in
        let front : List Token = key_word key.Resource ∷ token.Name r.name ∷ key_word key.On ∷ token.Name node.name ∷ [] in
        let parts : words ≡ front ++ items.more =
        after_word (key_word key.Resource) words h.more (token.Name r.name ∷ key_word key.On ∷ token.Name node.name ∷ items.more) h.parts
        (after_word (token.Name r.name) h.more r.after.more (key_word key.On ∷ token.Name node.name ∷ items.more) r.after.parts
        (after_word (key_word key.On) r.after.more on.more (token.Name node.name ∷ items.more) on.parts items.parts)) in
        behind_words k (judged_resource programs i m before) IsResourceWellFormed words (front ++ items.more) parts
        (lift_faulty k front items.more (judged_items programs i m) AreItemsFormed (judged_resource programs i m before) IsResourceWellFormed (items_in_resource programs i m before r.name node.name (not_among (λ (q : Resource). q.name) before r.name r.may.0) r.may.1)
        (items_faulty k i m programs items.more of apart (rest_fits front items.more words parts fits) items.holds))

-- resources up to a word refused
resources_faulty : (k : GrammarFaultKind) (i m : ℕ) (programs : List Program) (words : List Token) → IsOfName k → AreNamesApart (map (λ (p : Program). p.name) programs) → Fits words → RefusesResources k i m programs words
    → EndsFaulty (judged_resources_behind programs i m) AreResourcesFormed k words
unfolding RefusesResources
resources_faulty k i m programs words of apart fits h =
    let front = flat_map resource_words h.whole in
    let uses = flat_map uses_of h.whole in
    let now_i = i + length uses in
    let now_m = m + length (flat_map binds_of uses) in
    behind_words k (judged_resources_behind programs i m) AreResourcesFormed words (front ++ h.more) h.parts
    (lift_faulty k front h.more (judged_resource programs now_i now_m h.whole) IsResourceWellFormed (judged_resources_behind programs i m) AreResourcesFormed (resource_in_resources programs i m h.whole apart h.lawful)
    (resource_faulty k now_i now_m programs h.whole h.more of apart (rest_fits front h.more words h.parts fits) h.holds))

-- words of a plant up to a word refused
pub tree_faulty : (k : GrammarFaultKind) (programs : List Program) (words behind : List Token) → IsOfName k → AreProgramsDeclared programs → Fits words → words ≡ flat_map program_words programs ++ behind → RefusesBehind k programs behind → EndsFaulty judged_of IsTreeWellFormed k words
unfolding RefusesBehind
tree_faulty k programs words behind of declared fits parts (inl p) =
    let front = flat_map program_words programs in
    behind_words k judged_of IsTreeWellFormed words (front ++ behind) parts
    (lift_faulty k front behind (judged_program programs) IsProgramWellFormed judged_of IsTreeWellFormed (program_in_tree programs declared) (program_faulty k programs behind of (rest_fits front behind words parts fits) p))
tree_faulty k programs words behind of declared fits parts (inr c) =
    let name = c.holds in
    let all = flat_map program_words programs in
    let named : List Token = key_word key.Configuration ∷ token.Name name.name ∷ [] in
    let whole : words ≡ (all ++ named) ++ name.after.more = parts ∙ ap (λ (r : List Token). all ++ r) (after_word (key_word key.Configuration) behind c.more (token.Name name.name ∷ name.after.more) c.parts name.after.parts) ∙ sym (append_assoc all named name.after.more) in
    behind_words k judged_of IsTreeWellFormed words ((all ++ named) ++ name.after.more) whole
    (lift_faulty k (all ++ named) name.after.more (judged_resources_behind programs 0 0) AreResourcesFormed judged_of IsTreeWellFormed (resources_in_tree programs name.name declared)
    (resources_faulty k 0 0 programs name.after.more of declared.apart (rest_fits (all ++ named) name.after.more words whole fits) name.after.holds))

-- that word is the first refused
pub last_refused : (k : GrammarFaultKind) (programs : List Program) (words behind : List Token) → IsOfName k → AreProgramsDeclared programs → Fits words → words ≡ flat_map program_words programs ++ behind → RefusesBehind k programs behind → IsLastRefused k words
last_refused k programs words behind of declared fits parts refuses =
    let e = tree_faulty k programs words behind of declared fits parts refuses in
    record { before = e.before; word = e.word; parts = e.parts; tree = e.value; more = e.more; judged = e.judged; formed = e.holds }
