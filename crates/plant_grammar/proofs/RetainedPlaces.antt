-- The retained variables of a program, one name, one list and one block more at a time.
use Rattle.std.proofs.Common.{◌≡◌, ℕ, ◌+◌, ◌<◌, ◌≤◌, List, [], ◌∷◌, ◌++◌, length, map, take, get_or, refl, sym, ap, ◌∙◌, append_assoc, arith}
use Rattle.std.specs.List.{flat_map, enumerate_from}
use Rattle.std.proofs.lemmas.List.{take_more, take_all, append-nil, map-append, get_or_default}
use Rattle.std.proofs.lemmas.List.FromFn.{length-enumerate_from, get_or-enumerate_from}
use Rattle.std.proofs.lemmas.Grind.{flat_map-append}
use Rattle.declared_names.specs.declared.declarations.Declaration.{Declaration}
use Rattle.declared_names.specs.declared.declarations.Declared.{Declared}
use Rattle.plant_grammar.specs.declared.grammar.tree.Section.{Section}
use Rattle.plant_grammar.specs.declared.grammar.tree.NameList.{NameList}
use Rattle.plant_grammar.specs.declared.grammar.tree.VarBlock.{VarBlock}
use Rattle.plant_grammar.specs.Lawful.{declared_as, list_variables, lists_variables}
use Rattle.plant_grammar.specs.Retained.{block_sections, place_if_retained}

-- one more of a list that is taken from its front
front_more : {A : Type 0} (xs : List A) (n : ℕ) (x : A) → n < length xs → x ≡ get_or xs n x → take (n + 1) xs ≡ take n xs ++ x ∷ []
front_more xs n x lt is = take_more xs n x lt ∙ ap (λ y. take n xs ++ y ∷ []) (sym is)

pub sections_start : (ss : List Section) → ss ≡ ss ++ []
sections_start ss = sym (append-nil ss)

-- a section for each of these
abbrev pub section_each : {A : Type 0} → Section → List A → List Section
section_each s xs = map (λ x. s) xs

-- one more name of a list
pub name_more : (s : Section) (names : List (List ℕ)) (n : ℕ) (before old new : List Section) → n < length names → old ≡ before ++ section_each s (take n names) → new ≡ old ++ s ∷ [] → new ≡ before ++ section_each s (take (n + 1) names)
name_more s names n before old new lt e f =
    let name = get_or names n [] in
    let more : take (n + 1) names ≡ take n names ++ name ∷ [] = take_more names n [] lt in
    f ∙ ap (λ ss. ss ++ s ∷ []) e ∙ append_assoc before (section_each s (take n names)) (s ∷ [])
    ∙ ap (λ ss. before ++ ss) (sym (ap (section_each s) more ∙ map-append (λ (m : List ℕ). s) (take n names) (name ∷ [])))

each_declared : (s : Section) (d : Declared) (names : List (List ℕ)) → map (λ (v : Declaration). s) (map (λ (n : List ℕ). record { name = n; declared = d }) names) ≡ section_each s names
each_declared s d [] = refl
each_declared s d (n ∷ names) = ap (λ ss. s ∷ ss) (each_declared s d names)

pub names_all : (s : Section) (l : NameList) (n : ℕ) (before ss : List Section) → length l.names.items ≤ n → ss ≡ before ++ section_each s (take n l.names.items) → ss ≡ before ++ map (λ (v : Declaration). s) (list_variables s l)
names_all s l n before ss le e = e ∙ ap (λ ns. before ++ section_each s ns) (take_all n l.names.items le) ∙ ap (λ xs. before ++ xs) (sym (each_declared s (declared_as s l.type_name) l.names.items))

-- a section for each variable of these lists
abbrev pub lists_sections : Section → List NameList → List Section
lists_sections s ls = map (λ (v : Declaration). s) (lists_variables s ls)

-- one more list of a block
pub list_more : (s : Section) (lists : List NameList) (n : ℕ) (l : NameList) (before old new : List Section) → n < length lists → l ≡ get_or lists n l
    → old ≡ before ++ lists_sections s (take n lists) → new ≡ old ++ map (λ (v : Declaration). s) (list_variables s l) → new ≡ before ++ lists_sections s (take (n + 1) lists)
list_more s lists n l before old new lt is e f =
    let one = map (λ (v : Declaration). s) (list_variables s l) in
    let grown : lists_sections s (take (n + 1) lists) ≡ lists_sections s (take n lists) ++ one =
    ap (lists_sections s) (front_more lists n l lt is) ∙ ap (map (λ (v : Declaration). s)) (flat_map-append (list_variables s) (take n lists) (l ∷ []) ∙ ap (λ vs. lists_variables s (take n lists) ++ vs) (append-nil (list_variables s l)))
    ∙ map-append (λ (v : Declaration). s) (lists_variables s (take n lists)) (list_variables s l) in
    f ∙ ap (λ ss. ss ++ one) e ∙ append_assoc before (lists_sections s (take n lists)) one ∙ ap (λ ss. before ++ ss) (sym grown)

pub lists_all : (b : VarBlock) (n : ℕ) (before ss : List Section) → length b.lists.items ≤ n → ss ≡ before ++ lists_sections b.section (take n b.lists.items) → ss ≡ before ++ block_sections b
lists_all b n before ss le e = e ∙ ap (λ ls. before ++ lists_sections b.section ls) (take_all n b.lists.items le)

-- the places of the retained variables, where each is counted with its section
abbrev placed : ℕ × Section → List ℕ
placed e = place_if_retained e.0 e.1

-- one more variable of a program
pub place_more : (ss : List Section) (n : ℕ) (d : Section) (old new : List ℕ) → n < length ss → old ≡ flat_map placed (take n (enumerate_from 0 ss)) → new ≡ old ++ place_if_retained n (get_or ss n d)
    → new ≡ flat_map placed (take (n + 1) (enumerate_from 0 ss))
place_more ss n d old new lt e f =
    let s = get_or ss n d in
    let counted = enumerate_from 0 ss in
    let long : n < length counted = rw (length-enumerate_from 0 ss) lt in
    let same : 0 + n ≡ n = omega arith in
    let here : get_or counted n (n, s) ≡ (n, s) = get_or-enumerate_from 0 ss n (n, s) lt ∙ ap (λ k. (k, get_or ss n s)) same ∙ ap (λ y. (n, y)) (get_or_default ss n s d lt) in
    let more : take (n + 1) counted ≡ take n counted ++ (n, s) ∷ [] = take_more counted n (n, s) long ∙ ap (λ y. take n counted ++ y ∷ []) here in
    f ∙ ap (λ ps. ps ++ place_if_retained n s) e
    ∙ sym (ap (flat_map placed) more ∙ flat_map-append placed (take n counted) ((n, s) ∷ []) ∙ ap (λ ps. flat_map placed (take n counted) ++ ps) (append-nil (place_if_retained n s)))

pub places_all : (ss : List Section) (n : ℕ) (ps : List ℕ) → length ss ≤ n → ps ≡ flat_map placed (take n (enumerate_from 0 ss)) → ps ≡ flat_map placed (enumerate_from 0 ss)
places_all ss n ps le e = let long : length (enumerate_from 0 ss) ≤ n = rw (length-enumerate_from 0 ss) le in e ∙ ap (flat_map placed) (take_all n (enumerate_from 0 ss) long)
