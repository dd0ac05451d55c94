-- Lists, blocks and programs that may stand where they do, so that no rule may refuse them.
use Rattle.std.proofs.Common.{◌≡◌, ℕ, ◌<◌, List, [], ◌∷◌, ◌++◌, length, map, refl, sym, ap, subst, ◌∙◌, append_assoc, arith}
use Rattle.std.specs.Prelude.{All}
use Rattle.std.specs.List.{flat_map}
use Rattle.std.proofs.lemmas.List.{get_or_append_left, length-append, length-map, map-append}
use Rattle.std.proofs.lemmas.List.Concat.{flat_map-cons, flat_map-append}
use Rattle.std.proofs.lemmas.List.Elements.{All-head}
use Rattle.std.proofs.lemmas.List.Folds.{Any-from_list_any, list_any-from_Any}
use Rattle.lists.proofs.Members.{all_last}
use Rattle.declared_names.specs.declared.declarations.Declared.{Declared}
use Rattle.declared_names.specs.declared.declarations.Declaration.{Declaration}
use Rattle.plant_text.specs.declared.token.Token.{Token}
use Rattle.plant_text.specs.declared.token.Token.TheVariants as token
use Rattle.plant_text.specs.declared.token.Keyword.TheVariants as key
use Rattle.plant_text.specs.declared.token.Punctuation.TheVariants.{Colon, Semicolon}
use Rattle.plant_grammar.specs.declared.grammar.tree.Section.{Section}
use Rattle.plant_grammar.specs.declared.grammar.tree.TypeName.{TypeName}
use Rattle.plant_grammar.specs.declared.grammar.tree.NameList.{NameList}
use Rattle.plant_grammar.specs.declared.grammar.tree.VarBlock.{VarBlock}
use Rattle.plant_grammar.specs.declared.grammar.tree.Program.{Program}
use Rattle.plant_grammar.specs.Grammar.{key_word, mark_word, section_words, type_word, name_words, list_words, lists_words, block_words, program_words}
use Rattle.plant_grammar.specs.Names.{is_named, AreNamesApart}
use Rattle.plant_grammar.specs.Lawful.{declared_as, list_variables, lists_variables, block_variables, IsTypeLawful, IsListLawful, IsBlockLawful, IsProgramLawful, AreProgramsDeclared, AreVariables, MayBeDeclared}
use Rattle.plant_grammar.specs.Parts.{ProgramParts, program_parts}
use Rattle.plant_grammar.specs.Steps.Lines.{IsNotNext, IsOneNext, IsNoneNext}
use Rattle.plant_grammar.specs.Steps.ReadParts.{section_start, IsSectionWhole}
use Rattle.plant_grammar.specs.Steps.NamesRead.{IsNew}
use Rattle.plant_grammar.proofs.Apart.{list_any-map}
use Rattle.plant_grammar.proofs.NewNames.{behind_others, list_parts}
use Rattle.plant_grammar.proofs.OneTree.{flat_map_same, next_read, all_read, one_list, list_stops, lists_parts, lists_whole, one_section, block_parts_of, one_block, block_stops, body_no_section, program_parts_of, one_program, program_stops}

-- what stands in the middle of a list holds what all of it holds
pub all_at : {A : Type 0} (P : A → Type 0) (all front : List A) (x : A) (more : List A) → all ≡ front ++ x ∷ more → All P all → P x
all_at P all front x more e holds = All-head P x more (all_last P front (x ∷ more) (subst (All P) e holds))

-- names before others are apart if all are
pub apart_front : (xs ys : List (List ℕ)) → AreNamesApart (xs ++ ys) → AreNamesApart xs
apart_front xs ys apart j k d within inside same =
    let long = length-append xs ys in
    apart j k d (omega (arith, within, long)) (omega (arith, inside, long)) (rw (get_or_append_left xs ys d j within, get_or_append_left xs ys d k inside) same)

-- a name behind others is new there, whatever else those that were read hold
pub new_name : {A : Type 0} (f : A → List ℕ) (read all front : List A) (x : A) (more : List A) → all ≡ front ++ x ∷ more → map f front ≡ map f read → AreNamesApart (map f all) → IsNew f read (f x)
new_name f read all front x more whole same apart taken =
    let here : AreNamesApart (map f read ++ f x ∷ map f more) = subst AreNamesApart (ap (map f) whole ∙ map-append f front (x ∷ more) ∙ ap (λ ns. ns ++ f x ∷ map f more) same) apart in
    let found = Any-from_list_any (is_named (f x)) (map f read) (list_any-map f (is_named (f x)) read ∙ list_any-from_Any (λ y. is_named (f x) (f y)) read taken) in
    behind_others (map f read) (f x) (map f more) here found.0 found.1 found.2 found.3 found.4

-- there are as many before as were read
pub as_many : {A B : Type 0} (f : A → B) (front read : List A) → map f front ≡ map f read → length front ≡ length read
as_many f front read same = sym (length-map front f) ∙ ap length same ∙ length-map read f

-- variables before others are lawful if all are
pub variables_front : (xs ys : List Declaration) → AreVariables (xs ++ ys) → AreVariables xs
variables_front xs ys are = record {
  apart = apart_front (map (λ (v : Declaration). v.name) xs) (map (λ (v : Declaration). v.name) ys) (subst AreNamesApart (map-append (λ (v : Declaration). v.name) xs ys) are.apart);
  few = omega (arith, length-append xs ys, are.few);
}

names_back : (d : Declared) (ns : List (List ℕ)) → map (λ (v : Declaration). v.name) (map (λ (n : List ℕ). record { name = n; declared = d }) ns) ≡ ns
names_back d [] = refl
names_back d (n ∷ ns) = ap (λ ms. n ∷ ms) (names_back d ns)

pub may_declare : (s : Section) (vs : List Declaration) (l : NameList) → AreVariables (vs ++ list_variables s l) → MayBeDeclared vs l.names.items
may_declare s vs l are =
    let d = declared_as s l.type_name in
    let make : List ℕ → Declaration = λ n. record { name = n; declared = d } in (
      subst AreNamesApart (map-append (λ (v : Declaration). v.name) vs (list_variables s l) ∙ ap (λ ns. map (λ (v : Declaration). v.name) vs ++ ns) (names_back d l.names.items)) are.apart,
      omega (arith, length-append vs (map make l.names.items), length-map l.names.items make, are.few),
    )

-- what is declared, where one more follows what was read
pub declared_with : {A B : Type 0} (f : A → List B) (vs now : List B) (read all front : List A) (x : A) (more : List A) → now ≡ vs ++ flat_map f read → all ≡ front ++ x ∷ more → map f front ≡ map f read → vs ++ flat_map f all ≡ (now ++ f x) ++ flat_map f more
declared_with f vs now read all front x more d whole same =
    let front_is = flat_map_same f front read same in
    ap (λ xs. vs ++ flat_map f xs) whole
    ∙ ap (λ ys. vs ++ ys) (flat_map-append f front (x ∷ more) ∙ ap (λ a. a ++ flat_map f (x ∷ more)) front_is ∙ ap (λ b. flat_map f read ++ b) (flat_map-cons f x more))
    ∙ sym (append_assoc vs (flat_map f read) (f x ++ flat_map f more)) ∙ sym (append_assoc (vs ++ flat_map f read) (f x) (flat_map f more)) ∙ ap (λ ws. (ws ++ f x) ++ flat_map f more) (sym d)

-- a list behind others of its block is refused wrongly
pub list_allowed : (s : Section) (vs now_vs : List Declaration) (read ls : List NameList) (start now rest : List Token) → start ≡ flat_map list_words read ++ now → now_vs ≡ vs ++ flat_map (list_variables s) read → IsNotNext (key_word key.EndVar) now
    → start ≡ lists_words ls ++ rest → All (IsListLawful s) ls → AreVariables (vs ++ lists_variables s ls)
    → ((ns : List (List ℕ)) (t : TypeName) (after : List Token) → now ≡ name_words ns ++ mark_word Colon ∷ type_word t ∷ mark_word Semicolon ∷ after → 0 < length ns → IsTypeLawful s t → MayBeDeclared now_vs ns → ⊥) → ⊥
list_allowed s vs now_vs read ls start now rest e d goes_on h lawful are refuses =
    let n = next_read list_words (list_variables s) (one_list s) read ls start now (key_word key.EndVar ∷ rest) (λ i. goes_on rest i) (list_stops rest) e (h ∙ lists_parts ls rest) in
    let l = n.1 in
    let this = all_at (IsListLawful s) ls n.0 l n.2 n.3 lawful in
    let with_this = variables_front (now_vs ++ list_variables s l) (lists_variables s n.2) (subst AreVariables (declared_with (list_variables s) vs now_vs read ls n.0 l n.2 d n.3 n.4) are) in
    refuses l.names.items l.type_name (flat_map list_words n.2 ++ key_word key.EndVar ∷ rest) (list_parts l now (flat_map list_words n.2 ++ key_word key.EndVar ∷ rest) n.5) this.some this.type_is (may_declare s now_vs l with_this)

-- the lists of a block are refused wrongly
pub lists_allowed : (read s : Section) (vs : List Declaration) (ls : List NameList) (start now rest : List Token) → start ≡ section_words read ++ now → IsSectionWhole read now → start ≡ section_words s ++ (lists_words ls ++ rest) → All (IsListLawful s) ls → AreVariables (vs ++ lists_variables s ls)
    → ((ms : List NameList) (after : List Token) → now ≡ lists_words ms ++ after → All (IsListLawful read) ms → AreVariables (vs ++ lists_variables read ms) → ⊥) → ⊥
lists_allowed read s vs ls start now rest e whole h lawful are refuses =
    let same = one_section s read (lists_words ls ++ rest) now (lists_whole s ls rest) whole (sym h ∙ e) in
    refuses ls rest (sym same.1) (subst (λ (t : Section). All (IsListLawful t) ls) same.0 lawful) (subst (λ (t : Section). AreVariables (vs ++ lists_variables t ls)) same.0 are)

-- a block behind others of its program is refused wrongly
pub block_allowed : (vs now_vs : List Declaration) (read bs : List VarBlock) (start now rest : List Token) → start ≡ flat_map block_words read ++ now → now_vs ≡ vs ++ flat_map block_variables read → IsOneNext section_start now
    → start ≡ flat_map block_words bs ++ rest → IsNoneNext section_start rest → All IsBlockLawful bs → AreVariables (vs ++ flat_map block_variables bs)
    → ((s : Section) (ls : List NameList) (after : List Token) → now ≡ section_words s ++ (lists_words ls ++ after) → All (IsListLawful s) ls → AreVariables (now_vs ++ lists_variables s ls) → ⊥) → ⊥
block_allowed vs now_vs read bs start now rest e d next h none lawful are refuses =
    let n = next_read block_words block_variables one_block read bs start now rest (λ i. none next.0 next.1 (sym i ∙ next.2)) (block_stops rest none) e h in
    let b = n.1 in
    let with_this = variables_front (now_vs ++ block_variables b) (flat_map block_variables n.2) (subst AreVariables (declared_with block_variables vs now_vs read bs n.0 b n.2 d n.3 n.4) are) in
    refuses b.section b.lists.items (flat_map block_words n.2 ++ rest) (n.5 ∙ block_parts_of b (flat_map block_words n.2 ++ rest)) (all_at IsBlockLawful bs n.0 b n.2 n.3 lawful) with_this

-- what stands behind the start of a program
started : (p : Program) (n : List ℕ) (start now rest : List Token) → start ≡ key_word key.Program ∷ token.Name n ∷ now → start ≡ program_words p ++ rest → now ≡ flat_map block_words p.blocks.items ++ token.Body p.body ∷ key_word key.EndProgram ∷ rest
started p n start now rest e h = let parts = h ∙ program_parts_of p rest in cc (e, parts)

-- the blocks of a program are refused wrongly
pub blocks_allowed : (p : Program) (n : List ℕ) (vs : List Declaration) (start now rest : List Token) → start ≡ key_word key.Program ∷ token.Name n ∷ now → vs ≡ [] → start ≡ program_words p ++ rest → IsProgramLawful p
    → ((bs : List VarBlock) (after : List Token) → now ≡ flat_map block_words bs ++ after → IsNoneNext section_start after → All IsBlockLawful bs → AreVariables (vs ++ flat_map block_variables bs) → ⊥) → ⊥
blocks_allowed p n vs start now rest e none h lawful refuses =
    let behind = token.Body p.body ∷ key_word key.EndProgram ∷ rest in
    let are : AreVariables ([] ++ flat_map block_variables p.blocks.items) = record { apart = lawful.apart; few = lawful.few } in
    refuses p.blocks.items behind (started p n start now rest e h) (body_no_section p.body (key_word key.EndProgram ∷ rest)) lawful.blocks_are (subst (λ (ws : List Declaration). AreVariables (ws ++ flat_map block_variables p.blocks.items)) (sym none) are)

-- the end of a program is refused wrongly
pub end_allowed : (p : Program) (n : List ℕ) (read : List VarBlock) (start now left rest : List Token) → start ≡ key_word key.Program ∷ token.Name n ∷ now → now ≡ flat_map block_words read ++ left → IsNoneNext section_start left → start ≡ program_words p ++ rest
    → ((body : List ℕ) (after : List Token) → left ≡ token.Body body ∷ key_word key.EndProgram ∷ after → ⊥) → ⊥
end_allowed p n read start now left rest e b none h refuses =
    let behind = token.Body p.body ∷ key_word key.EndProgram ∷ rest in
    let a = all_read block_words block_variables one_block read p.blocks.items now left behind (block_stops left none) (block_stops behind (body_no_section p.body (key_word key.EndProgram ∷ rest))) b (started p n start now rest e h) in
    refuses p.body rest a.1

-- a program behind others is refused wrongly
pub program_allowed : (read ps : List Program) (start now rest : List Token) → start ≡ flat_map program_words read ++ now → (after : List Token) → now ≡ key_word key.Program ∷ after
    → start ≡ flat_map program_words ps ++ rest → IsNotNext (key_word key.Program) rest → AreProgramsDeclared ps
    → ((p : Program) (more : List Token) → now ≡ program_words p ++ more → IsNew (λ (p : Program). p.name) read p.name → length read < 64 → IsProgramLawful p → ⊥) → ⊥
program_allowed read ps start now rest e after next h none declared refuses =
    let n = next_read program_words program_parts one_program read ps start now rest (λ i. none after (sym i ∙ next)) (program_stops rest none) e h in
    let p = n.1 in
    let names : map (λ (p : Program). p.name) n.0 ≡ map (λ (p : Program). p.name) read = names_of n.0 read n.4 in
    let many = as_many program_parts n.0 read n.4 in
    let long : length ps ≡ length (n.0 ++ p ∷ n.2) = ap length n.3 in
    refuses p (flat_map program_words n.2 ++ rest) n.5 (new_name (λ (p : Program). p.name) read ps n.0 p n.2 n.3 names declared.apart) (omega (arith, declared.few, many, long, length-append n.0 (p ∷ n.2))) (all_at IsProgramLawful ps n.0 p n.2 n.3 declared.declared)
  where
    names_of : (xs ys : List Program) → map program_parts xs ≡ map program_parts ys → map (λ (p : Program). p.name) xs ≡ map (λ (p : Program). p.name) ys
    names_of [] [] i = refl
    names_of [] (y ∷ ys) i = absurd cc
    names_of (x ∷ xs) [] i = absurd cc
    names_of (x ∷ xs) (y ∷ ys) i =
        let first : program_parts x ≡ program_parts y = cc in
        let rest : map program_parts xs ≡ map program_parts ys = cc in
        let name : x.name ≡ y.name = ap (λ (q : ProgramParts). q.name) first in
        let names = names_of xs ys rest in
        cc (name, names)
