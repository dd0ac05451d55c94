-- What is expected behind whole things of a program.
use Rattle.std.proofs.Common.{◌≡◌, ◌||◌, ◌<◌, ℕ, Bool, true, false, List, [], ◌∷◌, ◌++◌, None, Some, length, refl, sym, ap, subst, ◌∙◌, append_assoc, arith}
use Rattle.std.specs.Prelude.{All}
use Rattle.std.specs.List.{flat_map}
use Rattle.std.proofs.lemmas.List.Concat.{flat_map-cons}
use Rattle.std.proofs.lemmas.List.Elements.{All-head, All-tail}
use Rattle.declared_names.specs.declared.declarations.Kind.TheVariants as kind
use Rattle.plant_text.specs.declared.token.Token.{Token}
use Rattle.plant_text.specs.declared.token.Token.TheVariants as token
use Rattle.plant_text.specs.declared.token.Keyword.{Keyword}
use Rattle.plant_text.specs.declared.token.Keyword.TheVariants as key
use Rattle.plant_text.specs.declared.token.Punctuation.TheVariants as mark
use Rattle.plant_grammar.specs.declared.grammar_fault.GrammarFault.{GrammarFault}
use Rattle.plant_grammar.specs.declared.grammar.tree.Section.{Section}
use Rattle.plant_grammar.specs.declared.grammar.tree.Section.TheVariants as section
use Rattle.plant_grammar.specs.declared.grammar.tree.TypeName.{TypeName}
use Rattle.plant_grammar.specs.declared.grammar.tree.TypeName.TheVariants.{Elementary, Block}
use Rattle.plant_grammar.specs.declared.grammar.tree.NameList.{NameList}
use Rattle.plant_grammar.specs.declared.grammar.tree.VarBlock.{VarBlock}
use Rattle.plant_grammar.specs.declared.grammar.tree.Program.{Program}
use Rattle.plant_grammar.specs.Grammar.{key_word, mark_word, section_words, type_word, name_words, list_words, lists_words, block_words, program_words}
use Rattle.plant_grammar.specs.Lawful.{IsListLawful, IsBlockLawful, IsProgramLawful}
use Rattle.plant_grammar.specs.WellFormed.{HasNames, IsBlockWellFormed, IsProgramWellFormed}
use Rattle.plant_grammar.specs.Steps.Lines.{ReaderValue, KeepsLines, IsWordNext, IsNotNext, IsOneNext, IsNoneNext}
use Rattle.plant_grammar.specs.Steps.ReadParts.{section_start, IsSectionWhole}
use Rattle.plant_grammar.specs.Steps.Expected.{Expected, Key, Mark, AName, ABody, AType, ASection, MayRetain, MorePrograms, MoreBlocks, MoreLists, MoreNames, program_rest, list_rest, is_key, is_name, where_so, or_skipped, begun, may_end, step, walk, GetsStuck}
use Rattle.plant_grammar.proofs.ExpectedWords.{walk_append, stuck_as}
use Rattle.plant_grammar.proofs.UnexpectedWords.{no_key, no_mark, left_out, some_expected}
use Rattle.plant_grammar.proofs.StuckBehind.{stuck_after}

-- things that each lead back to where they began
pub walked_each : {A : Type 0} (f : A → List Token) (P : A → Type 0) (es : List Expected) → ((x : A) → P x → walk es (f x) ≡ Some es) → (xs : List A) → All P xs → walk es (flat_map f xs) ≡ Some es
unfolding walk
walked_each f P es one [] each = refl
walked_each f P es one (x ∷ xs) each =
    ap (walk es) (flat_map-cons f x xs) ∙ walk_append es es (f x) (flat_map f xs) (one x (All-head P x xs each)) ∙ walked_each f P es one xs (All-tail P x xs each)

-- names with commas between them
pub names_walked : (ns : List (List ℕ)) (es : List Expected) → 0 < length ns → walk (AName ∷ MoreNames ∷ es) (name_words ns) ≡ Some (MoreNames ∷ es)
unfolding walk step begun may_end
names_walked [] es some = absurd (omega (arith, some))
names_walked (n ∷ []) es some = refl
names_walked (n ∷ m ∷ more) es some = names_walked (m ∷ more) es (omega arith)

-- a comma behind names
pub comma_walked : (es : List Expected) → walk (MoreNames ∷ es) (mark_word mark.Comma ∷ []) ≡ Some (AName ∷ MoreNames ∷ es)
unfolding walk step begun may_end
comma_walked es = refl

-- a colon, a type and a semicolon behind names
type_walked : (t : TypeName) (es : List Expected) → walk (list_rest ++ es) (mark_word mark.Colon ∷ type_word t ∷ mark_word mark.Semicolon ∷ []) ≡ Some es
unfolding walk step begun may_end
type_walked (Elementary kind.Bool) es = refl
type_walked (Elementary kind.Int) es = refl
type_walked (Elementary kind.Time) es = refl
type_walked (Block b) es = refl

-- a list of names
one_list_walked : (l : NameList) (es : List Expected) → HasNames l → walk (AName ∷ list_rest ++ es) (list_words l) ≡ Some es
unfolding list_words
one_list_walked l es some =
    let marks = mark_word mark.Colon ∷ type_word l.type_name ∷ mark_word mark.Semicolon ∷ [] in
    let rest : List Expected = Mark mark.Colon ∷ AType ∷ Mark mark.Semicolon ∷ es in
    walk_append (AName ∷ MoreNames ∷ rest) (MoreNames ∷ rest) (name_words l.names.items) marks (names_walked l.names.items rest some) ∙ type_walked l.type_name es

-- a name begins a list of names
name_begins : (ns : List (List ℕ)) (more : List Token) (es : List Expected) → 0 < length ns → walk (MoreLists ∷ es) (name_words ns ++ more) ≡ walk (AName ∷ list_rest ++ MoreLists ∷ es) (name_words ns ++ more)
unfolding walk step begun may_end
name_begins [] more es some = absurd (omega (arith, some))
name_begins (n ∷ []) more es some = refl
name_begins (n ∷ m ∷ ms) more es some = refl

-- a list of names in a block
pub list_walked : (l : NameList) (es : List Expected) → HasNames l → walk (MoreLists ∷ es) (list_words l) ≡ Some (MoreLists ∷ es)
unfolding list_words
list_walked l es some =
    name_begins l.names.items (mark_word mark.Colon ∷ type_word l.type_name ∷ mark_word mark.Semicolon ∷ []) es some ∙ one_list_walked l (MoreLists ∷ es) some

-- lists of names
pub lists_walked : (ls : List NameList) (es : List Expected) → All HasNames ls → walk (MoreLists ∷ es) (flat_map list_words ls) ≡ Some (MoreLists ∷ es)
lists_walked ls es each = walked_each list_words HasNames (MoreLists ∷ es) (λ l some. list_walked l es some) ls each

-- lists of names up to the end of their block
pub ended_lists_walked : (ls : List NameList) (es : List Expected) → All HasNames ls → walk (MoreLists ∷ es) (lists_words ls) ≡ Some es
unfolding walk step begun
ended_lists_walked [] es each = refl
ended_lists_walked (l ∷ ls) es each =
    walk_append (MoreLists ∷ es) (MoreLists ∷ es) (list_words l) (lists_words ls) (list_walked l es (All-head HasNames l ls each)) ∙ ended_lists_walked ls es (All-tail HasNames l ls each)

-- a name isn't RETAIN
name_unretained : (ns : List (List ℕ)) (more : List Token) (es : List Expected) → 0 < length ns → walk (MayRetain ∷ es) (name_words ns ++ more) ≡ walk es (name_words ns ++ more)
unfolding walk step begun may_end
name_unretained [] more es some = absurd (omega (arith, some))
name_unretained (n ∷ []) more es some = refl
name_unretained (n ∷ m ∷ ms) more es some = refl

-- nor is the first word of a list of names
list_unretained : (l : NameList) (more : List Token) (es : List Expected) → HasNames l → walk (MayRetain ∷ es) (list_words l ++ more) ≡ walk es (list_words l ++ more)
unfolding list_words
list_unretained l more es some =
    let marks = mark_word mark.Colon ∷ type_word l.type_name ∷ mark_word mark.Semicolon ∷ [] in
    let parts = append_assoc (name_words l.names.items) marks more in
    ap (walk (MayRetain ∷ es)) parts ∙ name_unretained l.names.items (marks ++ more) es some ∙ ap (walk es) (sym parts)

-- the lists of a block where RETAIN may stand
lists_unretained : (ls : List NameList) (es : List Expected) → All HasNames ls → walk (MayRetain ∷ es) (lists_words ls) ≡ walk es (lists_words ls)
unfolding walk step begun may_end
lists_unretained [] es each = refl
lists_unretained (l ∷ ls) es each = list_unretained l (lists_words ls) es (All-head HasNames l ls each)

-- a section and its lists
parts_walked : (s : Section) (ls : List NameList) (es : List Expected) → All HasNames ls → walk (MoreBlocks ∷ es) (section_words s ++ lists_words ls) ≡ Some (MoreBlocks ∷ es)
unfolding walk step begun may_end
parts_walked section.Input ls es each = ended_lists_walked ls (MoreBlocks ∷ es) each
parts_walked section.Output ls es each = ended_lists_walked ls (MoreBlocks ∷ es) each
parts_walked section.Local ls es each = lists_unretained ls (MoreLists ∷ MoreBlocks ∷ es) each ∙ ended_lists_walked ls (MoreBlocks ∷ es) each
parts_walked section.Retained ls es each = ended_lists_walked ls (MoreBlocks ∷ es) each

-- a block of a program
pub block_walked : (b : VarBlock) (es : List Expected) → IsBlockWellFormed b → walk (MoreBlocks ∷ es) (block_words b) ≡ Some (MoreBlocks ∷ es)
unfolding block_words
block_walked b es formed = parts_walked b.section b.lists.items es formed

-- blocks of a program
pub blocks_walked : (bs : List VarBlock) (es : List Expected) → All IsBlockWellFormed bs → walk (MoreBlocks ∷ es) (flat_map block_words bs) ≡ Some (MoreBlocks ∷ es)
blocks_walked bs es each = walked_each block_words IsBlockWellFormed (MoreBlocks ∷ es) (λ b formed. block_walked b es formed) bs each

-- a body and the end of its program, behind its blocks
body_walked : (b : List ℕ) (es : List Expected) → walk (MoreBlocks ∷ ABody ∷ Key key.EndProgram ∷ es) (token.Body b ∷ key_word key.EndProgram ∷ []) ≡ Some es
unfolding walk step begun may_end
body_walked b es = refl

-- PROGRAM and a name, where more programs may follow, and where this one alone is expected
program_begins : (n : List ℕ) (more : List Token) (es : List Expected) → walk (MorePrograms ∷ es) (key_word key.Program ∷ token.Name n ∷ more) ≡ walk (MoreBlocks ∷ ABody ∷ Key key.EndProgram ∷ MorePrograms ∷ es) more
unfolding walk step begun may_end
program_begins n more es = refl

one_program_begins : (n : List ℕ) (more : List Token) (es : List Expected) → walk (Key key.Program ∷ program_rest ++ es) (key_word key.Program ∷ token.Name n ∷ more) ≡ walk (MoreBlocks ∷ ABody ∷ Key key.EndProgram ∷ es) more
unfolding walk step begun may_end
one_program_begins n more es = refl

-- what stands behind a program's name
abbrev behind_name : Program → List Token
behind_name p = flat_map block_words p.blocks.items ++ token.Body p.body ∷ key_word key.EndProgram ∷ []

behind_name_walked : (p : Program) (es : List Expected) → IsProgramWellFormed p → walk (MoreBlocks ∷ ABody ∷ Key key.EndProgram ∷ es) (behind_name p) ≡ Some es
behind_name_walked p es formed =
    let rest : List Expected = ABody ∷ Key key.EndProgram ∷ es in
    walk_append (MoreBlocks ∷ rest) (MoreBlocks ∷ rest) (flat_map block_words p.blocks.items) (token.Body p.body ∷ key_word key.EndProgram ∷ []) (blocks_walked p.blocks.items rest formed) ∙ body_walked p.body es

-- a program, where more may follow, and where it alone is expected
pub program_walked : (p : Program) (es : List Expected) → IsProgramWellFormed p → walk (MorePrograms ∷ es) (program_words p) ≡ Some (MorePrograms ∷ es)
unfolding program_words
program_walked p es formed = program_begins p.name (behind_name p) es ∙ behind_name_walked p (MorePrograms ∷ es) formed

pub one_program_walked : (p : Program) (es : List Expected) → IsProgramWellFormed p → walk (Key key.Program ∷ program_rest ++ es) (program_words p) ≡ Some es
unfolding program_words
one_program_walked p es formed = one_program_begins p.name (behind_name p) es ∙ behind_name_walked p es formed

-- programs
pub programs_walked : (ps : List Program) (es : List Expected) → All IsProgramWellFormed ps → walk (MorePrograms ∷ es) (flat_map program_words ps) ≡ Some (MorePrograms ∷ es)
programs_walked ps es each = walked_each program_words IsProgramWellFormed (MorePrograms ∷ es) (λ p formed. program_walked p es formed) ps each

-- behind names, no comma stands next
stuck_behind_names : (Known : List Token → Type 0) (es : List Expected) (r : ReaderValue) (fault : GrammarFault) → IsNotNext (mark_word mark.Comma) r.words → GetsStuck Known es r fault → GetsStuck Known (MoreNames ∷ es) r fault
unfolding begun may_end
stuck_behind_names Known es r fault none stuck = λ syntax behind.
    stuck_as Known (es ++ behind) (MoreNames ∷ (es ++ behind)) r fault.line (some_expected MoreNames (es ++ behind))
    (λ t rest h. sym (left_out MoreNames (es ++ behind) t refl (ap (λ b. where_so b (AName ∷ MoreNames ∷ []) None) (no_mark mark.Comma t (λ same. none rest (h ∙ ap (λ u. u ∷ rest) same)))))) (stuck syntax behind)

-- names were read, and no further one follows
pub stuck_after_names : (Known : List Token → Type 0) (ns : List (List ℕ)) (es : List Expected) (old new : ReaderValue) (fault : GrammarFault) → 0 < length ns → old.words ≡ name_words ns ++ new.words → KeepsLines old new → IsNotNext (mark_word mark.Comma) new.words → GetsStuck (λ w. Known (name_words ns ++ w)) es new fault → GetsStuck Known (AName ∷ MoreNames ∷ es) old fault
stuck_after_names Known ns es old new fault some e keeps none stuck =
    stuck_after Known (AName ∷ MoreNames ∷ es) (MoreNames ∷ es) (name_words ns) old new fault e keeps (λ behind. names_walked ns (es ++ behind) some) (stuck_behind_names (λ w. Known (name_words ns ++ w)) es new fault none stuck)

-- the word of a type
one_type_walked : (t : TypeName) (es : List Expected) → walk (AType ∷ es) (type_word t ∷ []) ≡ Some es
unfolding walk step begun may_end
one_type_walked (Elementary kind.Bool) es = refl
one_type_walked (Elementary kind.Int) es = refl
one_type_walked (Elementary kind.Time) es = refl
one_type_walked (Block b) es = refl

-- a type was read
pub stuck_after_type : (Known : List Token → Type 0) (t : TypeName) (es : List Expected) (old new : ReaderValue) (fault : GrammarFault) → old.words ≡ type_word t ∷ new.words → KeepsLines old new → GetsStuck (λ w. Known (type_word t ∷ w)) es new fault → GetsStuck Known (AType ∷ es) old fault
stuck_after_type Known t es old new fault e keeps stuck = stuck_after Known (AType ∷ es) es (type_word t ∷ []) old new fault e keeps (λ behind. one_type_walked t (es ++ behind)) stuck

-- a section was read
pub stuck_after_section : (Known : List Token → Type 0) (s : Section) (es : List Expected) (old new : ReaderValue) (fault : GrammarFault) → old.words ≡ section_words s ++ new.words → KeepsLines old new → IsSectionWhole s new.words → GetsStuck (λ w. Known (section_words s ++ w)) es new fault → GetsStuck Known (ASection ∷ es) old fault
unfolding walk step begun may_end
stuck_after_section Known section.Input es old new fault e keeps whole stuck = stuck_after Known (ASection ∷ es) es (section_words section.Input) old new fault e keeps (λ behind. refl) stuck
stuck_after_section Known section.Output es old new fault e keeps whole stuck = stuck_after Known (ASection ∷ es) es (section_words section.Output) old new fault e keeps (λ behind. refl) stuck
stuck_after_section Known section.Local es old new fault e keeps whole stuck =
    stuck_after Known (ASection ∷ es) (MayRetain ∷ es) (section_words section.Local) old new fault e keeps (λ behind. refl)
    (λ syntax behind. stuck_as (λ w. Known (section_words section.Local ++ w)) (es ++ behind) (MayRetain ∷ (es ++ behind)) new fault.line (some_expected MayRetain (es ++ behind))
    (λ t rest h. sym (left_out MayRetain (es ++ behind) t refl (ap (λ b. where_so b [] None) (no_key key.Retain t (λ same. whole rest (h ∙ ap (λ u. u ∷ rest) same)))))) (stuck syntax behind))
stuck_after_section Known section.Retained es old new fault e keeps whole stuck = stuck_after Known (ASection ∷ es) es (section_words section.Retained) old new fault e keeps (λ behind. refl) stuck

-- a list of names and what may stand in its place, where the block doesn't end
list_steps : (t : Token) (es : List Expected) → is_key key.EndVar t ≡ false → step (AName ∷ list_rest ++ MoreLists ∷ es) t ≡ step (MoreLists ∷ es) t
unfolding step begun may_end
list_steps t es goes_on = by_name (is_name t) ∙ ap (λ b. or_skipped (where_so b [] (where_so (is_name t) (list_rest ++ MoreLists ∷ []) None)) es None) (sym goes_on)
  where
    by_name : (b : Bool) → or_skipped (where_so b [] None) (list_rest ++ MoreLists ∷ es) None ≡ or_skipped (where_so b (list_rest ++ MoreLists ∷ []) None) es None
    by_name true = refl
    by_name false = refl

-- a list of names can't stand there, and the block doesn't end
pub stuck_in_list : (Known : List Token → Type 0) (r : ReaderValue) (fault : GrammarFault) → IsNotNext (key_word key.EndVar) r.words → GetsStuck Known (AName ∷ list_rest) r fault → GetsStuck Known (MoreLists ∷ []) r fault
stuck_in_list Known r fault goes_on stuck = λ syntax behind.
    stuck_as Known (AName ∷ list_rest ++ MoreLists ∷ behind) (MoreLists ∷ behind) r fault.line (some_expected MoreLists behind)
    (λ t rest h. list_steps t behind (no_key key.EndVar t (λ same. goes_on rest (h ∙ ap (λ u. u ∷ rest) same)))) (stuck syntax (MoreLists ∷ behind))

-- the first word of a block
block_steps : (s : Section) (es : List Expected) → step (ASection ∷ MoreLists ∷ MoreBlocks ∷ es) (section_start s) ≡ step (MoreBlocks ∷ es) (section_start s)
unfolding step begun may_end
block_steps section.Input es = refl
block_steps section.Output es = refl
block_steps section.Local es = refl
block_steps section.Retained es = refl

-- lists that are one have one first word
first_same : (t u : Token) (ts us : List Token) → t ∷ ts ≡ u ∷ us → t ≡ u
first_same t u ts us e = cc (e)

-- a block begins, and gets stuck
pub stuck_in_block : (Known : List Token → Type 0) (r : ReaderValue) (fault : GrammarFault) → IsOneNext section_start r.words → GetsStuck Known (ASection ∷ MoreLists ∷ []) r fault → GetsStuck Known (MoreBlocks ∷ []) r fault
stuck_in_block Known r fault next stuck = λ syntax behind.
    stuck_as Known (ASection ∷ MoreLists ∷ MoreBlocks ∷ behind) (MoreBlocks ∷ behind) r fault.line (some_expected MoreBlocks behind)
    (λ t rest h. subst (λ u. step (ASection ∷ MoreLists ∷ MoreBlocks ∷ behind) u ≡ step (MoreBlocks ∷ behind) u) (first_same (section_start next.0) t next.1 rest (sym next.2 ∙ h)) (block_steps next.0 behind)) (stuck syntax (MoreBlocks ∷ behind))

-- no further block begins
pub stuck_behind_blocks : (Known : List Token → Type 0) (es : List Expected) (r : ReaderValue) (fault : GrammarFault) → IsNoneNext section_start r.words → GetsStuck Known es r fault → GetsStuck Known (MoreBlocks ∷ es) r fault
unfolding begun may_end
stuck_behind_blocks Known es r fault none stuck = λ syntax behind.
    stuck_as Known (es ++ behind) (MoreBlocks ∷ (es ++ behind)) r fault.line (some_expected MoreBlocks (es ++ behind))
    (λ t rest h.
    let next : (s : Section) (k : Keyword) → section_start s ≡ token.Keyword k → is_key k t ≡ false = λ s k starts. no_key k t (λ same. none s rest (h ∙ ap (λ u. u ∷ rest) (same ∙ sym starts))) in
    let more : List Expected = MoreLists ∷ MoreBlocks ∷ [] in
    sym (left_out MoreBlocks (es ++ behind) t refl (ap (λ b. where_so (b || is_key key.VarOutput t) more (where_so (is_key key.Var t) (MayRetain ∷ more) None)) (next section.Input key.VarInput refl)
    ∙ ap (λ b. where_so b more (where_so (is_key key.Var t) (MayRetain ∷ more) None)) (next section.Output key.VarOutput refl)
    ∙ ap (λ b. where_so b (MayRetain ∷ more) None) (next section.Local key.Var refl))))
    (stuck syntax behind)

-- the first word of a program
program_steps : (es : List Expected) → step (Key key.Program ∷ program_rest ++ MorePrograms ∷ es) (key_word key.Program) ≡ step (MorePrograms ∷ es) (key_word key.Program)
unfolding step begun may_end
program_steps es = refl

-- PROGRAM and a name were read
pub stuck_after_start : (Known : List Token → Type 0) (n : List ℕ) (es : List Expected) (old new : ReaderValue) (fault : GrammarFault) → old.words ≡ key_word key.Program ∷ token.Name n ∷ new.words → KeepsLines old new → GetsStuck (λ w. Known (key_word key.Program ∷ token.Name n ∷ w)) es new fault → GetsStuck Known (Key key.Program ∷ AName ∷ es) old fault
unfolding walk step begun
stuck_after_start Known n es old new fault e keeps stuck = stuck_after Known (Key key.Program ∷ AName ∷ es) es (key_word key.Program ∷ token.Name n ∷ []) old new fault e keeps (λ behind. refl) stuck

-- a program begins, and gets stuck
pub stuck_in_program : (Known : List Token → Type 0) (r : ReaderValue) (fault : GrammarFault) → IsWordNext (key_word key.Program) r.words → GetsStuck Known (Key key.Program ∷ program_rest) r fault → GetsStuck Known (MorePrograms ∷ []) r fault
stuck_in_program Known r fault next stuck = λ syntax behind.
    stuck_as Known (Key key.Program ∷ program_rest ++ MorePrograms ∷ behind) (MorePrograms ∷ behind) r fault.line (some_expected MorePrograms behind)
    (λ t rest h. subst (λ u. step (Key key.Program ∷ program_rest ++ MorePrograms ∷ behind) u ≡ step (MorePrograms ∷ behind) u) (first_same (key_word key.Program) t next.0 rest (sym next.1 ∙ h)) (program_steps behind)) (stuck syntax (MorePrograms ∷ behind))

-- no further program begins
pub stuck_behind_programs : (Known : List Token → Type 0) (es : List Expected) (r : ReaderValue) (fault : GrammarFault) → IsNotNext (key_word key.Program) r.words → GetsStuck Known es r fault → GetsStuck Known (MorePrograms ∷ es) r fault
unfolding begun may_end
stuck_behind_programs Known es r fault none stuck = λ syntax behind.
    stuck_as Known (es ++ behind) (MorePrograms ∷ (es ++ behind)) r fault.line (some_expected MorePrograms (es ++ behind))
    (λ t rest h. sym (left_out MorePrograms (es ++ behind) t refl (ap (λ b. where_so b (program_rest ++ MorePrograms ∷ []) None) (no_key key.Program t (λ same. none rest (h ∙ ap (λ u. u ∷ rest) same)))))) (stuck syntax behind)

-- what is lawful is well-formed: the lists of a block, the blocks of a program, a program
pub lawful_lists_named : (s : Section) (ls : List NameList) → All (IsListLawful s) ls → All HasNames ls
lawful_lists_named s ls lawful = λ k d lt. (lawful k d lt).some

pub lawful_blocks_formed : (bs : List VarBlock) → All IsBlockLawful bs → All IsBlockWellFormed bs
lawful_blocks_formed bs lawful = λ k d lt. lawful_lists_named _ _ (lawful k d lt)

pub lawful_program_formed : (p : Program) → IsProgramLawful p → IsProgramWellFormed p
lawful_program_formed p lawful = lawful_blocks_formed p.blocks.items lawful.blocks_are
