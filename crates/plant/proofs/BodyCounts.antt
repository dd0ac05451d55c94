-- Each program has one body among its words, so the lines of bodies go with the programs.
use Rattle.std.proofs.Common.{◌≡◌, ◌≢◌, ℕ, zero, suc, ◌+◌, List, [], ◌∷◌, ◌++◌, length, map, All, take, drop, refl, sym, ap, subst, ◌∙◌, arith}
use Rattle.std.specs.List.{flat_map}
use Rattle.std.proofs.lemmas.List.{length-append, length-map, take-append-drop}
use Rattle.std.proofs.lemmas.List.Concat.{flat_map-cons, flat_map-append}
use Rattle.std.proofs.Math.Seq.{take-append_seam}
use Rattle.declared_names.specs.declared.declarations.Kind.TheVariants as kind
use Rattle.plant_text.specs.declared.token.Token.{Token}
use Rattle.plant_text.specs.declared.token.Token.TheVariants as token
use Rattle.plant_text.specs.declared.token.Keyword.TheVariants as key
use Rattle.plant_text.specs.declared.token.Punctuation.TheVariants.{Colon, Semicolon}
use Rattle.plant_grammar.specs.declared.grammar.tree.Section.{Section}
use Rattle.plant_grammar.specs.declared.grammar.tree.Section.TheVariants as section
use Rattle.plant_grammar.specs.declared.grammar.tree.TypeName.{TypeName}
use Rattle.plant_grammar.specs.declared.grammar.tree.TypeName.TheVariants.{Elementary, Block}
use Rattle.plant_grammar.specs.declared.grammar.tree.NameList.{NameList}
use Rattle.plant_grammar.specs.declared.grammar.tree.VarBlock.{VarBlock}
use Rattle.plant_grammar.specs.declared.grammar.tree.Program.{Program}
use Rattle.plant_grammar.specs.Grammar.{key_word, mark_word, section_words, type_word, name_words, list_words, lists_words, block_words, program_words, TextValue}
use Rattle.plant_text.specs.Lines.{WordValue, body_line, body_lines, BeginsWithWords, IsBegunBy}
use Rattle.plant_grammar.specs.Steps.Reading.{programs_of, lines_of}
use Rattle.plant.proofs.KnownWords.{programs_known}

abbrev one_body : Token → ℕ
one_body (token.Body body) = 1
one_body _ = 0

abbrev count_bodies : List Token → ℕ
count_bodies [] = 0
count_bodies (t ∷ ts) = one_body t + count_bodies ts

count_both : (ts us : List Token) → count_bodies (ts ++ us) ≡ count_bodies ts + count_bodies us
count_both [] us = omega arith
count_both (t ∷ ts) us = let more = count_both ts us in omega (arith, more)

section_none : (s : Section) → count_bodies (section_words s) ≡ 0
section_none section.Input = refl
section_none section.Output = refl
section_none section.Local = refl
section_none section.Retained = refl

type_none : (t : TypeName) → one_body (type_word t) ≡ 0
type_none (Elementary kind.Bool) = refl
type_none (Elementary kind.Int) = refl
type_none (Elementary kind.Time) = refl
type_none (Block b) = refl

names_none : (ns : List (List ℕ)) → count_bodies (name_words ns) ≡ 0
names_none [] = refl
names_none (n ∷ []) = refl
names_none (n ∷ m ∷ more) = let rest = names_none (m ∷ more) in omega (arith, rest)

list_none : (l : NameList) → count_bodies (list_words l) ≡ 0
unfolding list_words
list_none l =
    let names = names_none l.names.items in
    let type = type_none l.type_name in
    omega (arith, names, type, count_both (name_words l.names.items) (mark_word Colon ∷ type_word l.type_name ∷ mark_word Semicolon ∷ []))

lists_none : (ls : List NameList) → count_bodies (lists_words ls) ≡ 0
lists_none [] = refl
lists_none (l ∷ ls) = omega (arith, list_none l, lists_none ls, count_both (list_words l) (lists_words ls))

block_none : (b : VarBlock) → count_bodies (block_words b) ≡ 0
unfolding block_words
block_none b = omega (arith, section_none b.section, lists_none b.lists.items, count_both (section_words b.section) (lists_words b.lists.items))

blocks_none : (bs : List VarBlock) → count_bodies (flat_map block_words bs) ≡ 0
blocks_none [] = refl
blocks_none (b ∷ bs) = ap count_bodies (flat_map-cons block_words b bs) ∙ omega (arith, block_none b, blocks_none bs, count_both (block_words b) (flat_map block_words bs))

program_one : (p : Program) → count_bodies (program_words p) ≡ 1
unfolding program_words
program_one p =
    let end : List Token = token.Body p.body ∷ key_word key.EndProgram ∷ [] in
    let blocks = blocks_none p.blocks.items in
    omega (arith, blocks, count_both (flat_map block_words p.blocks.items) end)

programs_count : (ps : List Program) → count_bodies (flat_map program_words ps) ≡ length ps
programs_count [] = refl
programs_count (p ∷ ps) = ap count_bodies (flat_map-cons program_words p ps) ∙ omega (arith, program_one p, programs_count ps, count_both (program_words p) (flat_map program_words ps))

line_count : (t : Token) (line : ℕ) → length (body_line (record { token = t; line = line })) ≡ one_body t
line_count (token.Keyword k) line = refl
line_count (token.Block k) line = refl
line_count (token.Punctuation k) line = refl
line_count (token.Name k) line = refl
line_count (token.Number k) line = refl
line_count (token.Duration k) line = refl
line_count (token.Address k) line = refl
line_count (token.Body k) line = refl
line_count token.Unknown line = refl

lines_count : (ws : List WordValue) → length (body_lines ws) ≡ count_bodies (map (λ (w : WordValue). w.token) ws)
lines_count [] = refl
lines_count (w ∷ ws) = ap length (flat_map-cons body_line w ws) ∙ omega (arith, length-append (body_line w) (body_lines ws), line_count w.token w.line, lines_count ws)

-- fronts of one length of one list are the same
pub same_fronts : {A : Type 0} (xs ys zs us : List A) → xs ++ ys ≡ zs ++ us → length xs ≡ length zs → xs ≡ zs
same_fronts [] ys [] us e len = refl
same_fronts [] ys (z ∷ zs) us e len = absurd (omega (arith, len))
same_fronts (x ∷ xs) ys [] us e len = absurd (omega (arith, len))
same_fronts (x ∷ xs) ys (z ∷ zs) us e len =
    let first : x ≡ z = cc in
    let rest : xs ++ ys ≡ zs ++ us = cc in
    let more : xs ≡ zs = same_fronts xs ys zs us rest (omega (arith, len)) in
    cc

pub map_take : {A B : Type 0} (f : A → B) (xs : List A) (n : ℕ) → map f (take n xs) ≡ take n (map f xs)
map_take f [] zero = refl
map_take f [] (suc n) = refl
map_take f (x ∷ xs) zero = refl
map_take f (x ∷ xs) (suc n) = ap (λ ys. f x ∷ ys) (map_take f xs n)

-- a text that begins with its words, as far as they are words, begins with the programs that they begin with
pub begun_by_programs : (text : List ℕ) (ws : List WordValue) (texts : List TextValue) (rest : List Token) (more : List ℕ) → IsBegunBy text ws
    → map (λ (w : WordValue). w.token) ws ≡ flat_map program_words (programs_of texts) ++ rest → body_lines ws ≡ lines_of texts ++ more
    → (front : List WordValue) × BeginsWithWords text front × (map (λ (w : WordValue). w.token) front ≡ flat_map program_words (programs_of texts)) × (body_lines front ≡ lines_of texts)
begun_by_programs text ws texts rest more begun words lines =
    let all = flat_map program_words (programs_of texts) in
    let front = take (length all) ws in
    let back = drop (length all) ws in
    let parts : ws ≡ front ++ back = sym (take-append-drop (length all) ws) in
    let tokens : map (λ (w : WordValue). w.token) front ≡ all = map_take (λ (w : WordValue). w.token) ws (length all) ∙ ap (λ x. take (length all) x) words ∙ take-append_seam all rest in
    let both : body_lines front ++ body_lines back ≡ lines_of texts ++ more = sym (flat_map-append body_line front back) ∙ ap (λ (x : List WordValue). body_lines x) (sym parts) ∙ lines in
    let many : length (body_lines front) ≡ length (lines_of texts) =
    lines_count front ∙ ap count_bodies tokens ∙ programs_count (programs_of texts) ∙ length-map texts (λ (t : TextValue). t.program) ∙ sym (length-map texts (λ (t : TextValue). t.first_line)) in
    let same : body_lines front ≡ lines_of texts = same_fronts (body_lines front) (body_lines back) (lines_of texts) more both many in
    let known : All (λ t. t ≢ token.Unknown) (map (λ (w : WordValue). w.token) front) = subst (λ (ts : List Token). All (λ t. t ≢ token.Unknown) ts) (sym tokens) (programs_known (programs_of texts)) in
    (front, begun front back parts known, tokens, same)
