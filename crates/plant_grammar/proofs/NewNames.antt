-- Names that may be declared are found new, one after the other.
use Rattle.std.proofs.Common.{◌≤◌, Bool, true, false, inl, inr, ◌≡◌, ℕ, ◌+◌, ◌<◌, IsTrue, List, [], ◌∷◌, ◌++◌, length, map, get_or, refl, sym, ap, ◌∙◌, append_assoc, subst, arith}
use Rattle.std.proofs.Math.Seq.{get_or-append_seam}
use Rattle.std.proofs.lemmas.List.{append-nil, get_or-map, get_or_append_left, get_or-append-add, length-append, length-map}
use Rattle.declared_names.specs.declared.declarations.Declaration.{Declaration}
use Rattle.declared_names.specs.Names.{IsDeclared}
use Rattle.plant_text.specs.declared.token.Token.{Token}
use Rattle.plant_text.specs.declared.token.Token.TheVariants as token
use Rattle.plant_text.specs.declared.token.Punctuation.TheVariants.{Comma, Colon, Semicolon, Assign}
use Rattle.plant_grammar.specs.declared.grammar.tree.NameList.{NameList}
use Rattle.plant_grammar.specs.Grammar.{mark_word, type_word, name_words, list_words, source_words, bind_words}
use Rattle.plant_grammar.specs.Names.{is_named, AreNamesApart}
use Rattle.std.proofs.lemmas.Bool.{cases_Bool}
use Rattle.plant_grammar.specs.Steps.SameNames.{named_back}
use Rattle.plant_grammar.specs.declared.grammar_fault.GrammarFaultKind.{GrammarFaultKind}
use Rattle.plant_grammar.specs.declared.grammar_fault.GrammarFaultKind.TheVariants.{TooMany}
use Rattle.plant_grammar.specs.declared.grammar.tree.Bind.{Bind}
use Rattle.plant_grammar.specs.Steps.NamesRead.{IsNameTaken, IsNew}
use Rattle.plant_grammar.specs.Lawful.{MayBeDeclared}

-- a name behind others is none of them
pub behind_others : (front : List (List ℕ)) (n : List ℕ) (more : List (List ℕ)) → AreNamesApart (front ++ n ∷ more) → (i : ℕ) (x : List ℕ) → i < length front → get_or front i x ≡ x → IsTrue (is_named n x) → ⊥
behind_others front n more apart i x lt at named =
    let long = length-append front (n ∷ more) in
    let here : get_or (front ++ n ∷ more) i x ≡ x = get_or_append_left front (n ∷ more) x i lt ∙ at in
    let there : get_or (front ++ n ∷ more) (length front) x ≡ n = get_or-append_seam front n more x in
    let same : i ≡ length front = apart i (length front) x (omega arith) (omega arith) (rw (here, there) (named_back n x named)) in
    omega arith

pub may_be_declared : (vs : List Declaration) (names : List (List ℕ)) (n : List ℕ) (more : List (List ℕ)) → MayBeDeclared vs (names ++ n ∷ more)
    → (IsDeclared vs n → ⊥) × IsNew (λ (m : List ℕ). m) names n × (length vs + length names < 1000)
may_be_declared vs names n more may =
    let front : List (List ℕ) = map (λ (v : Declaration). v.name) vs ++ names in
    let whole : map (λ (v : Declaration). v.name) vs ++ (names ++ n ∷ more) ≡ (map (λ (v : Declaration). v.name) vs ++ names) ++ n ∷ more = sym (append_assoc (map (λ (v : Declaration). v.name) vs) names (n ∷ more)) in
    let apart : AreNamesApart ((map (λ (v : Declaration). v.name) vs ++ names) ++ n ∷ more) = subst AreNamesApart whole may.0 in
    let long = length-append (map (λ (v : Declaration). v.name) vs) names in
    let names_long = length-map vs (λ (v : Declaration). v.name) in (
      (λ found.
          let name : get_or (map (λ (v : Declaration). v.name) vs) found.0 found.1.name ≡ found.1.name = get_or-map (λ (v : Declaration). v.name) vs found.0 found.1 found.1.name found.2 ∙ ap (λ (d : Declaration). d.name) found.3 in
          let within : found.0 < length (map (λ (v : Declaration). v.name) vs) = omega (arith, found.2, names_long) in
          behind_others (map (λ (v : Declaration). v.name) vs ++ names) n more apart found.0 found.1.name (omega (arith, within, long)) (get_or_append_left (map (λ (v : Declaration). v.name) vs) names found.1.name found.0 within ∙ name) (named_back found.1.name n found.4)),
      (λ found.
          behind_others (map (λ (v : Declaration). v.name) vs ++ names) n more apart (length (map (λ (v : Declaration). v.name) vs) + found.0) found.1 (omega (arith, found.2, long)) (get_or-append-add (map (λ (v : Declaration). v.name) vs) names found.0 found.1 ∙ found.3) found.4),
      omega (arith, may.1, length-append names (n ∷ more)),
    )

-- the words behind names that are read, where these are still to be read, up to a colon
abbrev pub names_left : List (List ℕ) → List Token → List Token
names_left [] rest = mark_word Colon ∷ rest
names_left (n ∷ more) rest = mark_word Comma ∷ (name_words (n ∷ more) ++ mark_word Colon ∷ rest)

-- names that are read are the first of those that stand there
pub names_split : (names ns : List (List ℕ)) (start now rest : List Token) → 0 < length names → 0 < length ns → start ≡ name_words names ++ now → start ≡ name_words ns ++ mark_word Colon ∷ rest
    → (more : List (List ℕ)) × (ns ≡ names ++ more) × (now ≡ names_left more rest)
names_split names ns start now rest some any e f = go names ns some any (sym e ∙ f)
  where
    go : (names ns : List (List ℕ)) → 0 < length names → 0 < length ns → name_words names ++ now ≡ name_words ns ++ mark_word Colon ∷ rest → (more : List (List ℕ)) × (ns ≡ names ++ more) × (now ≡ names_left more rest)
    go [] ns some any e = absurd (omega arith)
    go (n ∷ names) [] some any e = absurd (omega arith)
    go (n ∷ []) (m ∷ []) some any e = let same : m ≡ n = cc in let left : now ≡ mark_word Colon ∷ rest = cc in ([], ap (λ x. x ∷ []) same, left)
    go (n ∷ []) (m ∷ k ∷ ms) some any e =
        let same : m ≡ n = cc in
        let left : now ≡ mark_word Comma ∷ (name_words (k ∷ ms) ++ mark_word Colon ∷ rest) = cc in
        (k ∷ ms, ap (λ x. x ∷ k ∷ ms) same, left)
    go (n ∷ x ∷ names) (m ∷ []) some any e = absurd cc
    go (n ∷ x ∷ names) (m ∷ k ∷ ms) some any e =
        let same : m ≡ n = cc in
        let left : name_words (x ∷ names) ++ now ≡ name_words (k ∷ ms) ++ mark_word Colon ∷ rest = cc in
        let r = go (x ∷ names) (k ∷ ms) (omega arith) (omega arith) left in
        (r.0, ap (λ (y : List ℕ). y ∷ k ∷ ms) same ∙ ap (λ (ys : List (List ℕ)). n ∷ ys) r.1, r.2)

-- the first of names
pub first_name : (ns : List (List ℕ)) (start rest : List Token) → 0 < length ns → start ≡ name_words ns ++ mark_word Colon ∷ rest
    → (n : List ℕ) × (more : List (List ℕ)) × (after : List Token) × (ns ≡ n ∷ more) × (start ≡ token.Name n ∷ after)
first_name [] start rest some e = absurd (omega arith)
first_name (n ∷ []) start rest some e = (n, [], mark_word Colon ∷ rest, refl, e)
first_name (n ∷ m ∷ more) start rest some e = (n, m ∷ more, mark_word Comma ∷ (name_words (m ∷ more) ++ mark_word Colon ∷ rest), refl, e)

-- the next of names, behind a comma
pub next_name : (more : List (List ℕ)) (now mid rest : List Token) → now ≡ names_left more rest → now ≡ mark_word Comma ∷ mid
    → (n : List ℕ) × (ms : List (List ℕ)) × (after : List Token) × (more ≡ n ∷ ms) × (mid ≡ token.Name n ∷ after)
next_name [] now mid rest e f = absurd (let g : mark_word Colon ∷ rest ≡ mark_word Comma ∷ mid = sym e ∙ f in cc)
next_name (n ∷ ms) now mid rest e f =
    let g : name_words (n ∷ ms) ++ mark_word Colon ∷ rest ≡ mid = (let h : mark_word Comma ∷ (name_words (n ∷ ms) ++ mark_word Colon ∷ rest) ≡ mark_word Comma ∷ mid = sym e ∙ f in cc) in
    let first = first_name (n ∷ ms) mid rest (omega arith) (sym g) in
    let same : n ≡ first.0 = (let h : n ∷ ms ≡ first.0 ∷ first.1 = first.3 in cc) in
    (n, ms, first.2, refl, first.4 ∙ ap (λ x. token.Name x ∷ first.2) (sym same))

-- behind the last name stands the colon
pub last_name : (more : List (List ℕ)) (now rest : List Token) → now ≡ names_left more rest → ((mid : List Token) → now ≡ mark_word Comma ∷ mid → ⊥) → (more ≡ []) × (now ≡ mark_word Colon ∷ rest)
last_name [] now rest e refuses = (refl, e)
last_name (n ∷ ms) now rest e refuses = absurd (refuses (name_words (n ∷ ms) ++ mark_word Colon ∷ rest) e)

-- a first name is refused wrongly
pub first_refused : (vs : List Declaration) (ns : List (List ℕ)) (start rest : List Token) → 0 < length ns → start ≡ name_words ns ++ mark_word Colon ∷ rest → MayBeDeclared vs ns
    → ((name : List ℕ) (rest : List Token) → start ≡ token.Name name ∷ rest → (IsDeclared vs name → ⊥) → IsNew (λ (n : List ℕ). n) [] name → length vs + 0 < 1000 → ⊥) → ⊥
first_refused vs ns start rest some e may refuses =
    let f = first_name ns start rest some e in
    let m = may_be_declared vs [] f.0 f.1 (subst (MayBeDeclared vs) f.3 may) in
    refuses f.0 f.2 f.4 m.0 m.1 m.2

-- a further name is refused wrongly
pub next_refused : (vs : List Declaration) (names ns : List (List ℕ)) (start now mid rest : List Token) → 0 < length names → 0 < length ns → start ≡ name_words names ++ now → now ≡ mark_word Comma ∷ mid
    → start ≡ name_words ns ++ mark_word Colon ∷ rest → MayBeDeclared vs ns
    → ((name : List ℕ) (rest : List Token) → mid ≡ token.Name name ∷ rest → (IsDeclared vs name → ⊥) → IsNew (λ (n : List ℕ). n) names name → length vs + length names < 1000 → ⊥) → ⊥
next_refused vs names ns start now mid rest some any e c f may refuses =
    let s = names_split names ns start now rest some any e f in
    let n = next_name s.0 now mid rest s.2 c in
    let m = may_be_declared vs names n.0 n.1 (subst (MayBeDeclared vs) (s.1 ∙ ap (λ (ms : List (List ℕ)). names ++ ms) n.3) may) in
    refuses n.0 n.2 n.4 m.0 m.1 m.2

-- the names that stand there are read
pub all_names : (names ns : List (List ℕ)) (start now rest : List Token) → 0 < length names → 0 < length ns → start ≡ name_words names ++ now → start ≡ name_words ns ++ mark_word Colon ∷ rest
    → ((mid : List Token) → now ≡ mark_word Comma ∷ mid → ⊥) → (names ≡ ns) × (now ≡ mark_word Colon ∷ rest)
all_names names ns start now rest some any e f refuses =
    let s = names_split names ns start now rest some any e f in
    let l = last_name s.0 now rest s.2 refuses in
    (sym (s.1 ∙ ap (λ (ms : List (List ℕ)). names ++ ms) l.0 ∙ append-nil names), l.1)

-- a list is its names up to the colon, its type and a semicolon
pub list_parts : (l : NameList) (words rest : List Token) → words ≡ list_words l ++ rest → words ≡ name_words l.names.items ++ mark_word Colon ∷ (type_word l.type_name ∷ mark_word Semicolon ∷ rest)
unfolding list_words
list_parts l words rest e = e ∙ append_assoc (name_words l.names.items) (mark_word Colon ∷ type_word l.type_name ∷ mark_word Semicolon ∷ []) rest

-- a name that is new, where there may be one more, is not refused
pub new_allowed : {A : Type 0} (name_of : A → List ℕ) (xs : List A) (found name : List ℕ) (words now rest : List Token) (most count : ℕ) (twice full : Bool) (k : GrammarFaultKind) → words ≡ token.Name found ∷ now → words ≡ token.Name name ∷ rest
    → IsNew name_of xs name → count < most → (twice ≡ true → IsNameTaken name_of xs found) → (full ≡ true → most ≤ count) → (twice ≡ false → (full ≡ true) × (k ≡ TooMany)) → ⊥
new_allowed name_of xs found name words now rest most count twice full k e f new few taken many told =
    let same : found ≡ name = cc in
    elim (cases_Bool twice) [
      | inl t ↦ new (subst (λ n. IsNameTaken name_of xs n) same (taken t))
      | inr t ↦ let l = many (told t).0 in omega (arith, l, few)
    ]

-- the names of words that begin with one are that one
pub one_name : (found name : List ℕ) (words now rest : List Token) → words ≡ token.Name found ∷ now → words ≡ token.Name name ∷ rest → name ≡ found
one_name found name words now rest e f = cc

-- the words of a bind begin with the name of its input
pub bind_name : (b : Bind) (words rest : List Token) → words ≡ bind_words b ++ rest → words ≡ token.Name b.input ∷ (mark_word Assign ∷ (source_words b.source ++ rest))
unfolding bind_words
bind_name b words rest e = e
