-- Words up to a name that is refused, with more read in front of them.
use Rattle.std.proofs.Common.{◌≡◌, ◌≢◌, ℕ, ◌<◌, List, [], ◌∷◌, ◌++◌, length, Result, Ok, Err, IfErr, refl, sym, ap, subst, ◌∙◌, append_assoc, arith}
use Rattle.std.specs.List.{flat_map}
use Rattle.std.specs.Result.{IsErrAnd}
use Rattle.std.proofs.lemmas.List.Concat.{flat_map-cons}
use Rattle.plant_grammar.specs.declared.grammar_fault.GrammarFault.{GrammarFault}
use Rattle.plant_grammar.specs.declared.grammar_fault.GrammarFaultKind.{GrammarFaultKind}
use Rattle.plant_grammar.specs.declared.grammar_fault.GrammarFaultKind.TheVariants as kind
use Rattle.plant_text.specs.declared.token.Token.{Token}
use Rattle.plant_text.specs.declared.token.Token.TheVariants as token
use Rattle.plant_text.specs.declared.token.Punctuation.TheVariants.{Comma}
use Rattle.plant_grammar.specs.declared.grammar.tree.Bind.{Bind}
use Rattle.plant_grammar.specs.Grammar.{mark_word, name_words, bind_words, with_commas}
use Rattle.plant_grammar.specs.WordFaults.{IsGrammarFault}
use Rattle.plant_grammar.specs.Steps.NamesRead.{IsOfName, Tells, TellsOfName, TellsOfSoughtName, IsNameTaken, IsRefused, IsMisused, IsUnknown, IsAfter, IsAfterAll, IsAfterName, IsAfterWhole, name_and_comma, bind_and_comma}
use Rattle.plant_grammar.specs.Steps.Lines.{ReaderValue}
use Rattle.plant_grammar.specs.Steps.Declaring.{RepeatsName, IsNameNext, MissesName, BeginWith, BeginRefusedBehind}
use Rattle.plant_grammar.proofs.NewNames.{one_name}

-- a kind that tells of no name
kind_no_name : (k : GrammarFaultKind) → TellsOfName k ⊥ ⊥ → IsOfName k → ⊥
kind_no_name kind.Syntax tells of = of
kind_no_name kind.NameTwice tells of = tells
kind_no_name kind.UnknownName tells of = tells
kind_no_name kind.WrongKind tells of = tells
kind_no_name kind.InputBoundTwice tells of = tells
kind_no_name kind.TooMany tells of = tells.0
kind_no_name kind.Memory tells of = of

-- a fault that tells of no name
pub no_name : (fault : GrammarFault) → TellsOfName fault.kind ⊥ ⊥ → IsOfName fault.kind → ⊥
no_name fault tells of = kind_no_name fault.kind tells of

-- want of memory tells of no name
pub memory_no_name : (fault : GrammarFault) → fault.kind ≡ kind.Memory → IsOfName fault.kind → ⊥
memory_no_name fault m of = subst IsOfName m of

-- a name that is refused stands next
pub name_next : {R : List Token → Type 0} (k : GrammarFaultKind) (words : List Token) (there : (t : Token) (rest : List Token) → words ≡ t ∷ rest → R rest) (Taken : List ℕ → Type 0) (full : Type 0) (Twice : Type 0)
    → (Twice → (name : List ℕ) × (rest : List Token) × (words ≡ token.Name name ∷ rest) × Taken name)
    → ((name : List ℕ) (rest : List Token) → words ≡ token.Name name ∷ rest → Taken name → Twice)
    → TellsOfName k Twice (IsNameNext words × full) → IsOfName k → BeginWith R (IsRefused k Taken full) words
name_next kind.Syntax words there Taken full Twice two back tells of = absurd of
name_next kind.NameTwice words there Taken full Twice two back tells of =
    let found = two tells in
    record { front = token.Name found.0 ∷ []; rest = found.1; parts = found.2; holds = record { name = found.0; alone = refl; told = found.3 }; behind = there (token.Name found.0) found.1 found.2 }
name_next kind.UnknownName words there Taken full Twice two back tells of = absurd tells
name_next kind.WrongKind words there Taken full Twice two back tells of = absurd tells
name_next kind.InputBoundTwice words there Taken full Twice two back tells of = absurd tells
name_next kind.TooMany words there Taken full Twice two back tells of =
    let next = tells.0.0 in
    let told : full × (Taken next.0 → ⊥) = (tells.0.1, λ taken. tells.1 (back next.0 next.1 next.2 taken)) in
    record { front = token.Name next.0 ∷ []; rest = next.1; parts = next.2; holds = record { name = next.0; alone = refl; told = told }; behind = there (token.Name next.0) next.1 next.2 }
name_next kind.Memory words there Taken full Twice two back tells of = absurd of

-- a name that isn't declared, that is bound already or is one too many stands next
pub misused_next : {R : List Token → Type 0} (k : GrammarFaultKind) (words : List Token) (there : (t : Token) (rest : List Token) → words ≡ t ∷ rest → R rest) (Unknown Bound : List ℕ → Type 0) (full missing bound : Type 0)
    → (missing → (name : List ℕ) × (rest : List Token) × (words ≡ token.Name name ∷ rest) × Unknown name)
    → ((name : List ℕ) (rest : List Token) → words ≡ token.Name name ∷ rest → Unknown name → missing)
    → (bound → (name : List ℕ) × (rest : List Token) × (words ≡ token.Name name ∷ rest) × Bound name)
    → ((name : List ℕ) (rest : List Token) → words ≡ token.Name name ∷ rest → Bound name → bound)
    → TellsOfSoughtName k missing bound (IsNameNext words × full) → IsOfName k → BeginWith R (IsMisused k Unknown Bound full) words
misused_next kind.Syntax words there Unknown Bound full missing bound um mu bm mb tells of = absurd of
misused_next kind.NameTwice words there Unknown Bound full missing bound um mu bm mb tells of = absurd tells
misused_next kind.UnknownName words there Unknown Bound full missing bound um mu bm mb tells of =
    let found = um tells in
    record { front = token.Name found.0 ∷ []; rest = found.1; parts = found.2; holds = record { name = found.0; alone = refl; told = found.3 }; behind = there (token.Name found.0) found.1 found.2 }
misused_next kind.WrongKind words there Unknown Bound full missing bound um mu bm mb tells of = absurd tells
misused_next kind.InputBoundTwice words there Unknown Bound full missing bound um mu bm mb tells of =
    let found = bm tells in
    record { front = token.Name found.0 ∷ []; rest = found.1; parts = found.2; holds = record { name = found.0; alone = refl; told = found.3 }; behind = there (token.Name found.0) found.1 found.2 }
misused_next kind.TooMany words there Unknown Bound full missing bound um mu bm mb tells of =
    let next = tells.0.0 in
    let told : full × (Unknown next.0 → ⊥) × (Bound next.0 → ⊥) = (tells.0.1, λ u. tells.1 (mu next.0 next.1 next.2 u), λ b. tells.2 (mb next.0 next.1 next.2 b)) in
    record { front = token.Name next.0 ∷ []; rest = next.1; parts = next.2; holds = record { name = next.0; alone = refl; told = told }; behind = there (token.Name next.0) next.1 next.2 }
misused_next kind.Memory words there Unknown Bound full missing bound um mu bm mb tells of = absurd of

-- a name that none of these has stands next
pub unknown_next : {R : List Token → Type 0} {A : Type 0} (k : GrammarFaultKind) (words : List Token) (there : (t : Token) (rest : List Token) → words ≡ t ∷ rest → R rest) (name_of : A → List ℕ) (xs : List A)
    → Tells k ⊥ (MissesName name_of xs words) ⊥ ⊥ ⊥ → IsOfName k → BeginWith R (IsUnknown k name_of xs) words
unknown_next kind.Syntax words there name_of xs tells of = absurd of
unknown_next kind.NameTwice words there name_of xs tells of = absurd tells
unknown_next kind.UnknownName words there name_of xs miss of =
    record { front = token.Name miss.0 ∷ []; rest = miss.1; parts = miss.2; holds = record { name = miss.0; alone = refl; told = miss.3 }; behind = there (token.Name miss.0) miss.1 miss.2 }
unknown_next kind.WrongKind words there name_of xs tells of = absurd tells
unknown_next kind.InputBoundTwice words there name_of xs tells of = absurd tells
unknown_next kind.TooMany words there name_of xs tells of = absurd tells
unknown_next kind.Memory words there name_of xs tells of = absurd of

-- so it is with an unknown name
pub unknown_here : {R : List Token → Type 0} {A : Type 0} (k : GrammarFaultKind) → k ≡ kind.UnknownName → (words : List Token) (there : (t : Token) (rest : List Token) → words ≡ t ∷ rest → R rest) (name_of : A → List ℕ) (xs : List A)
    → MissesName name_of xs words → BeginWith R (IsUnknown k name_of xs) words
unknown_here {R = R} k is words there name_of xs miss = subst (λ (j : GrammarFaultKind). BeginWith R (IsUnknown j name_of xs) words) (sym is) (unknown_next kind.UnknownName words there name_of xs miss tt)

-- a name that is refused stands next, and one of these has it
pub name_repeated : {R : List Token → Type 0} {A : Type 0} (k : GrammarFaultKind) (words : List Token) (there : (t : Token) (rest : List Token) → words ≡ t ∷ rest → R rest) (name_of : A → List ℕ) (xs : List A) (full : Type 0)
    → TellsOfName k (RepeatsName name_of xs words) (IsNameNext words × full) → IsOfName k → BeginWith R (IsRefused k (IsNameTaken name_of xs) full) words
name_repeated k words there name_of xs full tells of = name_next k words there (IsNameTaken name_of xs) full (RepeatsName name_of xs words) (λ r. r) (λ name rest e taken. (name, rest, e, taken)) tells of

-- whatever holds of the front, so does what follows from it
pub begin_with : {R : List Token → Type 0} (P Q : List Token → Type 0) (words : List Token) → ((front : List Token) → P front → Q front) → BeginWith R P words → BeginWith R Q words
begin_with P Q words h b = record { front = b.front; rest = b.rest; parts = b.parts; holds = h b.front b.holds; behind = b.behind }

-- a word was read before
pub begin_after : {R : List Token → Type 0} (t : Token) (P : List Token → Type 0) (start now : List Token) → start ≡ t ∷ now → BeginWith R P now → BeginWith R (IsAfter t P) start
begin_after t P start now e b = record {
  front = t ∷ b.front;
  rest = b.rest;
  parts = e ∙ ap (λ r. t ∷ r) b.parts;
  holds = record { more = b.front; parts = refl; holds = b.holds };
  behind = b.behind;
}

-- words were read before
pub begin_after_all : {R : List Token → Type 0} (ts : List Token) (P : List Token → Type 0) (start now : List Token) → start ≡ ts ++ now → BeginWith R P now → BeginWith R (IsAfterAll ts P) start
begin_after_all ts P start now e b = record {
  front = ts ++ b.front;
  rest = b.rest;
  parts = e ∙ ap (λ r. ts ++ r) b.parts ∙ sym (append_assoc ts b.front b.rest);
  holds = record { more = b.front; parts = refl; holds = b.holds };
  behind = b.behind;
}

-- a name that may stand there was read before
pub begin_after_name : {R : List Token → Type 0} (n : List ℕ) (May : List ℕ → Type 0) (P : List Token → Type 0) (start now : List Token) → start ≡ token.Name n ∷ now → May n → BeginWith R P now → BeginWith R (IsAfterName May P) start
begin_after_name n May P start now e may b =
    begin_with (IsAfter (token.Name n) P) (IsAfterName May P) start (λ front h. record { name = n; may = may; after = h }) (begin_after (token.Name n) P start now e b)

-- whole things that are lawful were read before
pub begin_behind : {R : List Token → Type 0} {A : Type 0} (f : A → List Token) (L : List A → Type 0) (P : List A → List Token → Type 0) (xs : List A) (start now : List Token) → start ≡ flat_map f xs ++ now → L xs → BeginWith R (P xs) now → BeginWith R (IsAfterWhole f L P) start
begin_behind f L P xs start now e lawful b = record {
  front = flat_map f xs ++ b.front;
  rest = b.rest;
  parts = e ∙ ap (λ r. flat_map f xs ++ r) b.parts ∙ sym (append_assoc (flat_map f xs) b.front b.rest);
  holds = record { whole = xs; more = b.front; parts = refl; lawful = lawful; holds = b.holds };
  behind = b.behind;
}

-- names with commas between them and one more comma are names with a comma behind each
pub names_and_commas : (ns : List (List ℕ)) (rest : List Token) → 0 < length ns → name_words ns ++ mark_word Comma ∷ rest ≡ flat_map name_and_comma ns ++ rest
names_and_commas [] rest some = absurd (omega (arith, some))
names_and_commas (n ∷ []) rest some = refl
names_and_commas (n ∷ m ∷ more) rest some = ap (λ ws. token.Name n ∷ mark_word Comma ∷ ws) (names_and_commas (m ∷ more) rest (omega arith))

-- binds with commas between them and one more comma are binds with a comma behind each
pub binds_and_commas : (bs : List Bind) (rest : List Token) → 0 < length bs → with_commas bs ++ mark_word Comma ∷ rest ≡ flat_map bind_and_comma bs ++ rest
binds_and_commas [] rest some = absurd (omega (arith, some))
binds_and_commas (b ∷ []) rest some =
    sym (append_assoc (bind_words b) (mark_word Comma ∷ []) rest) ∙ ap (λ ws. ws ++ rest) (sym (flat_map-cons bind_and_comma b [] ∙ nil_behind (bind_and_comma b)))
  where
    nil_behind : (ws : List Token) → ws ++ flat_map bind_and_comma [] ≡ ws
    nil_behind [] = refl
    nil_behind (w ∷ ws) = ap (λ r. w ∷ r) (nil_behind ws)
binds_and_commas (b ∷ c ∷ bs) rest some =
    append_assoc (bind_words b) (mark_word Comma ∷ with_commas (c ∷ bs)) (mark_word Comma ∷ rest)
    ∙ ap (λ ws. bind_words b ++ mark_word Comma ∷ ws) (binds_and_commas (c ∷ bs) rest (omega arith))
    ∙ sym (append_assoc (bind_words b) (mark_word Comma ∷ []) (flat_map bind_and_comma (c ∷ bs) ++ rest))
    ∙ sym (append_assoc (bind_and_comma b) (flat_map bind_and_comma (c ∷ bs)) rest)
    ∙ ap (λ ws. ws ++ rest) (sym (flat_map-cons bind_and_comma b (c ∷ bs)))

-- want of memory tells of no name, whatever a name is refused for
pub memory_result : {T : Type 0} (Refuses : GrammarFaultKind → List Token → Type 0) (left : ReaderValue) (words : List Token) (r : Result T GrammarFault) → IsErrAnd r (λ fault. (fault.kind ≡ kind.Memory) × IsGrammarFault fault) → IfErr r (BeginRefusedBehind Refuses left words)
memory_result Refuses left words (Ok x) h = tt
memory_result Refuses left words (Err fault) h = λ all lines of. absurd (memory_no_name fault h.0 of)

-- what follows from two things that a fault tells
pub both_told : {T : Type 0} (r : Result T GrammarFault) (P Q S : GrammarFault → Type 0) → ((fault : GrammarFault) → P fault → Q fault → S fault) → IfErr r P → IfErr r Q → IfErr r S
both_told (Ok x) P Q S h p q = tt
both_told (Err fault) P Q S h p q = h fault p q

-- want of memory is no refusal
pub memory_excused : {T : Type 0} (Q : GrammarFault → Type 0) (r : Result T GrammarFault) → IsErrAnd r (λ fault. (fault.kind ≡ kind.Memory) × IsGrammarFault fault) → IfErr r (λ f. f.kind ≢ kind.Memory → Q f)
memory_excused Q (Ok x) h = tt
memory_excused Q (Err fault) h = λ known. absurd (known h.0)

-- more that each of the two kinds tells
pub tells_with : (k : GrammarFaultKind) (twice full twice_too full_too : Type 0) → (twice → twice_too) → (twice_too → twice) → (full → full_too) → TellsOfName k twice full → TellsOfName k twice_too full_too
tells_with kind.Syntax a b c d f back g h = tt
tells_with kind.NameTwice a b c d f back g h = f h
tells_with kind.UnknownName a b c d f back g h = h
tells_with kind.WrongKind a b c d f back g h = h
tells_with kind.InputBoundTwice a b c d f back g h = h
tells_with kind.TooMany a b c d f back g h = (g h.0, λ too. h.1 (back too))
tells_with kind.Memory a b c d f back g h = tt

-- what is told of the name that stands next
pub tells_next : {A : Type 0} (k : GrammarFaultKind) (name_of : A → List ℕ) (xs : List A) (name : List ℕ) (words rest : List Token) (twice full many : Type 0) → words ≡ token.Name name ∷ rest → (twice → IsNameTaken name_of xs name) → (IsNameTaken name_of xs name → twice) → (full → many)
    → TellsOfName k twice full → TellsOfName k (RepeatsName name_of xs words) (IsNameNext words × many)
tells_next k name_of xs name words rest twice full many e is_taken is_twice is_full tells =
    tells_with k twice full (RepeatsName name_of xs words) (IsNameNext words × many) (λ t. (name, rest, e, is_taken t))
    (λ found. let same : found.0 ≡ name = one_name name found.0 words rest found.1 e found.2 in is_twice (subst (λ n. IsNameTaken name_of xs n) same found.3))
    (λ f. ((name, rest, e), is_full f)) tells

-- one too many is told of a name that none of these has
pub too_many_next : {A : Type 0} (k : GrammarFaultKind) (name_of : A → List ℕ) (xs : List A) (name : List ℕ) (words rest : List Token) (many : Type 0) → k ≡ kind.TooMany → words ≡ token.Name name ∷ rest → (IsNameTaken name_of xs name → ⊥) → many
    → TellsOfName k (RepeatsName name_of xs words) (IsNameNext words × many)
too_many_next k name_of xs name words rest many is e new full =
    subst (λ (j : GrammarFaultKind). TellsOfName j (RepeatsName name_of xs words) (IsNameNext words × many)) (sym is)
    (tells_next kind.TooMany name_of xs name words rest (IsNameTaken name_of xs name) many many e (λ taken. taken) (λ taken. taken) (λ more. more) (full, new))
