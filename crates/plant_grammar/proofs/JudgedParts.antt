-- Judged words one after the other, and names in view of those before them.
use Rattle.std.proofs.Common.{◌≡◌, ◌⊎◌, inl, inr, ◌||◌, ℕ, ◌<◌, ◌≤◌, leb, Bool, true, false, not, IsTrue, List, [], ◌∷◌, ◌++◌, length, map, Some, None, refl, sym, ap, ◌∙◌, append_assoc, arith}
use Rattle.std.specs.List.{flat_map}
use Rattle.std.proofs.lemmas.Bool.{leb-true, leb-false, false_from_ne_true, true_from_ne_false}
use Rattle.std.proofs.lemmas.List.{append-nil, length-append, map-append}
use Rattle.std.proofs.lemmas.List.Concat.{flat_map-cons}
use Rattle.std.proofs.lemmas.List.Folds.{Any-from_list_any, list_any-from_Any, list_any-append}
use Rattle.plant_text.specs.declared.token.Token.{Token}
use Rattle.plant_text.specs.declared.token.Token.TheVariants as token
use Rattle.plant_text.specs.declared.token.Punctuation.TheVariants.{Comma}
use Rattle.plant_grammar.specs.declared.grammar_fault.GrammarFaultKind.{GrammarFaultKind}
use Rattle.plant_grammar.specs.declared.grammar_fault.GrammarFaultKind.TheVariants as kind
use Rattle.plant_grammar.specs.Grammar.{mark_word}
use Rattle.plant_grammar.specs.JudgedWords.{Judged, sound, sounds, if_so, is_among, new_name, known_name, in_order, listed}
use Rattle.plant_grammar.specs.Names.{is_named, AreNamesApart}
use Rattle.plant_grammar.specs.Steps.NamesRead.{IsOfName, TellsOfName, IsNameTaken}
use Rattle.plant_grammar.proofs.Apart.{list_any-map}
use Rattle.plant_grammar.proofs.NewNames.{behind_others}

-- words behind words
pub sounds_both : (ts us : List Token) → sounds (ts ++ us) ≡ sounds ts ++ sounds us
sounds_both ts us = map-append sound ts us

-- things in order, and more behind them
pub in_order_both : {A : Type 0} (judge : List A → A → List Judged) (before xs ys : List A) → in_order judge before (xs ++ ys) ≡ in_order judge before xs ++ in_order judge (before ++ xs) ys
in_order_both judge before [] ys = ap (λ zs. in_order judge zs ys) (sym (append-nil before))
in_order_both judge before (x ∷ xs) ys =
    ap (λ r. judge before x ++ r) (in_order_both judge (before ++ x ∷ []) xs ys ∙ ap (λ zs. in_order judge (before ++ x ∷ []) xs ++ in_order judge zs ys) (append_assoc before (x ∷ []) xs))
    ∙ sym (append_assoc (judge before x) (in_order judge (before ++ x ∷ []) xs) (in_order judge (before ++ x ∷ xs) ys))

-- each of these is sound where it stands
abbrev pub AreSound : {A : Type 0} → (List A → A → List Judged) → (A → List Token) → List A → List A → Type 0
AreSound {A} judge f before xs = (front : List A) (x : A) (back : List A) → xs ≡ front ++ x ∷ back → judge (before ++ front) x ≡ sounds (f x)

-- the first of them is, and so are those behind it
first_sound : {A : Type 0} (judge : List A → A → List Judged) (f : A → List Token) (before : List A) (x : A) (xs : List A) → AreSound judge f before (x ∷ xs) → judge before x ≡ sounds (f x)
first_sound judge f before x xs each = ap (λ zs. judge zs x) (sym (append-nil before)) ∙ each [] x xs refl

others_sound : {A : Type 0} (judge : List A → A → List Judged) (f : A → List Token) (before : List A) (x : A) (xs : List A) → AreSound judge f before (x ∷ xs) → AreSound judge f (before ++ x ∷ []) xs
others_sound {A} judge f before x xs each = λ front y back e.
    ap (λ zs. judge zs y) (append_assoc before (x ∷ []) front) ∙ each (x ∷ front) y back (ap (λ (zs : List A). x ∷ zs) e)

-- then all words are
pub in_order_sound : {A : Type 0} (judge : List A → A → List Judged) (f : A → List Token) (before xs : List A) → AreSound judge f before xs → in_order judge before xs ≡ sounds (flat_map f xs)
in_order_sound judge f before [] each = refl
in_order_sound judge f before (x ∷ xs) each =
    ap (λ a. a ++ in_order judge (before ++ x ∷ []) xs) (first_sound judge f before x xs each)
    ∙ ap (λ b. sounds (f x) ++ b) (in_order_sound judge f (before ++ x ∷ []) xs (others_sound judge f before x xs each))
    ∙ sym (ap sounds (flat_map-cons f x xs) ∙ sounds_both (f x) (flat_map f xs))

-- so are those with commas between them
pub listed_sound : {A : Type 0} (judge : List A → A → List Judged) (f : A → List Token) (all : List A → List Token) → all [] ≡ [] → ((x : A) → all (x ∷ []) ≡ f x) → ((x y : A) (ys : List A) → all (x ∷ y ∷ ys) ≡ f x ++ mark_word Comma ∷ all (y ∷ ys))
    → (before xs : List A) → AreSound judge f before xs → listed judge before xs ≡ sounds (all xs)
listed_sound judge f all nothing one more before [] each = ap sounds (sym nothing)
listed_sound judge f all nothing one more before (x ∷ []) each = first_sound judge f before x [] each ∙ ap sounds (sym (one x))
listed_sound judge f all nothing one more before (x ∷ y ∷ ys) each =
    ap (λ a. a ++ sound (mark_word Comma) ∷ listed judge (before ++ x ∷ []) (y ∷ ys)) (first_sound judge f before x (y ∷ ys) each)
    ∙ ap (λ b. sounds (f x) ++ sound (mark_word Comma) ∷ b) (listed_sound judge f all nothing one more (before ++ x ∷ []) (y ∷ ys) (others_sound judge f before x (y ∷ ys) each))
    ∙ sym (ap sounds (more x y ys) ∙ sounds_both (f x) (mark_word Comma ∷ all (y ∷ ys)))

-- one with a comma behind it
abbrev pub comma_behind : {A : Type 0} → (A → List Token) → A → List Token
comma_behind f x = f x ++ mark_word Comma ∷ []

listed_more : {A : Type 0} (judge : List A → A → List Judged) (before : List A) (x : A) (xs : List A) → 0 < length xs → listed judge before (x ∷ xs) ≡ judge before x ++ sound (mark_word Comma) ∷ listed judge (before ++ x ∷ []) xs
listed_more judge before x [] some = absurd (omega (arith, some))
listed_more judge before x (y ∷ ys) some = refl

-- the last of them behind others, which are sound
pub listed_last : {A : Type 0} (judge : List A → A → List Judged) (f : A → List Token) (before xs : List A) (y : A) → AreSound judge f before xs → listed judge before (xs ++ y ∷ []) ≡ sounds (flat_map (comma_behind f) xs) ++ judge (before ++ xs) y
listed_last judge f before [] y each = ap (λ zs. judge zs y) (sym (append-nil before))
listed_last {A} judge f before (x ∷ xs) y each =
    let comma : List Judged = sound (mark_word Comma) ∷ [] in
    let rest = sounds (flat_map (comma_behind f) xs) in
    let last = judge (before ++ x ∷ xs) y in
    let words : sounds (flat_map (comma_behind f) (x ∷ xs)) ≡ (sounds (f x) ++ comma) ++ rest =
    ap sounds (flat_map-cons (comma_behind f) x xs) ∙ sounds_both (comma_behind f x) (flat_map (comma_behind f) xs) ∙ ap (λ a. a ++ rest) (sounds_both (f x) (mark_word Comma ∷ [])) in
    listed_more judge before x (xs ++ y ∷ []) (omega (arith, length-append xs (y ∷ [])))
    ∙ ap (λ a. a ++ sound (mark_word Comma) ∷ listed judge (before ++ x ∷ []) (xs ++ y ∷ [])) (first_sound judge f before x xs each)
    ∙ ap (λ b. sounds (f x) ++ sound (mark_word Comma) ∷ b) (listed_last judge f (before ++ x ∷ []) xs y (others_sound judge f before x xs each) ∙ ap (λ (zs : List A). rest ++ judge zs y) (append_assoc before (x ∷ []) xs))
    ∙ sym (append_assoc (sounds (f x)) comma (rest ++ last)) ∙ sym (append_assoc (sounds (f x) ++ comma) rest last) ∙ ap (λ a. a ++ last) (sym words)

-- a name that one of these has, and a name that one of their names is
pub among_taken : {A : Type 0} (name_of : A → List ℕ) (xs : List A) (n : List ℕ) → IsNameTaken name_of xs n → IsTrue (is_among (map name_of xs) n)
among_taken name_of xs n taken = list_any-map name_of (λ m. is_named n m) xs ∙ list_any-from_Any (λ x. is_named n (name_of x)) xs taken

pub taken_among : {A : Type 0} (name_of : A → List ℕ) (xs : List A) (n : List ℕ) → IsTrue (is_among (map name_of xs) n) → IsNameTaken name_of xs n
taken_among name_of xs n among = Any-from_list_any (λ x. is_named n (name_of x)) xs (sym (list_any-map name_of (λ m. is_named n m) xs) ∙ among)

-- a name behind others that are apart is none of them
pub none_among : (front : List (List ℕ)) (n : List ℕ) (more : List (List ℕ)) → AreNamesApart (front ++ n ∷ more) → IsTrue (is_among front n) → ⊥
none_among front n more apart among =
    let found = Any-from_list_any (λ m. is_named n m) front among in
    behind_others front n more apart found.0 found.1 found.2 found.3 found.4

-- a name that is new, where there may be one more
pub new_sound : (names : List (List ℕ)) (count most : ℕ) (n : List ℕ) → (IsTrue (is_among names n) → ⊥) → count < most → new_name names count most n ≡ sound (token.Name n)
new_sound names count most n new few =
    ap (λ b. record { word = token.Name n; fault = if_so b kind.NameTwice (if_so (leb most count) kind.TooMany None) }) (false_from_ne_true (is_among names n) new)
    ∙ ap (λ b. record { word = token.Name n; fault = if_so b kind.TooMany None }) (false_from_ne_true (leb most count) (λ e. omega (arith, few, leb-true most count e)))

-- a name of which this is told
pub new_faulty : (k : GrammarFaultKind) (names : List (List ℕ)) (count most : ℕ) (n : List ℕ) → IsOfName k → TellsOfName k (IsTrue (is_among names n)) (most ≤ count) → new_name names count most n ≡ record { word = token.Name n; fault = Some k }
new_faulty kind.Syntax names count most n of told = absurd of
new_faulty kind.NameTwice names count most n of told =
    ap (λ b. record { word = token.Name n; fault = if_so b kind.NameTwice (if_so (leb most count) kind.TooMany None) }) told
new_faulty kind.UnknownName names count most n of told = absurd told
new_faulty kind.WrongKind names count most n of told = absurd told
new_faulty kind.InputBoundTwice names count most n of told = absurd told
new_faulty kind.TooMany names count most n of told =
    ap (λ b. record { word = token.Name n; fault = if_so b kind.NameTwice (if_so (leb most count) kind.TooMany None) }) (false_from_ne_true (is_among names n) told.1)
    ∙ ap (λ b. record { word = token.Name n; fault = if_so b kind.TooMany None }) (true_from_ne_false (leb most count) (λ e. omega (arith, told.0, leb-false most count e)))
new_faulty kind.Memory names count most n of told = absurd of

-- a name that one of these has, and one that none has
pub known_sound : (names : List (List ℕ)) (n : List ℕ) → IsTrue (is_among names n) → known_name names n ≡ sound (token.Name n)
known_sound names n among = ap (λ b. record { word = token.Name n; fault = if_so (not b) kind.UnknownName None }) among

pub unknown_faulty : (names : List (List ℕ)) (n : List ℕ) → (IsTrue (is_among names n) → ⊥) → known_name names n ≡ record { word = token.Name n; fault = Some kind.UnknownName }
unknown_faulty names n none = ap (λ b. record { word = token.Name n; fault = if_so (not b) kind.UnknownName None }) (false_from_ne_true (is_among names n) none)

-- the last of them in order behind others, which are sound, and more behind it
pub in_order_last : {A : Type 0} (judge : List A → A → List Judged) (f : A → List Token) (xs : List A) (y : A) (end : List Judged) → AreSound judge f [] xs → in_order judge [] (xs ++ y ∷ []) ++ end ≡ sounds (flat_map f xs) ++ (judge xs y ++ end)
in_order_last judge f xs y end each =
    ap (λ a. a ++ end) (in_order_both judge [] xs (y ∷ []) ∙ ap (λ b. b ++ (judge xs y ++ [])) (in_order_sound judge f [] xs each) ∙ ap (λ b. sounds (flat_map f xs) ++ b) (append-nil (judge xs y)))
    ∙ append_assoc (sounds (flat_map f xs)) (judge xs y) end

-- what holds of either of two Bools
or_left : (b c : Bool) → b ≡ true → (b || c) ≡ true
or_left true c e = refl
or_left false c e = absurd cc

or_right : (b c : Bool) → c ≡ true → (b || c) ≡ true
or_right true c e = refl
or_right false c e = e

or_parts : (b c : Bool) → (b || c) ≡ true → (b ≡ true) ⊎ (c ≡ true)
or_parts true c e = inl refl
or_parts false c e = inr e

-- a name that one of two lists has
pub among_first : (xs ys : List (List ℕ)) (n : List ℕ) → IsTrue (is_among xs n) → IsTrue (is_among (xs ++ ys) n)
among_first xs ys n e = list_any-append (λ m. is_named n m) xs ys ∙ or_left (is_among xs n) (is_among ys n) e

pub among_last : (xs ys : List (List ℕ)) (n : List ℕ) → IsTrue (is_among ys n) → IsTrue (is_among (xs ++ ys) n)
among_last xs ys n e = list_any-append (λ m. is_named n m) xs ys ∙ or_right (is_among xs n) (is_among ys n) e

pub among_parts : (xs ys : List (List ℕ)) (n : List ℕ) → IsTrue (is_among (xs ++ ys) n) → IsTrue (is_among xs n) ⊎ IsTrue (is_among ys n)
among_parts xs ys n e = or_parts (is_among xs n) (is_among ys n) (sym (list_any-append (λ m. is_named n m) xs ys) ∙ e)
