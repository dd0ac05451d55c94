-- Words stand where they may: a body or a block where a body is due, and a body nowhere else.
use Rattle.std.proofs.Common.{◌≡◌, ◌≢◌, ◌==◌, ℕ, true, false, List, [], ◌∷◌, ◌++◌, map, codes, Option, Some, None, IfSome, Result, Ok, Err, IfOk, ◌⊎◌, inl, inr, refl, ap, sym, subst, ◌∙◌, append_assoc}
use Rattle.std.specs.Char.{to_ascii_lowercase}
use Rattle.std.proofs.lemmas.Bool.{and_parts, cases_Bool, ne_eqb}
use Rattle.std.proofs.lemmas.Slice.Eq.{bytes_eq-Decides}
use Rattle.words.proofs.DurationWords.{duration_spelled}
use Rattle.plant_text.specs.declared.token.Token.{Token}
use Rattle.plant_text.specs.declared.token.Token.TheVariants as token
use Rattle.plant_text.specs.declared.token.Keyword.{Keyword}
use Rattle.plant_text.specs.declared.token.Keyword.TheVariants as key
use Rattle.plant_text.specs.Words.{is_name_char, program_keyword, configuration_keyword, task_keyword, keyword, word_of}
use Rattle.plant_text.specs.Spelling.{is_parted, IsGap, BeginsNoBlock}
use Rattle.plant_text.specs.Places.{is_due, is_body, may_be_due, FitsPlace, is_body_due}
use Rattle.plant_text.specs.Lines.{WordValue, AreInTheirPlaces}
use Rattle.plant_text.specs.Steps.Gaps.{IsBehindGap}
use Rattle.plant_text.specs.Steps.Lexing.{letters, begins_block, is_section, LexerValue, IsWordThen, IsNoBodyThere, StandsInPlace}
use Rattle.plant_text.proofs.FirstWords.{are_letters, keyword-word_of, word_of-body, letters_end, parted_letters, lower_letter, take_while-yes, take_while-no}
use Rattle.plant_text.proofs.WordShapes.{IsOfKind, known_kind, is_mark}
use Rattle.plant_text.proofs.BodyLines.{begins_none}
use Rattle.plant_text.proofs.LineCounts.{tokens, AreKnown}
use Rattle.plant_text.proofs.UnknownWords.{IsPlacedTo}

-- words that are one, case aside, are one keyword
keyword_as : (v u : List ℕ) → map to_ascii_lowercase v ≡ map to_ascii_lowercase u → keyword v ≡ keyword u
unfolding keyword program_keyword configuration_keyword task_keyword
keyword_as v u e = rw e refl

-- the letters before a `#`
letters_before : (u f x : List ℕ) → are_letters u ≡ true → map to_ascii_lowercase f ≡ u ++ 35 ∷ [] → map to_ascii_lowercase (letters (f ++ x)) ≡ u
letters_before [] [] x h e = absurd cc
letters_before [] (c ∷ f) x h e =
    let first : to_ascii_lowercase c ≡ 35 = cc in
    let misses : is_name_char c ≡ false = sym (lower_letter c) ∙ ap is_name_char first in
    ap (map to_ascii_lowercase) (take_while-no is_name_char c (f ++ x) misses)
letters_before (d ∷ u) [] x h e = absurd cc
letters_before (d ∷ u) (c ∷ f) x h e =
    let parts = and_parts (is_name_char d) (are_letters u) h in
    let first : to_ascii_lowercase c ≡ d = cc in
    let more : map to_ascii_lowercase f ≡ u ++ 35 ∷ [] = cc in
    let holds : is_name_char c ≡ true = sym (lower_letter c) ∙ ap is_name_char first ∙ parts.0 in
    ap (map to_ascii_lowercase) (take_while-yes is_name_char c (f ++ x) holds) ∙ ap (λ b. b ∷ map to_ascii_lowercase (letters (f ++ x))) first ∙ ap (λ bs. d ∷ bs) (letters_before u f x parts.1 more)

-- what begins with letters before a `#` that are no keyword of a block begins no block
no_block_before : (u f x : List ℕ) → are_letters u ≡ true → map to_ascii_lowercase u ≡ u → begins_block (keyword u) ≡ false → map to_ascii_lowercase f ≡ u ++ 35 ∷ [] → begins_block (keyword (letters (f ++ x))) ≡ false
no_block_before u f x h low none e = ap begins_block (keyword_as (letters (f ++ x)) u (letters_before u f x h e ∙ sym low)) ∙ none

timer_is_none : begins_block (keyword (codes "t")) ≡ false
unfolding keyword program_keyword configuration_keyword task_keyword
timer_is_none = refl

time_is_none : begins_block (keyword (codes "time")) ≡ false
unfolding keyword program_keyword configuration_keyword task_keyword
time_is_none = refl

nothing_is_none : begins_block (keyword []) ≡ false
unfolding keyword program_keyword configuration_keyword task_keyword
nothing_is_none = refl

no_letter : (c : ℕ) (x : List ℕ) → is_name_char c ≡ false → begins_block (keyword (letters (c ∷ x))) ≡ false
no_letter c x misses = ap (λ w. begins_block (keyword w)) (take_while-no is_name_char c x misses) ∙ nothing_is_none

mark_no_letter : (c : ℕ) → is_mark c ≡ true → is_name_char c ≡ false
mark_no_letter c m = elim (cases_Bool (is_name_char c)) [
  | inl holds ↦ absurd (no_both holds)
  | inr misses ↦ misses
]
  where
    apart : (k : ℕ) → is_name_char c ≡ true → is_name_char k ≡ false → (c == k) ≡ false
    apart k holds misses = ne_eqb c k (λ e. let same : is_name_char c ≡ is_name_char k = ap is_name_char e in absurd cc)

    no_both : is_name_char c ≡ true → ⊥
    no_both holds =
        let a = apart 40 holds refl in
        let b = apart 41 holds refl in
        let d = apart 58 holds refl in
        let f = apart 59 holds refl in
        let g = apart 44 holds refl in
        let h = apart 46 holds refl in
        let none : is_mark c ≡ false = rw (a, b, d, f, g, h) refl in
        cc

section_word : (k : Option Keyword) (w : List ℕ) → keyword w ≡ k → begins_block k ≡ true → is_section (word_of w) ≡ true
section_word None w e b = absurd cc
section_word (Some k) w e b = ap is_section (keyword-word_of w k e) ∙ b

-- a known word where a block begins, begins it
block_word : (word rest : List ℕ) → word_of word ≢ token.Unknown → is_parted word rest ≡ true → begins_block (keyword (letters (word ++ rest))) ≡ true → is_section (word_of word) ≡ true
block_word word rest known parted block = by (known_kind word known)
  where
    never : begins_block (keyword (letters (word ++ rest))) ≡ false → is_section (word_of word) ≡ true
    never none = absurd cc

    by : IsOfKind word → is_section (word_of word) ≡ true
    by (inl l) =
        let read : letters (word ++ rest) ≡ word = letters_end word rest l.0 (parted_letters word rest l parted) in
        section_word (keyword word) word refl (sym (ap (λ w. begins_block (keyword w)) read) ∙ block)
    by (inr (inl d)) =
        let s = duration_spelled word d in
        let whole : word ++ rest ≡ s.1.front ++ (s.1.rest ++ rest) = ap (λ w. w ++ rest) s.1.whole ∙ append_assoc s.1.front s.1.rest rest in
        never (ap (λ w. begins_block (keyword (letters w))) whole ∙ elim s.1.named [
          | inl t ↦ no_block_before (codes "t") s.1.front (s.1.rest ++ rest) refl refl timer_is_none ((bytes_eq-Decides (map to_ascii_lowercase s.1.front) (map to_ascii_lowercase (codes "T#"))).0 t)
          | inr t ↦ no_block_before (codes "time") s.1.front (s.1.rest ++ rest) refl refl time_is_none ((bytes_eq-Decides (map to_ascii_lowercase s.1.front) (map to_ascii_lowercase (codes "TIME#"))).0 t)
        ])
    by (inr (inr (inl p))) = never (ap (λ w. begins_block (keyword (letters (w ++ rest)))) p.1 ∙ no_letter 37 (p.0 ++ rest) refl)
    by (inr (inr (inr (inl m)))) = never (ap (λ w. begins_block (keyword (letters (w ++ rest)))) m.1 ∙ no_letter m.0 rest (mark_no_letter m.0 m.2))
    by (inr (inr (inr (inr m)))) = never (ap (λ w. begins_block (keyword (letters (w ++ rest)))) m ∙ no_letter 58 (61 ∷ rest) refl)

no_body_word : (t : Token) → ((b : List ℕ) → t ≡ token.Body b → ⊥) → is_body t ≡ false
no_body_word (token.Body b) none = absurd (none b refl)
no_body_word _ none = refl

-- a word behind a gap
pub word_there : (old passing new : LexerValue) (inner front : List ℕ) (w : WordValue) → old.text ≡ inner → IsBehindGap inner front → passing.text ≡ front → (w.token ≢ token.Unknown → IsWordThen passing.text w.token new.text) → IsNoBodyThere old w
word_there old passing new inner front w ei g ep then known =
    let h = then known in
    let text : front ≡ h.0 ++ new.text = sym ep ∙ h.1 in
    let is_known : word_of h.0 ≢ token.Unknown = λ u. known (sym h.2 ∙ u) in (
      no_body_word w.token (λ b e. word_of-body h.0 b (h.2 ∙ e)),
      λ block. elim (cases_Bool (begins_block (keyword (letters front)))) [
        | inl holds ↦ ap is_section (sym h.2) ∙ block_word h.0 new.text is_known h.3 (subst (λ x. begins_block (keyword (letters x)) ≡ true) text holds)
        | inr misses ↦ absurd (block (subst BeginsNoBlock (sym ei) (begins_none inner front g misses)))
      ],
    )

-- what is no word
pub stopped_there : (old : LexerValue) (w : WordValue) → w.token ≡ token.Unknown → IsNoBodyThere old w
stopped_there old w unknown known = absurd (known unknown)

pub stopped_in_place : (old : LexerValue) (w : WordValue) → w.token ≡ token.Unknown → StandsInPlace old w
stopped_in_place old w unknown known = absurd (known unknown)

no_gap : IsGap []
no_gap = ([], tt, refl)

-- where no body is due
pub placed_elsewhere : (old : LexerValue) (found : Option WordValue) → (is_due old.stage ≡ true → old.text ≡ []) → (IsGap old.text → found ≡ None) → IfSome found (λ w. IsNoBodyThere old w) → IfSome found (λ w. StandsInPlace old w)
placed_elsewhere old None due none there = tt
placed_elsewhere old (Some w) due none there = λ known. elim (cases_Bool (is_due old.stage)) [
  | inl holds ↦ absurd (let nothing : ◌≡◌ {A = Option WordValue} (Some w) None = none (subst IsGap (sym (due holds)) no_gap) in cc)
  | inr misses ↦ subst (λ b. FitsPlace b w.token) (sym misses) (there known).0
]

section_may : (t : Token) → is_section t ≡ true → may_be_due t ≡ true
section_may (token.Keyword key.Var) h = refl
section_may (token.Keyword key.VarInput) h = refl
section_may (token.Keyword key.VarOutput) h = refl
section_may _ h = absurd cc

body_may : (t : Token) → is_body t ≡ true → may_be_due t ≡ true
body_may (token.Body b) h = refl
body_may _ h = absurd cc

-- where a block begins
pub placed_block : (old : LexerValue) (found : Option WordValue) → is_due old.stage ≡ true → (BeginsNoBlock old.text → ⊥) → IfSome found (λ w. IsNoBodyThere old w) → IfSome found (λ w. StandsInPlace old w)
placed_block old None due block there = tt
placed_block old (Some w) due block there = λ known. subst (λ b. FitsPlace b w.token) (sym due) (section_may w.token ((there known).1 block))

-- where a body begins
pub placed_body : (old : LexerValue) (w : WordValue) → is_due old.stage ≡ true → (w.token ≢ token.Unknown → is_body w.token ≡ true) → StandsInPlace old w
placed_body old w due body known = subst (λ b. FitsPlace b w.token) (sym due) (body_may w.token (body known))

-- a list with one more item, cut at an item
cut_last : {A : Type 0} (xs front back : List A) (x y : A) → xs ++ x ∷ [] ≡ front ++ y ∷ back → ((xs ≡ front) × (x ≡ y)) ⊎ ((more : List A) × (xs ≡ front ++ y ∷ more))
cut_last [] [] back x y e = inl (refl, cc)
cut_last [] (z ∷ []) back x y e = absurd cc
cut_last [] (z ∷ u ∷ front) back x y e = absurd cc
cut_last {A} (z ∷ xs) [] back x y e = let first : z ≡ y = cc in inr (xs, ap (λ (v : A). v ∷ xs) first)
cut_last {A} (z ∷ xs) (u ∷ front) back x y e =
    let first : z ≡ u = cc in
    let more : xs ++ x ∷ [] ≡ front ++ y ∷ back = cc in
    elim (cut_last xs front back x y more) [
      | inl same ↦ inl (ap (λ (v : A). v ∷ xs) first ∙ ap (λ (vs : List A). u ∷ vs) same.0, same.1)
      | inr found ↦ inr (found.0, ap (λ (v : A). v ∷ xs) first ∙ ap (λ (vs : List A). u ∷ vs) found.1)
    ]

-- no words
pub in_places_first : AreInTheirPlaces []
in_places_first [] back w e = absurd cc
in_places_first (v ∷ front) back w e = absurd cc

-- one word more
pub in_places_next : (ws us : List WordValue) (w : WordValue) (left : LexerValue) → us ≡ ws ++ w ∷ [] → AreKnown ws → IsPlacedTo ws left → StandsInPlace left w → AreInTheirPlaces ws → AreInTheirPlaces us
in_places_next ws us w left e known places stands before = λ front back v parts is. elim (cut_last ws front back w v (sym e ∙ parts)) [
  | inl same ↦
      let here : FitsPlace (is_due left.stage) w.token = stands (λ u. is (ap (λ (x : WordValue). x.token) (sym same.1) ∙ u)) in
      let placed : FitsPlace (is_body_due (tokens ws)) w.token = subst (λ s. FitsPlace (is_due s) w.token) (places known).0 here in
      subst (λ (x : List WordValue). FitsPlace (is_body_due (tokens x)) v.token) same.0 (subst (λ (x : WordValue). FitsPlace (is_body_due (tokens ws)) x.token) same.1 placed)
  | inr found ↦ before front found.0 v found.1 is
]

-- what follows from two things that hold of what is read
pub both_ok : {T E : Type 0} (r : Result T E) (P Q S : T → Type 0) → ((x : T) → P x → Q x → S x) → IfOk r P → IfOk r Q → IfOk r S
both_ok (Ok x) P Q S h p q = h x p q
both_ok (Err e) P Q S h p q = tt
