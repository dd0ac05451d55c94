-- Words that a text spells, each in its place, are read.
use Rattle.std.proofs.Common.{◌≡◌, ◌≢◌, ◌==◌, ◌<◌, ◌≤◌, ◌+◌, ◌-◌, ℕ, Bool, true, false, List, [], ◌∷◌, ◌++◌, length, get_or, min, take, drop, Option, Some, None, ◌⊎◌, inl, inr, refl, ap, sym, subst, ◌∙◌, append_assoc, arith}
use Rattle.std.specs.List.{AllByRecursion}
use Rattle.std.specs.Str.{IsUtf8}
use Rattle.std.proofs.lemmas.List.{append-nil}
use Rattle.plant_text.specs.declared.token.Token.{Token}
use Rattle.plant_text.specs.declared.token.Token.TheVariants as token
use Rattle.plant_text.specs.declared.token.Keyword.TheVariants as key
use Rattle.plant_text.specs.declared.lexer.Stage.{Stage}
use Rattle.plant_text.specs.declared.lexer.Stage.TheVariants as stage
use Rattle.plant_text.specs.Words.{is_name_char, word_of, front_len}
use Rattle.plant_text.specs.Lines.{WordValue}
use Rattle.plant_text.specs.Spelling.{first_line, IsGap, IsLineEnd, IsEndLine, BeginsNoBlock, Spells, IsBlankLine, IsBodyThen}
use Rattle.plant_text.specs.Steps.Gaps.{IsBehindGap}
use Rattle.plant_text.specs.Places.{stage_behind, is_due}
use Rattle.plant_text.specs.Steps.Lexing.{may_follow, is_section, IsBehindBody, LexerValue, IsWhole, AreInPlace, AreWordsInPlace, IsText, ReadsWord, ReadsBody, IsReadBefore, ReadsFirst, ReadsNone}
use Rattle.plant_text.proofs.BodyLines.{gap_whole}
use Rattle.plant_text.proofs.BodyUnique.{one_rest, one_body, body_behind}
use Rattle.plant_text.proofs.LineCounts.{passed}
use Rattle.plant_text.proofs.WordShapes.{IsShape, known_shape}
use Rattle.plant_text.proofs.WholeWords.{IsWordNext, IsBodyNext, next_of, spelled_follows, whole_cut, whole_behind}

-- the word in front
pub front_read : (text : List ℕ) (n : ℕ) (t : Token) (left : List ℕ) → n ≡ front_len text → t ≡ word_of (take n text) → left ≡ drop n text
    → (word rest : List ℕ) → IsWhole text word rest → (t ≡ word_of word) × (left ≡ rest)
front_read text n t left e et el word rest w =
    let cut = whole_cut text word rest n e w in
    (et ∙ ap (λ x. word_of x) cut.0, el ∙ cut.1)

pub front_unknown : (text : List ℕ) (n : ℕ) → n ≡ front_len text → token.Unknown ≡ word_of (take n text) → (word rest : List ℕ) → IsWhole text word rest → ⊥
front_unknown text n e u word rest w =
    let cut = whole_cut text word rest n e w in
    w.1 (ap (λ x. word_of x) (sym cut.0) ∙ sym u)

-- a word behind a gap
pub gap_read : (old passing new : LexerValue) (inner front : List ℕ) (w : WordValue) → old.text ≡ inner → IsBehindGap inner front → passing.text ≡ front → passing.stage ≡ old.stage → passing.bodies ≡ old.bodies
    → ((word rest : List ℕ) → IsWhole passing.text word rest → (w.token ≡ word_of word) × (new.text ≡ rest)) → (w.token ≢ token.Unknown → new.stage ≡ stage_behind w.token passing.stage) → new.bodies ≡ passing.bodies
    → ReadsWord old (Some w) new
gap_read old passing new inner front w ei g ep es eb every stages counted = λ gap word rest e ig known p f.
    let left : front ≡ word ++ rest = whole_behind inner front gap word rest g (sym ei ∙ e) ig known f in
    let r = every word rest (ep ∙ left, known, p, f) in
    let k : w.token ≢ token.Unknown = λ u. known (sym r.0 ∙ u) in
    record { word = w; is = refl; token_is = r.0; text_is = r.1; stage_is = stages k ∙ ap (λ s. stage_behind w.token s) es ∙ ap (λ t. stage_behind t old.stage) r.0; bodies_are = counted ∙ eb }

word_some : (word rest : List ℕ) → word_of word ≢ token.Unknown → word ++ rest ≡ [] → ⊥
word_some [] rest known e = none (known_shape [] known)
  where
    none : IsShape [] → ⊥
    none (inl r) = let f : is_name_char 32 ≡ true = r.1 in cc
    none (inr (inl p)) = let f : [] ≡ 37 ∷ p.0 = p.1 in cc
    none (inr (inr (inl m))) = let f : [] ≡ m.0 ∷ [] = m.1 in cc
    none (inr (inr (inr m))) = cc
word_some (c ∷ w) rest known e = cc

-- where nothing is left behind a gap, no word is
pub nothing_left : (old new : LexerValue) (inner front : List ℕ) (found : Option WordValue) → old.text ≡ inner → IsBehindGap inner front → front ≡ [] → ReadsWord old found new
nothing_left old new inner front found ei g z = λ gap word rest e ig known p f.
    absurd (word_some word rest known (sym (whole_behind inner front gap word rest g (sym ei ∙ e) ig known f) ∙ z))

pub true_false : (b : Bool) → b ≡ true → b ≡ false → ⊥
true_false b t f = cc

no_forty : (a : ℕ) (x y : List ℕ) → a ∷ x ≡ 40 ∷ y → (a == 40) ≡ false → ⊥
no_forty a x y g n = true_false (a == 40) (ap (λ z. get_or z 0 0 == 40) g) n

second_of : (a b : ℕ) (x y : List ℕ) → a ∷ x ≡ b ∷ y → x ≡ y
second_of a b x y e = cc

first_of : (a b : ℕ) (x y : List ℕ) → a ∷ x ≡ b ∷ y → a ≡ b
first_of a b x y e = cc

no_run_comment : (word rest more : List ℕ) → is_name_char (get_or word 0 32) ≡ true → word ++ rest ≡ 40 ∷ 42 ∷ more → ⊥
no_run_comment [] rest more h e = true_false (is_name_char 32) h refl
no_run_comment (c ∷ w) rest more h e = true_false (is_name_char c) h (ap is_name_char (first_of c 40 (w ++ rest) (42 ∷ more) e))

no_mark_comment : (m : ℕ) (rest more : List ℕ) → may_follow rest ≡ true → m ∷ rest ≡ 40 ∷ 42 ∷ more → ⊥
no_mark_comment m rest more f e = true_false (may_follow rest) f (ap (λ x. may_follow x) (second_of m 40 rest (42 ∷ more) e))

no_comment_word : (word rest more : List ℕ) → IsShape word → may_follow rest ≡ true → word ++ rest ≡ 40 ∷ 42 ∷ more → ⊥
no_comment_word word rest more (inl r) f e = no_run_comment word rest more r.1 e
no_comment_word word rest more (inr (inl p)) f e = no_forty 37 (p.0 ++ rest) (42 ∷ more) (ap (λ x. x ++ rest) (sym p.1) ∙ e) refl
no_comment_word word rest more (inr (inr (inl m))) f e = no_mark_comment m.0 rest more f (ap (λ x. x ++ rest) (sym m.1) ∙ e)
no_comment_word word rest more (inr (inr (inr m))) f e = no_forty 58 (61 ∷ rest) (42 ∷ more) (ap (λ x. x ++ rest) (sym m) ∙ e) refl

-- two characters and more
pub front_two : (x : List ℕ) → 2 ≤ length x → get_or x 0 0 ≡ 40 → get_or x 1 0 ≡ 42 → x ≡ 40 ∷ 42 ∷ drop 2 x
front_two [] l a b = absurd (omega arith)
front_two (c ∷ []) l a b = absurd (omega arith)
front_two (c ∷ d ∷ x) l a b = rw (a, b) refl

pub not_empty : (x : List ℕ) (b : Bool) → b ≡ (length x == 0) → b ≡ false → x ≡ [] → ⊥
not_empty x b e f z = true_false b (e ∙ ap (λ (y : List ℕ). length y == 0) z) f

-- where an unfinished comment is left behind a gap, no word is
pub comment_left : (old new : LexerValue) (inner front more : List ℕ) (found : Option WordValue) → old.text ≡ inner → IsBehindGap inner front → front ≡ 40 ∷ 42 ∷ more → ReadsWord old found new
comment_left old new inner front more found ei g c = λ gap word rest e ig known p f.
    absurd (no_comment_word word rest more (known_shape word known) f (sym (whole_behind inner front gap word rest g (sym ei ∙ e) ig known f) ∙ c))

-- behind a gap that is the whole text, no word is left
pub no_word_left : (text inner front : List ℕ) → text ≡ inner → IsBehindGap inner front → IsGap text → front ≡ []
no_word_left text inner front e g gap = gap_whole inner front g (subst IsGap e gap)

-- a body behind the rest of a line
pub body_is : (old new : LexerValue) (inner lines left got : List ℕ) (w : WordValue) → old.text ≡ inner → w.token ≡ token.Body got → new.text ≡ left → new.stage ≡ stage.Outside → new.bodies ≡ min (old.bodies + 1) 18446744073709551615
    → IsBlankLine inner lines → IsBehindBody lines left → IsEndLine (first_line left) → got ≡ take (length lines - length left) lines → ReadsBody old w new
body_is old new inner lines left got w ei et ex es eb l b f eg = λ body rest found whole few.
    let there : IsBodyThen inner body rest = subst (λ (x : List ℕ). IsBodyThen x body rest) ei found in
    let same : left ≡ rest = one_body lines left rest b f (body_behind inner lines body rest l there) there.2 in
    let text : lines ≡ body ++ left = one_rest inner lines (body ++ rest) l there.0 ∙ ap (λ x. body ++ x) (sym same) in
    let cut : got ≡ body = eg ∙ passed lines body left text in
    let count : min (old.bodies + 1) 18446744073709551615 ≡ old.bodies + 1 = omega arith in
    record { word = w; is = refl; token_is = et ∙ ap (λ x. token.Body x) cut; text_is = ex ∙ same; stage_is = es; bodies_are = eb ∙ count }

-- the first of words in place
pub first_by_word : (old new : LexerValue) (found : Option WordValue) (t : Token) (more : List Token) → ReadsWord old found new → IsWordNext old.text old.stage old.bodies t more → IsReadBefore found t more new
first_by_word old new found t more reads n =
    let known : word_of n.word ≢ token.Unknown = λ u. n.stands.0 (sym n.token_is ∙ u) in
    let follows : may_follow n.rest ≡ true = spelled_follows n.rest (stage_behind t old.stage) old.bodies more n.spelled n.after in
    let r = reads n.gap n.word n.rest n.parts n.is_gap known n.parted follows in
    record {
      word = r.word;
      is = r.is;
      token_is = r.token_is ∙ n.token_is;
      spelled = subst (λ (x : List ℕ). Spells x more) (sym r.text_is) n.spelled;
      after = subst (λ (s : Stage). AreInPlace s new.bodies more) (sym (r.stage_is ∙ ap (λ x. stage_behind x old.stage) n.token_is)) (subst (λ (k : ℕ). AreInPlace (stage_behind t old.stage) k more) (sym r.bodies_are) n.after);
    }

pub first_by_body : (old new : LexerValue) (w : WordValue) (t : Token) (more : List Token) → ReadsBody old w new → IsBodyNext old.text old.stage old.bodies t more → IsText t → IsReadBefore (Some w) t more new
first_by_body old new w t more reads n x =
    let whole : IsUtf8 n.body = subst IsText n.is x in
    let line : old.text ≡ n.gap ++ n.line_end ++ (n.body ++ n.rest) = n.parts ∙ append_assoc (n.gap ++ n.line_end) n.body n.rest in
    let r = reads n.body n.rest ((n.gap, n.line_end, line, n.is_gap, n.one, n.ends), n.whole, n.end) whole n.few in
    record {
      word = r.word;
      is = r.is;
      token_is = r.token_is ∙ sym n.is;
      spelled = subst (λ (y : List ℕ). Spells y more) (sym r.text_is) n.spelled;
      after = subst (λ (s : Stage). AreInPlace s new.bodies more) (sym r.stage_is) (subst (λ (k : ℕ). AreInPlace stage.Outside k more) (sym r.bodies_are) n.after);
    }

no_body_here : (gap line_end body rest : List ℕ) → IsLineEnd line_end → [] ≡ gap ++ line_end ++ body ++ rest → ⊥
no_body_here [] line_end body rest (inl h) e = let f : [] ≡ 10 ∷ (body ++ rest) = e ∙ ap (λ x. x ++ body ++ rest) h in cc
no_body_here [] line_end body rest (inr h) e = let f : [] ≡ 13 ∷ 10 ∷ (body ++ rest) = e ∙ ap (λ x. x ++ body ++ rest) h in cc
no_body_here (c ∷ gap) line_end body rest h e = cc

-- where no body is due
pub first_elsewhere : (old new : LexerValue) (found : Option WordValue) → (is_due old.stage ≡ true → old.text ≡ []) → ReadsWord old found new → ReadsFirst old found new
first_elsewhere old new found due reads = λ t more s a x. elim (next_of old.text old.stage old.bodies t more s a) [
  | inl w ↦ first_by_word old new found t more reads w
  | inr b ↦ absurd (no_body_here b.gap b.line_end b.body b.rest b.ends (sym (due b.due) ∙ b.parts))
]

-- where a block begins
pub first_of_block : (old new : LexerValue) (found : Option WordValue) → (BeginsNoBlock old.text → ⊥) → ReadsWord old found new → ReadsFirst old found new
first_of_block old new found block reads = λ t more s a x. elim (next_of old.text old.stage old.bodies t more s a) [
  | inl w ↦ first_by_word old new found t more reads w
  | inr b ↦ absurd (block b.none)
]

-- behind 65 bodies no further one is due
pub first_too_many : (old new : LexerValue) (found : Option WordValue) → is_due old.stage ≡ true → 64 < old.bodies → ReadsFirst old found new
first_too_many old new found due many = λ t more s a x. elim (next_of old.text old.stage old.bodies t more s a) [
  | inl w ↦ absurd (let few = (w.stands.1 due).1 in omega arith)
  | inr b ↦ absurd (let few = b.few in omega arith)
]

no_section : (t : Token) → is_section t ≡ true → (t ≡ token.Keyword key.Var) ⊎ ((t ≡ token.Keyword key.VarInput) ⊎ (t ≡ token.Keyword key.VarOutput))
no_section (token.Keyword key.Var) h = inl refl
no_section (token.Keyword key.VarInput) h = inr (inl refl)
no_section (token.Keyword key.VarOutput) h = inr (inr refl)
no_section _ h = absurd cc

-- where a body begins
pub first_of_body : (old new : LexerValue) (w : WordValue) → is_due old.stage ≡ true → BeginsNoBlock old.text → ReadsBody old w new → ReadsFirst old (Some w) new
first_of_body old new w due none reads = λ t more s a x. elim (next_of old.text old.stage old.bodies t more s a) [
  | inl n ↦
      let no = none n.gap n.word n.rest n.parts n.is_gap n.parted in
      elim (no_section t (n.stands.1 due).0) [
        | inl k ↦ absurd (no.0 (n.token_is ∙ k))
        | inr (inl k) ↦ absurd (no.1 (n.token_is ∙ k))
        | inr (inr k) ↦ absurd (no.2 (n.token_is ∙ k))
      ]
  | inr b ↦ first_by_body old new w t more reads b x
]

-- of all words, these are read, and the rest spells the others
abbrev pub IsReadUpTo : List ℕ → List Token → LexerValue → Type 0
IsReadUpTo text ws left =
    (ts : List Token) → AreWordsInPlace ts → Spells text ts → AllByRecursion IsText ts
    → (more : List Token) × (ts ≡ ws ++ more) × AreInPlace left.stage left.bodies more × Spells left.text more × AllByRecursion IsText more

pub up_to_first : (text : List ℕ) (last : ℕ) (left : LexerValue) → left ≡ record { text = text; line = 1; stage = stage.Outside; bodies = 0; last = last } → IsReadUpTo text [] left
up_to_first text last left e = λ ts a s x.
    (ts, refl, subst (λ (l : LexerValue). AreInPlace l.stage l.bodies ts) (sym e) a, subst (λ (l : LexerValue). Spells l.text ts) (sym e) s, x)

pub up_to_next : (text : List ℕ) (ws us : List Token) (w : WordValue) (left new : LexerValue) → us ≡ ws ++ w.token ∷ [] → IsReadUpTo text ws left → ReadsFirst left (Some w) new → ReadsNone left (Some w) → IsReadUpTo text us new
up_to_next text ws us w left new e before first none = λ ts a s x.
    let b = before ts a s x in
    go ts b.0 b.1 b.2 b.3 b.4
  where
    go : (ts more : List Token) → ts ≡ ws ++ more → AreInPlace left.stage left.bodies more → Spells left.text more → AllByRecursion IsText more
        → (more : List Token) × (ts ≡ us ++ more) × AreInPlace new.stage new.bodies more × Spells new.text more × AllByRecursion IsText more
    go ts [] is a s x = absurd (let f : ◌≡◌ {A = Option WordValue} (Some w) None = none s a in cc)
    go ts (t ∷ more) is a s x =
        let r = first t more s a x.0 in
        let f : ◌≡◌ {A = Option WordValue} (Some w) (Some r.word) = r.is in
        let same : w ≡ r.word = cc in
        let same_token : w.token ≡ t = ap (λ (v : WordValue). v.token) same ∙ r.token_is in
        let whole : ts ≡ us ++ more = is ∙ ap (λ (y : Token). ws ++ y ∷ more) (sym same_token) ∙ sym (append_assoc ws (w.token ∷ []) more) ∙ ap (λ y. y ++ more) (sym e) in
        (more, whole, r.after, r.spelled, x.1)

pub up_to_end : (text : List ℕ) (ws : List Token) (left new : LexerValue) → IsReadUpTo text ws left → ReadsFirst left None new → (ts : List Token) → AreWordsInPlace ts → Spells text ts → AllByRecursion IsText ts → ws ≡ ts
up_to_end text ws left new before first ts a s x =
    let b = before ts a s x in
    go b.0 b.1 b.2 b.3 b.4
  where
    go : (more : List Token) → ts ≡ ws ++ more → AreInPlace left.stage left.bodies more → Spells left.text more → AllByRecursion IsText more → ws ≡ ts
    go [] is a s x = sym (is ∙ append-nil ws)
    go (t ∷ more) is a s x = absurd (let r = first t more s a x.0 in let f : ◌≡◌ {A = Option WordValue} None (Some r.word) = r.is in cc)
