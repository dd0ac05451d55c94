-- The lines on which words begin, counted on from the first.
use Rattle.std.proofs.Common.{◌≡◌, ◌≢◌, ◌+◌, ◌-◌, ℕ, min, true, false, cond, ◌==◌, List, [], ◌∷◌, ◌++◌, length, map, All, take, ◌⊎◌, inl, inr, refl, ap, sym, subst, ◌∙◌, append_assoc, arith}
use Rattle.std.proofs.lemmas.Bool.{cases_Bool}
use Rattle.std.proofs.lemmas.List.{append-nil, length-append, map-append}
use Rattle.std.proofs.lemmas.List.Sums.{sum_by-append}
use Rattle.std.proofs.Math.Seq.{take-append_seam}
use Rattle.plant_text.specs.declared.token.Token.{Token}
use Rattle.plant_text.specs.declared.token.Token.TheVariants as token
use Rattle.plant_text.specs.declared.lexer.Stage.TheVariants as stage
use Rattle.plant_text.specs.Words.{front_len, word_of}
use Rattle.plant_text.specs.Spelling.{is_parted, is_one_line, first_line, IsGap, IsLineEnd, IsBody, IsEndLine, BeginsNoBlock, feeds, BeginsWithThen, BeginsWith, IsBlankLine}
use Rattle.plant_text.specs.Steps.Gaps.{IsBehindGap}
use Rattle.plant_text.specs.Steps.Lexing.{IsWordThen, IsBehindBody, LexerValue, IsLeft, StandsFirst}
use Rattle.plant_text.specs.Lines.{WordValue, IsBegunBy}
use Rattle.plant_text.proofs.FirstWords.{word_of-body}
use Rattle.plant_text.proofs.SpelledWords.{known_before, known_last}

feeds_both : (a b : List ℕ) → feeds (a ++ b) ≡ feeds a + feeds b
feeds_both a b = sum_by-append (λ (c : ℕ). cond (c == 10) 1 0) a b

-- a line has no line feed
no_feeds : (line : List ℕ) → is_one_line line ≡ true → feeds line ≡ 0
no_feeds [] h = refl
no_feeds (c ∷ line) h = elim (cases_Bool (c == 10)) [
  | inl e ↦ absurd (let f : false ≡ true = rw e at h in cc)
  | inr e ↦ rw e (no_feeds line (rw e at h))
]

one_feed : (text : List ℕ) → IsLineEnd text → feeds text ≡ 1
one_feed text (inl h) = rw h refl
one_feed text (inr h) = rw h refl

-- what lies before the rest
pub passed : (text front rest : List ℕ) → text ≡ front ++ rest → take (length text - length rest) text ≡ front
passed text front rest e =
    let len : length text ≡ length front + length rest = ap length e ∙ length-append front rest in
    let cut : length text - length rest ≡ length front = omega arith in
    ap (λ n. take n text) cut ∙ ap (λ x. take (length front) x) e ∙ take-append_seam front rest

-- a word that is no body, behind a gap
begins_word : (Holds : ℕ → List ℕ → Type 0) (n : ℕ) (text gap word rest : List ℕ) (line : ℕ) (t : Token) (more : List Token) (lines : List ℕ) → text ≡ gap ++ word ++ rest → IsGap gap → word_of word ≡ t → is_parted word rest ≡ true → length word ≡ front_len (word ++ rest)
    → line ≡ min (n + feeds gap) 18446744073709551615 → BeginsWithThen Holds (n + feeds gap) rest more lines → BeginsWithThen Holds n text (t ∷ more) (line ∷ lines)
begins_word Holds n text gap word rest line (token.Body k) more lines e g i p f l s = absurd (word_of-body word k i)
begins_word Holds n text gap word rest line t more lines e g i p f l s = (gap, word, rest, e, g, i, p, f, l, s)

-- what the text begins with, and then what the rest begins with
begins_both : (Holds : ℕ → List ℕ → Type 0) (m : ℕ) (left : List ℕ) (us vs : List Token) (ls ks : List ℕ) (n : ℕ) (text : List ℕ) → BeginsWithThen (IsLeft m left) n text us ls → BeginsWithThen Holds m left vs ks → BeginsWithThen Holds n text (us ++ vs) (ls ++ ks)
begins_both Holds m left [] vs ls ks n text b c = rw (b.0, b.1.0, b.1.1) c
begins_both Holds m left (t ∷ us) vs [] ks n text b c = absurd b
begins_both Holds m left (token.Body body ∷ us) vs (l ∷ ls) ks n text b c =
    (b.0, b.1, b.2, b.3, b.4, b.5, b.6, b.7, b.8, b.9, b.10, begins_both Holds m left us vs ls ks (n + 1 + feeds body) b.2 b.11 c)
begins_both Holds m left (t ∷ us) vs (l ∷ ls) ks n text b c =
    (b.0, b.1, b.2, b.3, b.4, b.5, b.6, b.7, b.8, begins_both Holds m left us vs ls ks (n + feeds b.0) b.2 b.9 c)

-- what the text begins with, and what holds of the rest
pub begins_then : (Holds : ℕ → List ℕ → Type 0) (m : ℕ) (left : List ℕ) (ts : List Token) (ls : List ℕ) (n : ℕ) (text : List ℕ) → BeginsWithThen (IsLeft m left) n text ts ls → Holds m left → BeginsWithThen Holds n text ts ls
begins_then Holds m left ts ls n text b h =
    let s : BeginsWithThen Holds n text (ts ++ []) (ls ++ []) = begins_both Holds m left ts [] ls [] n text b (refl, h) in
    let t : BeginsWithThen Holds n text ts (ls ++ []) = subst (λ (x : List Token). BeginsWithThen Holds n text x (ls ++ [])) (append-nil ts) s in
    subst (λ (x : List ℕ). BeginsWithThen Holds n text ts x) (append-nil ls) t

pub counted : (line n k : ℕ) → line ≡ min n 18446744073709551615 → min (line + k) 18446744073709551615 ≡ min (n + k) 18446744073709551615
counted line n k e = omega (arith, e)

-- the word in front, behind a gap that is passed
pub word_stands : (old passing new : LexerValue) (inner front : List ℕ) (w : WordValue) → old.text ≡ inner → IsBehindGap inner front → passing.text ≡ front
    → passing.line ≡ min (old.line + feeds (take (length old.text - length front) old.text)) 18446744073709551615
    → (w.token ≢ token.Unknown → IsWordThen passing.text w.token new.text) → new.line ≡ passing.line → w.line ≡ passing.line → StandsFirst old w new
word_stands old passing new inner front w ei g ep el v en ew known n is =
    let word = v known in
    let behind : old.text ≡ g.0 ++ front = ei ∙ g.1 in
    let gone : feeds (take (length old.text - length front) old.text) ≡ feeds g.0 = ap feeds (passed old.text g.0 front behind) in
    let along : passing.line ≡ min (n + feeds g.0) 18446744073709551615 =
    el ∙ ap (λ k. min (old.line + k) 18446744073709551615) gone ∙ counted old.line n (feeds g.0) is in
    let e : old.text ≡ g.0 ++ word.0 ++ new.text = behind ∙ ap (λ x. g.0 ++ x) (sym ep ∙ word.1) ∙ sym (append_assoc g.0 word.0 new.text) in
    (n + feeds g.0, en ∙ along, begins_word (IsLeft (n + feeds g.0) new.text) n old.text g.0 word.0 new.text w.line w.token [] [] e g.2 word.2 word.3 (word.4 ∙ ap front_len word.1) (ew ∙ along) (refl, (refl, refl)))

-- a body behind the rest of a line
pub body_stands : (old new : LexerValue) (inner lines rest body : List ℕ) (w : WordValue) → old.text ≡ inner → w.token ≡ token.Body body → w.line ≡ min (old.line + 1) 18446744073709551615 → new.text ≡ rest
    → new.line ≡ min (old.line + feeds (take (length old.text - length rest) old.text)) 18446744073709551615
    → BeginsNoBlock old.text → IsBlankLine inner lines → IsBehindBody lines rest → IsEndLine (first_line rest) → body ≡ take (length lines - length rest) lines → StandsFirst old w new
body_stands old new inner lines rest body w ei et ew en el n l b f eb known k is =
    let same : body ≡ b.0 = eb ∙ passed lines b.0 rest b.1 in
    let whole : old.text ≡ l.0 ++ l.1 ++ body ++ rest = ei ∙ l.2 ∙ ap (λ x. l.0 ++ l.1 ++ x) b.1 ∙ sym (append_assoc (l.0 ++ l.1) b.0 rest) ∙ ap (λ x. l.0 ++ l.1 ++ x ++ rest) (sym same) in
    let gone : feeds (take (length old.text - length rest) old.text) ≡ 1 + feeds body =
    ap feeds (passed old.text (l.0 ++ l.1 ++ body) rest whole) ∙ feeds_both (l.0 ++ l.1) body ∙ ap (λ x. x + feeds body) (feeds_both l.0 l.1 ∙ ap (λ x. x + feeds l.1) (no_feeds l.0 l.4) ∙ ap (λ x. 0 + x) (one_feed l.1 l.5)) in
    let line : new.line ≡ min (k + 1 + feeds body) 18446744073709551615 =
    el ∙ ap (λ x. min (old.line + x) 18446744073709551615) gone ∙ counted old.line k (1 + feeds body) is ∙ (let along : k + (1 + feeds body) ≡ k + 1 + feeds body = omega arith in ap (λ x. min x 18446744073709551615) along) in
    let first : w.line ≡ min (k + 1) 18446744073709551615 = ew ∙ counted old.line k 1 is in (
      k + 1 + feeds body,
      line,
      subst (λ (t : Token). BeginsWithThen (IsLeft (k + 1 + feeds body) new.text) k old.text (t ∷ []) (w.line ∷ [])) (sym et)
          (l.0, l.1, rest, whole, n, l.3, l.4, l.5, subst IsBody (sym same) b.2, f, first, (refl, (refl, sym en))),
    )

abbrev pub tokens : List WordValue → List Token
tokens ws = map (λ (w : WordValue). w.token) ws

abbrev pub word_lines : List WordValue → List ℕ
word_lines ws = map (λ (w : WordValue). w.line) ws

abbrev pub AreKnown : List WordValue → Type 0
AreKnown ws = All (λ t. t ≢ token.Unknown) (tokens ws)

-- what has been read up to here, with its lines
abbrev pub IsCountedTo : List ℕ → List WordValue → LexerValue → Type 0
IsCountedTo text ws left = AreKnown ws → (n : ℕ) × (left.line ≡ min n 18446744073709551615)
    × BeginsWithThen (IsLeft n left.text) 1 text (tokens ws) (word_lines ws)

pub counted_first : (text : List ℕ) (last : ℕ) (left : LexerValue) → left ≡ record { text = text; line = 1; stage = stage.Outside; bodies = 0; last = last } → IsCountedTo text [] left
counted_first text last left e known = (1, ap (λ (l : LexerValue). l.line) e, (refl, (refl, sym (ap (λ (l : LexerValue). l.text) e))))

pub begun_first : (text : List ℕ) → IsBegunBy text []
begun_first text [] back e known = (refl, tt)
begun_first text (w ∷ front) back e known = absurd cc

pub known_parts : (ws : List WordValue) (w : WordValue) → AreKnown (ws ++ w ∷ []) → AreKnown ws × (w.token ≢ token.Unknown)
known_parts ws w known =
    let k : All (λ t. t ≢ token.Unknown) (tokens ws ++ w.token ∷ []) = subst (All (λ t. t ≢ token.Unknown)) (map-append (λ (w : WordValue). w.token) ws (w ∷ [])) known in
    (known_before (tokens ws) w.token k, known_last (tokens ws) w.token k)

pub counted_next : (text : List ℕ) (ws us : List WordValue) (w : WordValue) (left new : LexerValue) → us ≡ ws ++ w ∷ [] → IsCountedTo text ws left → StandsFirst left w new → IsCountedTo text us new
counted_next text ws us w left new e before first known =
    let k = known_parts ws w (subst AreKnown e known) in
    let b = before k.0 in
    let f = first k.1 b.0 b.1 in
    let next : BeginsWithThen (IsLeft f.0 new.text) 1 text (tokens ws ++ w.token ∷ []) (word_lines ws ++ w.line ∷ []) =
    begins_both (IsLeft f.0 new.text) b.0 left.text (tokens ws) (w.token ∷ []) (word_lines ws) (w.line ∷ []) 1 text b.2 f.2 in
    let words : tokens us ≡ tokens ws ++ w.token ∷ [] = ap (λ (x : List WordValue). tokens x) e ∙ map-append (λ (w : WordValue). w.token) ws (w ∷ []) in
    let lines : word_lines us ≡ word_lines ws ++ w.line ∷ [] = ap (λ (x : List WordValue). word_lines x) e ∙ map-append (λ (w : WordValue). w.line) ws (w ∷ []) in
    (f.0, f.1, rw (words, lines) next)

-- a front of a list is the whole, or one of the list without its last
fronts : {A : Type 0} (front back ws : List A) (w : A) → ws ++ w ∷ [] ≡ front ++ back → (front ≡ ws ++ w ∷ []) ⊎ ((rest : List A) × (ws ≡ front ++ rest))
fronts [] back ws w e = inr (ws, refl)
fronts (x ∷ []) back [] w e = inl (let same : w ≡ x = cc in ap (λ y. y ∷ []) (sym same))
fronts (x ∷ y ∷ front) back [] w e = absurd cc
fronts {A} (x ∷ front) back (y ∷ ws) w e =
    let same : y ≡ x = cc in
    let rest : ws ++ w ∷ [] ≡ front ++ back = cc in
    elim (fronts front back ws w rest) [
      | inl whole ↦ inl (ap (λ (z : A). z ∷ front) (sym same) ∙ ap (λ (zs : List A). y ∷ zs) whole)
      | inr part ↦ inr (part.0, ap (λ (z : A). z ∷ ws) same ∙ ap (λ (zs : List A). x ∷ zs) part.1)
    ]

pub begun_next : (text : List ℕ) (ws us : List WordValue) (w : WordValue) (left : LexerValue) → us ≡ ws ++ w ∷ [] → IsBegunBy text ws → IsCountedTo text us left → IsBegunBy text us
begun_next text ws us w left e before all front back parts known =
    elim (fronts front back ws w (sym e ∙ parts)) [
      | inl whole ↦
          let same : us ≡ front = e ∙ sym whole in
          let c = all (subst AreKnown (sym same) known) in
          let t : BeginsWith 1 text (tokens us) (word_lines us) = begins_then (λ n rest. Unit {0}) c.0 left.text (tokens us) (word_lines us) 1 text c.2 tt in
          subst (λ (x : List WordValue). BeginsWith 1 text (tokens x) (word_lines x)) same t
      | inr part ↦ before front part.0 part.1 known
    ]
