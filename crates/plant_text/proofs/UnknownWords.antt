-- Where a text has no word, and why.
use Rattle.std.proofs.Common.{◌≡◌, ◌≢◌, ◌<◌, ◌≤◌, ◌+◌, ◌-◌, ℕ, Bool, true, min, List, [], ◌∷◌, ◌++◌, length, take, Option, Some, None, IfSome, All, ◌⊎◌, inl, inr, refl, ap, sym, subst, ◌∙◌, append_assoc, arith}
use Rattle.std.proofs.lemmas.List.{append-nil, length-append, map-append}
use Rattle.std.proofs.lemmas.List.Elements.{All-nil, All-push}
use Rattle.std.proofs.lemmas.Grind.{flat_map-append}
use Rattle.plant_text.specs.declared.token.Token.{Token}
use Rattle.plant_text.specs.declared.token.Token.TheVariants as token
use Rattle.plant_text.specs.declared.lexer.Stage.{Stage}
use Rattle.plant_text.specs.declared.lexer.Stage.TheVariants as stage
use Rattle.plant_text.specs.Words.{front_len, word_of}
use Rattle.plant_text.specs.Places.{stage_behind, is_due, stage_after, stage_after_all}
use Rattle.plant_text.specs.Spelling.{feeds, BeginsNoBlock, HasNoBodyThen}
use Rattle.plant_text.specs.Lines.{WordValue, body_line, body_lines, BeginsWithWordsThen, IsBodyPlace, BeginsBlank, IsLineOfNoBody, HasNoWord, unknown_word, open_comment, no_body, many_bodies, HasNoWordBehind, IsStoppedBy, AreWordsButLast}
use Rattle.plant_text.specs.Steps.Gaps.{behind_comment, behind_space, IsBehindGap}
use Rattle.plant_text.specs.Steps.Lexing.{LexerValue, MovesOn, FindsNoWord, IsToldThere, StopsAt}
use Rattle.plant_text.proofs.FirstWords.{word_of-body}
use Rattle.plant_text.proofs.BodyLines.{no_end}
use Rattle.plant_text.proofs.FoundGaps.{no_piece}
use Rattle.plant_text.proofs.LineCounts.{passed, counted, tokens, word_lines, AreKnown, known_parts, IsCountedTo, begins_then}

-- no word behind a gap
pub no_word_found : (old passing : LexerValue) (inner front : List ℕ) (w : WordValue) → old.text ≡ inner → IsBehindGap inner front → (front ≡ [] → ⊥) → passing.text ≡ front
    → passing.line ≡ min (old.line + feeds (take (length old.text - length front) old.text)) 18446744073709551615 → w.line ≡ passing.line
    → w.token ≡ word_of (take (front_len passing.text) passing.text) → FindsNoWord old w
no_word_found old passing inner front w ei g some ep el ew et = λ unknown n is.
    let behind : old.text ≡ g.0 ++ front = ei ∙ g.1 in
    let gone : feeds (take (length old.text - length front) old.text) ≡ feeds g.0 = ap feeds (passed old.text g.0 front behind) in
    let along : passing.line ≡ min (n + feeds g.0) 18446744073709551615 =
    el ∙ ap (λ k. min (old.line + k) 18446744073709551615) gone ∙ counted old.line n (feeds g.0) is in
    let none : word_of (take (front_len front) front) ≡ token.Unknown = sym (et ∙ ap (λ x. word_of (take (front_len x) x)) ep) ∙ unknown in
    inl (g.0, front, behind, g.2, λ piece rest e space. no_piece piece rest front space g.3 e, some, none, ew ∙ along)

-- a comment behind a gap that doesn't end
pub open_found : (old : LexerValue) (inner front more : List ℕ) (w : WordValue) → old.text ≡ inner → IsBehindGap inner front → front ≡ 40 ∷ 42 ∷ more → w.line ≡ old.last → FindsNoWord old w
open_found old inner front more w ei g c el = λ unknown n is.
    let none : behind_comment more ≡ None = sym (ap (λ x. behind_space x) c) ∙ g.3 in
    inr ((g.0, more, ei ∙ g.1 ∙ ap (λ x. g.0 ++ x) c ∙ sym (append_assoc g.0 (40 ∷ 42 ∷ []) more), g.2, no_end more none), el)

-- where the word behind one stands that is no body
same_stage : (t : Token) (s : Stage) → ((b : List ℕ) → t ≡ token.Body b → ⊥) → stage_after s t ≡ stage_behind t s
same_stage (token.Body b) s none = absurd (none b refl)
same_stage t s none = refl

-- behind a word
pub word_moves_on : (old passing new : LexerValue) (w : WordValue) (word : List ℕ) → passing.stage ≡ old.stage → passing.bodies ≡ old.bodies → (w.token ≢ token.Unknown → new.stage ≡ stage_behind w.token passing.stage) → new.bodies ≡ passing.bodies
    → w.token ≡ word_of word → MovesOn old w new
word_moves_on old passing new w word es eb stages counts et = λ known.
    let none : (b : List ℕ) → w.token ≡ token.Body b → ⊥ = λ b e. word_of-body word b (sym et ∙ e) in
    (stages known ∙ ap (λ s. stage_behind w.token s) es ∙ sym (same_stage w.token old.stage none), omega (arith, counts, eb))

-- behind a body
pub body_moves_on : (old new : LexerValue) (w : WordValue) (body : List ℕ) → w.token ≡ token.Body body → new.stage ≡ stage.Outside → new.bodies ≡ min (old.bodies + 1) 18446744073709551615 → MovesOn old w new
body_moves_on old new w body et es eb = λ known.
    let one : length (body_line (record { token = w.token; line = w.line })) ≡ 1 = subst (λ (t : Token). length (body_line (record { token = t; line = w.line })) ≡ 1) (sym et) refl in
    (es ∙ sym (ap (λ t. stage_after old.stage t) et), omega (arith, one, eb))

-- one word, where no body is looked for
stops_elsewhere : (old : LexerValue) (w : WordValue) → (IsBodyPlace (is_due old.stage) old.text → ⊥) → FindsNoWord old w → StopsAt old w
stops_elsewhere old w none finds = λ unknown n is. elim (finds unknown n is) [
  | inl h ↦ unknown_word none h
  | inr h ↦ open_comment none h.0 h.1
]

-- the same of a word, if there is one
pub stops_behind_gap : (old : LexerValue) (found : Option WordValue) → (IsBodyPlace (is_due old.stage) old.text → ⊥) → IfSome found (λ w. FindsNoWord old w) → IfSome found (λ w. StopsAt old w)
stops_behind_gap old None none finds = tt
stops_behind_gap old (Some w) none finds = stops_elsewhere old w none finds

some_left : (text : List ℕ) → 0 < length text → text ≢ []
some_left text l e = let none : length text ≡ 0 = ap length e in omega (arith, l, none)

-- where a body is due, but there is none
pub stops_for_body : (old : LexerValue) (w : WordValue) → is_due old.stage ≡ true → 0 < length old.text → BeginsNoBlock old.text → (w.token ≡ token.Unknown → HasNoBodyThen old.text) → IsToldThere old w → StopsAt old w
stops_for_body old w due some none bodiless told = λ unknown n is. no_body (due, some_left old.text some, none) (bodiless unknown) (there (told unknown) n is)
  where
    there : ((BeginsBlank old.text → ⊥) × (w.line ≡ old.line)) ⊎ (BeginsBlank old.text × (w.line ≡ old.last)) → (n : ℕ) → old.line ≡ min n 18446744073709551615 → IsLineOfNoBody old.last n old.text w.line
    there (inl (some, first)) n is = inl (some, first ∙ is)
    there (inr last) n is = inr last

-- where the next word stands, and behind how many bodies
abbrev pub IsPlacedTo : List WordValue → LexerValue → Type 0
IsPlacedTo ws left = AreKnown ws → (left.stage ≡ stage_after_all stage.Outside (tokens ws)) × (left.bodies ≤ length (body_lines ws))

stage_after_last : (s : Stage) (ts : List Token) (t : Token) → stage_after_all s (ts ++ t ∷ []) ≡ stage_after (stage_after_all s ts) t
stage_after_last s [] t = refl
stage_after_last s (u ∷ ts) t = stage_after_last (stage_after s u) ts t

pub placed_first : (text : List ℕ) (last : ℕ) (left : LexerValue) → left ≡ record { text = text; line = 1; stage = stage.Outside; bodies = 0; last = last } → IsPlacedTo [] left
placed_first text last left e known =
    let none : left.bodies ≡ 0 = ap (λ (l : LexerValue). l.bodies) e in
    (ap (λ (l : LexerValue). l.stage) e, omega (arith, none))

pub placed_next : (ws us : List WordValue) (w : WordValue) (left new : LexerValue) → us ≡ ws ++ w ∷ [] → IsPlacedTo ws left → MovesOn left w new → IsPlacedTo us new
placed_next ws us w left new e before on known =
    let k = known_parts ws w (subst AreKnown e known) in
    let b = before k.0 in
    let g = on k.1 in
    let words : tokens us ≡ tokens ws ++ w.token ∷ [] = ap (λ (x : List WordValue). tokens x) e ∙ map-append (λ (w : WordValue). w.token) ws (w ∷ []) in
    let lines : body_lines us ≡ body_lines ws ++ (body_line w ++ []) = ap (λ (x : List WordValue). body_lines x) e ∙ flat_map-append body_line ws (w ∷ []) in
    let count : length (body_lines us) ≡ length (body_lines ws) + length (body_line w) = ap length lines ∙ length-append (body_lines ws) (body_line w ++ []) ∙ ap (λ (x : List ℕ). length (body_lines ws) + length x) (append-nil (body_line w)) in (
      g.0 ∙ ap (λ s. stage_after s w.token) b.0 ∙ sym (stage_after_last stage.Outside (tokens ws) w.token) ∙ ap (λ (x : List Token). stage_after_all stage.Outside x) (sym words),
      omega (arith, b.1, g.1, count),
    )

-- All are words, or nothing is left.
abbrev pub IsOpenAt : List WordValue → LexerValue → Type 0
IsOpenAt ws left = AreKnown ws ⊎ (left.text ≡ [])

pub open_first : (left : LexerValue) → IsOpenAt [] left
open_first left = inl (All-nil (λ t. t ≢ token.Unknown))

known_or_not : (t : Token) → (t ≢ token.Unknown) ⊎ (t ≡ token.Unknown)
known_or_not token.Unknown = inr refl
known_or_not _ = inl (λ e. cc)

pub open_next : (ws us : List WordValue) (w : WordValue) (new : LexerValue) → us ≡ ws ++ w ∷ [] → AreKnown ws → (w.token ≡ token.Unknown → new.text ≡ []) → IsOpenAt us new
open_next ws us w new e known last = elim (known_or_not w.token) [
  | inl is ↦
      let words : tokens us ≡ tokens ws ++ w.token ∷ [] = ap (λ (x : List WordValue). tokens x) e ∙ map-append (λ (w : WordValue). w.token) ws (w ∷ []) in
      inl (subst (All (λ t. t ≢ token.Unknown)) (sym words) (All-push (λ t. t ≢ token.Unknown) (tokens ws) w.token known is))
  | inr none ↦ inr (last none)
]

-- where a further word is read, all before it are words
pub known_before_next : (ws : List WordValue) (left : LexerValue) (w : WordValue) → IsOpenAt ws left → (left.text ≡ [] → ◌≡◌ {A = Option WordValue} (Some w) None) → AreKnown ws
known_before_next ws left w (inl known) ended = known
known_before_next ws left w (inr empty) ended = absurd (let none : ◌≡◌ {A = Option WordValue} (Some w) None = ended empty in cc)

last_parts : {A : Type 0} (xs ys : List A) (x y : A) → xs ++ x ∷ [] ≡ ys ++ y ∷ [] → (xs ≡ ys) × (x ≡ y)
last_parts [] [] x y e = (refl, cc)
last_parts [] (z ∷ []) x y e = absurd cc
last_parts [] (z ∷ u ∷ ys) x y e = absurd cc
last_parts (z ∷ []) [] x y e = absurd cc
last_parts (z ∷ u ∷ xs) [] x y e = absurd cc
last_parts {A} (z ∷ xs) (u ∷ ys) x y e =
    let first : z ≡ u = cc in
    let rest : xs ++ x ∷ [] ≡ ys ++ y ∷ [] = cc in
    let parts = last_parts xs ys x y rest in
    (ap (λ (v : A). v ∷ xs) first ∙ ap (λ (vs : List A). u ∷ vs) parts.0, parts.1)

-- no word stands there behind as many bodies or more
no_word_behind : (last : ℕ) (due : Bool) (k m n : ℕ) (text : List ℕ) (line : ℕ) → k ≤ m → HasNoWord last due k n text line → HasNoWord last due m n text line
no_word_behind last due k m n text line l (unknown_word a b) = unknown_word a b
no_word_behind last due k m n text line l (open_comment a b e) = open_comment a b e
no_word_behind last due k m n text line l (no_body a b e) = no_body a b e
no_word_behind last due k m n text line l (many_bodies a b c e) = many_bodies a b (omega (arith, c, l)) e

abbrev StopsBehind : ℕ → List ℕ → List WordValue → WordValue → Type 0
StopsBehind last text front w = BeginsWithWordsThen (λ n rest. HasNoWordBehind last front n rest w.line) text front

pub stopped_first : (last : ℕ) (text : List ℕ) → IsStoppedBy last text []
stopped_first last text [] w e unknown = absurd cc
stopped_first last text (v ∷ front) w e unknown = absurd cc

pub stopped_next : (last : ℕ) (text : List ℕ) (ws us : List WordValue) (w : WordValue) (left : LexerValue) → us ≡ ws ++ w ∷ [] → AreKnown ws → IsCountedTo text ws left → IsPlacedTo ws left → left.last ≡ last → StopsAt left w → IsStoppedBy last text us
stopped_next last text ws us w left e known counts places ends stops = λ front v parts unknown.
    let same = last_parts ws front w v (sym e ∙ parts) in
    let c = counts known in
    let p = places known in
    let found : HasNoWord left.last (is_due left.stage) left.bodies c.0 left.text w.line = stops (ap (λ (x : WordValue). x.token) same.1 ∙ unknown) c.0 c.1 in
    let none : HasNoWord last (is_due left.stage) left.bodies c.0 left.text w.line = subst (λ l. HasNoWord l (is_due left.stage) left.bodies c.0 left.text w.line) ends found in
    let behind : HasNoWord last (is_due left.stage) (length (body_lines ws)) c.0 left.text w.line = no_word_behind last (is_due left.stage) left.bodies (length (body_lines ws)) c.0 left.text w.line p.1 none in
    let placed : HasNoWordBehind last ws c.0 left.text w.line = subst (λ s. HasNoWord last (is_due s) (length (body_lines ws)) c.0 left.text w.line) p.0 behind in
    let made : StopsBehind last text ws w = begins_then (λ n rest. HasNoWordBehind last ws n rest w.line) c.0 left.text (tokens ws) (word_lines ws) 1 text c.2 placed in
    subst (λ (x : List WordValue). StopsBehind last text x v) same.0 (subst (λ (x : WordValue). StopsBehind last text ws x) same.1 made)

pub known_first : AreWordsButLast []
known_first [] w e = absurd cc
known_first (v ∷ front) w e = absurd cc

pub known_next : (ws us : List WordValue) (w : WordValue) → us ≡ ws ++ w ∷ [] → AreKnown ws → AreWordsButLast us
known_next ws us w e known = λ front v parts. subst AreKnown (last_parts ws front w v (sym e ∙ parts)).0 known
