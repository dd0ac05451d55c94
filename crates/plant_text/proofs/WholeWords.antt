-- A known word that stands in front of a text is the one that is found there.
use Rattle.std.proofs.Common.{◌≡◌, ◌≢◌, ◌==◌, ◌&&◌, ◌||◌, ◌<◌, ◌≤◌, ◌+◌, ◌-◌, ℕ, suc, Bool, true, false, not, cond, List, [], ◌∷◌, ◌++◌, length, get_or, take, drop, take_while, None, ◌⊎◌, inl, inr, refl, ap, sym, subst, ◌∙◌, append_assoc, arith, rules, tests}
use Rattle.std.specs.List.{flat_map, AllByRecursion}
use Rattle.std.proofs.lemmas.Bool.{ne_eqb, eqb-true, and_parts, and_right, or_cases, cases_Bool}
use Rattle.std.proofs.lemmas.List.{append-nil, drop_at}
use Rattle.std.proofs.Math.Seq.{take-append_seam}
use Rattle.plant_text.specs.declared.token.Token.{Token}
use Rattle.plant_text.specs.declared.token.Token.TheVariants as token
use Rattle.plant_text.specs.declared.lexer.Stage.{Stage}
use Rattle.plant_text.specs.declared.lexer.Stage.TheVariants as stage
use Rattle.plant_text.specs.Words.{is_name_char, word_of, is_run_char, front_len}
use Rattle.plant_text.specs.Spelling.{is_parted, first_line, is_one_line, IsSpace, IsGap, IsLineEnd, IsBody, IsEndLine, BeginsNoBlock, Spells}
use Rattle.plant_text.specs.Steps.Gaps.{behind_space, IsBehindGap}
use Rattle.plant_text.specs.Places.{stage_behind, is_due}
use Rattle.plant_text.specs.Steps.Lexing.{may_follow, IsWhole, IsInPlace, AreInPlace}
use Rattle.plant_text.proofs.FoundGaps.{gap_unique}
use Rattle.plant_text.proofs.FirstWords.{letter_begins, take_while-yes, take_while-no, not_both, letter_at, isnt}
use Rattle.plant_text.proofs.WordShapes.{are_run, IsRun, IsShape, is_mark, known_shape, run_of_letters, run_of_letter}

-- a known word has a character
some_of : (w : List ℕ) → IsShape w → 0 < length w
some_of [] (inl r) = absurd (let f : is_name_char 32 ≡ true = r.1 in cc)
some_of [] (inr (inl p)) = absurd (let f : [] ≡ 37 ∷ p.0 = p.1 in cc)
some_of [] (inr (inr (inl m))) = absurd (let f : [] ≡ m.0 ∷ [] = m.1 in cc)
some_of [] (inr (inr (inr m))) = absurd cc
some_of (c ∷ w) s = omega arith

abbrev is_apart : ℕ → Bool
is_apart c = not (c == 35 || (c == 61 || c == 42))

name_apart : (c : ℕ) → is_name_char c ≡ true → is_apart c ≡ true
name_apart c h =
    let a : (c == 35) ≡ false = ne_eqb c 35 (λ e. let same : is_name_char c ≡ is_name_char 35 = ap is_name_char e in absurd cc) in
    let b : (c == 61) ≡ false = ne_eqb c 61 (λ e. let same : is_name_char c ≡ is_name_char 61 = ap is_name_char e in absurd cc) in
    let d : (c == 42) ≡ false = ne_eqb c 42 (λ e. let same : is_name_char c ≡ is_name_char 42 = ap is_name_char e in absurd cc) in
    rw (a, b, d) refl

mark_apart : (c : ℕ) → is_mark c ≡ true → is_apart c ≡ true
mark_apart c h =
    let a : (c == 35) ≡ false = ne_eqb c 35 (λ e. let same : is_mark c ≡ is_mark 35 = ap is_mark e in absurd cc) in
    let b : (c == 61) ≡ false = ne_eqb c 61 (λ e. let same : is_mark c ≡ is_mark 61 = ap is_mark e in absurd cc) in
    let d : (c == 42) ≡ false = ne_eqb c 42 (λ e. let same : is_mark c ≡ is_mark 42 = ap is_mark e in absurd cc) in
    rw (a, b, d) refl

-- no known word begins with a character that can't follow another word
word_follows : (w rest : List ℕ) → IsShape w → may_follow (w ++ rest) ≡ true
word_follows [] rest s = absurd (let f = some_of [] s in omega arith)
word_follows (c ∷ w) rest (inl r) = name_apart c r.1
word_follows (c ∷ w) rest (inr (inl p)) = let e : c ≡ 37 = (let f : c ∷ w ≡ 37 ∷ p.0 = p.1 in cc) in rw e refl
word_follows (c ∷ w) rest (inr (inr (inl m))) = let e : c ≡ m.0 = (let f : c ∷ w ≡ m.0 ∷ [] = m.1 in cc) in mark_apart c (ap is_mark e ∙ m.2)
word_follows (c ∷ w) rest (inr (inr (inr m))) = let e : c ≡ 58 = cc in rw e refl

-- a mark begins no gap, unless it is the parenthesis of a comment
mark_begins : (c : ℕ) (rest : List ℕ) → is_mark c ≡ true → may_follow rest ≡ true → behind_space (c ∷ rest) ≡ None
mark_begins c rest m f = elim (cases_Bool (c == 40)) [
  | inl e ↦ let o : c ≡ 40 = eqb-true c 40 e in rw o (parenthesis rest f)
  | inr e ↦
      let a : (c == 32) ≡ false = ne_eqb c 32 (λ e. let same : is_mark c ≡ is_mark 32 = ap is_mark e in absurd cc) in
      let b : (c == 9) ≡ false = ne_eqb c 9 (λ e. let same : is_mark c ≡ is_mark 9 = ap is_mark e in absurd cc) in
      let d : (c == 10) ≡ false = ne_eqb c 10 (λ e. let same : is_mark c ≡ is_mark 10 = ap is_mark e in absurd cc) in
      let g : (c == 13) ≡ false = ne_eqb c 13 (λ e. let same : is_mark c ≡ is_mark 13 = ap is_mark e in absurd cc) in
      rw (a, b, d, g, e) refl
]
  where
    parenthesis : (rest : List ℕ) → may_follow rest ≡ true → behind_space (40 ∷ rest) ≡ None
    parenthesis [] f = refl
    parenthesis (e ∷ rest) f = elim (cases_Bool (e == 42)) [
      | inl h ↦ absurd (let o : e ≡ 42 = eqb-true e 42 h in let n : may_follow (e ∷ rest) ≡ false = rw o refl in cc)
      | inr h ↦ rw h refl
    ]

-- no known word begins a gap
word_begins : (w rest : List ℕ) → IsShape w → may_follow rest ≡ true → behind_space (w ++ rest) ≡ None
word_begins [] rest s f = absurd (let l = some_of [] s in omega arith)
word_begins (c ∷ w) rest (inl r) f = letter_begins c (w ++ rest) r.1
word_begins (c ∷ w) rest (inr (inl p)) f = let e : c ≡ 37 = (let g : c ∷ w ≡ 37 ∷ p.0 = p.1 in cc) in rw e refl
word_begins (c ∷ w) rest (inr (inr (inl m))) f = subst (λ (y : List ℕ). behind_space (y ++ rest) ≡ None) (sym m.1) (mark_begins m.0 rest m.2 f)
word_begins (c ∷ w) rest (inr (inr (inr m))) f = subst (λ (y : List ℕ). behind_space (y ++ rest) ≡ None) (sym m) refl

-- what begins a gap may follow
space_follows : (p x : List ℕ) → IsSpace p → may_follow (p ++ x) ≡ true
space_follows p x (inl h) = rw h refl
space_follows p x (inr (inl h)) = rw h refl
space_follows p x (inr (inr (inl (inl h)))) = rw h refl
space_follows p x (inr (inr (inl (inr h)))) = rw h refl
space_follows p x (inr (inr (inr h))) = rw h.2 refl

pub gap_follows : (g x : List ℕ) → IsGap g → may_follow x ≡ true → may_follow (g ++ x) ≡ true
gap_follows g x ig f = rw ig.2 (go ig.0 ig.1)
  where
    go : (ps : List (List ℕ)) → AllByRecursion IsSpace ps → may_follow (flat_map (λ piece. piece) ps ++ x) ≡ true
    go [] all = f
    go (p ∷ ps) all = subst (λ (y : List ℕ). may_follow y ≡ true) (sym (append_assoc p (flat_map (λ piece. piece) ps) x)) (space_follows p (flat_map (λ piece. piece) ps ++ x) all.0)

-- the next word of a list in place, where it is no body
pub record IsWordNext (text : List ℕ) (s : Stage) (bodies : ℕ) (t : Token) (more : List Token) : Type 0 where
  pub gap : List ℕ
  pub word : List ℕ
  pub rest : List ℕ
  pub parts : text ≡ gap ++ word ++ rest
  pub is_gap : IsGap gap
  pub token_is : word_of word ≡ t
  pub parted : is_parted word rest ≡ true
  pub spelled : Spells rest more
  pub stands : IsInPlace s bodies t
  pub after : AreInPlace (stage_behind t s) bodies more

-- the next word, where it is a body
pub record IsBodyNext (text : List ℕ) (s : Stage) (bodies : ℕ) (t : Token) (more : List Token) : Type 0 where
  pub body : List ℕ
  pub is : t ≡ token.Body body
  pub gap : List ℕ
  pub line_end : List ℕ
  pub rest : List ℕ
  pub parts : text ≡ gap ++ line_end ++ body ++ rest
  pub none : BeginsNoBlock text
  pub is_gap : IsGap gap
  pub one : is_one_line gap ≡ true
  pub ends : IsLineEnd line_end
  pub whole : IsBody body
  pub end : IsEndLine (first_line rest)
  pub spelled : Spells rest more
  pub due : is_due s ≡ true
  pub few : bodies ≤ 64
  pub after : AreInPlace stage.Outside (bodies + 1) more

pub next_of : (text : List ℕ) (s : Stage) (bodies : ℕ) (t : Token) (more : List Token) → Spells text (t ∷ more) → AreInPlace s bodies (t ∷ more)
    → IsWordNext text s bodies t more ⊎ IsBodyNext text s bodies t more
next_of text s n (token.Keyword k) more sp a = inl (record { gap = sp.0; word = sp.1; rest = sp.2; parts = sp.3; is_gap = sp.4; token_is = sp.5; parted = sp.6; spelled = sp.7; stands = a.0; after = a.1 })
next_of text s n (token.Block k) more sp a = inl (record { gap = sp.0; word = sp.1; rest = sp.2; parts = sp.3; is_gap = sp.4; token_is = sp.5; parted = sp.6; spelled = sp.7; stands = a.0; after = a.1 })
next_of text s n (token.Punctuation k) more sp a = inl (record { gap = sp.0; word = sp.1; rest = sp.2; parts = sp.3; is_gap = sp.4; token_is = sp.5; parted = sp.6; spelled = sp.7; stands = a.0; after = a.1 })
next_of text s n (token.Name k) more sp a = inl (record { gap = sp.0; word = sp.1; rest = sp.2; parts = sp.3; is_gap = sp.4; token_is = sp.5; parted = sp.6; spelled = sp.7; stands = a.0; after = a.1 })
next_of text s n (token.Number k) more sp a = inl (record { gap = sp.0; word = sp.1; rest = sp.2; parts = sp.3; is_gap = sp.4; token_is = sp.5; parted = sp.6; spelled = sp.7; stands = a.0; after = a.1 })
next_of text s n (token.Duration k) more sp a = inl (record { gap = sp.0; word = sp.1; rest = sp.2; parts = sp.3; is_gap = sp.4; token_is = sp.5; parted = sp.6; spelled = sp.7; stands = a.0; after = a.1 })
next_of text s n (token.Address k) more sp a = inl (record { gap = sp.0; word = sp.1; rest = sp.2; parts = sp.3; is_gap = sp.4; token_is = sp.5; parted = sp.6; spelled = sp.7; stands = a.0; after = a.1 })
next_of text s n (token.Body k) more sp a =
    inr (record { body = k; is = refl; gap = sp.0; line_end = sp.1; rest = sp.2; parts = sp.3; none = sp.4; is_gap = sp.5; one = sp.6; ends = sp.7; whole = sp.8; end = sp.9; spelled = sp.10; due = a.0; few = a.1; after = a.2 })
next_of text s n token.Unknown more sp a = inl (record { gap = sp.0; word = sp.1; rest = sp.2; parts = sp.3; is_gap = sp.4; token_is = sp.5; parted = sp.6; spelled = sp.7; stands = a.0; after = a.1 })

end_follows : (line_end x : List ℕ) → IsLineEnd line_end → may_follow (line_end ++ x) ≡ true
end_follows e x (inl h) = rw h refl
end_follows e x (inr h) = rw h refl

-- what is spelled by words in place may follow a word
pub spelled_follows : (text : List ℕ) (s : Stage) (bodies : ℕ) (ts : List Token) → Spells text ts → AreInPlace s bodies ts → may_follow text ≡ true
spelled_follows text s n [] sp a = subst (λ (y : List ℕ). may_follow y ≡ true) (append-nil text) (gap_follows text [] sp refl)
spelled_follows text s n (t ∷ more) sp a = elim (next_of text s n t more sp a) [
  | inl w ↦
      let known : word_of w.word ≢ token.Unknown = λ e. w.stands.0 (sym w.token_is ∙ e) in
      rw (w.parts ∙ append_assoc w.gap w.word w.rest) (gap_follows w.gap (w.word ++ w.rest) w.is_gap (word_follows w.word w.rest (known_shape w.word known)))
  | inr b ↦
      rw (b.parts ∙ append_assoc (b.gap ++ b.line_end) b.body b.rest ∙ append_assoc b.gap b.line_end (b.body ++ b.rest))
      (gap_follows b.gap (b.line_end ++ (b.body ++ b.rest)) b.is_gap (end_follows b.line_end (b.body ++ b.rest) b.ends))
]

-- a word of letters ends where they end
run_end : (w rest : List ℕ) → are_run w ≡ true → is_run_char (get_or rest 0 32) ≡ false → take_while is_run_char (w ++ rest) ≡ w
run_end [] [] h n = refl
run_end [] (c ∷ rest) h n = take_while-no is_run_char c rest n
run_end (c ∷ w) rest h n =
    let parts = and_parts (is_run_char c) (are_run w) h in
    take_while-yes is_run_char c (w ++ rest) parts.0 ∙ ap (λ x. c ∷ x) (run_end w rest parts.1 n)

not_follow : (rest : List ℕ) → may_follow rest ≡ true → (get_or rest 0 32 == 35) ≡ false
not_follow rest f = elim (cases_Bool (get_or rest 0 32 == 35)) [
  | inl h ↦ absurd (let n : may_follow rest ≡ false = rw h refl in cc)
  | inr h ↦ h
]

no_run : (c : ℕ) → is_name_char c ≡ false → (c == 35) ≡ false → is_run_char c ≡ false
no_run c h n = rw (h, n) refl

-- the character behind is none of the word
rest_ends : (w rest : List ℕ) → is_name_char (get_or w (length w - 1) 32) ≡ true → is_parted w rest ≡ true → may_follow rest ≡ true → is_run_char (get_or rest 0 32) ≡ false
rest_ends w rest l p f = no_run (get_or rest 0 32) (not_both (is_name_char (get_or w (length w - 1) 32)) (is_name_char (get_or rest 0 32)) p l) (not_follow rest f)

run_len : (w rest : List ℕ) → IsRun w → is_parted w rest ≡ true → may_follow rest ≡ true → length (take_while is_run_char (w ++ rest)) ≡ length w
run_len w rest r p f = ap (λ (x : List ℕ). length x) (run_end w rest r.0 (rest_ends w rest r.2 p f))

no_equals : (rest : List ℕ) → may_follow rest ≡ true → (get_or rest 0 32 == 61) ≡ false
no_equals rest f = elim (cases_Bool (get_or rest 0 32 == 61)) [
  | inl h ↦ absurd (let n : may_follow rest ≡ false = (let o : (get_or rest 0 32 == 35 || true) ≡ true = search (rules, tests) in rw (h, o) refl) in cc)
  | inr h ↦ h
]

run_front : (c : ℕ) (w rest : List ℕ) → IsRun (c ∷ w) → is_parted (c ∷ w) rest ≡ true → may_follow rest ≡ true → front_len (c ∷ (w ++ rest)) ≡ length (c ∷ w)
run_front c w rest r p f =
    let a : (c == 58) ≡ false = isnt c 58 r.1 refl in
    let b : (c == 37) ≡ false = isnt c 37 r.1 refl in
    let first : front_len (c ∷ (w ++ rest)) ≡ cond (is_run_char c) (length (take_while is_run_char (c ∷ (w ++ rest)))) 1 = rw (a, b) refl in
    first ∙ ap (λ t. cond t (length (take_while is_run_char (c ∷ (w ++ rest)))) 1) (run_of_letter c r.1) ∙ run_len (c ∷ w) rest r p f

percent_front : (v rest : List ℕ) → (are_run v ≡ true) → is_name_char (get_or v (length v - 1) 32) ≡ true → 0 < length v → is_parted (37 ∷ v) rest ≡ true → may_follow rest ≡ true → front_len (37 ∷ (v ++ rest)) ≡ length (37 ∷ v)
percent_front [] rest r l s p f = absurd (omega arith)
percent_front (c ∷ v) rest r l s p f =
    let n : suc (suc (length v)) - 1 ≡ suc (suc (length v) - 1) = omega arith in
    let q : is_parted (c ∷ v) rest ≡ true = rw n at p in
    let one : 1 + suc (length v) ≡ suc (suc (length v)) = omega arith in
    ap (λ (x : List ℕ). 1 + length x) (run_end (c ∷ v) rest r (rest_ends (c ∷ v) rest l q f)) ∙ one

mark_front : (c : ℕ) (rest : List ℕ) → is_mark c ≡ true → may_follow rest ≡ true → front_len (c ∷ rest) ≡ 1
mark_front c rest m f =
    let none : is_run_char c ≡ false = mark_no_run c m in
    let b : (c == 37) ≡ false = ne_eqb c 37 (λ e. let same : is_mark c ≡ is_mark 37 = ap is_mark e in absurd cc) in
    let a : (c == 58 && get_or rest 0 32 == 61) ≡ false = and_right (c == 58) (get_or rest 0 32 == 61) (no_equals rest f) in
    rw (a, b, none) refl
  where
    mark_no_run : (c : ℕ) → is_mark c ≡ true → is_run_char c ≡ false
    mark_no_run c m = elim (or_cases (c == 40) (c == 41 || (c == 58 || (c == 59 || (c == 44 || c == 46)))) m) [
      | inl e ↦ let o : c ≡ 40 = eqb-true c 40 e in rw o refl
      | inr e ↦ elim (or_cases (c == 41) (c == 58 || (c == 59 || (c == 44 || c == 46))) e) [
        | inl e ↦ let o : c ≡ 41 = eqb-true c 41 e in rw o refl
        | inr e ↦ elim (or_cases (c == 58) (c == 59 || (c == 44 || c == 46)) e) [
          | inl e ↦ let o : c ≡ 58 = eqb-true c 58 e in rw o refl
          | inr e ↦ elim (or_cases (c == 59) (c == 44 || c == 46) e) [
            | inl e ↦ let o : c ≡ 59 = eqb-true c 59 e in rw o refl
            | inr e ↦ elim (or_cases (c == 44) (c == 46) e) [
              | inl e ↦ let o : c ≡ 44 = eqb-true c 44 e in rw o refl
              | inr e ↦ let o : c ≡ 46 = eqb-true c 46 e in rw o refl
            ]
          ]
        ]
      ]
    ]

-- the length of a known word is found
front_is : (w rest : List ℕ) → IsShape w → is_parted w rest ≡ true → may_follow rest ≡ true → front_len (w ++ rest) ≡ length w
front_is [] rest s p f = absurd (let l = some_of [] s in omega arith)
front_is (c ∷ w) rest (inl r) p f = run_front c w rest r p f
front_is (c ∷ w) rest (inr (inl q)) p f =
    let first : c ≡ 37 = (let g : c ∷ w ≡ 37 ∷ q.0 = q.1 in cc) in
    let same : w ≡ q.0 = (let g : c ∷ w ≡ 37 ∷ q.0 = q.1 in cc) in
    subst (λ (y : List ℕ). front_len (y ++ rest) ≡ length y) (sym q.1) (percent_front q.0 rest (run_of_letters q.0 q.2.0) (letter_at q.0 (length q.0 - 1) q.2.0 (omega (arith, q.2.1))) q.2.1 (rw (first, same) at p) f)
front_is (c ∷ w) rest (inr (inr (inl m))) p f = subst (λ (y : List ℕ). front_len (y ++ rest) ≡ length y) (sym m.1) (mark_front m.0 rest m.2 f)
front_is (c ∷ w) rest (inr (inr (inr m))) p f = subst (λ (y : List ℕ). front_len (y ++ rest) ≡ length y) (sym m) refl

-- cut at that length, the text is the word and the rest
pub whole_cut : (text word rest : List ℕ) (n : ℕ) → n ≡ front_len text → IsWhole text word rest → (take n text ≡ word) × (drop n text ≡ rest)
whole_cut text word rest n e w =
    let len : n ≡ length word = e ∙ ap front_len w.0 ∙ front_is word rest (known_shape word w.1) w.2 w.3 in
    (ap (λ k. take k text) len ∙ ap (λ x. take (length word) x) w.0 ∙ take-append_seam word rest, ap (λ k. drop k text) len ∙ ap (λ x. drop (length word) x) w.0 ∙ drop_at word rest (length word) refl)

-- what is left behind a gap is the known word and the rest
pub whole_behind : (text left gap word rest : List ℕ) → IsBehindGap text left → text ≡ gap ++ word ++ rest → IsGap gap → word_of word ≢ token.Unknown → may_follow rest ≡ true → left ≡ word ++ rest
whole_behind text left gap word rest b e g known f =
    gap_unique b.0 gap left (word ++ rest) b.2 g b.3 (word_begins word rest (known_shape word known) f) (sym b.1 ∙ e ∙ append_assoc gap word rest)

pub no_whole_here : (rest : List ℕ) (word left : List ℕ) → word ++ rest ≡ left → length left ≡ 0 → word_of word ≢ token.Unknown → ⊥
no_whole_here rest [] left e z known = let l = some_of [] (known_shape [] known) in omega arith
no_whole_here rest (c ∷ w) [] e z known = cc
no_whole_here rest (c ∷ w) (d ∷ left) e z known = omega arith
