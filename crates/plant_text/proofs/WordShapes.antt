-- What known words are made of: letters, digits, underscores and `#`; an address; or a mark.
use Rattle.std.proofs.Common.{◌≡◌, ◌≢◌, ◌==◌, ◌&&◌, ◌||◌, ◌<◌, ◌≤◌, ◌+◌, ◌-◌, ℕ, Bool, true, false, not, cond, List, [], ◌∷◌, ◌++◌, length, get_or, take, drop, codes, map, Option, Some, None, ◌⊎◌, inl, inr, refl, ap, sym, ◌∙◌, arith, rules, tests}
use Rattle.std.specs.Char.{to_ascii_lowercase}
use Rattle.std.specs.Option.{option_map, option_and_then}
use Rattle.std.specs.Prelude.{unwrap_or}
use Rattle.std.proofs.lemmas.Bool.{and_parts, and_from}
use Rattle.std.proofs.lemmas.List.{length-append, get_or-append_right}
use Rattle.std.proofs.lemmas.Slice.Eq.{bytes_eq-Decides}
use Rattle.words.specs.Chars.{is_letter_or_digit, is_digit, same_word, first_that, block_type, is_rest, is_identifier, is_plain_name, is_number_rest, is_number, is_duration, unit_rank}
use Rattle.words.specs.Numbers.{number_value, duration_value, limited, number_up_to, duration_up_to}
use Rattle.words.specs.Durations.{Part, AreParts, IsSpelling}
use Rattle.words.proofs.DurationWords.{duration_spelled}
use Rattle.std_blocks.specs.declared.block_type.BlockType.{BlockType}
use Rattle.words.specs.declared.address.Address.{Address}
use Rattle.words.specs.declared.address.Space.{Space}
use Rattle.plant_text.specs.declared.token.Token.TheVariants as token
use Rattle.plant_text.specs.declared.token.Keyword.{Keyword}
use Rattle.plant_text.specs.declared.token.Punctuation.{Punctuation}
use Rattle.plant_text.specs.Words.{is_name_char, or_else, keyword, punctuation, name, fixed_word, value_word, word_of, is_run_char}
use Rattle.words.specs.Addresses.{address_space, address}
use Rattle.plant_text.proofs.FoundGaps.{cases_of_cond}
use Rattle.plant_text.proofs.FirstWords.{are_letters, IsLetters, keyword_letters, same_word_letters, letter_at, lower_letter}

-- all are letters, digits, underscores and `#`
abbrev pub are_run : List ℕ → Bool
are_run [] = true
are_run (c ∷ more) = is_run_char c && are_run more

-- letters, digits, underscores and `#`, neither the first nor the last of them `#`
abbrev pub IsRun : List ℕ → Type 0
IsRun w = (are_run w ≡ true) × (is_name_char (get_or w 0 32) ≡ true) × (is_name_char (get_or w (length w - 1) 32) ≡ true)

-- `%` and letters, digits, underscores
abbrev pub IsPercent : List ℕ → Type 0
IsPercent w = (more : List ℕ) × (w ≡ 37 ∷ more) × IsLetters more

abbrev pub is_mark : ℕ → Bool
is_mark c = c == 40 || (c == 41 || (c == 58 || (c == 59 || (c == 44 || c == 46))))

-- one mark, or `:=`
abbrev pub IsMark : List ℕ → Type 0
IsMark w = ((c : ℕ) × (w ≡ c ∷ []) × (is_mark c ≡ true)) ⊎ (w ≡ 58 ∷ 61 ∷ [])

abbrev pub IsShape : List ℕ → Type 0
IsShape w = IsRun w ⊎ (IsPercent w ⊎ IsMark w)

pub run_of_letter : (c : ℕ) → is_name_char c ≡ true → is_run_char c ≡ true
run_of_letter c h = rw h refl

pub run_of_letters : (w : List ℕ) → are_letters w ≡ true → are_run w ≡ true
run_of_letters [] h = refl
run_of_letters (c ∷ w) h =
    let p = and_parts (is_name_char c) (are_letters w) h in
    and_from (is_run_char c) (are_run w) (run_of_letter c p.0) (run_of_letters w p.1)

letters_run : (w : List ℕ) → IsLetters w → IsRun w
letters_run w l = (run_of_letters w l.0, letter_at w 0 l.0 l.1, letter_at w (length w - 1) l.0 (omega (arith, l.1)))

run_append : (v w : List ℕ) → are_run v ≡ true → are_run w ≡ true → are_run (v ++ w) ≡ true
run_append [] w h k = k
run_append (c ∷ v) w h k =
    let p = and_parts (is_run_char c) (are_run v) h in
    and_from (is_run_char c) (are_run (v ++ w)) p.0 (run_append v w p.1 k)

letters_append : (v w : List ℕ) → are_letters v ≡ true → are_letters w ≡ true → are_letters (v ++ w) ≡ true
letters_append [] w h k = k
letters_append (c ∷ v) w h k =
    let p = and_parts (is_name_char c) (are_letters v) h in
    and_from (is_name_char c) (are_letters (v ++ w)) p.0 (letters_append v w p.1 k)

-- names
letter_char : (c : ℕ) → is_letter_or_digit c ≡ true → is_name_char c ≡ true
letter_char c h = rw h refl

score_char : (c : ℕ) → (c == 95) ≡ true → is_name_char c ≡ true
score_char c h = and_or c h where
  and_or : (c : ℕ) → (c == 95) ≡ true → is_name_char c ≡ true
  and_or c h = search (rules, tests)

rest_letters : (w : List ℕ) → is_rest w ≡ true → are_letters w ≡ true
rest_letters [] h = refl
rest_letters (c ∷ []) h = and_from (is_name_char c) true (letter_char c h) refl
rest_letters (c ∷ e ∷ more) h =
    let p = and_parts (is_letter_or_digit c || (c == 95 && not (e == 95))) (is_rest (e ∷ more)) h in
    and_from (is_name_char c) (are_letters (e ∷ more)) (search (rules, tests, p.0)) (rest_letters (e ∷ more) p.1)

some_of : (w : List ℕ) → not (length w == 0) ≡ true → 0 < length w
some_of [] h = absurd cc
some_of (c ∷ w) h = omega arith

name_letters : (w : List ℕ) → is_plain_name w ≡ true → IsLetters w
unfolding is_plain_name is_identifier
name_letters w h = (rest_letters w (search (rules, tests)), some_of w (search (rules, tests)))

-- numbers
digit_char : (c : ℕ) → is_digit c ≡ true → is_name_char c ≡ true
digit_char c h = search (rules, tests)

number_rest_letters : (w : List ℕ) → is_number_rest w ≡ true → are_letters w ≡ true
number_rest_letters [] h = refl
number_rest_letters (c ∷ []) h = and_from (is_name_char c) true (digit_char c h) refl
number_rest_letters (c ∷ e ∷ more) h =
    let p = and_parts (is_digit c || (c == 95 && is_digit e)) (is_number_rest (e ∷ more)) h in
    and_from (is_name_char c) (are_letters (e ∷ more)) (search (rules, tests, p.0)) (number_rest_letters (e ∷ more) p.1)

pub number_letters : (w : List ℕ) → is_number w ≡ true → IsLetters w
number_letters [] h = absurd cc
number_letters (c ∷ []) h = (and_from (is_name_char c) true (digit_char c h) refl, omega arith)
number_letters (c ∷ e ∷ more) h =
    let p = and_parts (is_digit c && (is_digit e || e == 95)) (is_number_rest (e ∷ more)) (search (rules, tests)) in
    let q = and_parts (is_digit c) (is_digit e || e == 95) p.0 in
    (and_from (is_name_char c) (are_letters (e ∷ more)) (digit_char c q.0) (number_rest_letters (e ∷ more) p.1), omega arith)

limited_number : (most : ℕ) (w : List ℕ) (n : ℕ) → number_up_to most w ≡ Some n → is_number w ≡ true
unfolding number_up_to
limited_number most w n h = elim (cases_of_cond (is_number w) (limited most (number_value w)) None (Some n) h) [
  | inl e ↦ e.0
  | inr e ↦ absurd cc
]

limited_duration : (most : ℕ) (w : List ℕ) (n : ℕ) → duration_up_to most w ≡ Some n → is_duration w ≡ true
unfolding duration_up_to
limited_duration most w n h = elim (cases_of_cond (is_duration w) (limited most (duration_value w)) None (Some n) h) [
  | inl e ↦ e.0
  | inr e ↦ absurd cc
]

-- durations
abbrev units : List ℕ → Option ℕ
units u = first_that (
    (same_word u (codes "d"), 1) ∷ (same_word u (codes "h"), 2) ∷ (same_word u (codes "m"), 3)
    ∷ (same_word u (codes "s"), 4) ∷ (same_word u (codes "ms"), 5) ∷ [])

a_unit : (u : List ℕ) (k : ℕ) → units u ≡ Some k → IsLetters u
a_unit u k h = elim (cases_of_cond (same_word u (codes "d")) _ _ _ h) [
  | inl e ↦ same_word_letters u (codes "d") e.0 refl (omega arith)
  | inr e ↦ elim (cases_of_cond (same_word u (codes "h")) _ _ _ e.1) [
    | inl f ↦ same_word_letters u (codes "h") f.0 refl (omega arith)
    | inr f ↦ elim (cases_of_cond (same_word u (codes "m")) _ _ _ f.1) [
      | inl g ↦ same_word_letters u (codes "m") g.0 refl (omega arith)
      | inr g ↦ elim (cases_of_cond (same_word u (codes "s")) _ _ _ g.1) [
        | inl i ↦ same_word_letters u (codes "s") i.0 refl (omega arith)
        | inr i ↦ elim (cases_of_cond (same_word u (codes "ms")) _ _ _ i.1) [
          | inl j ↦ same_word_letters u (codes "ms") j.0 refl (omega arith)
          | inr j ↦ absurd cc
        ]
      ]
    ]
  ]
]

unit_letters : (u : List ℕ) (r : ℕ) → r < unit_rank u → IsLetters u
unit_letters u r h = go (units u) refl h
  where
    go : (o : Option ℕ) → units u ≡ o → r < unwrap_or o 0 → IsLetters u
    go None e l = absurd (omega arith)
    go (Some k) e l = a_unit u k e

letters_both : (v w : List ℕ) → IsLetters v → are_letters w ≡ true → IsLetters (v ++ w)
letters_both v w l k = (letters_append v w l.0 k, omega (arith, length-append v w, l.1))

spelling_letters : (ps : List Part) (above : ℕ) (w : List ℕ) → IsSpelling ps w → AreParts above ps → IsLetters w
spelling_letters [] above w s a = absurd s
spelling_letters (p ∷ []) above w s a = rw s (letters_both p.number p.unit (number_letters p.number a.0) (unit_letters p.unit above a.1).0)
spelling_letters (p ∷ q ∷ ps) above w s a =
    let number = number_letters p.number a.0 in
    let unit = unit_letters p.unit above a.1 in
    let rest = spelling_letters (q ∷ ps) (unit_rank p.unit) s.0 s.1 a.2 in
    elim s.2 [
      | inl e ↦ rw e (letters_both (p.number ++ p.unit) s.0 (letters_both p.number p.unit number unit.0) rest.0)
      | inr e ↦ rw e (letters_both (p.number ++ p.unit) (95 ∷ s.0) (letters_both p.number p.unit number unit.0) rest.0)
    ]

lower_run : (c : ℕ) → is_run_char (to_ascii_lowercase c) ≡ is_run_char c
lower_run c = search (rules, tests)

same_run : (w v : List ℕ) → map to_ascii_lowercase w ≡ map to_ascii_lowercase v → are_run v ≡ true → are_run w ≡ true
same_run [] v e h = refl
same_run (c ∷ w) [] e h = absurd cc
same_run (c ∷ w) (d ∷ v) e h =
    let parts = and_parts (is_run_char d) (are_run v) h in
    let first : to_ascii_lowercase c ≡ to_ascii_lowercase d = cc in
    let more : map to_ascii_lowercase w ≡ map to_ascii_lowercase v = cc in
    and_from (is_run_char c) (are_run w) (sym (lower_run c) ∙ ap is_run_char first ∙ lower_run d ∙ parts.0) (same_run w v more parts.1)

same_first : (w v : List ℕ) → map to_ascii_lowercase w ≡ map to_ascii_lowercase v → is_name_char (get_or v 0 32) ≡ true → is_name_char (get_or w 0 32) ≡ true
same_first [] [] e h = h
same_first [] (d ∷ v) e h = absurd cc
same_first (c ∷ w) [] e h = absurd cc
same_first (c ∷ w) (d ∷ v) e h =
    let first : to_ascii_lowercase c ≡ to_ascii_lowercase d = cc in
    sym (lower_letter c) ∙ ap is_name_char first ∙ lower_letter d ∙ h

front_run : (f v w : List ℕ) → same_word f v ≡ true → are_run v ≡ true → is_name_char (get_or v 0 32) ≡ true → IsLetters w → IsRun (f ++ w)
front_run f v w h run first l =
    let e : map to_ascii_lowercase f ≡ map to_ascii_lowercase v = (bytes_eq-Decides (map to_ascii_lowercase f) (map to_ascii_lowercase v)).0 h in
    (run_append f w (same_run f v e run) (run_of_letters w l.0), first_of f (same_first f v e first), last_of)
  where
    first_of : (g : List ℕ) → is_name_char (get_or g 0 32) ≡ true → is_name_char (get_or (g ++ w) 0 32) ≡ true
    first_of [] k = absurd cc
    first_of (c ∷ g) k = k

    last_of : is_name_char (get_or (f ++ w) (length (f ++ w) - 1) 32) ≡ true
    last_of =
        let n : length (f ++ w) - 1 ≡ length f + (length w - 1) = omega (arith, length-append f w, l.1) in
        let le : length f ≤ length f + (length w - 1) = omega arith in
        let m : length f + (length w - 1) - length f ≡ length w - 1 = omega arith in
        let at : get_or (f ++ w) (length f + (length w - 1)) 32 ≡ get_or w (length w - 1) 32 = get_or-append_right f w (length f) (length f + (length w - 1)) 32 refl le ∙ ap (λ k. get_or w k 32) m in
        rw (n, at) (letter_at w (length w - 1) l.0 (omega (arith, l.1)))

duration_run : (w : List ℕ) → is_duration w ≡ true → IsRun w
duration_run w h =
    let d = duration_spelled w h in
    let l : IsLetters d.1.rest = spelling_letters d.0 0 d.1.rest d.1.spelled d.1.parts in
    elim d.1.named [
      | inl e ↦ rw d.1.whole (front_run d.1.front (codes "T#") d.1.rest e refl refl l)
      | inr e ↦ rw d.1.whole (front_run d.1.front (codes "TIME#") d.1.rest e refl refl l)
    ]

-- block types
block_letters : (w : List ℕ) (b : BlockType) → block_type w ≡ Some b → IsLetters w
unfolding block_type
block_letters w b h = elim (cases_of_cond (same_word w (codes "SR")) _ _ _ h) [
  | inl e ↦ same_word_letters w (codes "SR") e.0 refl (omega arith)
  | inr e ↦ elim (cases_of_cond (same_word w (codes "RS")) _ _ _ e.1) [
    | inl e ↦ same_word_letters w (codes "RS") e.0 refl (omega arith)
    | inr e ↦ elim (cases_of_cond (same_word w (codes "CTU")) _ _ _ e.1) [
      | inl e ↦ same_word_letters w (codes "CTU") e.0 refl (omega arith)
      | inr e ↦ elim (cases_of_cond (same_word w (codes "CTD")) _ _ _ e.1) [
        | inl e ↦ same_word_letters w (codes "CTD") e.0 refl (omega arith)
        | inr e ↦ elim (cases_of_cond (same_word w (codes "CTUD")) _ _ _ e.1) [
          | inl e ↦ same_word_letters w (codes "CTUD") e.0 refl (omega arith)
          | inr e ↦ elim (cases_of_cond (same_word w (codes "TP")) _ _ _ e.1) [
            | inl e ↦ same_word_letters w (codes "TP") e.0 refl (omega arith)
            | inr e ↦ elim (cases_of_cond (same_word w (codes "TON")) _ _ _ e.1) [
              | inl e ↦ same_word_letters w (codes "TON") e.0 refl (omega arith)
              | inr e ↦ elim (cases_of_cond (same_word w (codes "TOF")) _ _ _ e.1) [
                | inl e ↦ same_word_letters w (codes "TOF") e.0 refl (omega arith)
                | inr e ↦ absurd cc
              ]
            ]
          ]
        ]
      ]
    ]
  ]
]

-- marks
lower_mark : (c k : ℕ) → to_ascii_lowercase c ≡ k → k < 65 → c ≡ k
lower_mark c k h l = search (rules, tests)

one_mark : (w : List ℕ) (k : ℕ) → same_word w (k ∷ []) ≡ true → to_ascii_lowercase k ≡ k → k < 65 → w ≡ k ∷ []
one_mark w k h low l = go w ((bytes_eq-Decides (map to_ascii_lowercase w) (map to_ascii_lowercase (k ∷ []))).0 h)
  where
    go : (w : List ℕ) → map to_ascii_lowercase w ≡ to_ascii_lowercase k ∷ [] → w ≡ k ∷ []
    go [] e = absurd cc
    go (c ∷ []) e = let first : to_ascii_lowercase c ≡ to_ascii_lowercase k = cc in ap (λ x. x ∷ []) (lower_mark c k (first ∙ low) l)
    go (c ∷ d ∷ w) e = absurd cc

assign_mark : (w : List ℕ) → same_word w (codes ":=") ≡ true → w ≡ 58 ∷ 61 ∷ []
assign_mark w h = go w ((bytes_eq-Decides (map to_ascii_lowercase w) (map to_ascii_lowercase (codes ":="))).0 h)
  where
    go : (w : List ℕ) → map to_ascii_lowercase w ≡ 58 ∷ 61 ∷ [] → w ≡ 58 ∷ 61 ∷ []
    go [] e = absurd cc
    go (c ∷ []) e = absurd cc
    go (c ∷ d ∷ []) e =
        let first : to_ascii_lowercase c ≡ 58 = cc in
        let second : to_ascii_lowercase d ≡ 61 = cc in
        let a : c ≡ 58 = lower_mark c 58 first (omega arith) in
        let b : d ≡ 61 = lower_mark d 61 second (omega arith) in
        rw (a, b) refl
    go (c ∷ d ∷ x ∷ w) e = absurd cc

marks : (w : List ℕ) (p : Punctuation) → punctuation w ≡ Some p → IsMark w
unfolding punctuation
marks w p h = elim (cases_of_cond (same_word w (codes "(")) _ _ _ h) [
  | inl e ↦ inl (40, one_mark w 40 e.0 refl (omega arith), refl)
  | inr e ↦ elim (cases_of_cond (same_word w (codes ")")) _ _ _ e.1) [
    | inl e ↦ inl (41, one_mark w 41 e.0 refl (omega arith), refl)
    | inr e ↦ elim (cases_of_cond (same_word w (codes ":")) _ _ _ e.1) [
      | inl e ↦ inl (58, one_mark w 58 e.0 refl (omega arith), refl)
      | inr e ↦ elim (cases_of_cond (same_word w (codes ";")) _ _ _ e.1) [
        | inl e ↦ inl (59, one_mark w 59 e.0 refl (omega arith), refl)
        | inr e ↦ elim (cases_of_cond (same_word w (codes ",")) _ _ _ e.1) [
          | inl e ↦ inl (44, one_mark w 44 e.0 refl (omega arith), refl)
          | inr e ↦ elim (cases_of_cond (same_word w (codes ".")) _ _ _ e.1) [
            | inl e ↦ inl (46, one_mark w 46 e.0 refl (omega arith), refl)
            | inr e ↦ elim (cases_of_cond (same_word w (codes ":=")) _ _ _ e.1) [
              | inl e ↦ inr (assign_mark w e.0)
              | inr e ↦ absurd cc
            ]
          ]
        ]
      ]
    ]
  ]
]

-- addresses
percent_of : (w : List ℕ) (a b : ℕ) → same_word (take 3 w) (37 ∷ a ∷ b ∷ []) ≡ true → is_name_char a ≡ true → is_name_char b ≡ true → IsLetters (drop 3 w) → IsPercent w
percent_of w a b h la lb l = go w ((bytes_eq-Decides (map to_ascii_lowercase (take 3 w)) (map to_ascii_lowercase (37 ∷ a ∷ b ∷ []))).0 h) l
  where
    go : (w : List ℕ) → map to_ascii_lowercase (take 3 w) ≡ to_ascii_lowercase 37 ∷ to_ascii_lowercase a ∷ to_ascii_lowercase b ∷ [] → IsLetters (drop 3 w) → IsPercent w
    go [] e l = absurd cc
    go (c ∷ []) e l = absurd cc
    go (c ∷ d ∷ []) e l = absurd cc
    go (c ∷ d ∷ x ∷ w) e l =
        let first : to_ascii_lowercase c ≡ 37 = cc in
        let second : to_ascii_lowercase d ≡ to_ascii_lowercase a = cc in
        let third : to_ascii_lowercase x ≡ to_ascii_lowercase b = cc in
        let p : c ≡ 37 = lower_mark c 37 first (omega arith) in
        let i : is_name_char d ≡ true = sym (lower_letter d) ∙ ap is_name_char second ∙ lower_letter a ∙ la in
        let j : is_name_char x ≡ true = sym (lower_letter x) ∙ ap is_name_char third ∙ lower_letter b ∙ lb in
        (d ∷ x ∷ w, ap (λ y. y ∷ d ∷ x ∷ w) p, (and_from (is_name_char d) (are_letters (x ∷ w)) i (and_from (is_name_char x) (are_letters w) j l.0), omega arith))

space_percent : (w : List ℕ) (s : Space) → address_space w ≡ Some s → IsLetters (drop 3 w) → IsPercent w
unfolding address_space
space_percent w s h l = elim (cases_of_cond (same_word (take 3 w) (codes "%IX")) _ _ _ h) [
  | inl e ↦ percent_of w 73 88 e.0 refl refl l
  | inr e ↦ elim (cases_of_cond (same_word (take 3 w) (codes "%IW")) _ _ _ e.1) [
    | inl f ↦ percent_of w 73 87 f.0 refl refl l
    | inr f ↦ absurd cc
  ]
]

with_number : (s : Space) (n : Option ℕ) (a : Address) → option_map (λ n. record { space = s; number = n }) n ≡ Some a → (k : ℕ) × (n ≡ Some k)
with_number s None a h = absurd cc
with_number s (Some k) a h = (k, refl)

address_parts : (s : Option Space) (n : Option ℕ) (a : Address) → option_and_then (λ s. option_map (λ n. record { space = s; number = n }) n) s ≡ Some a → ((x : Space) × (s ≡ Some x)) × ((k : ℕ) × (n ≡ Some k))
address_parts None n a h = absurd cc
address_parts (Some x) n a h = ((x, refl), with_number x n a h)

percents : (w : List ℕ) (a : Address) → address w ≡ Some a → IsPercent w
unfolding address
percents w a h =
    let p = address_parts (address_space w) (number_up_to 65535 (drop 3 w)) a h in
    space_percent w p.0.0 p.0.1 (number_letters (drop 3 w) (limited_number 65535 (drop 3 w) p.1.0 p.1.1))

-- what a known word is made of
told_parts : {C : Type 0} (q : Option Keyword) (b : Option BlockType) (p : Option Punctuation) (n m : Option ℕ) (a : Option Address) (t : Bool) (w : List ℕ)
    → (unwrap_or (
    or_else (or_else (option_map (λ k. token.Keyword k) q) (or_else (option_map (λ x. token.Block x) b) (option_map (λ x. token.Punctuation x) p)))
    (or_else (or_else (option_map (λ x. token.Number x) n) (or_else (option_map (λ x. token.Duration x) m) (option_map (λ x. token.Address x) a)))
    (cond t (Some (token.Name w)) None))) token.Unknown ≢ token.Unknown)
    → ((x : Keyword) → q ≡ Some x → C) → ((x : BlockType) → b ≡ Some x → C) → ((x : Punctuation) → p ≡ Some x → C)
    → ((x : ℕ) → n ≡ Some x → C) → ((x : ℕ) → m ≡ Some x → C) → ((x : Address) → a ≡ Some x → C) → (t ≡ true → C) → C
told_parts (Some x) b p n m a t w known fq fb fp fn fm fa ft = fq x refl
told_parts None (Some x) p n m a t w known fq fb fp fn fm fa ft = fb x refl
told_parts None None (Some x) n m a t w known fq fb fp fn fm fa ft = fp x refl
told_parts None None None (Some x) m a t w known fq fb fp fn fm fa ft = fn x refl
told_parts None None None None (Some x) a t w known fq fb fp fn fm fa ft = fm x refl
told_parts None None None None None (Some x) t w known fq fb fp fn fm fa ft = fa x refl
told_parts None None None None None None true w known fq fb fp fn fm fa ft = ft refl
told_parts None None None None None None false w known fq fb fp fn fm fa ft = absurd (known refl)

pub known_shape : (w : List ℕ) → word_of w ≢ token.Unknown → IsShape w
unfolding word_of fixed_word value_word name
known_shape w known = told_parts (keyword w) (block_type w) (punctuation w) (number_up_to 65535 w) (duration_up_to 2147483647 w) (address w) (is_plain_name w) w known
    (λ k e. inl (letters_run w (keyword_letters w k e))) (λ b e. inl (letters_run w (block_letters w b e))) (λ p e. inr (inr (marks w p e)))
    (λ n e. inl (letters_run w (number_letters w (limited_number 65535 w n e)))) (λ n e. inl (duration_run w (limited_duration 2147483647 w n e)))
    (λ a e. inr (inl (percents w a e))) (λ t. inl (letters_run w (name_letters w t)))

-- letters, a duration, an address, or a mark
abbrev pub IsOfKind : List ℕ → Type 0
IsOfKind w = IsLetters w ⊎ ((is_duration w ≡ true) ⊎ (IsPercent w ⊎ IsMark w))

pub known_kind : (w : List ℕ) → word_of w ≢ token.Unknown → IsOfKind w
unfolding word_of fixed_word value_word name
known_kind w known = told_parts {C = IsOfKind w} (keyword w) (block_type w) (punctuation w) (number_up_to 65535 w) (duration_up_to 2147483647 w) (address w) (is_plain_name w) w known
    (λ k e. inl (keyword_letters w k e)) (λ b e. inl (block_letters w b e)) (λ p e. inr (inr (inr (marks w p e))))
    (λ n e. inl (number_letters w (limited_number 65535 w n e))) (λ n e. inr (inl (limited_duration 2147483647 w n e)))
    (λ a e. inr (inr (inl (percents w a e)))) (λ t. inl (name_letters w t))
