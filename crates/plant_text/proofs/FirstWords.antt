-- The word that a text begins with.
use Rattle.std.proofs.Common.{◌≡◌, ◌==◌, ◌&&◌, ◌<◌, ◌≤◌, ◌+◌, ◌-◌, ℕ, zero, suc, Bool, true, false, not, cond, List, [], ◌∷◌, ◌++◌, length, get_or, take, drop, codes, map, take_while, Option, Some, None, ◌⊎◌, inl, inr, refl, ap, sym, subst, ◌∙◌, arith, rules, tests}
use Rattle.std.specs.Char.{to_ascii_lowercase}
use Rattle.std.specs.Option.{option_map}
use Rattle.std.proofs.lemmas.Bool.{ne_eqb, and_parts, and_right, cases_Bool}
use Rattle.std.proofs.lemmas.Slice.Eq.{bytes_eq-Decides}
use Rattle.std.proofs.lemmas.List.{take_all}
use Rattle.std.proofs.lemmas.List.Sums.{take_while-cons}
use Rattle.std.specs.Prelude.{unwrap_or}
use Rattle.words.specs.Chars.{same_word, block_type, is_plain_name}
use Rattle.std_blocks.specs.declared.block_type.BlockType.{BlockType}
use Rattle.words.specs.Numbers.{number_up_to, duration_up_to}
use Rattle.words.specs.declared.address.Address.{Address}
use Rattle.plant_text.specs.declared.token.Token.{Token}
use Rattle.plant_text.specs.declared.token.Token.TheVariants as token
use Rattle.plant_text.specs.declared.token.Keyword.{Keyword}
use Rattle.plant_text.specs.declared.token.Punctuation.{Punctuation}
use Rattle.plant_text.specs.Words.{is_name_char, or_else, program_keyword, configuration_keyword, task_keyword, keyword, punctuation, name, fixed_word, value_word, word_of, is_run_char}
use Rattle.words.specs.Addresses.{address}
use Rattle.plant_text.specs.Spelling.{is_parted}
use Rattle.plant_text.specs.Steps.Gaps.{behind_space}
use Rattle.plant_text.specs.Steps.Lexing.{letters}
use Rattle.plant_text.proofs.FoundGaps.{cases_of_cond}

-- all are letters, digits and underscores
abbrev pub are_letters : List ℕ → Bool
are_letters [] = true
are_letters (c ∷ more) = is_name_char c && are_letters more

pub isnt : (c k : ℕ) → is_name_char c ≡ true → is_name_char k ≡ false → (c == k) ≡ false
isnt c k h n = ne_eqb c k (λ e. let same : is_name_char c ≡ is_name_char k = ap is_name_char e in absurd cc)

-- no gap begins with a letter
pub letter_begins : (c : ℕ) (more : List ℕ) → is_name_char c ≡ true → behind_space (c ∷ more) ≡ None
letter_begins c more h =
    let a : (c == 32) ≡ false = isnt c 32 h refl in
    let b : (c == 9) ≡ false = isnt c 9 h refl in
    let d : (c == 10) ≡ false = isnt c 10 h refl in
    let e : (c == 13) ≡ false = isnt c 13 h refl in
    let f : (c == 40) ≡ false = isnt c 40 h refl in
    rw (a, b, d, e, f) refl

pub lower_letter : (c : ℕ) → is_name_char (to_ascii_lowercase c) ≡ is_name_char c
lower_letter c = search (rules, tests)

same_letters : (w v : List ℕ) → map to_ascii_lowercase w ≡ map to_ascii_lowercase v → are_letters v ≡ true → are_letters w ≡ true
same_letters [] v e h = refl
same_letters (c ∷ w) [] e h = absurd cc
same_letters (c ∷ w) (d ∷ v) e h =
    let parts = and_parts (is_name_char d) (are_letters v) h in
    let first : to_ascii_lowercase c ≡ to_ascii_lowercase d = cc in
    let more : map to_ascii_lowercase w ≡ map to_ascii_lowercase v = cc in
    let here : is_name_char c ≡ true = sym (lower_letter c) ∙ ap is_name_char first ∙ lower_letter d ∙ parts.0 in
    rw here (same_letters w v more parts.1)

same_some : (w v : List ℕ) → map to_ascii_lowercase w ≡ map to_ascii_lowercase v → 0 < length v → 0 < length w
same_some [] [] e h = h
same_some [] (d ∷ v) e h = absurd cc
same_some (c ∷ w) v e h = omega arith

-- one letter or more
abbrev pub IsLetters : List ℕ → Type 0
IsLetters w = (are_letters w ≡ true) × (0 < length w)

pub same_word_letters : (w v : List ℕ) → same_word w v ≡ true → are_letters v ≡ true → 0 < length v → IsLetters w
same_word_letters w v h l s =
    let e : map to_ascii_lowercase w ≡ map to_ascii_lowercase v = (bytes_eq-Decides (map to_ascii_lowercase w) (map to_ascii_lowercase v)).0 h in
    (same_letters w v e l, same_some w v e s)

program_letters : (w : List ℕ) (k : Keyword) → program_keyword w ≡ Some k → IsLetters w
unfolding program_keyword
program_letters w k h = elim (cases_of_cond (same_word w (codes "PROGRAM")) _ _ _ h) [
  | inl e ↦ same_word_letters w (codes "PROGRAM") e.0 refl (omega arith)
  | inr e ↦ elim (cases_of_cond (same_word w (codes "END_PROGRAM")) _ _ _ e.1) [
    | inl e ↦ same_word_letters w (codes "END_PROGRAM") e.0 refl (omega arith)
    | inr e ↦ elim (cases_of_cond (same_word w (codes "VAR")) _ _ _ e.1) [
      | inl e ↦ same_word_letters w (codes "VAR") e.0 refl (omega arith)
      | inr e ↦ elim (cases_of_cond (same_word w (codes "VAR_INPUT")) _ _ _ e.1) [
        | inl e ↦ same_word_letters w (codes "VAR_INPUT") e.0 refl (omega arith)
        | inr e ↦ elim (cases_of_cond (same_word w (codes "VAR_OUTPUT")) _ _ _ e.1) [
          | inl e ↦ same_word_letters w (codes "VAR_OUTPUT") e.0 refl (omega arith)
          | inr e ↦ elim (cases_of_cond (same_word w (codes "RETAIN")) _ _ _ e.1) [
            | inl e ↦ same_word_letters w (codes "RETAIN") e.0 refl (omega arith)
            | inr e ↦ elim (cases_of_cond (same_word w (codes "END_VAR")) _ _ _ e.1) [
              | inl e ↦ same_word_letters w (codes "END_VAR") e.0 refl (omega arith)
              | inr e ↦ absurd cc
            ]
          ]
        ]
      ]
    ]
  ]
]

configuration_letters : (w : List ℕ) (k : Keyword) → configuration_keyword w ≡ Some k → IsLetters w
unfolding configuration_keyword
configuration_letters w k h = elim (cases_of_cond (same_word w (codes "CONFIGURATION")) _ _ _ h) [
  | inl e ↦ same_word_letters w (codes "CONFIGURATION") e.0 refl (omega arith)
  | inr e ↦ elim (cases_of_cond (same_word w (codes "END_CONFIGURATION")) _ _ _ e.1) [
    | inl e ↦ same_word_letters w (codes "END_CONFIGURATION") e.0 refl (omega arith)
    | inr e ↦ elim (cases_of_cond (same_word w (codes "RESOURCE")) _ _ _ e.1) [
      | inl e ↦ same_word_letters w (codes "RESOURCE") e.0 refl (omega arith)
      | inr e ↦ elim (cases_of_cond (same_word w (codes "END_RESOURCE")) _ _ _ e.1) [
        | inl e ↦ same_word_letters w (codes "END_RESOURCE") e.0 refl (omega arith)
        | inr e ↦ elim (cases_of_cond (same_word w (codes "ON")) _ _ _ e.1) [
          | inl e ↦ same_word_letters w (codes "ON") e.0 refl (omega arith)
          | inr e ↦ absurd cc
        ]
      ]
    ]
  ]
]

task_letters : (w : List ℕ) (k : Keyword) → task_keyword w ≡ Some k → IsLetters w
unfolding task_keyword
task_letters w k h = elim (cases_of_cond (same_word w (codes "TASK")) _ _ _ h) [
  | inl e ↦ same_word_letters w (codes "TASK") e.0 refl (omega arith)
  | inr e ↦ elim (cases_of_cond (same_word w (codes "WITH")) _ _ _ e.1) [
    | inl e ↦ same_word_letters w (codes "WITH") e.0 refl (omega arith)
    | inr e ↦ elim (cases_of_cond (same_word w (codes "INTERVAL")) _ _ _ e.1) [
      | inl e ↦ same_word_letters w (codes "INTERVAL") e.0 refl (omega arith)
      | inr e ↦ elim (cases_of_cond (same_word w (codes "PRIORITY")) _ _ _ e.1) [
        | inl e ↦ same_word_letters w (codes "PRIORITY") e.0 refl (omega arith)
        | inr e ↦ elim (cases_of_cond (same_word w (codes "BOOL")) _ _ _ e.1) [
          | inl e ↦ same_word_letters w (codes "BOOL") e.0 refl (omega arith)
          | inr e ↦ elim (cases_of_cond (same_word w (codes "INT")) _ _ _ e.1) [
            | inl e ↦ same_word_letters w (codes "INT") e.0 refl (omega arith)
            | inr e ↦ elim (cases_of_cond (same_word w (codes "TIME")) _ _ _ e.1) [
              | inl e ↦ same_word_letters w (codes "TIME") e.0 refl (omega arith)
              | inr e ↦ absurd cc
            ]
          ]
        ]
      ]
    ]
  ]
]

pub first_some : {A : Type 0} (a b : Option A) (x : A) → or_else a b ≡ Some x → (a ≡ Some x) ⊎ (b ≡ Some x)
first_some None b x h = inr h
first_some (Some y) b x h = inl h

-- a keyword has letters alone
pub keyword_letters : (w : List ℕ) (k : Keyword) → keyword w ≡ Some k → IsLetters w
unfolding keyword
keyword_letters w k h = elim (first_some (program_keyword w) (or_else (configuration_keyword w) (task_keyword w)) k h) [
  | inl e ↦ program_letters w k e
  | inr e ↦ elim (first_some (configuration_keyword w) (task_keyword w) k e) [
    | inl f ↦ configuration_letters w k f
    | inr f ↦ task_letters w k f
  ]
]

-- what the parts of `word_of` say
abbrev told : Option Keyword → Option BlockType → Option Punctuation → Option ℕ → Option ℕ → Option Address → Bool → List ℕ → Token
told q b p n m a t w = unwrap_or (
    or_else (or_else (option_map (λ k. token.Keyword k) q) (or_else (option_map (λ x. token.Block x) b) (option_map (λ x. token.Punctuation x) p)))
    (or_else (or_else (option_map (λ x. token.Number x) n) (or_else (option_map (λ x. token.Duration x) m) (option_map (λ x. token.Address x) a)))
    (cond t (Some (token.Name w)) None))) token.Unknown

told_keyword : (q : Option Keyword) (b : Option BlockType) (p : Option Punctuation) (n m : Option ℕ) (a : Option Address) (t : Bool) (w : List ℕ) (k : Keyword)
    → told q b p n m a t w ≡ token.Keyword k → q ≡ Some k
told_keyword (Some q) b p n m a t w k h = cc
told_keyword None (Some b) p n m a t w k h = absurd cc
told_keyword None None (Some p) n m a t w k h = absurd cc
told_keyword None None None (Some n) m a t w k h = absurd cc
told_keyword None None None None (Some m) a t w k h = absurd cc
told_keyword None None None None None (Some a) t w k h = absurd cc
told_keyword None None None None None None true w k h = absurd cc
told_keyword None None None None None None false w k h = absurd cc

told_body : (q : Option Keyword) (b : Option BlockType) (p : Option Punctuation) (n m : Option ℕ) (a : Option Address) (t : Bool) (w x : List ℕ)
    → told q b p n m a t w ≡ token.Body x → ⊥
told_body (Some q) b p n m a t w x h = cc
told_body None (Some b) p n m a t w x h = cc
told_body None None (Some p) n m a t w x h = cc
told_body None None None (Some n) m a t w x h = cc
told_body None None None None (Some m) a t w x h = cc
told_body None None None None None (Some a) t w x h = cc
told_body None None None None None None true w x h = cc
told_body None None None None None None false w x h = cc

-- a word that is said to be a keyword is one
pub word_of-keyword : (w : List ℕ) (k : Keyword) → word_of w ≡ token.Keyword k → keyword w ≡ Some k
unfolding word_of fixed_word value_word name
word_of-keyword w k h = told_keyword (keyword w) (block_type w) (punctuation w) (number_up_to 65535 w) (duration_up_to 2147483647 w) (address w) (is_plain_name w) w k h

pub keyword-word_of : (w : List ℕ) (k : Keyword) → keyword w ≡ Some k → word_of w ≡ token.Keyword k
unfolding word_of fixed_word
keyword-word_of w k h = rw h refl

-- no word is a body
pub word_of-body : (w x : List ℕ) → word_of w ≡ token.Body x → ⊥
unfolding word_of fixed_word value_word name
word_of-body w x h = told_body (keyword w) (block_type w) (punctuation w) (number_up_to 65535 w) (duration_up_to 2147483647 w) (address w) (is_plain_name w) w x h

pub take_while-yes : (p : ℕ → Bool) (c : ℕ) (t : List ℕ) → p c ≡ true → take_while p (c ∷ t) ≡ c ∷ take_while p t
take_while-yes p c t e = take_while-cons p c t ∙ ap (λ b. cond b (c ∷ take_while p t) []) e

pub take_while-no : (p : ℕ → Bool) (c : ℕ) (t : List ℕ) → p c ≡ false → take_while p (c ∷ t) ≡ []
take_while-no p c t e = take_while-cons p c t ∙ ap (λ b. cond b (c ∷ take_while p t) []) e

-- letters, and then none
pub letters_end : (w rest : List ℕ) → are_letters w ≡ true → is_name_char (get_or rest 0 32) ≡ false → letters (w ++ rest) ≡ w
letters_end [] [] h n = refl
letters_end [] (c ∷ rest) h n = take_while-no is_name_char c rest n
letters_end (c ∷ w) rest h n =
    let parts = and_parts (is_name_char c) (are_letters w) h in
    take_while-yes is_name_char c (w ++ rest) parts.0 ∙ ap (λ x. c ∷ x) (letters_end w rest parts.1 n)

pub letter_at : (w : List ℕ) (k : ℕ) → are_letters w ≡ true → k < length w → is_name_char (get_or w k 32) ≡ true
letter_at [] k h l = absurd (omega arith)
letter_at (c ∷ w) zero h l = (and_parts (is_name_char c) (are_letters w) h).0
letter_at (c ∷ w) (suc k) h l = letter_at w k (and_parts (is_name_char c) (are_letters w) h).1 (omega arith)

pub not_both : (x y : Bool) → not (x && y) ≡ true → x ≡ true → y ≡ false
not_both x true h e = absurd (let f : not (x && true) ≡ false = rw e refl in cc)
not_both x false h e = refl

-- behind letters, no letter follows
pub parted_letters : (w rest : List ℕ) → IsLetters w → is_parted w rest ≡ true → is_name_char (get_or rest 0 32) ≡ false
parted_letters w rest l h = not_both (is_name_char (get_or w (length w - 1) 32)) (is_name_char (get_or rest 0 32)) h (letter_at w (length w - 1) l.0 (omega (arith, l.1)))

-- letters begin no gap
pub letters_begin : (w rest : List ℕ) → IsLetters w → behind_space (w ++ rest) ≡ None
letters_begin [] rest l = absurd (omega (arith, l.1))
letters_begin (c ∷ w) rest l = letter_begins c (w ++ rest) (and_parts (is_name_char c) (are_letters w) l.0).0

-- a run ends before what isn't part of it
pub run_ends : (p : ℕ → Bool) (t : List ℕ) → p 32 ≡ false → p (get_or (drop (length (take_while p t)) t) 0 32) ≡ false
run_ends p [] h = h
run_ends p (c ∷ t) h = elim (cases_Bool (p c)) [
  | inl e ↦ subst (λ (x : List ℕ). p (get_or (drop (length x) (c ∷ t)) 0 32) ≡ false) (sym (take_while-yes p c t e)) (run_ends p t h)
  | inr e ↦ subst (λ (x : List ℕ). p (get_or (drop (length x) (c ∷ t)) 0 32) ≡ false) (sym (take_while-no p c t e)) e
]

not_run : (c : ℕ) → is_run_char c ≡ false → is_name_char c ≡ false
not_run c h = search (rules, tests)

pub run_parts : (w rest : List ℕ) → is_name_char (get_or rest 0 32) ≡ false → is_parted w rest ≡ true
run_parts w rest h = ap not (and_right (is_name_char (get_or w (length w - 1) 32)) (is_name_char (get_or rest 0 32)) h)

-- what a run leaves is parted from it
pub run_parted : (t w : List ℕ) → is_parted w (drop (length (take_while is_run_char t)) t) ≡ true
run_parted t w = run_parts w (drop (length (take_while is_run_char t)) t) (not_run (get_or (drop (length (take_while is_run_char t)) t) 0 32) (run_ends is_run_char t refl))

pub run_parted_at : (t : List ℕ) (n : ℕ) → n ≡ length (take_while is_run_char t) → is_parted (take n t) (drop n t) ≡ true
run_parted_at t n e = rw e (run_parted t (take (length (take_while is_run_char t)) t))

pub percent_parted : (t : List ℕ) (n : ℕ) → n ≡ length (take_while is_run_char (take (length t - 1) (drop 1 t))) → is_parted (take (1 + n) t) (drop (1 + n) t) ≡ true
percent_parted [] n e = let z : n ≡ 0 = e in rw z refl
percent_parted (c ∷ t) n e =
    let long : length t ≤ suc (length t) - 1 = omega arith in
    let all : take (suc (length t) - 1) t ≡ t = take_all (suc (length t) - 1) t long in
    let one : 1 + n ≡ suc n = omega arith in
    let here : n ≡ length (take_while is_run_char t) = rw all at e in
    rw (one, here) (run_parted t (c ∷ take (length (take_while is_run_char t)) t))
