-- What texts of a head declare.
use Rattle.std.proofs.Common.{◌≡◌, ℕ, suc, ◌+◌, ◌<◌, ◌≢◌, Bool, false, not, cond, ◌&&◌, List, [], ◌∷◌, ◌++◌, bytes_eq, codes, drop, fold, get_or, length, take, refl, ap, ◌∙◌, append_assoc, one-add, arith}
use Rattle.std.specs.List.{after_first, before_first, position_or_len, onto_first, slice_split, AllByRecursion}
use Rattle.std.proofs.lemmas.Bool.{ne_eqb}
use Rattle.traces.specs.Laws.{IsPlainWord}
use Rattle.traces.specs.Reader.{Head, declare, ends_head, words_of}
use Rattle.traces.proofs.Words.{IsOneWord}

-- what words declare on top of what was declared
abbrev pub ends : List ℕ → Bool
ends w = bytes_eq w (codes "$end")

abbrev pub declared : Head → List (List ℕ) → Head
declared h words = fold declare h (slice_split ends (before_first ends_head words))

abbrev pub body_of : List (List ℕ) → List (List ℕ)
body_of words = after_first ends_head words

-- a text declares this on top of that, whatever follows
pub record Declares (text : List ℕ) (h next : Head) : Type 0 where
  pub head : (rest : List ℕ) → declared h (words_of (text ++ rest)) ≡ declared next (words_of rest)
  pub body : (rest : List ℕ) → body_of (words_of (text ++ rest)) ≡ body_of (words_of rest)

pub nothing : (h : Head) → Declares [] h h
nothing h = record { head = λ rest. refl; body = λ rest. refl }

pub one_after : (a b : List ℕ) (h i j : Head) → Declares a h i → Declares b i j → Declares (a ++ b) h j
one_after a b h i j first second = record {
  head = λ rest. ap (λ l. declared h (words_of l)) (append_assoc a b rest) ∙ first.head (b ++ rest) ∙ second.head rest;
  body = λ rest. ap (λ l. body_of (words_of l)) (append_assoc a b rest) ∙ first.body (b ++ rest) ∙ second.body rest;
}

-- words that end nothing
pub record IsPlain (w : List ℕ) : Type 0 where
  pub end : ends w ≡ false
  pub head : ends_head w ≡ false

before-cons : (w : List ℕ) (ws : List (List ℕ)) → ends_head w ≡ false → before_first ends_head (w ∷ ws) ≡ w ∷ before_first ends_head ws
before-cons w ws is =
    ap (λ b. take (cond (not b) (1 + position_or_len ends_head ws) 0) (w ∷ ws)) is
    ∙ ap (λ n. take n (w ∷ ws)) (one-add (position_or_len ends_head ws))

body-cons : (w : List ℕ) (ws : List (List ℕ)) → ends_head w ≡ false → body_of (w ∷ ws) ≡ body_of ws
body-cons w ws is =
    let at = position_or_len ends_head ws in
    let more : 1 + at + 1 ≡ suc (at + 1) = omega arith in
    ap (λ b. drop (cond (not b) (1 + at) 0 + 1) (w ∷ ws)) is ∙ ap (λ n. drop n (w ∷ ws)) more

before-plain : (c ws : List (List ℕ)) → AllByRecursion (λ w. IsPlain w) c → before_first ends_head (c ++ ws) ≡ c ++ before_first ends_head ws
before-plain [] ws plain = refl
before-plain (w ∷ c) ws plain = before-cons w (c ++ ws) plain.0.head ∙ ap (λ l. w ∷ l) (before-plain c ws plain.1)

body-plain : (c ws : List (List ℕ)) → AllByRecursion (λ w. IsPlain w) c → body_of (c ++ ws) ≡ body_of ws
body-plain [] ws plain = refl
body-plain (w ∷ c) ws plain = body-cons w (c ++ ws) plain.0.head ∙ body-plain c ws plain.1

split-plain : (c ws : List (List ℕ)) → AllByRecursion (λ w. IsPlain w) c → slice_split ends (c ++ codes "$end" ∷ ws) ≡ c ∷ slice_split ends ws
split-plain [] ws plain = refl
split-plain (w ∷ c) ws plain =
    let more = slice_split ends (c ++ codes "$end" ∷ ws) in
    ap (λ b. cond b ([] ∷ more) (onto_first w more)) plain.0.end ∙ ap (onto_first w) (split-plain c ws plain.1)

-- the text of a command declares what the command does
pub command : (text : List ℕ) (c : List (List ℕ)) (h : Head) → AllByRecursion (λ w. IsPlain w) c
    → ((rest : List ℕ) → words_of (text ++ rest) ≡ c ++ codes "$end" ∷ words_of rest) → Declares text h (declare h c)
command text c h plain words = record {
  head = λ rest.
      let ws = words_of rest in
      ap (declared h) (words rest)
      ∙ ap (λ l. fold declare h (slice_split ends l)) (before-plain c (codes "$end" ∷ ws) plain ∙ ap (λ l. c ++ l) (before-cons (codes "$end") ws refl))
      ∙ ap (fold declare h) (split-plain c (before_first ends_head ws) plain);
  body = λ rest. ap body_of (words rest) ∙ body-plain c (codes "$end" ∷ words_of rest) plain ∙ body-cons (codes "$end") (words_of rest) refl;
}

-- a word that begins no command ends nothing
pub plain_word : (w : List ℕ) → 0 < length w → get_or w 0 0 ≢ 36 → IsPlain w
plain_word [] some other = absurd (omega arith)
plain_word (c ∷ w) some other = record {
  end = ap (λ b. b && bytes_eq w (codes "end")) (ne_eqb c 36 other);
  head = ap (λ b. b && bytes_eq w (codes "enddefinitions")) (ne_eqb c 36 other);
}

pub name_word : (w : List ℕ) → IsPlainWord w → IsOneWord w
name_word w is = record { some = is.some; one = is.one }
