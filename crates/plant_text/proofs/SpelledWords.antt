-- A text spells its words, one after the other.
use Rattle.std.proofs.Common.{◌≡◌, ◌≢◌, ◌<◌, ◌≤◌, ◌+◌, ◌-◌, ℕ, zero, suc, true, List, [], ◌∷◌, ◌++◌, length, get_or, take, drop, inl, inr, refl, ap, sym, subst, ◌∙◌, append_assoc, arith}
use Rattle.std.specs.Prelude.{All}
use Rattle.std.proofs.lemmas.List.{append-nil, length-append, length-take-le, take-append-drop}
use Rattle.std.proofs.Math.Seq.{take-append_seam}
use Rattle.plant_text.specs.declared.token.Token.{Token}
use Rattle.plant_text.specs.declared.token.Token.TheVariants as token
use Rattle.plant_text.specs.Words.{front_len, word_of}
use Rattle.plant_text.specs.Spelling.{is_parted, first_line, IsGap, IsEndLine, IsBody, BeginsNoBlock, Spells, IsBlankLine}
use Rattle.plant_text.specs.Steps.Gaps.{IsBehindGap}
use Rattle.plant_text.specs.Steps.Lexing.{IsWordThen, IsBehindBody, IsFirstWord}
use Rattle.plant_text.proofs.FirstWords.{word_of-body}

-- a word behind a gap
spells_word : (text gap word rest : List ℕ) (t : Token) (more : List Token) → text ≡ gap ++ word ++ rest → IsGap gap → word_of word ≡ t → is_parted word rest ≡ true → Spells rest more → Spells text (t ∷ more)
spells_word text gap word rest (token.Keyword k) more e g w p s = (gap, word, rest, e, g, w, p, s)
spells_word text gap word rest (token.Block k) more e g w p s = (gap, word, rest, e, g, w, p, s)
spells_word text gap word rest (token.Punctuation k) more e g w p s = (gap, word, rest, e, g, w, p, s)
spells_word text gap word rest (token.Name k) more e g w p s = (gap, word, rest, e, g, w, p, s)
spells_word text gap word rest (token.Number k) more e g w p s = (gap, word, rest, e, g, w, p, s)
spells_word text gap word rest (token.Duration k) more e g w p s = (gap, word, rest, e, g, w, p, s)
spells_word text gap word rest (token.Address k) more e g w p s = (gap, word, rest, e, g, w, p, s)
spells_word text gap word rest (token.Body k) more e g w p s = absurd (word_of-body word k w)
spells_word text gap word rest token.Unknown more e g w p s = (gap, word, rest, e, g, w, p, s)

-- the word in front of a text
pub word_then : (text : List ℕ) (n : ℕ) (t : Token) (rest : List ℕ) → n ≤ length text → n ≡ front_len text → is_parted (take n text) (drop n text) ≡ true → t ≡ word_of (take n text) → rest ≡ drop n text → IsWordThen text t rest
word_then text n t rest le len p et er =
    let e : text ≡ take n text ++ rest = sym (take-append-drop n text) ∙ ap (λ x. take n text ++ x) (sym er) in
    (take n text, e, sym et, subst (λ (x : List ℕ). is_parted (take n text) x ≡ true) (sym er) p, length-take-le n text le ∙ len)

pub first_word : (text front : List ℕ) (t : Token) (rest : List ℕ) → IsBehindGap text front → (t ≢ token.Unknown → IsWordThen front t rest) → IsFirstWord text t rest
first_word text front t rest g w = λ known more s.
    let v = w known in
    let e : text ≡ g.0 ++ v.0 ++ rest = g.1 ∙ ap (λ x. g.0 ++ x) v.1 ∙ sym (append_assoc g.0 v.0 rest) in
    spells_word text g.0 v.0 rest t more e g.2 v.2 v.3 s

-- a body
pub first_body : (text lines rest body : List ℕ) → BeginsNoBlock text → IsBlankLine text lines → IsBehindBody lines rest → IsEndLine (first_line rest) → body ≡ take (length lines - length rest) lines → IsFirstWord text (token.Body body) rest
first_body text lines rest body n l b f e = λ known more s.
    let len : length lines ≡ length b.0 + length rest = ap length b.1 ∙ length-append b.0 rest in
    let cut : length lines - length rest ≡ length b.0 = omega arith in
    let is : body ≡ b.0 = e ∙ ap (λ n. take n lines) cut ∙ ap (λ x. take (length b.0) x) b.1 ∙ take-append_seam b.0 rest in
    let whole : text ≡ l.0 ++ l.1 ++ body ++ rest = l.2 ∙ ap (λ x. l.0 ++ l.1 ++ x) b.1 ∙ sym (append_assoc (l.0 ++ l.1) b.0 rest) ∙ ap (λ x. l.0 ++ l.1 ++ x ++ rest) (sym is) in
    (l.0, l.1, rest, whole, n, l.3, l.4, l.5, subst IsBody (sym is) b.2, f, s)

pub body_read : (text inner lines rest new body : List ℕ) (t : Token) → text ≡ inner → t ≡ token.Body body → new ≡ rest → BeginsNoBlock text → IsBlankLine inner lines → IsBehindBody lines rest → IsEndLine (first_line rest)
    → body ≡ take (length lines - length rest) lines → IsFirstWord text t new
body_read text inner lines rest new body t ei et en n l b f e =
    let l' : IsBlankLine text lines = subst (λ (x : List ℕ). IsBlankLine x lines) (sym ei) l in
    let first : IsFirstWord text (token.Body body) rest = first_body text lines rest body n l' b f e in
    subst (λ (x : List ℕ). IsFirstWord text t x) (sym en) (subst (λ (x : Token). IsFirstWord text x rest) (sym et) first)

pub word_read : (text inner front passed new : List ℕ) (t : Token) → text ≡ inner → IsBehindGap inner front → passed ≡ front → (t ≢ token.Unknown → IsWordThen passed t new) → IsFirstWord text t new
word_read text inner front passed new t ei g ep w =
    first_word text front t new (subst (λ (x : List ℕ). IsBehindGap x front) (sym ei) g) (λ known. subst (λ (x : List ℕ). IsWordThen x t new) ep (w known))

pub shorter_behind_body : (text lines rest : List ℕ) → IsBlankLine text lines → IsBehindBody lines rest → length rest < length text
shorter_behind_body text lines rest l b =
    let a : length lines ≡ length b.0 + length rest = ap length b.1 ∙ length-append b.0 rest in
    let c : length text ≡ length (l.0 ++ l.1) + length lines = ap length l.2 ∙ length-append (l.0 ++ l.1) lines in
    let d : length (l.0 ++ l.1) ≡ length l.0 + length l.1 = length-append l.0 l.1 in
    let f : 0 < length l.1 = elim l.5 [ inl h ↦ rw h (omega arith) | inr h ↦ rw h (omega arith) ] in
    omega arith

pub shorter_behind_gap : (text rest : List ℕ) → IsBehindGap text rest → length rest ≤ length text
shorter_behind_gap text rest g =
    let a : length text ≡ length g.0 + length rest = ap length g.1 ∙ length-append g.0 rest in
    omega arith

-- nothing behind a gap: the text is a gap
pub gap_alone : (text rest : List ℕ) → IsBehindGap text rest → rest ≡ [] → IsGap text
gap_alone text rest g e = subst IsGap (sym (g.1 ∙ ap (λ x. g.0 ++ x) e ∙ append-nil g.0)) g.2

front_same : (ws us : List Token) (k : ℕ) (d : Token) → k < length ws → get_or (ws ++ us) k d ≡ get_or ws k d
front_same [] us k d l = absurd (omega arith)
front_same (w ∷ ws) us zero d l = refl
front_same (w ∷ ws) us (suc k) d l = front_same ws us k d (omega arith)

last_same : (ws : List Token) (w d : Token) → get_or (ws ++ w ∷ []) (length ws) d ≡ w
last_same [] w d = refl
last_same (v ∷ ws) w d = last_same ws w d

-- all words but the last are known
pub known_before : (ws : List Token) (w : Token) → All (λ t. t ≢ token.Unknown) (ws ++ w ∷ []) → All (λ t. t ≢ token.Unknown) ws
known_before ws w h = λ k d l.
    let in' : k < length (ws ++ w ∷ []) = omega (arith, length-append ws (w ∷ [])) in
    subst (λ (t : Token). t ≢ token.Unknown) (front_same ws (w ∷ []) k d l) (h k d in')

pub known_last : (ws : List Token) (w : Token) → All (λ t. t ≢ token.Unknown) (ws ++ w ∷ []) → w ≢ token.Unknown
known_last ws w h = λ e.
    let in' : length ws < length (ws ++ w ∷ []) = omega (arith, length-append ws (w ∷ [])) in
    h (length ws) w in' (last_same ws w w ∙ e)

-- what has been read up to here: the words, and then what is left spells
abbrev pub IsReadTo : List ℕ → List Token → List ℕ → Type 0
IsReadTo text ws rest = All (λ t. t ≢ token.Unknown) ws → (more : List Token) → Spells rest more → Spells text (ws ++ more)

pub read_first : (text : List ℕ) → IsReadTo text [] text
read_first text = λ h more s. s

pub read_next : (text : List ℕ) (ws us : List Token) (w : Token) (rest new : List ℕ) → us ≡ ws ++ w ∷ [] → IsReadTo text ws rest → IsFirstWord rest w new → IsReadTo text us new
read_next text ws us w rest new e r f = λ known more s.
    let k : All (λ t. t ≢ token.Unknown) (ws ++ w ∷ []) = subst (All (λ t. t ≢ token.Unknown)) e known in
    let next : Spells text (ws ++ w ∷ more) = r (known_before ws w k) (w ∷ more) (f (known_last ws w k) more s) in
    subst (Spells text) (sym (ap (λ x. x ++ more) e ∙ append_assoc ws (w ∷ []) more)) next

pub read_all : (text : List ℕ) (ws : List Token) (rest : List ℕ) → IsReadTo text ws rest → IsGap rest → All (λ t. t ≢ token.Unknown) ws → Spells text ws
read_all text ws rest r g known = subst (Spells text) (append-nil ws) (r known [] g)
