-- Lines: the line of END_PROGRAM, and the lines of a body.
use Rattle.std.proofs.Common.{◌≡◌, ◌==◌, ◌&&◌, ◌||◌, ◌<◌, ◌≤◌, ◌+◌, ◌-◌, ℕ, suc, Bool, true, false, not, cond, List, [], ◌∷◌, ◌++◌, length, get_or, take, drop, Option, Some, None, ◌⊎◌, inl, inr, refl, ap, sym, subst, ◌∙◌, append_assoc, arith}
use Rattle.std.proofs.lemmas.Bool.{eqb-true, and_parts, and_right, cases_Bool}
use Rattle.std.proofs.lemmas.List.{append-nil, append_cancel_left, drop_at, length-append, take_all}
use Rattle.std.proofs.Math.Seq.{take-append_seam}
use Rattle.std.specs.List.{flat_map, AllByRecursion}
use Rattle.words.specs.Lines.{without_last}
use Rattle.plant_text.specs.declared.token.Token.TheVariants as token
use Rattle.plant_text.specs.declared.token.Keyword.{Keyword}
use Rattle.plant_text.specs.declared.token.Keyword.TheVariants as key
use Rattle.plant_text.specs.Words.{is_name_char, keyword, word_of}
use Rattle.plant_text.specs.Spelling.{ends_comment, is_parted, first_line, is_one_line, IsSpace, IsGap, IsEndLine, BeginsNoBlock, IsBlankLine}
use Rattle.plant_text.specs.Steps.Gaps.{behind_comment, behind_star, behind_feed, behind_space, IsBehindGap}
use Rattle.plant_text.specs.Steps.Lexing.{letters, begins_block, may_run_on, IsBehindBody}
use Rattle.plant_text.proofs.FoundGaps.{cases_of_cond, gap_unique, IsGap-append, IsGap-one}
use Rattle.plant_text.proofs.FirstWords.{keyword_letters, word_of-keyword, keyword-word_of, letters_end, parted_letters, letters_begin, letter_begins, take_while-yes, take_while-no, run_ends, run_parts}

-- the word behind a gap is found
pub word_found : (text gap word rest left : List ℕ) (k : Keyword) → IsBehindGap text left → text ≡ gap ++ word ++ rest → IsGap gap → keyword word ≡ Some k → left ≡ word ++ rest
word_found text gap word rest left k b e g w =
    let l = keyword_letters word k w in
    let same : b.0 ++ left ≡ gap ++ (word ++ rest) = sym b.1 ∙ e ∙ append_assoc gap word rest in
    gap_unique b.0 gap left (word ++ rest) b.2 g b.3 (letters_begin word rest l) same

-- and read
pub word_read : (word rest left : List ℕ) (k : Keyword) → left ≡ word ++ rest → keyword word ≡ Some k → is_name_char (get_or rest 0 32) ≡ false → letters left ≡ word
word_read word rest left k e w n = rw e (letters_end word rest (keyword_letters word k w).0 n)

-- where the next word is found to begin no block, it begins none
pub begins_none : (text left : List ℕ) → IsBehindGap text left → begins_block (keyword (letters left)) ≡ false → BeginsNoBlock text
begins_none text left b n = λ gap word rest e g p.
    (λ h. absurd (none gap word rest key.Var e g p h refl), λ h. absurd (none gap word rest key.VarInput e g p h refl), λ h. absurd (none gap word rest key.VarOutput e g p h refl))
  where
    none : (gap word rest : List ℕ) (k : Keyword) → text ≡ gap ++ word ++ rest → IsGap gap → is_parted word rest ≡ true → word_of word ≡ token.Keyword k → begins_block (Some k) ≡ true → ⊥
    none gap word rest k e g p h does =
        let w = word_of-keyword word k h in
        let found = word_found text gap word rest left k b e g w in
        let read : letters left ≡ word = word_read word rest left k found w (parted_letters word rest (keyword_letters word k w) p) in
        let same : keyword (letters left) ≡ Some k = ap keyword read ∙ w in
        let no : begins_block (Some k) ≡ false = rw same at n in
        cc

-- behind a gap's front, no letter stands
gap_no_letter : (rest more : List ℕ) → IsGap (rest ++ 10 ∷ more) → is_name_char (get_or rest 0 32) ≡ false
gap_no_letter [] more g = refl
gap_no_letter (c ∷ rest) more g = elim (cases_Bool (is_name_char c)) [
  | inl h ↦
      let all : List ℕ = c ∷ (rest ++ 10 ∷ more) in
      let e : [] ≡ c ∷ (rest ++ 10 ∷ more) = gap_unique (c ∷ (rest ++ 10 ∷ more)) [] [] (c ∷ (rest ++ 10 ∷ more)) g ([], tt, refl) refl (letter_begins c (rest ++ 10 ∷ more) h) (append-nil (c ∷ (rest ++ 10 ∷ more))) in
      absurd cc
  | inr h ↦ h
]

-- where nothing is left behind a comment, it doesn't end
pub no_end : (t : List ℕ) → behind_comment t ≡ None → ends_comment t ≡ false
no_end [] h = refl
no_end (c ∷ []) h = refl
no_end (c ∷ e ∷ more) h = elim (cases_of_cond (c == 42 && e == 41) (Some more) (behind_comment (e ∷ more)) None h) [
  | inl w ↦ absurd cc
  | inr w ↦ rw w.0 (no_end (e ∷ more) w.1)
]

no_end_behind : (t : List ℕ) → ends_comment t ≡ false → ends_comment (t ++ 10 ∷ []) ≡ false
no_end_behind [] h = refl
no_end_behind (c ∷ []) h = let e : (c == 42 && false) ≡ false = and_right (c == 42) false refl in rw e refl
no_end_behind (c ∷ e ∷ more) h = elim (cases_Bool (c == 42 && e == 41)) [
  | inl w ↦ absurd (let f : true ≡ false = rw w at h in cc)
  | inr w ↦ rw w (no_end_behind (e ∷ more) (rw w at h))
]

-- what is neither blank nor tab nor line feed
tests_of_none : (c : ℕ) (more : List ℕ) → behind_space (c ∷ more) ≡ None → ((c == 32 || (c == 9 || c == 10)) ≡ false) × (cond (c == 13) (behind_feed more) (cond (c == 40) (behind_star more) None) ≡ None)
tests_of_none c more h = elim (cases_of_cond (c == 32 || (c == 9 || c == 10)) (Some more) (cond (c == 13) (behind_feed more) (cond (c == 40) (behind_star more) None)) None h) [
  | inl w ↦ absurd cc
  | inr w ↦ w
]

-- what can't run on begins no gap when a line feed comes behind it
stuck : (t more : List ℕ) → behind_space t ≡ None → may_run_on t ≡ false → behind_space (t ++ 10 ∷ more) ≡ None
stuck [] more h n = absurd cc
stuck (c ∷ []) more h n =
    let a = tests_of_none c [] h in
    let star : cond (c == 40) (behind_star (10 ∷ more)) None ≡ None = elim (cases_Bool (c == 40)) [ inl e ↦ rw e refl | inr e ↦ rw e refl ] in
    rw (a.0, n) star
stuck (c ∷ e ∷ t) more h n =
    let a = tests_of_none c (e ∷ t) h in
    rw a.0 (elim (cases_of_cond (c == 13) (behind_feed (e ∷ t)) (cond (c == 40) (behind_star (e ∷ t)) None) None a.1) [
      | inl w ↦ rw w.0 (feed (cases_of_cond (e == 10) (Some t) None None w.1))
      | inr w ↦ rw w.0 (star (cases_Bool (c == 40)))
    ])
  where
    feed : (((e == 10) ≡ true) × ◌≡◌ {A = Option (List ℕ)} (Some t) None) ⊎ (((e == 10) ≡ false) × ◌≡◌ {A = Option (List ℕ)} None None) → behind_feed (e ∷ (t ++ 10 ∷ more)) ≡ None
    feed (inl w) = absurd (let f : ◌≡◌ {A = Option (List ℕ)} (Some t) None = w.1 in cc)
    feed (inr w) = rw w.0 refl

    star : ((c == 40) ≡ true) ⊎ ((c == 40) ≡ false) → cond (c == 40) (behind_star (e ∷ (t ++ 10 ∷ more))) None ≡ None
    star (inl w) = let f : (e == 42) ≡ false = rw w at n in rw (w, f) refl
    star (inr w) = rw w refl

some_behind : (t more : List ℕ) → [] ≡ t ++ 10 ∷ more → ⊥
some_behind [] more e = cc
some_behind (c ∷ t) more e = cc

-- the rest of a line that is the front of a gap may run on
pub runs_on : (rest left more : List ℕ) → IsBehindGap rest left → IsGap (rest ++ 10 ∷ more) → may_run_on left ≡ true
runs_on rest left more b g = elim (cases_Bool (may_run_on left)) [
  | inl h ↦ h
  | inr h ↦
      let split : (rest ++ 10 ∷ more) ++ [] ≡ b.0 ++ (left ++ 10 ∷ more) = append-nil (rest ++ 10 ∷ more) ∙ ap (λ x. x ++ 10 ∷ more) b.1 ∙ append_assoc b.0 left (10 ∷ more) in
      let e : [] ≡ left ++ 10 ∷ more = gap_unique (rest ++ 10 ∷ more) b.0 [] (left ++ 10 ∷ more) g b.2 refl (stuck left more b.3 h) split in
      absurd (some_behind left more e)
]

gap_behind : (left : List ℕ) → behind_space left ≡ None → may_run_on left ≡ true → (more : List ℕ) × IsGap (left ++ 10 ∷ more)
gap_behind [] h r = ([], IsGap-one (10 ∷ []) (inr (inr (inl (inl refl)))))
gap_behind (c ∷ []) h r =
    let e : c ≡ 13 = eqb-true c 13 r in
    ([], rw e (IsGap-one (13 ∷ 10 ∷ []) (inr (inr (inl (inr refl))))))
gap_behind (c ∷ e ∷ t) h r =
    let p = and_parts (c == 40) (e == 42) r in
    let a : c ≡ 40 = eqb-true c 40 p.0 in
    let b : e ≡ 42 = eqb-true e 42 p.1 in
    let none : behind_comment t ≡ None = rw (a, b) at h in
    let unended : ends_comment (t ++ 10 ∷ []) ≡ false = no_end_behind t (no_end t none) in
    let piece : 40 ∷ 42 ∷ (t ++ 10 ∷ 42 ∷ 41 ∷ []) ≡ 40 ∷ 42 ∷ ((t ++ 10 ∷ []) ++ 42 ∷ 41 ∷ []) = ap (λ x. 40 ∷ 42 ∷ x) (sym (append_assoc t (10 ∷ []) (42 ∷ 41 ∷ []))) in
    (42 ∷ 41 ∷ [], rw (a, b) (IsGap-one (40 ∷ 42 ∷ (t ++ 10 ∷ 42 ∷ 41 ∷ [])) (inr (inr (inr (t ++ 10 ∷ [], unended, piece))))))

-- what may run on is the front of a gap
pub front_of_gap : (rest left : List ℕ) → IsBehindGap rest left → may_run_on left ≡ true → (more : List ℕ) × IsGap (rest ++ 10 ∷ more)
front_of_gap rest left b r =
    let g = gap_behind left b.3 r in
    let e : rest ++ 10 ∷ g.0 ≡ b.0 ++ (left ++ 10 ∷ g.0) = ap (λ x. x ++ 10 ∷ g.0) b.1 ∙ append_assoc b.0 left (10 ∷ g.0) in
    (g.0, rw e (IsGap-append b.0 (left ++ 10 ∷ g.0) b.2 g.1))

letters_split : (t : List ℕ) → t ≡ letters t ++ drop (length (letters t)) t
letters_split [] = refl
letters_split (c ∷ t) = elim (cases_Bool (is_name_char c)) [
  | inl e ↦ subst (λ (x : List ℕ). c ∷ t ≡ x ++ drop (length x) (c ∷ t)) (sym (take_while-yes is_name_char c t e)) (ap (λ x. c ∷ x) (letters_split t))
  | inr e ↦ subst (λ (x : List ℕ). c ∷ t ≡ x ++ drop (length x) (c ∷ t)) (sym (take_while-no is_name_char c t e)) refl
]

-- a line that is found to be the line of END_PROGRAM is one
pub end_line_found : (line left behind : List ℕ) → IsBehindGap line left → keyword (letters left) ≡ Some key.EndProgram → IsBehindGap (drop (length (letters left)) left) behind → may_run_on behind ≡ true → IsEndLine line
end_line_found line left behind b k f r =
    let rest : List ℕ = drop (length (letters left)) left in
    let g = front_of_gap (drop (length (letters left)) left) behind f r in
    let e : line ≡ b.0 ++ letters left ++ drop (length (letters left)) left = b.1 ∙ ap (λ x. b.0 ++ x) (letters_split left) ∙ sym (append_assoc b.0 (letters left) (drop (length (letters left)) left)) in
    (b.0, letters left, drop (length (letters left)) left, g.0, e, b.2, keyword-word_of (letters left) key.EndProgram k, g.1)

-- a line of END_PROGRAM is found to be one
pub end_line_word : (line left : List ℕ) → IsBehindGap line left → IsEndLine line → keyword (letters left) ≡ Some key.EndProgram
end_line_word line left b l =
    let w = word_of-keyword l.1 key.EndProgram l.6 in
    let found = word_found line l.0 l.1 l.2 left key.EndProgram b l.4 l.5 w in
    let read : letters left ≡ l.1 = word_read l.1 l.2 left key.EndProgram found w (gap_no_letter l.2 l.3 l.7) in
    ap keyword read ∙ w

pub end_line_runs : (line left behind : List ℕ) → IsBehindGap line left → IsBehindGap (drop (length (letters left)) left) behind → IsEndLine line → may_run_on behind ≡ true
end_line_runs line left behind b f l =
    let w = word_of-keyword l.1 key.EndProgram l.6 in
    let found : left ≡ l.1 ++ l.2 = word_found line l.0 l.1 l.2 left key.EndProgram b l.4 l.5 w in
    let read : letters left ≡ l.1 = word_read l.1 l.2 left key.EndProgram found w (gap_no_letter l.2 l.3 l.7) in
    let rest : drop (length (letters left)) left ≡ l.2 = ap (λ x. drop (length x) left) read ∙ ap (λ x. drop (length l.1) x) found ∙ drop_at l.1 l.2 (length l.1) refl in
    let f' : IsBehindGap l.2 behind = subst (λ (x : List ℕ). IsBehindGap x behind) rest f in
    runs_on l.2 behind l.3 f' l.7

pub end_line_then : (line left word rest behind : List ℕ) (b : Bool) → IsBehindGap line left → word ≡ letters left → rest ≡ drop (length word) left → IsBehindGap rest behind
    → keyword word ≡ Some key.EndProgram → b ≡ may_run_on behind → (b ≡ true → IsEndLine line) × (IsEndLine line → b ≡ true)
end_line_then line left word rest behind b g ew er f k eb =
    let k' : keyword (letters left) ≡ Some key.EndProgram = subst (λ (x : List ℕ). keyword x ≡ Some key.EndProgram) ew k in
    let f' : IsBehindGap (drop (length (letters left)) left) behind = subst (λ (x : List ℕ). IsBehindGap x behind) (er ∙ ap (λ x. drop (length x) left) ew) f in
    (λ t. end_line_found line left behind g k' f' (sym eb ∙ t), λ l. eb ∙ end_line_runs line left behind g f' l)

pub end_line_else : (line left word : List ℕ) (b : Bool) → IsBehindGap line left → word ≡ letters left → (keyword word ≡ Some key.EndProgram → b ≡ true) → b ≡ false → (b ≡ true → IsEndLine line) × (IsEndLine line → b ≡ true)
end_line_else line left word b g ew k n =
    (λ t. absurd cc, λ l. k (subst (λ (x : List ℕ). keyword x ≡ Some key.EndProgram) (sym ew) (end_line_word line left g l)))

-- not a line feed
abbrev in_line : ℕ → Bool
in_line c = not (c == 10)

-- up to the line feed, there is none
pub first_line_one : (t : List ℕ) → is_one_line (first_line t) ≡ true
first_line_one [] = refl
first_line_one (c ∷ t) = elim (cases_Bool (c == 10)) [
  | inl e ↦ subst (λ (x : List ℕ). is_one_line x ≡ true) (sym (take_while-no in_line c t (ap not e))) refl
  | inr e ↦ subst (λ (x : List ℕ). is_one_line x ≡ true) (sym (take_while-yes in_line c t (ap not e))) (rw e (first_line_one t))
]

-- what stands behind the first line begins with a line feed
pub first_line_split : (t : List ℕ) (more : List ℕ) (c : ℕ) → drop (length (first_line t)) t ≡ c ∷ more → t ≡ first_line t ++ 10 ∷ more
first_line_split [] more c h = absurd cc
first_line_split (x ∷ t) more c h = elim (cases_Bool (x == 10)) [
  | inl e ↦
      let none : first_line (x ∷ t) ≡ [] = take_while-no in_line x t (ap not e) in
      let a : x ≡ 10 = eqb-true x 10 e in
      let g : x ∷ t ≡ c ∷ more = subst (λ (y : List ℕ). drop (length y) (x ∷ t) ≡ c ∷ more) none h in
      let m : x ∷ t ≡ 10 ∷ more = cc in
      subst (λ (y : List ℕ). x ∷ t ≡ y ++ 10 ∷ more) (sym none) m
  | inr e ↦
      let some : first_line (x ∷ t) ≡ x ∷ first_line t = take_while-yes in_line x t (ap not e) in
      let g : drop (length (first_line t)) t ≡ c ∷ more = subst (λ (y : List ℕ). drop (length y) (x ∷ t) ≡ c ∷ more) some h in
      subst (λ (y : List ℕ). x ∷ t ≡ y ++ 10 ∷ more) (sym some) (ap (λ y. x ∷ y) (first_line_split t more c g))
]

pub behind_first_line : (t d : List ℕ) → d ≡ drop (length (first_line t)) t → 1 ≤ length d → t ≡ first_line t ++ 10 ∷ take (length d - 1) (drop 1 d)
behind_first_line t [] e l = absurd (omega arith)
behind_first_line t (c ∷ more) e l =
    let long : length more ≤ suc (length more) - 1 = omega arith in
    let all : take (suc (length more) - 1) more ≡ more = take_all (suc (length more) - 1) more long in
    first_line_split t more c (sym e) ∙ ap (λ x. first_line t ++ 10 ∷ x) (sym all)

-- a body with one more line in front
pub IsBehindBody-more : (t more rest : List ℕ) → t ≡ first_line t ++ 10 ∷ more → (IsEndLine (first_line t) → ⊥) → IsBehindBody more rest → IsBehindBody t rest
IsBehindBody-more t more rest e n b =
    let line : List ℕ = first_line t in
    let whole : t ≡ (first_line t ++ 10 ∷ []) ++ b.0 ++ rest = e ∙ ap (λ x. first_line t ++ 10 ∷ x) b.1 ∙ sym (append_assoc (first_line t) (10 ∷ []) (b.0 ++ rest)) ∙ sym (append_assoc (first_line t ++ 10 ∷ []) b.0 rest) in
    ((first_line t ++ 10 ∷ []) ++ b.0, whole, (first_line t ∷ b.2.0, ap (λ x. (first_line t ++ 10 ∷ []) ++ x) b.2.1, ((first_line_one t, n), b.2.2)))

pub IsBehindBody-next : (t line more rest : List ℕ) (b : Bool) → line ≡ first_line t → (IsEndLine line → b ≡ true) → b ≡ false → t ≡ first_line t ++ 10 ∷ more → IsBehindBody more rest → IsBehindBody t rest
IsBehindBody-next t line more rest b el yes_ no_ e g =
    IsBehindBody-more t more rest e (λ l. let y : b ≡ true = yes_ (subst IsEndLine (sym el) l) in absurd cc) g

pub shorter_behind_line : (t more : List ℕ) → t ≡ first_line t ++ 10 ∷ more → length more < length t
shorter_behind_line t more e =
    let l : length t ≡ length (first_line t) + suc (length more) = ap length e ∙ length-append (first_line t) (10 ∷ more) in
    omega arith

pub IsBehindBody-here : (t : List ℕ) → IsBehindBody t t
IsBehindBody-here t = ([], refl, ([], refl, tt))

one_line_front : (a b : List ℕ) → is_one_line (a ++ b) ≡ true → is_one_line a ≡ true
one_line_front [] b h = refl
one_line_front (c ∷ a) b h = elim (cases_Bool (c == 10)) [
  | inl e ↦ absurd (let f : false ≡ true = rw e at h in cc)
  | inr e ↦ rw e (one_line_front a b (rw e at h))
]

last_is : (xs : List ℕ) (x : ℕ) → 0 < length xs → get_or xs (length xs - 1) 0 ≡ x → xs ≡ take (length xs - 1) xs ++ x ∷ []
last_is [] x l h = absurd (omega arith)
last_is (c ∷ []) x l h = ap (λ y. y ∷ []) h
last_is (c ∷ d ∷ xs) x l h =
    let n : suc (suc (length xs)) - 1 ≡ suc (suc (length xs) - 1) = omega arith in
    let here : get_or (d ∷ xs) (suc (length xs) - 1) 0 ≡ x = rw n at h in
    rw n (ap (λ y. c ∷ y) (last_is (d ∷ xs) x (omega arith) here))

return_last : (xs : List ℕ) → (get_or xs (length xs - 1) 0 == 13) ≡ true → xs ≡ take (length xs - 1) xs ++ 13 ∷ []
return_last [] h = absurd cc
return_last (c ∷ xs) h = last_is (c ∷ xs) 13 (omega arith) (eqb-true (get_or (c ∷ xs) (suc (length xs) - 1) 0) 13 h)

-- the rest of a line without a word
pub blank_line : (t rest : List ℕ) → IsGap (without_last 13 (first_line t)) → t ≡ first_line t ++ 10 ∷ rest → IsBlankLine t rest
blank_line t rest g e = go (first_line t) g (first_line_one t) e (cases_Bool (get_or (first_line t) (length (first_line t) - 1) 0 == 13))
  where
    go : (line : List ℕ) → IsGap (without_last 13 line) → is_one_line line ≡ true → t ≡ line ++ 10 ∷ rest → ((get_or line (length line - 1) 0 == 13) ≡ true) ⊎ ((get_or line (length line - 1) 0 == 13) ≡ false) → IsBlankLine t rest
    go line g one e (inl h) =
        let front : List ℕ = take (length line - 1) line in
        let l : line ≡ take (length line - 1) line ++ 13 ∷ [] = return_last line h in
        let is : t ≡ take (length line - 1) line ++ (13 ∷ 10 ∷ []) ++ rest = e ∙ ap (λ x. x ++ 10 ∷ rest) l ∙ append_assoc (take (length line - 1) line) (13 ∷ []) (10 ∷ rest) ∙ sym (append_assoc (take (length line - 1) line) (13 ∷ 10 ∷ []) rest) in
        let one' : is_one_line (take (length line - 1) line) ≡ true = one_line_front (take (length line - 1) line) (13 ∷ []) (subst (λ (x : List ℕ). is_one_line x ≡ true) l one) in
        (take (length line - 1) line, 13 ∷ 10 ∷ [], is, rw h at g, one', inr refl)
    go line g one e (inr h) =
        let is : t ≡ line ++ (10 ∷ []) ++ rest = e ∙ sym (append_assoc line (10 ∷ []) rest) in
        (line, 10 ∷ [], is, rw h at g, one, inl refl)

-- the keywords that begin a block
block_keywords : (k : Option Keyword) → begins_block k ≡ true → (k ≡ Some key.Var) ⊎ ((k ≡ Some key.VarInput) ⊎ (k ≡ Some key.VarOutput))
block_keywords (Some key.Var) h = inl refl
block_keywords (Some key.VarInput) h = inr (inl refl)
block_keywords (Some key.VarOutput) h = inr (inr refl)
block_keywords _ h = absurd cc

-- where the next word begins no block of variables, it is found to begin none
pub begins_none_found : (text left : List ℕ) → IsBehindGap text left → BeginsNoBlock text → begins_block (keyword (letters left)) ≡ false
begins_none_found text left b none = elim (cases_Bool (begins_block (keyword (letters left)))) [
  | inl h ↦
      let rest : List ℕ = drop (length (letters left)) left in
      let e : text ≡ b.0 ++ letters left ++ drop (length (letters left)) left = b.1 ∙ ap (λ x. b.0 ++ x) (letters_split left) ∙ sym (append_assoc b.0 (letters left) (drop (length (letters left)) left)) in
      let parted : is_parted (letters left) (drop (length (letters left)) left) ≡ true = run_parts (letters left) (drop (length (letters left)) left) (run_ends is_name_char left refl) in
      let no = none b.0 (letters left) (drop (length (letters left)) left) e b.2 parted in
      elim (block_keywords (keyword (letters left)) h) [
        | inl k ↦ absurd (no.0 (keyword-word_of (letters left) key.Var k))
        | inr (inl k) ↦ absurd (no.1 (keyword-word_of (letters left) key.VarInput k))
        | inr (inr k) ↦ absurd (no.2 (keyword-word_of (letters left) key.VarOutput k))
      ]
  | inr h ↦ h
]

-- behind a gap that is the whole text, nothing is left
pub gap_whole : (text left : List ℕ) → IsBehindGap text left → IsGap text → left ≡ []
gap_whole text left b g = sym (gap_unique text b.0 [] left g b.2 refl b.3 (append-nil text ∙ b.1))

abbrev last : List ℕ → ℕ
last [] = 0
last (x ∷ []) = x
last (x ∷ y ∷ more) = last (y ∷ more)

last_behind : (front : List ℕ) (y : ℕ) (more : List ℕ) → last (front ++ y ∷ more) ≡ last (y ∷ more)
last_behind [] y more = refl
last_behind (x ∷ []) y more = refl
last_behind (x ∷ z ∷ front) y more = last_behind (z ∷ front) y more

last_at : (xs : List ℕ) → get_or xs (length xs - 1) 0 ≡ last xs
last_at [] = refl
last_at (x ∷ []) = refl
last_at (x ∷ y ∷ more) =
    let n : suc (suc (length more)) - 1 ≡ suc (suc (length more) - 1) = omega arith in
    rw n (last_at (y ∷ more))

no_return_both : (p q : List ℕ) → (last p == 13) ≡ false → (last q == 13) ≡ false → (last (p ++ q) == 13) ≡ false
no_return_both p [] hp hq = rw (append-nil p) hp
no_return_both p (y ∷ more) hp hq = rw (last_behind p y more) hq

no_return_piece : (p : List ℕ) → IsSpace p → (last p == 13) ≡ false
no_return_piece p (inl h) = rw h refl
no_return_piece p (inr (inl h)) = rw h refl
no_return_piece p (inr (inr (inl (inl h)))) = rw h refl
no_return_piece p (inr (inr (inl (inr h)))) = rw h refl
no_return_piece p (inr (inr (inr h))) = rw (h.2, last_behind (40 ∷ 42 ∷ h.0) 42 (41 ∷ [])) refl

no_return_pieces : (ps : List (List ℕ)) → AllByRecursion IsSpace ps → (last (flat_map (λ piece. piece) ps) == 13) ≡ false
no_return_pieces [] all = refl
no_return_pieces (p ∷ ps) all = no_return_both p (flat_map (λ piece. piece) ps) (no_return_piece p all.0) (no_return_pieces ps all.1)

-- no gap ends with a carriage return
no_return : (g : List ℕ) → IsGap g → without_last 13 g ≡ g
no_return g ig =
    let none : (get_or g (length g - 1) 0 == 13) ≡ false = rw (last_at g, ig.2) (no_return_pieces ig.0 ig.1) in
    rw none refl

without_return : (front : List ℕ) → without_last 13 (front ++ 13 ∷ []) ≡ front
without_return front =
    let at : get_or (front ++ 13 ∷ []) (length (front ++ 13 ∷ []) - 1) 0 ≡ 13 = last_at (front ++ 13 ∷ []) ∙ last_behind front 13 [] in
    let n : length (front ++ 13 ∷ []) - 1 ≡ length front = omega (arith, length-append front (13 ∷ [])) in
    rw (at, n) (take-append_seam front (13 ∷ []))

pub first_line_at : (line more : List ℕ) → is_one_line line ≡ true → first_line (line ++ 10 ∷ more) ≡ line
first_line_at [] more h = take_while-no in_line 10 more refl
first_line_at (c ∷ line) more h = elim (cases_Bool (c == 10)) [
  | inl e ↦ absurd (let f : false ≡ true = rw e at h in cc)
  | inr e ↦ take_while-yes in_line c (line ++ 10 ∷ more) (ap not e) ∙ ap (λ x. c ∷ x) (first_line_at line more (rw e at h))
]

pub one_line_and : (line : List ℕ) → is_one_line line ≡ true → is_one_line (line ++ 13 ∷ []) ≡ true
one_line_and [] h = refl
one_line_and (c ∷ line) h = elim (cases_Bool (c == 10)) [
  | inl e ↦ absurd (let f : false ≡ true = rw e at h in cc)
  | inr e ↦ rw e (one_line_and line (rw e at h))
]

not_one_line : (front more : List ℕ) → is_one_line (front ++ 10 ∷ more) ≡ true → ⊥
not_one_line [] more h = cc
not_one_line (c ∷ front) more h = elim (cases_Bool (c == 10)) [
  | inl e ↦ let f : false ≡ true = rw e at h in cc
  | inr e ↦ not_one_line front more (rw e at h)
]

-- behind the only line, there is none
pub only_line : (t : List ℕ) → drop (length (first_line t)) t ≡ [] → is_one_line t ≡ true
only_line [] h = refl
only_line (c ∷ t) h = elim (cases_Bool (c == 10)) [
  | inl e ↦ absurd (let f : c ∷ t ≡ [] = subst (λ (y : List ℕ). drop (length y) (c ∷ t) ≡ []) (take_while-no in_line c t (ap not e)) h in cc)
  | inr e ↦ rw e (only_line t (subst (λ (y : List ℕ). drop (length y) (c ∷ t) ≡ []) (take_while-yes in_line c t (ap not e)) h))
]

-- the line of a blank line
pub blank_gap : (t rest : List ℕ) → IsBlankLine t rest → IsGap (without_last 13 (first_line t))
blank_gap t rest l = go l.5
  where
    go : (l.1 ≡ 10 ∷ []) ⊎ (l.1 ≡ 13 ∷ 10 ∷ []) → IsGap (without_last 13 (first_line t))
    go (inl h) =
        let is : t ≡ l.0 ++ 10 ∷ rest = l.2 ∙ ap (λ x. l.0 ++ x ++ rest) h ∙ append_assoc l.0 (10 ∷ []) rest in
        rw (is, first_line_at l.0 rest l.4, no_return l.0 l.3) l.3
    go (inr h) =
        let is : t ≡ (l.0 ++ 13 ∷ []) ++ 10 ∷ rest = l.2 ∙ ap (λ x. l.0 ++ x ++ rest) h ∙ append_assoc l.0 (13 ∷ 10 ∷ []) rest ∙ sym (append_assoc l.0 (13 ∷ []) (10 ∷ rest)) in
        rw (is, first_line_at (l.0 ++ 13 ∷ []) rest (one_line_and l.0 l.4), without_return l.0) l.3

pub not_blank : (t rest : List ℕ) → is_one_line t ≡ true → IsBlankLine t rest → ⊥
not_blank t rest one l = go l.5
  where
    go : (l.1 ≡ 10 ∷ []) ⊎ (l.1 ≡ 13 ∷ 10 ∷ []) → ⊥
    go (inl h) =
        let is : t ≡ l.0 ++ 10 ∷ rest = l.2 ∙ ap (λ x. l.0 ++ x ++ rest) h ∙ append_assoc l.0 (10 ∷ []) rest in
        not_one_line l.0 rest (rw is at one)
    go (inr h) =
        let is : t ≡ (l.0 ++ 13 ∷ []) ++ 10 ∷ rest = l.2 ∙ ap (λ x. l.0 ++ x ++ rest) h ∙ append_assoc l.0 (13 ∷ 10 ∷ []) rest ∙ sym (append_assoc l.0 (13 ∷ []) (10 ∷ rest)) in
        not_one_line (l.0 ++ 13 ∷ []) rest (rw is at one)

abbrev pub lines_text : List (List ℕ) → List ℕ
lines_text lines = flat_map (λ line. line ++ 10 ∷ []) lines

abbrev pub IsLine : List ℕ → Type 0
IsLine line = (is_one_line line ≡ true) × (IsEndLine line → ⊥)

pub first_of_lines : (line more rest : List ℕ) → ((line ++ 10 ∷ []) ++ more) ++ rest ≡ line ++ 10 ∷ (more ++ rest)
first_of_lines line more rest = append_assoc (line ++ 10 ∷ []) more rest ∙ append_assoc line (10 ∷ []) (more ++ rest)

-- a body without its first line
pub IsBehindBody-less : (t more r : List ℕ) → t ≡ first_line t ++ 10 ∷ more → (IsEndLine (first_line t) → ⊥) → IsBehindBody t r → IsEndLine (first_line r) → IsBehindBody more r
IsBehindBody-less t more r e n b f = go b.2.0 (b.1 ∙ ap (λ x. x ++ r) b.2.1) b.2.2
  where
    go : (lines : List (List ℕ)) → t ≡ lines_text lines ++ r → AllByRecursion IsLine lines → IsBehindBody more r
    go [] is all = absurd (n (subst (λ (x : List ℕ). IsEndLine (first_line x)) (sym is) f))
    go (line ∷ lines) is all =
        let whole : t ≡ line ++ 10 ∷ (lines_text lines ++ r) = is ∙ first_of_lines line (lines_text lines) r in
        let first : first_line t ≡ line = ap (λ x. first_line x) whole ∙ first_line_at line (lines_text lines ++ r) all.0.0 in
        let same : line ++ 10 ∷ (lines_text lines ++ r) ≡ line ++ 10 ∷ more = sym whole ∙ e ∙ ap (λ x. x ++ 10 ∷ more) first in
        let tails : 10 ∷ (lines_text lines ++ r) ≡ 10 ∷ more = append_cancel_left line (10 ∷ (lines_text lines ++ r)) (10 ∷ more) same in
        let tail : more ≡ lines_text lines ++ r = cc in
        (lines_text lines, tail, (lines, refl, all.1))

-- a text of one line has no body before a line of END_PROGRAM but the empty one
pub no_body_behind : (t r : List ℕ) → is_one_line t ≡ true → (IsEndLine (first_line t) → ⊥) → IsBehindBody t r → IsEndLine (first_line r) → ⊥
no_body_behind t r one n b f = go b.2.0 (b.1 ∙ ap (λ x. x ++ r) b.2.1)
  where
    go : (lines : List (List ℕ)) → t ≡ lines_text lines ++ r → ⊥
    go [] is = n (subst (λ (x : List ℕ). IsEndLine (first_line x)) (sym is) f)
    go (line ∷ lines) is = not_one_line line (lines_text lines ++ r) (rw (is ∙ first_of_lines line (lines_text lines) r) at one)

pub empty_of_length : (xs : List ℕ) → length xs < 1 → xs ≡ []
empty_of_length [] h = refl
empty_of_length (x ∷ xs) h = absurd (omega arith)

pub gap_both : (line left : List ℕ) (b : Bool) → IsBehindGap line left → b ≡ (length left == 0) → (b ≡ true → IsGap line) × (IsGap line → b ≡ true)
gap_both line [] b g is = (λ t. subst IsGap (sym (g.1 ∙ append-nil g.0)) g.2, λ gap. is)
gap_both line (c ∷ left) b g is = (λ t. let zero_long = eqb-true (length (c ∷ left)) 0 (sym is ∙ t) in absurd (omega (arith, zero_long)), λ gap. let none : c ∷ left ≡ [] = gap_whole line (c ∷ left) g gap in absurd cc)

pub not_end : (t line : List ℕ) (b : Bool) → line ≡ first_line t → (IsEndLine line → b ≡ true) → b ≡ false → IsEndLine (first_line t) → ⊥
not_end t line b el yes_ no_ l = let y : b ≡ true = yes_ (subst IsEndLine (sym el) l) in cc
