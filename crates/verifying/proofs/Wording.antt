-- Words are written one after the other.
use Rattle.std.proofs.Common.{◌≡◌, ℕ, ◌+◌, ◌<◌, ◌≤◌, ◌++◌, List, [], ◌∷◌, Bool, true, false, Option, length, take, get_or, map, slice_get, unwrap_or, codes, refl, sym, ap, ◌∙◌, arith, zero, suc, append_assoc}
use Rattle.std.specs.Prelude.{if◌then◌else◌}
use Rattle.std.specs.List.{enumerate_from, flat_map}
use Rattle.std.proofs.lemmas.List.{append-nil, flat_map_more, take_all, take_more}
use Rattle.declared_names.specs.declared.declarations.Declaration.{Declaration}
use Rattle.verifying.specs.Runs.{restarts_in}
use Rattle.verifying.specs.VerdictLines.{digit_of, digits_of_free, free_words, input_word, name_at, restart_scans}

map_push : {X Y : Type 0} (f : X → Y) (xs : List X) (x : X) → map f (xs ++ x ∷ []) ≡ map f xs ++ f x ∷ []
map_push f [] x = refl
map_push f (y ∷ xs) x = ap (λ t. f y ∷ t) (map_push f xs x)

value_or : (row : List Bool) (k : ℕ) → unwrap_or (slice_get row k) false ≡ get_or row k false
value_or [] k = refl
value_or (x ∷ row) zero = refl
value_or (x ∷ row) (suc k) = value_or row k

-- one more digit of a free input
pub digit_step : (rows : List (List Bool)) (input i : ℕ) (d : List Bool) (on : Bool) (found : Option Bool) (init old new : List ℕ) → i < length rows
    → found ≡ slice_get (get_or rows i d) input → on ≡ unwrap_or found false → old ≡ init ++ digits_of_free (take i rows) input → new ≡ old ++ digit_of on ∷ []
    → new ≡ init ++ digits_of_free (take (i + 1) rows) input
digit_step rows input i d on found init old new within is on_is before added =
    let value : on ≡ get_or (get_or rows i d) input false = on_is ∙ ap (λ o. unwrap_or o false) is ∙ value_or (get_or rows i d) input in
    let digits = digits_of_free (take i rows) input in
    let more : digits_of_free (take (i + 1) rows) input ≡ digits ++ digit_of (get_or (get_or rows i d) input false) ∷ []
    = ap (λ t. digits_of_free t input) (take_more rows i d within) ∙ map_push (λ (row : List Bool). digit_of (get_or row input false)) (take i rows) (get_or rows i d) in
    added ∙ ap (λ t. t ++ digit_of on ∷ []) before ∙ append_assoc init digits (digit_of on ∷ []) ∙ ap (λ b. init ++ (digits ++ digit_of b ∷ [])) value ∙ ap (λ t. init ++ t) (sym more)

length-numbered : {X : Type 0} (n : ℕ) (xs : List X) → length (enumerate_from n xs) ≡ length xs
length-numbered n [] = refl
length-numbered n (x ∷ xs) = ap suc (length-numbered (n + 1) xs)

numbered_at : {X : Type 0} (n : ℕ) (xs : List X) (i : ℕ) (d : X) → i < length xs → get_or (enumerate_from n xs) i (0, d) ≡ (n + i, get_or xs i d)
numbered_at n [] i d within = absurd (omega arith)
numbered_at n (x ∷ xs) zero d within = let e : n ≡ n + 0 = omega arith in ap (λ m. (m, x)) e
numbered_at n (x ∷ xs) (suc i) d within =
    let e : (n + 1) + i ≡ n + suc i = omega arith in
    numbered_at (n + 1) xs i d (omega arith) ∙ ap (λ m. (m, get_or xs i d)) e

word_whole : (name digits : List ℕ) → input_word name [] ++ digits ≡ input_word name digits
word_whole name digits = ap (λ t. t ++ digits) (append-nil (codes " " ++ name ++ codes "="))

-- one more word of a free input
pub words_step : (ds : List Declaration) (free : List ℕ) (rows : List (List Bool)) (i d : ℕ) (init old mid new : List ℕ) → i < length free
    → old ≡ init ++ flat_map (λ (e : ℕ × ℕ). input_word (name_at ds e.1) (digits_of_free rows e.0)) (take i (enumerate_from 0 free))
    → mid ≡ old ++ input_word (name_at ds (get_or free i d)) [] → new ≡ mid ++ digits_of_free rows i
    → new ≡ init ++ flat_map (λ (e : ℕ × ℕ). input_word (name_at ds e.1) (digits_of_free rows e.0)) (take (i + 1) (enumerate_from 0 free))
words_step ds free rows i d init old mid new within before named digits =
    let word : ℕ × ℕ → List ℕ = λ e. input_word (name_at ds e.1) (digits_of_free rows e.0) in
    let numbered = enumerate_from 0 free in
    let long = length-numbered 0 free in
    let name = name_at ds (get_or free i d) in
    let inside : i < length numbered = omega arith in
    let same : 0 + i ≡ i = omega arith in
    let at : get_or numbered i (0, d) ≡ (i, get_or free i d) = numbered_at 0 free i d within ∙ ap (λ m. (m, get_or free i d)) same in
    let more : take (i + 1) numbered ≡ take i numbered ++ (i, get_or free i d) ∷ [] = take_more numbered i (0, d) inside ∙ ap (λ e. take i numbered ++ e ∷ []) at in
    digits ∙ ap (λ t. t ++ digits_of_free rows i) named ∙ append_assoc old (input_word name []) (digits_of_free rows i)
    ∙ ap (λ t. old ++ t) (word_whole name (digits_of_free rows i)) ∙ ap (λ t. t ++ word (i, get_or free i d)) before
    ∙ flat_map_more word init (take i numbered) (i, get_or free i d) ∙ ap (λ t. init ++ flat_map word t) (sym more)

-- all words of free inputs
pub words_done : (ds : List Declaration) (free : List ℕ) (rows : List (List Bool)) (i : ℕ) (init old : List ℕ) → length free ≤ i
    → old ≡ init ++ flat_map (λ (e : ℕ × ℕ). input_word (name_at ds e.1) (digits_of_free rows e.0)) (take i (enumerate_from 0 free))
    → old ≡ init ++ free_words ds free rows
words_done ds free rows i init old past before =
    let word : ℕ × ℕ → List ℕ = λ e. input_word (name_at ds e.1) (digits_of_free rows e.0) in
    let long = length-numbered 0 free in
    before ∙ ap (λ t. init ++ flat_map word t) (take_all i (enumerate_from 0 free) (omega arith))

-- the scan of one more row, if the run restarts before it
scan_step : (inputs : ℕ) (rows : List (List Bool)) (k : ℕ) (d : List Bool) (old new : List ℕ) → k < length rows
    → old ≡ flat_map (λ (e : ℕ × List Bool). if restarts_in inputs e.1 then e.0 ∷ [] else []) (take k (enumerate_from 1 rows))
    → new ≡ old ++ (if restarts_in inputs (get_or rows k d) then (1 + k) ∷ [] else [])
    → new ≡ flat_map (λ (e : ℕ × List Bool). if restarts_in inputs e.1 then e.0 ∷ [] else []) (take (k + 1) (enumerate_from 1 rows))
scan_step inputs rows k d old new within before added =
    let scan : ℕ × List Bool → List ℕ = λ e. if restarts_in inputs e.1 then e.0 ∷ [] else [] in
    let numbered = enumerate_from 1 rows in
    let long = length-numbered 1 rows in
    let inside : k < length numbered = omega arith in
    let here : ℕ × List Bool = (1 + k, get_or rows k d) in
    let more : take (k + 1) numbered ≡ take k numbered ++ here ∷ [] = take_more numbered k (0, d) inside ∙ ap (λ e. take k numbered ++ e ∷ []) (numbered_at 1 rows k d within) in
    added ∙ ap (λ t. t ++ scan here) before ∙ flat_map_more scan [] (take k numbered) here ∙ ap (flat_map scan) (sym more)

pub scan_pushed : (inputs : ℕ) (rows : List (List Bool)) (k : ℕ) (d : List Bool) (old new : List ℕ) → k < length rows → restarts_in inputs (get_or rows k d) ≡ true
    → old ≡ flat_map (λ (e : ℕ × List Bool). if restarts_in inputs e.1 then e.0 ∷ [] else []) (take k (enumerate_from 1 rows)) → new ≡ old ++ (k + 1) ∷ []
    → new ≡ flat_map (λ (e : ℕ × List Bool). if restarts_in inputs e.1 then e.0 ∷ [] else []) (take (k + 1) (enumerate_from 1 rows))
scan_pushed inputs rows k d old new within on before added =
    let e : k + 1 ≡ 1 + k = omega arith in
    scan_step inputs rows k d old new within before
    (added ∙ ap (λ n. old ++ n ∷ []) e ∙ ap (λ b. old ++ (if b then (1 + k) ∷ [] else [])) (sym on))

pub scan_same : (inputs : ℕ) (rows : List (List Bool)) (k : ℕ) (d : List Bool) (old new : List ℕ) → k < length rows → restarts_in inputs (get_or rows k d) ≡ false
    → old ≡ flat_map (λ (e : ℕ × List Bool). if restarts_in inputs e.1 then e.0 ∷ [] else []) (take k (enumerate_from 1 rows)) → new ≡ old
    → new ≡ flat_map (λ (e : ℕ × List Bool). if restarts_in inputs e.1 then e.0 ∷ [] else []) (take (k + 1) (enumerate_from 1 rows))
scan_same inputs rows k d old new within off before same =
    scan_step inputs rows k d old new within before
    (same ∙ sym (append-nil old) ∙ ap (λ b. old ++ (if b then (1 + k) ∷ [] else [])) (sym off))

pub scans_done : (inputs : ℕ) (rows : List (List Bool)) (k : ℕ) (old : List ℕ) → length rows ≤ k
    → old ≡ flat_map (λ (e : ℕ × List Bool). if restarts_in inputs e.1 then e.0 ∷ [] else []) (take k (enumerate_from 1 rows)) → old ≡ restart_scans inputs rows
scans_done inputs rows k old past before =
    let long = length-numbered 1 rows in
    before ∙ ap (flat_map (λ (e : ℕ × List Bool). if restarts_in inputs e.1 then e.0 ∷ [] else [])) (take_all k (enumerate_from 1 rows) (omega arith))
