-- Lists that are written item by item.
use Rattle.std.proofs.Common.{◌≡◌, ℕ, ◌+◌, ◌<◌, ◌≤◌, ◌==◌, false, List, [], ◌∷◌, ◌++◌, map, take, length, get_or, refl, sym, ap, ◌∙◌, append_assoc, arith, zero, suc}
use Rattle.std.specs.List.{join_with_byte, zip}
use Rattle.std.proofs.lemmas.Bool.{ne_eqb}
use Rattle.task_codes.specs.declared.task_output.TaskOutput.{TaskOutput}
use Rattle.declared_names.specs.declared.declarations.Kind.TheVariants as kind
use Rattle.std.proofs.lemmas.List.{take_more, take_all, map-append}
use Rattle.text_lines.specs.Steps.Gaps.{gap_before}
use Rattle.text_lines.specs.Lists.{list_text}

-- the blank before an item, but for the first
abbrev pub gap : List (List ℕ) → List ℕ
gap [] = []
gap (item ∷ items) = 32 ∷ []

-- items, and one more behind them
pub join-push : (items : List (List ℕ)) (item : List ℕ) → join_with_byte 32 (items ++ item ∷ []) ≡ join_with_byte 32 items ++ gap items ++ item
join-push [] item = refl
join-push (x ∷ []) item = sym (append_assoc x (32 ∷ []) item)
join-push (x ∷ y ∷ items) item =
    let more = join-push (y ∷ items) item in
    ap (λ l. x ++ 32 ∷ l) more
    ∙ sym (ap (λ l. l ++ item) (append_assoc x (32 ∷ join_with_byte 32 (y ∷ items)) (32 ∷ [])) ∙ append_assoc x (32 ∷ join_with_byte 32 (y ∷ items) ++ 32 ∷ []) item)

-- one more item
pub item_more : {A : Type 0} (f : A → List ℕ) (xs : List A) (n : ℕ) (d : A) (line more : List ℕ) → n < length xs → line ≡ more ++ join_with_byte 32 (map f (take n xs))
    → line ++ gap_before n ++ f (get_or xs n d) ≡ more ++ join_with_byte 32 (map f (take (n + 1) xs))
item_more f [] n d line more lt e = absurd (omega (arith, lt))
item_more f (x ∷ xs) zero d line more lt e = ap (λ l. (l ++ []) ++ f x) e ∙ append_assoc (more ++ []) [] (f x) ∙ append_assoc more [] (f x)
item_more f (x ∷ xs) (suc k) d line more lt e =
    let grown : map f (take (suc k + 1) (x ∷ xs)) ≡ map f (take (suc k) (x ∷ xs)) ++ f (get_or (x ∷ xs) (suc k) d) ∷ [] =
    ap (map f) (take_more (x ∷ xs) (suc k) d lt) ∙ map-append f (take (suc k) (x ∷ xs)) (get_or (x ∷ xs) (suc k) d ∷ []) in
    let items = map f (take (suc k) (x ∷ xs)) in
    let item = f (get_or (x ∷ xs) (suc k) d) in
    let later : (suc k == 0) ≡ false = ne_eqb (suc k) 0 (λ z. omega (arith, z)) in
    rw later (ap (λ l. l ++ 32 ∷ [] ++ item) e
    ∙ ap (λ l. l ++ item) (append_assoc more (join_with_byte 32 items) (32 ∷ []))
    ∙ append_assoc more (join_with_byte 32 items ++ 32 ∷ []) item
    ∙ ap (λ l. more ++ l) (sym (ap (join_with_byte 32) grown ∙ join-push items item)))

-- all items
pub all_items : {A : Type 0} (f : A → List ℕ) (xs : List A) (n : ℕ) (line more : List ℕ) → length xs ≤ n → 0 < length xs → line ≡ more ++ join_with_byte 32 (map f (take n xs)) → line ≡ more ++ list_text (map f xs)
all_items f [] n line more many pos e = absurd (omega (arith, pos))
all_items f (x ∷ xs) n line more many pos e = e ∙ ap (λ l. more ++ join_with_byte 32 (map f l)) (take_all n (x ∷ xs) many)

pub length-zip : {A B : Type 0} (xs : List A) (ys : List B) → length ys ≡ length xs → length (zip xs ys) ≡ length ys
length-zip [] [] e = refl
length-zip [] (y ∷ ys) e = absurd (omega (arith, e))
length-zip (x ∷ xs) [] e = absurd (omega (arith, e))
length-zip (x ∷ xs) (y ∷ ys) e = let rest : length (zip xs ys) ≡ length ys = length-zip xs ys (omega (arith, e)) in omega (arith, rest)

pub get_or-zip : {A B : Type 0} (xs : List A) (ys : List B) (n : ℕ) (d : A) (v : B) → length ys ≡ length xs → n < length ys → get_or (zip xs ys) n (d, v) ≡ (get_or xs n d, get_or ys n v)
get_or-zip [] [] n d v e lt = absurd (omega (arith, lt))
get_or-zip [] (y ∷ ys) n d v e lt = absurd (omega (arith, e))
get_or-zip (x ∷ xs) [] n d v e lt = absurd (omega (arith, e))
get_or-zip (x ∷ xs) (y ∷ ys) zero d v e lt = refl
get_or-zip (x ∷ xs) (y ∷ ys) (suc n) d v e lt = get_or-zip xs ys n d v (omega (arith, e)) (omega (arith, lt))

pub not_empty : {A : Type 0} (xs : List A) → (length xs == 0) ≡ false → 0 < length xs
not_empty [] e = absurd cc
not_empty (x ∷ xs) e = omega arith

-- an output to fill in
abbrev pub no_output : TaskOutput
no_output = record { program = 0; place = 0; kind = kind.Bool }
