-- Names and VALUES are read as series.
use Rattle.std.proofs.Common.{◌≡◌, ℕ, ◌+◌, ◌<◌, ◌≤◌, ◌++◌, List, [], ◌∷◌, inl, inr, length, take, get_or, refl, sym, ap, ap₂, ◌∙◌, subst, arith}
use Rattle.std.proofs.lemmas.List.{append-nil, length-map, map-append, take_more}
use Rattle.std.proofs.lemmas.List.Concat.{flat_map-append}
use Rattle.std.proofs.lemmas.Option.{slice_get-get_or, same_Some}
use Rattle.std.specs.Borrow.{Bor}
use Rattle.std.specs.Prelude.{Some, slice_get}
use Rattle.std.specs.List.{AllZip, flat_map, slice_split}
use Rattle.lists.proofs.Zips.{zip_at, zip_push}
use Rattle.std_blocks.specs.declared.value.Value.{Value}
use Rattle.declared_names.specs.declared.declarations.Declaration.{Declaration}
use Rattle.declared_names.specs.declared.declarations.Kind.{Kind}
use Rattle.declared_names.specs.declared.declarations.Kind.TheVariants as kind
use Rattle.text_commands.specs.Rows.{texts}
use Rattle.text_commands.specs.Series.{ItemValue, AreItems, IsBad, IsItem, IsRefusedSeries, IsTimes, Says, given_by, is_comma, repeated}
use Rattle.text_commands.specs.Steps.Series.{bad_values}
use Rattle.text_commands.proofs.WordTexts.{word_at}

-- one part reads as nothing
pub no_part : {A : Type 0} (Reads : List ℕ → A → Type 0) (words : List (Bor (List ℕ))) (n : ℕ) (d : Bor (List ℕ)) → n < length words → ((x : A) → Reads (get_or words n d).now x → ⊥)
    → (xs : List A) → AllZip Reads (texts words) xs → ⊥
no_part Reads words n d lt never xs are =
    let long = length-map words (λ (w : Bor (List ℕ)). w.now) in
    let at : slice_get (texts words) n ≡ Some (get_or words n d).now = slice_get-get_or (texts words) n [] (omega arith) ∙ ap (λ w. Some w) (word_at words n d lt) in
    let found = zip_at Reads (texts words) xs are n (get_or words n d).now at in
    never found.0 found.2

-- one part more reads as something
pub one_part : {A : Type 0} (Reads : List ℕ → A → Type 0) (words : List (Bor (List ℕ))) (n : ℕ) (d : Bor (List ℕ)) (xs : List A) (x : A) → n < length words
    → AllZip Reads (take n (texts words)) xs → Reads (get_or words n d).now x → AllZip Reads (take (n + 1) (texts words)) (xs ++ x ∷ [])
one_part Reads words n d xs x lt before is =
    let long = length-map words (λ (w : Bor (List ℕ)). w.now) in
    let inside : n < length (texts words) = omega arith in
    rw (take_more (texts words) n [] inside, word_at words n d lt) (zip_push Reads (take n (texts words)) xs (get_or words n d).now x before is)

-- what stands between the commas of one word more
pub parts_more : (words : List (Bor (List ℕ))) (n : ℕ) (d : Bor (List ℕ)) (old more new : List (Bor (List ℕ))) → n < length words → texts old ≡ flat_map (slice_split is_comma) (take n (texts words))
    → texts more ≡ slice_split is_comma (get_or words n d).now → new ≡ old ++ more → texts new ≡ flat_map (slice_split is_comma) (take (n + 1) (texts words))
parts_more words n d old more new lt before is added =
    let long = length-map words (λ (w : Bor (List ℕ)). w.now) in
    let inside : n < length (texts words) = omega arith in
    let word = (get_or words n d).now in
    let parts = slice_split is_comma in
    let grown : flat_map parts (take n (texts words) ++ word ∷ []) ≡ flat_map parts (take n (texts words)) ++ parts word =
    flat_map-append parts (take n (texts words)) (word ∷ []) ∙ ap (λ l. flat_map parts (take n (texts words)) ++ l) (append-nil (parts word)) in
    rw (added, take_more (texts words) n [] inside, word_at words n d lt) (map-append (λ (w : Bor (List ℕ)). w.now) old more ∙ ap₂ (λ a b. a ++ b) before is ∙ sym grown)

one_saying : (k : Kind) (text : List ℕ) (a b : List Value) → Says k text a → Says k text b → a ≡ b
one_saying kind.Bool text a b one other = one.1 ∙ sym other.1
one_saying kind.Int text a b one other = let same = same_Some one.0 other.0 (sym one.1 ∙ other.1) in let e = one.2 in let f = other.2 in cc
one_saying kind.Time text a b one other = let same = same_Some one.0 other.0 (sym one.1 ∙ other.1) in let e = one.2 in let f = other.2 in cc

one_count : (text : List ℕ) (m n : ℕ) → IsTimes text m → IsTimes text n → m ≡ n
one_count text m n (inl one) (inl other) = same_Some m n (sym one.1.value ∙ other.1.value)
one_count text m n (inl one) (inr other) = absurd (other.0 one.0)
one_count text m n (inr one) (inl other) = absurd (one.0 other.0)
one_count text m n (inr one) (inr other) = one.1 ∙ sym other.1

-- a text spells items that give these values alone
pub one_giving : (k : Kind) (parts : List (List ℕ)) (xs ys : List ItemValue) → AllZip (IsItem k) parts xs → AllZip (IsItem k) parts ys → given_by xs ≡ given_by ys
one_giving k [] [] [] one other = refl
one_giving k [] [] (y ∷ ys) one other = absurd other
one_giving k [] (x ∷ xs) ys one other = absurd one
one_giving k (part ∷ parts) [] ys one other = absurd one
one_giving k (part ∷ parts) (x ∷ xs) [] one other = absurd other
one_giving k (part ∷ parts) (x ∷ xs) (y ∷ ys) one other =
    let once = one_saying k _ x.once y.once one.0.says other.0.says in
    let times = one_count part x.times y.times one.0.times other.0.times in
    ap₂ (λ a b. a ++ b) (ap₂ repeated times once) (one_giving k parts xs ys one.1 other.1)

-- where the items that a text spells give too many values it spells no items
pub too_many : (k : Kind) (text : List ℕ) (parts : List (List ℕ)) (items others : List ItemValue) → parts ≡ slice_split is_comma text → AllZip (IsItem k) parts items
    → (length (given_by items) ≤ 1000000 → ⊥) → AreItems k text others → ⊥
too_many k text parts items others same mine many are =
    let each = subst (λ l. AllZip (IsItem k) l others) (sym same) are.each in
    many (subst (λ l. length l ≤ 1000000) (one_giving k parts others items each mine) are.few)

-- values of the kind are wrong
pub bad_refused : (k : Kind) (ds : List Declaration) (name text : List ℕ) → IsBad k ds name text → IsRefusedSeries ds [] name text (bad_values k)
bad_refused kind.Bool ds name text bad = bad
bad_refused kind.Int ds name text bad = bad
bad_refused kind.Time ds name text bad = bad
