-- The words of a test are read one after the other.
use Rattle.std.proofs.Common.{◌≡◌, ℕ, ◌+◌, ◌<◌, ◌++◌, inl, inr, List, [], ◌∷◌, Bool, true, false, length, take, get_or, refl, sym, ap, ◌∙◌, subst, subst₂, arith}
use Rattle.std.proofs.lemmas.List.{append-nil, take_more, length-map}
use Rattle.std.proofs.lemmas.List.Elements.{filter-append}
use Rattle.std.proofs.lemmas.Option.{slice_get-get_or}
use Rattle.std.specs.Borrow.{Bor}
use Rattle.std.specs.Prelude.{All, Some, not, slice_get}
use Rattle.std.specs.List.{AllZip, filter}
use Rattle.lists.proofs.Zips.{zip_back, zip_push}
use Rattle.declared_names.specs.declared.declarations.Declaration.{Declaration}
use Rattle.text_commands.specs.declared.word_fault.WordFault.{WordFault}
use Rattle.text_commands.specs.declared.text_command_fault.TextCommandFault.{TextCommandFault}
use Rattle.text_commands.specs.declared.text_command_fault.TextCommandFault.TheVariants.{Text, Word, Write, Memory}
use Rattle.text_commands.specs.Rows.{name_in, texts}
use Rattle.text_commands.specs.Series.{SeriesValue, IsOfVariable, IsSetting}
use Rattle.text_commands.specs.Expectations.{IsExpected, IsFirstRefusedOf, IsRefusedBehind, SpellTest, expected_in, is_expectation}
use Rattle.text_commands.specs.Steps.Testing.{AddsWord, IsNewPlace, RefusesWord, RefusesTest}
use Rattle.text_commands.proofs.WordTexts.{word_at}
use Rattle.text_commands.proofs.SettingWords.{apart_more, series_of_variable, settings_of_variables}

one_in : {X : Type 0} (p : X → Bool) (x : X) → p x ≡ true → filter p (x ∷ []) ≡ x ∷ []
one_in p x e = rw e refl

one_out : {X : Type 0} (p : X → Bool) (x : X) → p x ≡ false → filter p (x ∷ []) ≡ []
one_out p x e = rw e refl

filter_in : {X : Type 0} (p : X → Bool) (xs : List X) (x : X) → p x ≡ true → filter p (xs ++ x ∷ []) ≡ filter p xs ++ x ∷ []
filter_in p xs x e = filter-append p xs (x ∷ []) ∙ ap (λ l. filter p xs ++ l) (one_in p x e)

filter_out : {X : Type 0} (p : X → Bool) (xs : List X) (x : X) → p x ≡ false → filter p (xs ++ x ∷ []) ≡ filter p xs
filter_out p xs x e = filter-append p xs (x ∷ []) ∙ ap (λ l. filter p xs ++ l) (one_out p x e) ∙ append-nil (filter p xs)

add_row : (ds : List Declaration) (ws : List (List ℕ)) (w : List ℕ) (rows expected : List SeriesValue) (row : SeriesValue) → SpellTest ds ws rows expected → is_expectation w ≡ false → IsSetting ds w row
    → IsNewPlace rows row.place → SpellTest ds (ws ++ w ∷ []) (rows ++ row ∷ []) expected
add_row ds ws w rows expected row test is row_is new = record {
  set = record {
    each = subst (λ l. AllZip (IsSetting ds) l (rows ++ row ∷ [])) (sym (filter_in (λ v. not (is_expectation v)) ws w (ap not is))) (zip_push (IsSetting ds) _ rows w row test.set.each row_is);
    apart = apart_more rows row test.set.apart new;
  };
  each = subst (λ l. AllZip (IsExpected ds) l expected) (sym (filter_out (λ v. is_expectation v) ws w is)) test.each;
  apart = test.apart;
}

add_expectation : (ds : List Declaration) (ws : List (List ℕ)) (w : List ℕ) (rows expected : List SeriesValue) (row : SeriesValue) → SpellTest ds ws rows expected → is_expectation w ≡ true → IsExpected ds w row
    → IsNewPlace expected row.place → SpellTest ds (ws ++ w ∷ []) rows (expected ++ row ∷ [])
add_expectation ds ws w rows expected row test is row_is new = record {
  set = record {
    each = subst (λ l. AllZip (IsSetting ds) l rows) (sym (filter_out (λ v. not (is_expectation v)) ws w (ap not is))) test.set.each;
    apart = test.set.apart;
  };
  each = subst (λ l. AllZip (IsExpected ds) l (expected ++ row ∷ [])) (sym (filter_in (λ v. is_expectation v) ws w is)) (zip_push (IsExpected ds) _ expected w row test.each row_is);
  apart = apart_more expected row test.apart new;
}

-- one word more was read
pub word_added : (ds : List Declaration) (words : List (Bor (List ℕ))) (n : ℕ) (d : Bor (List ℕ)) (rows expected rows' expected' : List SeriesValue) → n < length words
    → SpellTest ds (take n (texts words)) rows expected → AddsWord ds (get_or words n d).now rows expected rows' expected' → SpellTest ds (take (n + 1) (texts words)) rows' expected'
word_added ds words n d rows expected rows' expected' lt test adds =
    let texts-long = length-map words (λ (w : Bor (List ℕ)). w.now) in
    let inside : n < length (texts words) = omega arith in
    let w = (get_or words n d).now in
    let ws = take n (texts words) in
    let more : take (n + 1) (texts words) ≡ ws ++ w ∷ [] = take_more (texts words) n [] inside ∙ ap (λ v. ws ++ v ∷ []) (word_at words n d lt) in
    let made : SpellTest ds (ws ++ w ∷ []) rows' expected' = elim adds [
      | inl one ↦ subst₂ (λ r e. SpellTest ds (ws ++ w ∷ []) r e) (sym one.1) (sym one.5) (add_expectation ds ws w rows expected one.2 test one.0 one.3 one.4)
      | inr one ↦ subst₂ (λ r e. SpellTest ds (ws ++ w ∷ []) r e) (sym one.5) (sym one.1) (add_row ds ws w rows expected one.2 test one.0 one.3 one.4)
    ] in
    subst (λ l. SpellTest ds l rows' expected') (sym more) made

-- the words before were read, and this one is refused
first_refused_of : (ds : List Declaration) (words : List (Bor (List ℕ))) (n : ℕ) (d : Bor (List ℕ)) (rows expected : List SeriesValue) (fault : WordFault) → n < length words
    → SpellTest ds (take n (texts words)) rows expected → fault.number ≡ n → IsRefusedBehind ds rows expected (get_or words n d).now fault.kind → IsFirstRefusedOf ds (texts words) fault
first_refused_of ds words n d rows expected fault lt test is refused =
    let texts-long = length-map words (λ (w : Bor (List ℕ)). w.now) in
    let inside : n < length (texts words) = omega arith in
    let at : slice_get (texts words) n ≡ Some (get_or words n d).now = slice_get-get_or (texts words) n [] inside ∙ ap (λ w. Some w) (word_at words n d lt) in
    record {
      word = (get_or words n d).now;
      at = subst (λ m. slice_get (texts words) m ≡ Some (get_or words n d).now) (sym is) at;
      rows = rows;
      expected = expected;
      before = subst (λ m. SpellTest ds (take m (texts words)) rows expected) (sym is) test;
      refused = refused;
    }

pub test_refused : (ds : List Declaration) (words : List (Bor (List ℕ))) (n : ℕ) (d : Bor (List ℕ)) (rows expected : List SeriesValue) (fault : TextCommandFault) → n < length words
    → SpellTest ds (take n (texts words)) rows expected → RefusesWord (IsRefusedBehind ds rows expected (get_or words n d).now) n fault → RefusesTest ds (texts words) fault
test_refused ds words n d rows expected (Text fault) lt test refused = refused
test_refused ds words n d rows expected (Word fault) lt test refused = first_refused_of ds words n d rows expected fault lt test refused.0 refused.1
test_refused ds words n d rows expected Write lt test refused = refused
test_refused ds words n d rows expected Memory lt test refused = tt

-- no word is read yet
pub none_read : (ds : List Declaration) (words : List (List ℕ)) (rows expected : List SeriesValue) → rows ≡ [] → expected ≡ [] → SpellTest ds (take 0 words) rows expected
none_read ds words rows expected no_rows none = rw (no_rows, none) (record { set = record { each = tt; apart = λ j k d jt kt same. absurd (omega arith) }; each = tt; apart = λ j k d jt kt same. absurd (omega arith) })

-- what is set and what is expected is of variables that are declared
pub rows_declared : (ds : List Declaration) (words : List (List ℕ)) (rows expected : List SeriesValue) → SpellTest ds words rows expected → All (IsOfVariable ds) rows
rows_declared ds words rows expected test = settings_of_variables ds _ rows test.set

pub expected_declared : (ds : List Declaration) (words : List (List ℕ)) (rows expected : List SeriesValue) → SpellTest ds words rows expected → All (IsOfVariable ds) expected
expected_declared ds words rows expected test k d lt =
    let found = zip_back (IsExpected ds) (filter is_expectation words) expected test.each k (get_or expected k d) (slice_get-get_or expected k d lt) in
    series_of_variable ds (name_in found.0) (expected_in found.0) (get_or expected k d) found.2
