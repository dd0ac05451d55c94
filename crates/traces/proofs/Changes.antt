-- What a reader makes of the lines behind a head.
use Rattle.std.proofs.Common.{◌≡◌, ℕ, ◌^◌, ◌<◌, ◌≤◌, Bool, true, false, cond, ◌&&◌, List, [], ◌∷◌, ◌++◌, Option, Some, None, bytes_eq, codes, decimal, fold, nat_le, refl, ap, ◌∙◌, subst, append_assoc, arith}
use Rattle.std.specs.Fmt.{digits}
use Rattle.std.specs.Int.{w16, cast_unsigned}
use Rattle.std.proofs.lemmas.Bool.{eqb-true}
use Rattle.std.proofs.lemmas.Bool.Decides.{Decides-int_eq, nat_tests}
use Rattle.std.proofs.lemmas.Fmt.{decimal_is_IsNumeral}
use Rattle.std_blocks.specs.declared.value.Value.{Value}
use Rattle.std_blocks.specs.declared.value.Value.TheVariants.{Bool as BoolValue, Int as IntValue, Time as TimeValue}
use Rattle.traces.specs.Laws.{bits_of}
use Rattle.traces.specs.Reader.{Shown, show, words_of}
use Rattle.traces.specs.Tracks.{is_same}
use Rattle.traces.specs.ValueChanges.{change_line, time_line, value_line}
use Rattle.traces.proofs.Words.{IsOneWord, code_word, digits_word, longer_word, word_then}

-- between two lines: the time, and the digits that are shown
abbrev pub state : ℕ → Option (List ℕ) → Shown
state time shown = record { time = time; in_order = true; comment = false; pending = None; digits = shown }

-- a text turns what is shown so, whatever follows
pub record Turns (looked : List ℕ) (at : ℕ) (text : List ℕ) (s next : Shown) : Type 0 where
  pub words : (rest : List ℕ) → fold (show looked at) s (words_of (text ++ rest)) ≡ fold (show looked at) next (words_of rest)

-- the digits of a value
abbrev pub digits_text : Value → List ℕ
digits_text (BoolValue on) = cond on (codes "1") (codes "0")
digits_text (IntValue n) = digits 2 false (cast_unsigned w16 n)
digits_text (TimeValue t) = digits 2 false t

abbrev pub code_of : ℕ → List ℕ
code_of j = 118 ∷ decimal j

-- values that are told the same
same_value : (u v : Value) → is_same u v ≡ true → u ≡ v
same_value (BoolValue true) (BoolValue true) e = refl
same_value (BoolValue true) (BoolValue false) e = absurd (let f : false ≡ true = e in cc)
same_value (BoolValue false) (BoolValue true) e = absurd (let f : false ≡ true = e in cc)
same_value (BoolValue false) (BoolValue false) e = refl
same_value (BoolValue on) (IntValue n) e = absurd (let f : false ≡ true = e in cc)
same_value (BoolValue on) (TimeValue t) e = absurd (let f : false ≡ true = e in cc)
same_value (IntValue n) (BoolValue on) e = absurd (let f : false ≡ true = e in cc)
same_value (IntValue n) (IntValue m) e = ap IntValue ((Decides-int_eq n m).0 e)
same_value (IntValue n) (TimeValue t) e = absurd (let f : false ≡ true = e in cc)
same_value (TimeValue t) (BoolValue on) e = absurd (let f : false ≡ true = e in cc)
same_value (TimeValue t) (IntValue n) e = absurd (let f : false ≡ true = e in cc)
same_value (TimeValue t) (TimeValue s) e = ap TimeValue (eqb-true t s e)

module _ (looked : List ℕ) (at : ℕ) where
  pub keeps : (s : Shown) → Turns looked at [] s s
  keeps s = record { words = λ rest. refl }

  pub turn_after : (a b : List ℕ) (s t u : Shown) → Turns looked at a s t → Turns looked at b t u → Turns looked at (a ++ b) s u
  turn_after a b s t u first second = record {
    words = λ rest. ap (λ l. fold (show looked at) s (words_of l)) (append_assoc a b rest) ∙ first.words (b ++ rest) ∙ second.words rest;
  }

  pub time_turns : (now time : ℕ) (shown : Option (List ℕ)) → now ≤ time → time < 2 ^ 64 → Turns looked at (time_line time) (state now shown) (state time shown)
  time_turns now time shown later small =
      let rises : nat_le now time ≡ true = grind (arith, nat_tests) in
      let after : ℕ → Bool → Shown = λ n b. record { time = n; in_order = b; comment = false; pending = None; digits = shown } in record {
        words = λ rest.
            ap (λ l. fold (show looked at) (state now shown) (words_of l)) (append_assoc (35 ∷ decimal time) (codes "\n") rest)
            ∙ ap (fold (show looked at) (state now shown)) (word_then (35 ∷ decimal time) 10 rest (code_word 35 time (omega arith) small) refl)
            ∙ ap (λ n. fold (show looked at) (after n (nat_le now n)) (words_of rest)) (decimal_is_IsNumeral time small).1
            ∙ ap (λ b. fold (show looked at) (after time b) (words_of rest)) rises;
      }

  -- what is shown behind a change of the variable with the number i
  abbrev pub next : ℕ → ℕ → Option (List ℕ) → Value → Option (List ℕ)
  next time i shown v = cond (bytes_eq (code_of i) looked && nat_le time at) (Some (digits_text v)) shown

  bit_words : (c i : ℕ) → 32 < c → i < 2 ^ 64 → (rest : List ℕ) → words_of ((c ∷ code_of i) ++ codes "\n" ++ rest) ≡ (c ∷ code_of i) ∷ words_of rest
  bit_words c i above small rest =
      ap words_of (append_assoc (c ∷ code_of i) (codes "\n") rest) ∙ word_then (c ∷ code_of i) 10 rest (longer_word c (code_of i) above (code_word 118 i (omega arith) small)) refl

  vector_words : (ds : List ℕ) (i : ℕ) → IsOneWord ds → i < 2 ^ 64 → (rest : List ℕ)
      → words_of (codes "b" ++ ds ++ codes " v" ++ decimal i ++ codes "\n" ++ rest) ≡ (98 ∷ ds) ∷ code_of i ∷ words_of rest
  vector_words ds i is small rest =
      let spelled : codes "b" ++ ds ++ codes " v" ++ decimal i ++ codes "\n" ++ rest ≡ (98 ∷ ds) ++ (32 ∷ code_of i ++ (10 ∷ rest)) = simp append_assoc in
      ap words_of spelled ∙ word_then (98 ∷ ds) 32 (code_of i ++ (10 ∷ rest)) (longer_word 98 ds (omega arith) is) refl
      ∙ ap (λ ws. (98 ∷ ds) ∷ ws) (word_then (code_of i) 10 rest (code_word 118 i (omega arith) small) refl)

  -- a value is shown, if it is of the variable and not behind the time
  pub value_turns : (time i : ℕ) (shown : Option (List ℕ)) (v : Value) → i < 2 ^ 64 → bits_of v < 2 ^ 64
      → Turns looked at (value_line i v) (state time shown) (state time (next time i shown v))
  value_turns time i shown (BoolValue true) small fits = record { words = λ rest. ap (fold (show looked at) (state time shown)) (bit_words 49 i (omega arith) small rest) }
  value_turns time i shown (BoolValue false) small fits = record { words = λ rest. ap (fold (show looked at) (state time shown)) (bit_words 48 i (omega arith) small rest) }
  value_turns time i shown (IntValue n) small fits = record {
    words = λ rest. ap (fold (show looked at) (state time shown)) (vector_words (digits 2 false (cast_unsigned w16 n)) i (digits_word 2 (cast_unsigned w16 n) (omega arith) (omega arith) fits) small rest);
  }
  value_turns time i shown (TimeValue t) small fits = record {
    words = λ rest. ap (fold (show looked at) (state time shown)) (vector_words (digits 2 false t) i (digits_word 2 t (omega arith) (omega arith) fits) small rest);
  }

  -- nothing else is shown where the variable is another one, or the time is later
  abbrev pub Hides : ℕ → ℕ → Type 0
  Hides time i = bytes_eq (code_of i) looked && nat_le time at ≡ false

  pub hidden : (time i : ℕ) (shown : Option (List ℕ)) (before now : Option Value) → i < 2 ^ 64 → ((v : Value) → now ≡ Some v → bits_of v < 2 ^ 64) → Hides time i
      → Turns looked at (change_line i before now) (state time shown) (state time shown)
  hidden time i shown before None small fits hides = keeps (state time shown)
  hidden time i shown before (Some v) small fits hides = by before
    where
      written : Turns looked at (value_line i v) (state time shown) (state time shown)
      written = subst (λ b. Turns looked at (value_line i v) (state time shown) (state time (cond b (Some (digits_text v)) shown))) hides (value_turns time i shown v small (fits v refl))

      either : (b : Bool) → Turns looked at (cond b [] (value_line i v)) (state time shown) (state time shown)
      either true = keeps (state time shown)
      either false = written

      by : (o : Option Value) → Turns looked at (change_line i o (Some v)) (state time shown) (state time shown)
      by None = written
      by (Some u) = either (is_same u v)

  -- the value of the variable is shown behind a line of its changes
  pub seen : (time i : ℕ) (shown : Option (List ℕ)) (before : Option Value) (v : Value) → i < 2 ^ 64 → bits_of v < 2 ^ 64
      → bytes_eq (code_of i) looked && nat_le time at ≡ true → ((u : Value) → before ≡ Some u → shown ≡ Some (digits_text u))
      → Turns looked at (change_line i before (Some v)) (state time shown) (state time (Some (digits_text v)))
  seen time i shown before v small fits sees was = by before was
    where
      written : Turns looked at (value_line i v) (state time shown) (state time (Some (digits_text v)))
      written = subst (λ b. Turns looked at (value_line i v) (state time shown) (state time (cond b (Some (digits_text v)) shown))) sees (value_turns time i shown v small fits)

      by : (o : Option Value) → ((u : Value) → o ≡ Some u → shown ≡ Some (digits_text u)) → Turns looked at (change_line i o (Some v)) (state time shown) (state time (Some (digits_text v)))
      by None was = written
      by (Some u) was = either (is_same u v) refl
        where
          either : (b : Bool) → is_same u v ≡ b → Turns looked at (cond b [] (value_line i v)) (state time shown) (state time (Some (digits_text v)))
          either false e = written
          either true e = subst (λ d. Turns looked at [] (state time shown) (state time d)) (was u refl ∙ ap (λ w. Some (digits_text w)) (same_value u v e)) (keeps (state time shown))
