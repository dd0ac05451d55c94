-- Words that end before a byte, or with their text.
use Rattle.std.proofs.Common.{arith, ◌≡◌, ◌≢◌, ℕ, suc, ◌+◌, ◌%◌, ◌<◌, ◌≤◌, ◌^◌, ◌++◌, ◌∷◌, [], List, length, take, drop, Option, Some, None, true, false, pos, negsuc, sym, ap, refl, ◌∙◌, eq-eqb}
use Rattle.std.specs.Prelude.{Bool, ◌==◌, nat_lt}
use Rattle.std.specs.List.{position_or_len}
use Rattle.std.specs.Fmt.{decimal}
use Rattle.std.specs.Option.{option_map}
use Rattle.std.proofs.lemmas.Bool.{eqb-true, lt-ltb, le-ltb}
use Rattle.std.proofs.lemmas.Fmt.{decimal_by_steps}
use Rattle.std.proofs.lemmas.List.{length-append, append-nil}
use Rattle.std.proofs.lemmas.Option.{none-some, same_Some}
use Rattle.std.proofs.Math.Seq.{take-append_seam}
use Rattle.std_blocks.specs.declared.value.Value.{Value}
use Rattle.std_blocks.specs.declared.value.Value.TheVariants.{Bool as BoolValue, Int as IntValue, Time as TimeValue}
use Rattle.text_lines.specs.LineParts.{value_text}
use Rattle.text_lines.specs.ReadParts.{IsInRange}
use Rattle.text_lines.specs.Steps.Reading.{stop_in, HasNone, StopsAt, IsRead}

none_append : (stop : ℕ) (xs ys : List ℕ) → HasNone stop xs → HasNone stop ys → HasNone stop (xs ++ ys)
none_append stop [] ys h k = k
none_append stop (x ∷ xs) ys h k = (h.0, none_append stop xs ys h.1 k)

-- a byte below the digits isn't in a number
pub none_decimal : (stop n : ℕ) → stop < 48 → n < 2 ^ 32 → HasNone stop (decimal n)
none_decimal stop n below small = decimal_by_steps (λ m ds. HasNone stop ds) one more n (omega (arith, small))
  where
    one : (m : ℕ) → m < 10 → HasNone stop ((48 + m) ∷ [])
    one m lt = ((λ e. omega (arith, e, below)), tt)

    more : (m : ℕ) (ds : List ℕ) → 10 ≤ m → HasNone stop ds → HasNone stop (ds ++ ((48 + m % 10) ∷ []))
    more m ds le h = none_append stop ds ((48 + m % 10) ∷ []) h ((λ e. omega (arith, e, below)), tt)

-- nor a blank in a value
pub none_value : (x : Value) → IsInRange x → HasNone 32 (value_text x)
none_value (BoolValue true) r = ((λ e. omega (arith, e)), tt)
none_value (BoolValue false) r = ((λ e. omega (arith, e)), tt)
none_value (IntValue (pos n)) r = none_decimal 32 n (omega arith) (let s = r.sfits in omega (arith, s))
none_value (IntValue (negsuc n)) r = ((λ e. omega (arith, e)), none_decimal 32 (suc n) (omega arith) (let s = r.sfits in omega (arith, s)))
none_value (TimeValue t) r = (
  (λ e. omega (arith, e)),
  ((λ e. omega (arith, e)), none_append 32 (decimal t) (109 ∷ 115 ∷ []) (none_decimal 32 t (omega arith) r) ((λ e. omega (arith, e)), ((λ e. omega (arith, e)), tt))),
)

later : (stop c : ℕ) (text : List ℕ) (n : ℕ) → c ≢ stop → position_or_len (λ d. d == stop) text ≡ n → position_or_len (λ d. d == stop) (c ∷ text) ≡ n + 1
later stop c text n other is = by (c == stop) refl
  where
    by : (b : Bool) → (c == stop) ≡ b → position_or_len (λ d. d == stop) (c ∷ text) ≡ n + 1
    by true e = absurd (other (eqb-true c stop e))
    by false e = rw e (omega (arith, is))

-- the first such byte stands behind a word without one, or there is none
at_stop : (stop : ℕ) (w more : List ℕ) → HasNone stop w → StopsAt stop more → position_or_len (λ c. c == stop) (w ++ more) ≡ length w
at_stop stop [] [] clean ends = refl
at_stop stop [] (c ∷ more) clean ends = rw (eq-eqb c stop ends) refl
at_stop stop (c ∷ w) more clean ends = let rest = later stop c (w ++ more) (length w) clean.0 (at_stop stop w more clean.1 ends) in omega (arith, rest)

stop_here : (stop : ℕ) (w : List ℕ) (c : ℕ) (more : List ℕ) → HasNone stop w → c ≡ stop → stop_in (w ++ c ∷ more) stop ≡ Some (length w)
stop_here stop w c more clean ends =
    let at : position_or_len (λ d. d == stop) (w ++ c ∷ more) ≡ length w = at_stop stop w (c ∷ more) clean ends in
    let within : nat_lt (length w) (length (w ++ c ∷ more)) ≡ true = lt-ltb (length w) (length (w ++ c ∷ more)) (omega (arith, length-append w (c ∷ more))) in
    rw at (rw within refl)

stop_nowhere : (stop : ℕ) (w : List ℕ) → HasNone stop w → stop_in (w ++ []) stop ≡ None
stop_nowhere stop w clean =
    let at : position_or_len (λ d. d == stop) (w ++ []) ≡ length w = at_stop stop w [] clean tt in
    let beyond : nat_lt (length w) (length (w ++ [])) ≡ false = le-ltb (length w) (length (w ++ [])) (omega (arith, length-append w [])) in
    rw at (rw beyond refl)

seam_drop : (xs ys : List ℕ) → drop (length xs) (xs ++ ys) ≡ ys
seam_drop [] ys = refl
seam_drop (x ∷ xs) ys = seam_drop xs ys

-- where such a byte was found, the word ends
pub stopped : (stop end : ℕ) (text w more : List ℕ) → stop_in text stop ≡ Some end → HasNone stop w → StopsAt stop more → text ≡ w ++ more → (take end text ≡ w) × (drop end text ≡ more)
stopped stop end text w [] at clean ends is = absurd (none-some end (sym (ap (λ t. stop_in t stop) is ∙ stop_nowhere stop w clean) ∙ at))
stopped stop end text w (c ∷ more) at clean ends is =
    let same : end ≡ length w = same_Some end (length w) (sym at ∙ ap (λ t. stop_in t stop) is ∙ stop_here stop w c more clean ends) in (
      ap (λ n. take n text) same ∙ ap (take (length w)) is ∙ take-append_seam w (c ∷ more),
      ap (λ n. drop n text) same ∙ ap (drop (length w)) is ∙ seam_drop w (c ∷ more),
    )

-- where none was found, the word is the text
pub unstopped : (stop : ℕ) (text w more : List ℕ) → stop_in text stop ≡ None → HasNone stop w → StopsAt stop more → text ≡ w ++ more → (text ≡ w) × ([] ≡ more)
unstopped stop text w [] at clean ends is = (is ∙ append-nil w, refl)
unstopped stop text w (c ∷ more) at clean ends is =
    absurd (none-some (length w) (sym at ∙ ap (λ t. stop_in t stop) is ∙ stop_here stop w c more clean ends))

-- a word was read
pub word_read : {B : Type 0} (written : B → List ℕ) (IsSo : B → Type 0) (stop : ℕ) (text word rest : List ℕ) (found : Option B)
    → ((b : B) → IsSo b → HasNone stop (written b))
    → ((w more : List ℕ) → HasNone stop w → StopsAt stop more → text ≡ w ++ more → (word ≡ w) × (rest ≡ more))
    → ((b : B) → IsSo b → word ≡ written b → found ≡ Some b)
    → IsRead written IsSo stop text (option_map (λ b. (b, rest)) found)
word_read written IsSo stop text word rest None clean split writes =
    λ b more so ends e. let parts = split (written b) more (clean b so) ends e in absurd (none-some b (writes b so parts.0))
word_read {B} written IsSo stop text word rest (Some a) clean split writes =
    λ b more so ends e.
    let parts = split (written b) more (clean b so) ends e in
    let same : a ≡ b = same_Some a b (writes b so parts.0) in
    let left : rest ≡ more = parts.1 in
    cc
