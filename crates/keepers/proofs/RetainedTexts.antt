-- The texts of retained variables: different values have different ones, and none is longer than that of the longest values.
use Rattle.std.proofs.Common.{arith, rules, ◌≡◌, ◌≢◌, ℕ, zero, suc, ◌+◌, ◌%◌, ◌<◌, ◌≤◌, ◌^◌, ◌++◌, ◌∷◌, [], List, length, map, take, slice_get, true, false, pos, negsuc, sym, ap, refl, ◌∙◌, append_assoc}
use Rattle.std.specs.List.{AllByRecursion, flat_map, zip}
use Rattle.std.specs.Fmt.{digits, decimal, signed_decimal}
use Rattle.std.proofs.lemmas.Fmt.{decimal_by_steps, length-decimal-le, length_signed_le}
use Rattle.std.proofs.lemmas.List.{length-append, length-map, length-take, append_cancel_left, take_all}
use Rattle.lists.proofs.Each.{each-append}
use Rattle.std_blocks.specs.declared.value.Value.{Value}
use Rattle.std_blocks.specs.declared.value.Value.TheVariants.{Bool as BoolValue, Int as IntValue, Time as TimeValue}
use Rattle.declared_names.specs.declared.declarations.Kind.{Kind}
use Rattle.declared_names.specs.declared.declarations.Kind.TheVariants as kind
use Rattle.declared_names.specs.Kinds.{kind_of}
use Rattle.text_lines.specs.LineParts.{value_text}
use Rattle.text_lines.specs.ReadParts.{IsInRange}
use Rattle.text_lines.specs.Steps.Values.{same_value}
use Rattle.task_codes.specs.declared.retained_variable.RetainedVariable.{RetainedVariable}
use Rattle.task_codes.specs.CodeValue.{CodeValue}
use Rattle.evaluation.specs.Retained.{Suits}
use Rattle.keepers.specs.KeptRetained.{before_value, line_text, retained_text, Differs, DepartsAt}
use Rattle.keepers.specs.Steps.Reading.{longest, longest_of, IsLonger}

-- a text without a line feed
abbrev pub HasNoFeed : List ℕ → Type 0
HasNoFeed text = AllByRecursion (λ c. c ≢ 10) text

no_feed_decimal : (n : ℕ) → n < 2 ^ 64 → HasNoFeed (decimal n)
no_feed_decimal n small = decimal_by_steps (λ m ds. HasNoFeed ds) one more n small
  where
    one : (m : ℕ) → m < 10 → HasNoFeed ((48 + m) ∷ [])
    one m lt = ((λ e. omega (arith, e)), tt)

    more : (m : ℕ) (ds : List ℕ) → 10 ≤ m → HasNoFeed ds → HasNoFeed (ds ++ ((48 + m % 10) ∷ []))
    more m ds le h = each-append (λ (c : ℕ). c ≢ 10) ds ((48 + m % 10) ∷ []) h ((λ e. omega (arith, e)), tt)

-- no value's text has one
pub no_feed_value : (x : Value) → IsInRange x → HasNoFeed (value_text x)
no_feed_value (BoolValue true) r = ((λ e. omega (arith, e)), tt)
no_feed_value (BoolValue false) r = ((λ e. omega (arith, e)), tt)
no_feed_value (IntValue (pos n)) r = no_feed_decimal n (let s = r.sfits in omega (arith, s))
no_feed_value (IntValue (negsuc n)) r = ((λ e. omega (arith, e)), no_feed_decimal (suc n) (let s = r.sfits in omega (arith, s)))
no_feed_value (TimeValue t) r = (
  (λ e. omega (arith, e)),
  ((λ e. omega (arith, e)), each-append (λ (c : ℕ). c ≢ 10) (decimal t) (109 ∷ 115 ∷ []) (no_feed_decimal t (omega (arith, r))) ((λ e. omega (arith, e)), ((λ e. omega (arith, e)), tt))),
)

-- where two texts are the same, so are what stands before their first line feeds and what stands behind
pub one_line : (w u a b : List ℕ) → HasNoFeed w → HasNoFeed u → w ++ 10 ∷ a ≡ u ++ 10 ∷ b → (w ≡ u) × (a ≡ b)
one_line [] [] a b hw hu e = (refl, cc)
one_line [] (c ∷ u) a b hw hu e = absurd (hu.0 (let h : c ≡ 10 = cc in h))
one_line (c ∷ w) [] a b hw hu e = absurd (hw.0 (let h : c ≡ 10 = cc in h))
one_line (c ∷ w) (d ∷ u) a b hw hu e =
    let first : c ≡ d = cc in
    let rest : w ++ 10 ∷ a ≡ u ++ 10 ∷ b = cc in
    let both = one_line w u a b hw.1 hu.1 rest in
    (let same : w ≡ u = both.0 in cc, both.1)

append_three : (a b c d : List ℕ) → (a ++ b ++ c) ++ d ≡ a ++ (b ++ (c ++ d))
append_three a b c d = simp append_assoc refl

-- what stands behind the name in a line with more behind it
pub behind_name : (code : CodeValue) (v : RetainedVariable) (x : Value) (more : List ℕ) → line_text code (v, x) ++ more ≡ before_value code v ++ (value_text x ++ 10 ∷ more)
behind_name code v x more =
    append_three (before_value code v) (value_text x) (10 ∷ []) more

-- two lines of one variable with one text have one value
pub same_line : (code : CodeValue) (v : RetainedVariable) (x y : Value) (a b : List ℕ) → kind_of x ≡ kind_of y → IsInRange x → IsInRange y
    → line_text code (v, x) ++ a ≡ line_text code (v, y) ++ b → (x ≡ y) × (a ≡ b)
same_line code v x y a b kinds r s e =
    let texts : value_text x ++ 10 ∷ a ≡ value_text y ++ 10 ∷ b =
    append_cancel_left (before_value code v) (value_text x ++ 10 ∷ a) (value_text y ++ 10 ∷ b) (sym (behind_name code v x a) ∙ e ∙ behind_name code v y b) in
    let both = one_line (value_text x) (value_text y) a b (no_feed_value x r) (no_feed_value y s) texts in
    (same_value x y kinds r s both.0, both.1)

abbrev pub lines_of : CodeValue → List RetainedVariable → List Value → List ℕ
lines_of code vs xs = flat_map (line_text code) (zip vs xs)

abbrev kinds_of : List RetainedVariable → List Kind
kinds_of vs = map (λ (v : RetainedVariable). v.kind) vs

-- where a text differs, it is the text of no values
differs_none : (code : CodeValue) (vs : List RetainedVariable) (place : ℕ) (ws xs : List Value) (rest : List ℕ) → map kind_of ws ≡ kinds_of vs → map kind_of xs ≡ take place (kinds_of vs)
    → AllByRecursion IsInRange ws → AllByRecursion IsInRange xs → lines_of code vs ws ≡ lines_of code vs xs ++ rest → Differs code (slice_get vs place) rest → ⊥
differs_none code [] place [] [] rest kinds these r s e differs = differs (sym e)
differs_none code [] place [] (x ∷ xs) rest kinds these r s e differs = absurd (omega (arith, ap (λ (l : List Kind). length l) these, length-take place (kinds_of [])))
differs_none code [] place (w ∷ ws) xs rest kinds these r s e differs = absurd cc
differs_none code (v ∷ vs) place [] xs rest kinds these r s e differs = absurd cc
differs_none code (v ∷ vs) zero (w ∷ ws) [] rest kinds these r s e differs =
    let same : kind_of w ≡ v.kind = cc in differs w (lines_of code vs ws) (record { kind_is = same; in_range = r.0; text_is = sym e })
differs_none code (v ∷ vs) zero (w ∷ ws) (x ∷ xs) rest kinds these r s e differs = absurd cc
differs_none code (v ∷ vs) (suc place) (w ∷ ws) [] rest kinds these r s e differs = absurd cc
differs_none code (v ∷ vs) (suc place) (w ∷ ws) (x ∷ xs) rest kinds these r s e differs =
    let same : kind_of w ≡ kind_of x = cc in
    let line = same_line code v w x (lines_of code vs ws) (lines_of code vs xs ++ rest) same r.0 s.0 (e ∙ append_assoc (line_text code (v, x)) (lines_of code vs xs) rest) in
    let rest_kinds : map kind_of ws ≡ kinds_of vs = cc in
    let rest_these : map kind_of xs ≡ take place (kinds_of vs) = cc in
    differs_none code vs place ws xs rest rest_kinds rest_these r.1 s.1 line.1 differs

-- a text that departs is the text of no values
pub departs_none : (code : CodeValue) (text : List ℕ) (place : ℕ) → DepartsAt code text place → (values : List Value) → Suits code values → AllByRecursion IsInRange values → text ≢ retained_text code values
departs_none code text place departs values suits ranges is =
    differs_none code code.retained place values departs.values departs.rest suits departs.kinds_are ranges departs.in_range (sym is ∙ departs.text_is) departs.differs

long_int : length (signed_decimal (negsuc 32767)) ≡ 6
unfolding digits
long_int = refl

long_time : length (decimal 4294967295) ≡ 10
unfolding digits
long_time = refl

-- a value's text is no longer than that of the longest of its kind
short_value : (x : Value) → IsInRange x → length (value_text x) ≤ length (value_text (longest (kind_of x)))
short_value (BoolValue true) r = omega arith
short_value (BoolValue false) r = omega arith
short_value (IntValue z) r = let f = r.sfits in omega (arith, length_signed_le 5 z (omega (arith, f)) (omega (arith, f)), long_int)
short_value (TimeValue t) r =
    omega (arith, length-append (decimal t) (109 ∷ 115 ∷ []), length-append (decimal 4294967295) (109 ∷ 115 ∷ []), length-decimal-le 10 t (omega arith) (omega (arith, r)) (omega (arith, r)), long_time)

line_long : (code : CodeValue) (v : RetainedVariable) (x : Value) → length (line_text code (v, x)) ≡ length (before_value code v) + (length (value_text x) + 1)
line_long code v x = length-append (before_value code v ++ value_text x) (10 ∷ []) ∙ omega (arith, length-append (before_value code v) (value_text x))

short_line : (code : CodeValue) (v : RetainedVariable) (x : Value) → kind_of x ≡ v.kind → IsInRange x → length (line_text code (v, x)) ≤ length (line_text code (v, longest v.kind))
short_line code v x kind_is r =
    let short : length (value_text x) ≤ length (value_text (longest v.kind)) = rw (sym kind_is) (short_value x r) in
    omega (arith, short, line_long code v x, line_long code v (longest v.kind))

-- no text of the first lines is longer than that of the longest values
first_short : (code : CodeValue) (vs : List RetainedVariable) (k : ℕ) (xs : List Value) → map kind_of xs ≡ take k (kinds_of vs) → AllByRecursion IsInRange xs → length (lines_of code vs xs) ≤ length (lines_of code vs (longest_of vs))
first_short code [] k xs kinds r = omega arith
first_short code (v ∷ vs) k [] kinds r = omega arith
first_short code (v ∷ vs) zero (x ∷ xs) kinds r = absurd cc
first_short code (v ∷ vs) (suc k) (x ∷ xs) kinds r =
    let first : kind_of x ≡ v.kind = cc in
    let others : map kind_of xs ≡ take k (kinds_of vs) = cc in
    let line = short_line code v x first r.0 in
    let lines = first_short code vs k xs others r.1 in
    omega (arith, line, lines, length-append (line_text code (v, x)) (lines_of code vs xs), length-append (line_text code (v, longest v.kind)) (lines_of code vs (longest_of vs)))

-- so is none of all lines
short_lines : (code : CodeValue) (vs : List RetainedVariable) (xs : List Value) → map kind_of xs ≡ kinds_of vs → AllByRecursion IsInRange xs → length (lines_of code vs xs) ≤ length (lines_of code vs (longest_of vs))
short_lines code vs xs kinds r = first_short code vs (length (kinds_of vs)) xs (kinds ∙ sym (take_all (length (kinds_of vs)) (kinds_of vs) (omega arith))) r

-- the longest values suit the code
longest_kind : (k : Kind) → kind_of (longest k) ≡ k
longest_kind kind.Bool = refl
longest_kind kind.Int = refl
longest_kind kind.Time = refl

longest_kinds : (vs : List RetainedVariable) → map kind_of (longest_of vs) ≡ kinds_of vs
longest_kinds [] = refl
longest_kinds (v ∷ vs) = ap (λ (k : Kind). k ∷ map kind_of (longest_of vs)) (longest_kind v.kind) ∙ ap (λ (l : List Kind). v.kind ∷ l) (longest_kinds vs)

longest_range : (k : Kind) → IsInRange (longest k)
longest_range kind.Bool = tt
longest_range kind.Int = search rules
longest_range kind.Time = omega arith

longest_ranges : (vs : List RetainedVariable) → AllByRecursion IsInRange (longest_of vs)
longest_ranges [] = tt
longest_ranges (v ∷ vs) = (longest_range v.kind, longest_ranges vs)

-- so the text of first lines is shorter than what is read
pub longest_longer : (code : CodeValue) (most k : ℕ) (xs : List Value) → IsLonger code most → map kind_of xs ≡ take k (kinds_of code.retained) → AllByRecursion IsInRange xs → length (retained_text code xs) < most
longest_longer code most k xs longer kinds r =
    let short = first_short code code.retained k xs kinds r in
    let all = longer (longest_of code.retained) (longest_kinds code.retained) (longest_ranges code.retained) in
    omega (arith, short, all)

pub longest_many : (code : CodeValue) (vs : List RetainedVariable) (xs : List Value) → xs ≡ longest_of vs → vs ≡ code.retained → length xs ≡ length code.retained
longest_many code vs xs are listed = ap (λ (l : List Value). length l) are ∙ length-map vs (λ (v : RetainedVariable). longest v.kind) ∙ ap (λ (l : List RetainedVariable). length l) listed

pub longer_than : (code : CodeValue) (vs : List RetainedVariable) (xs : List Value) (bytes : List ℕ) (n : ℕ) → xs ≡ longest_of vs → vs ≡ code.retained → bytes ≡ retained_text code xs → n ≡ length bytes
    → IsLonger code (n + 1)
longer_than code vs xs bytes n are listed is many =
    λ values suits ranges.
    let short = short_lines code code.retained values suits ranges in
    let text : bytes ≡ lines_of code code.retained (longest_of code.retained) = is ∙ ap (retained_text code) (are ∙ ap longest_of listed) in
    omega (arith, short, many, ap (λ l. length l) text)
