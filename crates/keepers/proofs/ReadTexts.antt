-- Texts of retained variables that are read line by line.
use Rattle.std.proofs.Common.{arith, ◌≡◌, ◌≢◌, ℕ, ◌+◌, ◌-◌, ◌<◌, ◌≤◌, ◌++◌, ◌∷◌, [], List, length, map, take, drop, get_or, slice_get, Option, Some, None, true, false, sym, ap, refl, ◌∙◌, subst, append_assoc}
use Rattle.std.specs.Prelude.{Bool, ◌==◌, nat_lt}
use Rattle.std.specs.List.{AllByRecursion, flat_map, zip, position_or_len}
use Rattle.std.specs.Option.{option_map}
use Rattle.std.proofs.lemmas.Bool.{eqb-true, lt-ltb}
use Rattle.std.proofs.lemmas.List.{length-append, length-drop, length-map, flat_map_more, length-take, map-append, append-nil, take_all, take-append-le, take_more, drop_more, take-append-drop, append_cancel_left}
use Rattle.std.proofs.lemmas.Slice.Zip.{length-zip, get_or-zip}
use Rattle.std.proofs.lemmas.List.Quantifiers.{position-Some}
use Rattle.std.proofs.lemmas.Option.{none-some, same_Some, slice_get_within, get_or_from_slice_get, slice_get-get_or, slice_get-map}
use Rattle.std_blocks.specs.declared.value.Value.{Value}
use Rattle.std_blocks.specs.declared.value.Value.TheVariants.{Bool as BoolValue}
use Rattle.declared_names.specs.declared.declarations.Kind.{Kind}
use Rattle.declared_names.specs.declared.declarations.Kind.TheVariants as kind
use Rattle.declared_names.specs.Kinds.{kind_of}
use Rattle.text_lines.specs.LineParts.{value_text}
use Rattle.text_lines.specs.ReadParts.{IsInRange, IsBehind}
use Rattle.task_codes.specs.declared.retained_variable.RetainedVariable.{RetainedVariable}
use Rattle.task_codes.specs.CodeValue.{CodeValue, retained_kinds}
use Rattle.evaluation.specs.Retained.{Suits}
use Rattle.keepers.specs.KeptRetained.{before_value, line_text, retained_text, BeginsWith, Differs, DepartsAt}
use Rattle.keepers.specs.Steps.Reading.{line_end, IsValueOf, IsLineRead, AreRead}
use Rattle.keepers.proofs.RetainedTexts.{HasNoFeed, no_feed_value, behind_name, lines_of}

-- the first line feed stands behind a text without one
end_later : (c : ℕ) (w rest : List ℕ) → c ≢ 10 → position_or_len (λ d. d == 10) (w ++ 10 ∷ rest) ≡ length w → position_or_len (λ d. d == 10) ((c ∷ w) ++ 10 ∷ rest) ≡ length (c ∷ w)
end_later c w rest other is = by (c == 10) refl
  where
    by : (b : Bool) → (c == 10) ≡ b → position_or_len (λ d. d == 10) ((c ∷ w) ++ 10 ∷ rest) ≡ length (c ∷ w)
    by true e = absurd (other (eqb-true c 10 e))
    by false e = rw e (omega (arith, is))

end_at : (w rest : List ℕ) → HasNoFeed w → position_or_len (λ c. c == 10) (w ++ 10 ∷ rest) ≡ length w
end_at [] rest clean = refl
end_at (c ∷ w) rest clean = end_later c w rest clean.0 (end_at w rest clean.1)

line_ends : (w rest : List ℕ) → HasNoFeed w → line_end (w ++ 10 ∷ rest) ≡ Some (length w)
line_ends w rest clean =
    let at : position_or_len (λ c. c == 10) (w ++ 10 ∷ rest) ≡ length w = end_at w rest clean in
    let within : nat_lt (length w) (length (w ++ 10 ∷ rest)) ≡ true = lt-ltb (length w) (length (w ++ 10 ∷ rest)) (omega (arith, length-append w (10 ∷ rest))) in
    rw at (rw within refl)

-- and that part is the line
pub line_parted : (b : List ℕ) (end : ℕ) → line_end b ≡ Some end → b ≡ take end b ++ 10 ∷ drop (end + 1) b
line_parted b end at =
    let found = position-Some (λ c. c == 10) b end 0 at in
    let feed : get_or b end 0 ≡ 10 = eqb-true (get_or b end 0) 10 found.1 in
    sym (take-append-drop end b) ∙ ap (λ l. take end b ++ l) (drop_more b end 0 found.0) ∙ ap (λ c. take end b ++ c ∷ drop (end + 1) b) feed

-- the rest of a text from a place on
pub rest_drop : (n : ℕ) (b : List ℕ) → take (length b - n) (drop n b) ≡ drop n b
rest_drop n b = take_all (length b - n) (drop n b) (omega (arith, length-drop n b))

-- what stands behind a variable's name in a text that begins with its line
behind_it : (code : CodeValue) (v : RetainedVariable) (text b : List ℕ) (x : Value) (rest : List ℕ) → text ≡ before_value code v ++ b → BeginsWith code v text x rest → b ≡ value_text x ++ 10 ∷ rest
behind_it code v text b x rest is begins = append_cancel_left (before_value code v) b (value_text x ++ 10 ∷ rest) (sym is ∙ begins.text_is ∙ behind_name code v x rest)

-- no line of a variable stands where its name doesn't
pub no_name : (code : CodeValue) (v : RetainedVariable) (text : List ℕ) → IsBehind text (before_value code v) None → IsLineRead code v text None
no_name code v text none = λ x rest begins. none (value_text x ++ 10 ∷ rest) (begins.text_is ∙ behind_name code v x rest)

-- nor where no line feed is behind it
pub no_feed : (code : CodeValue) (v : RetainedVariable) (text b : List ℕ) → IsBehind text (before_value code v) (Some b) → line_end b ≡ None → IsLineRead code v text None
no_feed code v text b is none =
    λ x rest begins.
    none-some (length (value_text x)) (sym none ∙ ap line_end (behind_it code v text b x rest is begins) ∙ line_ends (value_text x) rest (no_feed_value x begins.in_range))

-- nor where no value is before that
pub no_value_there : (code : CodeValue) (v : RetainedVariable) (text b : List ℕ) (end : ℕ) → IsBehind text (before_value code v) (Some b) → line_end b ≡ Some end → IsValueOf v.kind (take end b) None
    → IsLineRead code v text None
no_value_there code v text b end is at none =
    λ x rest begins.
    let here = behind_it code v text b x rest is begins in
    let same : end ≡ length (value_text x) = same_Some end (length (value_text x)) (sym at ∙ ap line_end here ∙ line_ends (value_text x) rest (no_feed_value x begins.in_range)) in
    none x begins.kind_is begins.in_range (ap (take end) here ∙ ap (λ n. take n (value_text x ++ 10 ∷ rest)) same ∙ take-append-le (length (value_text x)) (value_text x) (10 ∷ rest) (omega arith) ∙ take_all (length (value_text x)) (value_text x) (omega arith))

pub one_value_read : (code : CodeValue) (v : RetainedVariable) (text b : List ℕ) (end : ℕ) (x : Value) → IsBehind text (before_value code v) (Some b) → line_end b ≡ Some end
    → IsValueOf v.kind (take end b) (Some x) → BeginsWith code v text x (drop (end + 1) b)
one_value_read code v text b end x is at found = record {
  kind_is = found.0;
  in_range = found.1;
  text_is =
      is
      ∙ ap (λ l. before_value code v ++ l) (line_parted b end at ∙ ap (λ w. w ++ 10 ∷ drop (end + 1) b) found.2)
      ∙ sym (behind_name code v x (drop (end + 1) b));
}

no_lines : (code : CodeValue) (vs : List RetainedVariable) → lines_of code vs [] ≡ []
no_lines code [] = refl
no_lines code (v ∷ vs) = refl

-- one more line
one_line_more : (code : CodeValue) (vs : List RetainedVariable) (xs : List Value) (v : RetainedVariable) (x : Value) → slice_get vs (length xs) ≡ Some v → lines_of code vs (xs ++ x ∷ []) ≡ lines_of code vs xs ++ line_text code (v, x)
one_line_more code [] xs v x at = absurd (none-some v at)
one_line_more code (u ∷ vs) [] v x at =
    ap (λ (w : RetainedVariable). line_text code (w, x) ++ lines_of code vs []) (same_Some u v at) ∙ ap (λ l. line_text code (v, x) ++ l) (no_lines code vs) ∙ append-nil (line_text code (v, x))
one_line_more code (u ∷ vs) (y ∷ xs) v x at =
    ap (λ l. line_text code (u, y) ++ l) (one_line_more code vs xs v x at) ∙ sym (append_assoc (line_text code (u, y)) (lines_of code vs xs) (line_text code (v, x)))

all_and : (P : Value → Type 0) (xs : List Value) (x : Value) → AllByRecursion P xs → P x → AllByRecursion P (xs ++ x ∷ [])
all_and P [] x h p = (p, tt)
all_and P (y ∷ xs) x h p = (h.0, all_and P xs x h.1 p)

pub read_none : (code : CodeValue) (text : List ℕ) → AreRead code text 0 [] text
read_none code text = record { kinds_are = refl; in_range = tt; text_is = ap (λ l. l ++ text) (sym (no_lines code code.retained)) }

long_as : (code : CodeValue) (text : List ℕ) (k : ℕ) (xs : List Value) (rest : List ℕ) → k ≤ length code.retained → AreRead code text k xs rest → length xs ≡ k
long_as code text k xs rest le read =
    let kinds = ap (λ (l : List Kind). length l) read.kinds_are in
    omega (arith, le, kinds, length-map xs kind_of, length-take k (retained_kinds code), length-map code.retained (λ (v : RetainedVariable). v.kind))

-- one more line was read
pub read_more : (code : CodeValue) (text : List ℕ) (k : ℕ) (xs : List Value) (rest : List ℕ) (v : RetainedVariable) (x : Value) (more : List ℕ) → slice_get code.retained k ≡ Some v
    → AreRead code text k xs rest → BeginsWith code v rest x more → AreRead code text (k + 1) (xs ++ x ∷ []) more
read_more code text k xs rest v x more at read begins =
    let within = slice_get_within code.retained k v at in
    let many : length xs ≡ k = long_as code text k xs rest (omega (arith, within)) read in
    let here : slice_get code.retained (length xs) ≡ Some v = ap (slice_get code.retained) many ∙ at in
    let kinds : List Kind = retained_kinds code in
    let kind_at : get_or kinds k v.kind ≡ v.kind = get_or_from_slice_get kinds k v.kind v.kind (slice_get-map (λ (w : RetainedVariable). w.kind) code.retained k ∙ ap (option_map (λ (w : RetainedVariable). w.kind)) at) in
    record {
      kinds_are =
          map-append kind_of xs (x ∷ [])
          ∙ ap (λ (l : List Kind). l ++ kind_of x ∷ []) read.kinds_are
          ∙ ap (λ (q : Kind). take k kinds ++ q ∷ []) (begins.kind_is ∙ sym kind_at)
          ∙ sym (take_more kinds k v.kind (omega (arith, within, length-map code.retained (λ (w : RetainedVariable). w.kind))));
      in_range = all_and IsInRange xs x read.in_range begins.in_range;
      text_is =
          read.text_is
          ∙ ap (λ l. retained_text code xs ++ l) begins.text_is
          ∙ sym (append_assoc (retained_text code xs) (line_text code (v, x)) more)
          ∙ ap (λ l. l ++ more) (sym (one_line_more code code.retained xs v x here));
    }

pub one_more_text : (code : CodeValue) (text : List ℕ) (k : ℕ) (xs : List Value) (rest : List ℕ) (v : RetainedVariable) (x : Value) → slice_get code.retained k ≡ Some v → AreRead code text k xs rest
    → retained_text code (xs ++ x ∷ []) ≡ retained_text code xs ++ line_text code (v, x)
one_more_text code text k xs rest v x at read =
    let within = slice_get_within code.retained k v at in
    one_line_more code code.retained xs v x (ap (slice_get code.retained) (long_as code text k xs rest (omega (arith, within)) read) ∙ at)

-- the text departs where the next line isn't read
read_departs : (code : CodeValue) (text : List ℕ) (k : ℕ) (xs : List Value) (rest : List ℕ) (v : RetainedVariable) → slice_get code.retained k ≡ Some v → AreRead code text k xs rest
    → IsLineRead code v rest None → DepartsAt code text k
read_departs code text k xs rest v at read none = record {
  values = xs;
  rest = rest;
  kinds_are = read.kinds_are;
  in_range = read.in_range;
  text_is = read.text_is;
  differs = subst (λ (o : Option RetainedVariable). Differs code o rest) (sym at) none;
}

abbrev pub no_variable : RetainedVariable
no_variable = record { program = 0; place = 0; kind = kind.Bool }

listed_at : (code : CodeValue) (vs : List RetainedVariable) (k : ℕ) → vs ≡ code.retained → k < length vs → slice_get code.retained k ≡ Some (get_or vs k no_variable)
listed_at code vs k listed within = ap (λ (l : List RetainedVariable). slice_get l k) (sym listed) ∙ slice_get-get_or vs k no_variable within

pub read_more_at : (code : CodeValue) (text : List ℕ) (vs : List RetainedVariable) (k : ℕ) (xs all : List Value) (rest : List ℕ) (x : Value) (more : List ℕ) → vs ≡ code.retained → k < length vs
    → AreRead code text k xs rest → IsLineRead code (get_or vs k no_variable) rest (Some (x, more)) → all ≡ xs ++ x ∷ [] → AreRead code text (k + 1) all more
read_more_at code text vs k xs all rest x more listed within read begins is =
    subst (λ (l : List Value). AreRead code text (k + 1) l more) (sym is)
    (read_more code text k xs rest (get_or vs k no_variable) x more (listed_at code vs k listed within) read begins)

pub read_departs_at : (code : CodeValue) (text : List ℕ) (vs : List RetainedVariable) (k : ℕ) (xs : List Value) (rest : List ℕ) → vs ≡ code.retained → k < length vs → AreRead code text k xs rest
    → IsLineRead code (get_or vs k no_variable) rest None → DepartsAt code text k
read_departs_at code text vs k xs rest listed within read none = read_departs code text k xs rest (get_or vs k no_variable) (listed_at code vs k listed within) read none

-- all lines were read
at_end : (code : CodeValue) (text : List ℕ) (vs : List RetainedVariable) (k : ℕ) (xs : List Value) (rest : List ℕ) → vs ≡ code.retained → length vs ≤ k → AreRead code text k xs rest
    → map kind_of xs ≡ retained_kinds code
at_end code text vs k xs rest listed end read =
    read.kinds_are ∙ take_all k (retained_kinds code) (omega (arith, end, ap (λ (l : List RetainedVariable). length l) listed, length-map code.retained (λ (w : RetainedVariable). w.kind)))

no_bytes : (rest : List ℕ) → length rest ≡ 0 → rest ≡ []
no_bytes [] e = refl
no_bytes (c ∷ rest) e = absurd (omega (arith, e))

pub read_suits : (code : CodeValue) (text : List ℕ) (vs : List RetainedVariable) (k : ℕ) (xs : List Value) (rest : List ℕ) → vs ≡ code.retained → length vs ≤ k → AreRead code text k xs rest → Suits code xs
read_suits code text vs k xs rest listed end read = at_end code text vs k xs rest listed end read

pub read_text : (code : CodeValue) (text : List ℕ) (k : ℕ) (xs : List Value) (rest : List ℕ) → AreRead code text k xs rest → length rest ≡ 0 → text ≡ retained_text code xs
read_text code text k xs rest read none = read.text_is ∙ ap (λ l. retained_text code xs ++ l) (no_bytes rest none) ∙ append-nil (retained_text code xs)

-- or more stands behind them
pub read_behind : (code : CodeValue) (text : List ℕ) (vs : List RetainedVariable) (k : ℕ) (xs : List Value) (rest : List ℕ) → vs ≡ code.retained → length vs ≤ k → AreRead code text k xs rest
    → (length rest ≡ 0 → ⊥) → DepartsAt code text (length vs)
read_behind code text vs k xs rest listed end read more =
    subst (λ (l : List RetainedVariable). DepartsAt code text (length l)) (sym listed)
    (record {
      values = xs;
      rest = rest;
      kinds_are = at_end code text vs k xs rest listed end read ∙ sym (take_all (length code.retained) (retained_kinds code) (omega (arith, length-map code.retained (λ (w : RetainedVariable). w.kind))));
      in_range = read.in_range;
      text_is = read.text_is;
      differs = subst (λ (o : Option RetainedVariable). Differs code o rest) (sym (past code.retained)) (λ e. more (ap (λ l. length l) e));
    })
  where
    past : (ws : List RetainedVariable) → slice_get ws (length ws) ≡ None
    past [] = refl
    past (w ∷ ws) = past ws

abbrev pub no_value : Value
no_value = BoolValue false

-- lines behind a text, one more each time
pub lines_none : (code : CodeValue) (old : List ℕ) (vs : List RetainedVariable) (xs : List Value) → old ≡ old ++ flat_map (line_text code) (take 0 (zip vs xs))
lines_none code old vs xs = sym (append-nil old)

pub lines_more : (code : CodeValue) (old now new : List ℕ) (vs : List RetainedVariable) (xs : List Value) (k : ℕ) → k < length vs → length xs ≡ length vs
    → now ≡ old ++ flat_map (line_text code) (take k (zip vs xs)) → new ≡ now ++ line_text code (get_or vs k no_variable, get_or xs k no_value)
    → new ≡ old ++ flat_map (line_text code) (take (k + 1) (zip vs xs))
lines_more code old now new vs xs k within many was is =
    let f : RetainedVariable × Value → List ℕ = line_text code in
    let both : RetainedVariable × Value = (no_variable, no_value) in
    let pair : get_or (zip vs xs) k both ≡ (get_or vs k no_variable, get_or xs k no_value) = get_or-zip vs xs k both within (omega (arith, within, many)) in
    let long : k < length (zip vs xs) = omega (arith, within, many, length-zip vs xs) in
    is
    ∙ ap (λ l. l ++ f (get_or vs k no_variable, get_or xs k no_value)) was
    ∙ ap (λ e. (old ++ flat_map f (take k (zip vs xs))) ++ f e) (sym pair)
    ∙ flat_map_more f old (take k (zip vs xs)) (get_or (zip vs xs) k both)
    ∙ ap (λ l. old ++ flat_map f l) (sym (take_more (zip vs xs) k both long))

pub lines_all : (code : CodeValue) (old now : List ℕ) (vs : List RetainedVariable) (xs : List Value) (k : ℕ) → length vs ≤ k → now ≡ old ++ flat_map (line_text code) (take k (zip vs xs))
    → now ≡ old ++ flat_map (line_text code) (zip vs xs)
lines_all code old now vs xs k end is = is ∙ ap (λ l. old ++ flat_map (line_text code) l) (take_all k (zip vs xs) (omega (arith, end, length-zip vs xs)))

-- values that suit a code are as many as its retained variables
pub suits_many : (code : CodeValue) (values kept : List Value) → values ≡ kept → Suits code kept → length values ≡ length code.retained
suits_many code values kept same suits =
    ap (λ (l : List Value). length l) same
    ∙ sym (length-map kept kind_of)
    ∙ ap (λ (l : List Kind). length l) suits
    ∙ length-map code.retained (λ (w : RetainedVariable). w.kind)
