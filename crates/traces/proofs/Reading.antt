-- What a reader gets of a whole dump.
use Rattle.std.proofs.Common.{◌≡◌, ℕ, zero, suc, ◌+◌, ◌/◌, ◌%◌, ◌^◌, ◌<◌, ◌≤◌, Bool, true, false, cond, eqb, List, [], ◌∷◌, ◌++◌, All, Option, Some, None, IsSomeAnd, codes, fold, length, take, slice_get, refl, sym, ap, ◌∙◌, subst, append_assoc, append-nil, add-one, pow-suc, take_all, arith}
use Rattle.std.specs.Fmt.{digit_glyph, digits, digits_onto}
use Rattle.std.specs.Int.{w16, cast_unsigned}
use Rattle.std.specs.List.{AllZip}
use Rattle.std.specs.Option.{option_map_or}
use Rattle.std.proofs.lemmas.Bool.{eqb-false}
use Rattle.std.proofs.lemmas.Fmt.{digits_is_IsNumeral}
use Rattle.std.proofs.lemmas.List.{take_more}
use Rattle.std.proofs.lemmas.Option.{get_or_from_slice_get}
use Rattle.lists.proofs.Members.{all_at}
use Rattle.lists.proofs.Places.{element_at}
use Rattle.lists.proofs.Zips.{zip_push}
use Rattle.std_blocks.specs.declared.value.Value.{Value}
use Rattle.std_blocks.specs.declared.value.Value.TheVariants.{Bool as BoolValue, Int as IntValue, Time as TimeValue}
use Rattle.traces.specs.Laws.{AreDigitsOf, IsDumpable, IsFound, IsReadBack, bits_of, path_of}
use Rattle.traces.specs.Reader.{Head, Variable, digits_at, head_of, show, shown_of, words_of}
use Rattle.traces.specs.Times.{AreTimes}
use Rattle.traces.specs.Tracks.{TrackValue, value_at}
use Rattle.traces.specs.ValueChanges.{declared_lines, dump_of, end_of_definitions, last_told, leave_lines, moments_lines, scope_before, time_line, timescale_line, width_of}
use Rattle.traces.proofs.Changes.{Turns, digits_text, state, time_turns}
use Rattle.traces.proofs.Declarations.{declares, found, found_first, head, leaves, timescale}
use Rattle.traces.proofs.Heads.{Declares, body_of, declared, one_after}
use Rattle.traces.proofs.Moments.{none_seen, shown_after, told_low}

-- no more digits than bits
short : (i width n : ℕ) (after : List ℕ) → 0 < width → n < 2 ^ width → length (digits_onto i 2 false n after) ≤ width + length after
short zero width n after some fits = omega arith
short (suc i) zero n after some fits = absurd (omega (arith, some))
short (suc i) (suc width) n after some fits = by (eqb (n / 2) 0) refl (short i width (n / 2) g)
  where
    g : List ℕ
    g = digit_glyph false (n % 2) ∷ after

    by : (b : Bool) → eqb (n / 2) 0 ≡ b → (0 < width → n / 2 < 2 ^ width → length (digits_onto i 2 false (n / 2) g) ≤ width + length g)
        → length (cond b g (digits_onto i 2 false (n / 2) g)) ≤ suc width + length after
    by true e next = omega arith
    by false e next =
        let more : n / 2 ≡ 0 → ⊥ = eqb-false (n / 2) 0 e in
        let half : n / 2 < 2 ^ width = omega (arith, pow-suc 2 width) in
        let wide : 0 < width = positive width more half in omega (arith, next wide half)
      where
        positive : (w : ℕ) → (n / 2 ≡ 0 → ⊥) → n / 2 < 2 ^ w → 0 < w
        positive zero more half = absurd (more (omega (arith, half)))
        positive (suc w) more half = omega arith

-- the digits of a value are those of its bits
number_digits : (width n : ℕ) → 0 < width → n < 2 ^ width → n < 2 ^ 64 → AreDigitsOf width n (digits 2 false n)
unfolding digits
number_digits width n some fits small =
    let is = digits_is_IsNumeral 2 false (omega arith) (omega arith) n small in (is.0, omega (arith, short 64 width n [] some fits), is.1)

value_digits : (width : ℕ) (v : Value) → 0 < width → bits_of v < 2 ^ width → bits_of v < 2 ^ 64 → AreDigitsOf width (bits_of v) (digits_text v)
value_digits width (BoolValue true) some fits small = ((omega arith, (omega arith, tt)), some, refl)
value_digits width (BoolValue false) some fits small = ((omega arith, (omega arith, tt)), some, refl)
value_digits width (IntValue n) some fits small = number_digits width (cast_unsigned w16 n) some fits small
value_digits width (TimeValue t) some fits small = number_digits width t some fits small

some_width : (value : Option Value) → 0 < width_of value
some_width None = omega arith
some_width (Some (BoolValue on)) = omega arith
some_width (Some (IntValue n)) = omega arith
some_width (Some (TimeValue t)) = omega arith

no_wider : (value : Option Value) (n : ℕ) → n < 2 ^ width_of value → n < 2 ^ 64
no_wider None n fits = omega (arith, fits)
no_wider (Some (BoolValue on)) n fits = omega (arith, fits)
no_wider (Some (IntValue z)) n fits = omega (arith, fits)
no_wider (Some (TimeValue t)) n fits = omega (arith, fits)

-- each track is found
zip_found : (R : Variable → TrackValue → Type 0) (tracks : List TrackValue) → ((j : ℕ) (t : TrackValue) → slice_get tracks j ≡ Some t → R (found j t) t)
    → (j : ℕ) → j ≤ length tracks → AllZip R (found_first tracks j) (take j tracks)
zip_found R tracks each zero low = tt
zip_found R tracks each (suc j) low =
    let here = element_at tracks j (omega arith) in
    let t = here.0 in
    let more : take (suc j) tracks ≡ take j tracks ++ t ∷ [] =
    ap (λ n. take n tracks) (sym (add-one j)) ∙ take_more tracks j t (omega arith) ∙ ap (λ x. take j tracks ++ x ∷ []) (get_or_from_slice_get tracks j t t here.1) in
    subst (λ l. AllZip R (found_first tracks (suc j)) l) (sym more)
    (subst (λ o. AllZip R (found_first tracks j ++ option_map_or (λ (x : TrackValue). found j x ∷ []) o []) (take j tracks ++ t ∷ [])) (sym here.1)
    (zip_push R (found_first tracks j) (take j tracks) (found j t) t (zip_found R tracks each j (omega arith)) (each j t here.1)))

module _ (time : ℕ → ℕ) (moments : ℕ) (tracks : List TrackValue) (times : AreTimes time moments) (few : length tracks < 2 ^ 64) (all : All (λ t. IsDumpable t) tracks) where
  abbrev declarations : List ℕ
  declarations = timescale_line ++ declared_lines tracks (length tracks) ++ leave_lines (scope_before tracks (length tracks))

  abbrev empty : Head
  empty = record { unit = []; path = []; variables = [] }

  all_declared : Declares declarations empty (head [] (found_first tracks (length tracks)))
  all_declared =
      let many = length tracks in
      let last = scope_before tracks many in
      let variables = found_first tracks many in
      one_after (timescale_line ++ declared_lines tracks many) (leave_lines last) empty (head (path_of last) variables) (head [] variables)
      (one_after timescale_line (declared_lines tracks many) empty (head [] []) (head (path_of last) variables) timescale (declares tracks many (omega arith) few all)) (leaves last variables)

  abbrev body : List ℕ
  body = moments_lines time tracks moments ++ time_line (time moments)

  spelled : dump_of time moments tracks ≡ declarations ++ (end_of_definitions ++ body)
  spelled = simp append_assoc

  head_ends : (h : Head) (rest : List ℕ) → declared h (words_of (end_of_definitions ++ rest)) ≡ h
  unfolding end_of_definitions
  head_ends h rest = refl

  body_begins : (rest : List ℕ) → body_of (words_of (end_of_definitions ++ rest)) ≡ codes "$end" ∷ words_of rest
  unfolding end_of_definitions
  body_begins rest = refl

  head_read : head_of (dump_of time moments tracks) ≡ head [] (found_first tracks (length tracks))
  head_read = ap head_of spelled ∙ all_declared.head (end_of_definitions ++ body) ∙ head_ends (head [] (found_first tracks (length tracks))) body

  fits : (i k : ℕ) (x : TrackValue) (v : Value) → slice_get tracks i ≡ Some x → value_at x k ≡ Some v → bits_of v < 2 ^ width_of (value_at x 0)
  fits i k x v at value =
      let dumpable : IsDumpable x = all_at (λ (y : TrackValue). IsDumpable y) tracks i x all at in
      all_at (λ w. bits_of w < 2 ^ width_of (value_at x 0)) x.values k v dumpable.values value

  small_fits : (i k : ℕ) (x : TrackValue) (v : Value) → slice_get tracks i ≡ Some x → value_at x k ≡ Some v → bits_of v < 2 ^ 64
  small_fits i k x v at value = no_wider (value_at x 0) (bits_of v) (fits i k x v at value)

  -- what the moments show is shown behind the dump, and the time is the last one
  dump_shows : (looked : List ℕ) (at : ℕ) (shown : Option (List ℕ)) → Turns looked at (moments_lines time tracks moments) (state 0 None) (state (last_told time tracks moments) shown)
      → shown_of (dump_of time moments tracks) looked at ≡ state (time moments) shown
  dump_shows looked at shown turns =
      let start = state 0 None in
      let told = last_told time tracks moments in
      ap (λ d. fold (show looked at) start (body_of (words_of d))) spelled
      ∙ ap (fold (show looked at) start) (all_declared.body (end_of_definitions ++ body) ∙ body_begins body)
      ∙ turns.words (time_line (time moments))
      ∙ ap (λ l. fold (show looked at) (state told shown) (words_of l)) (sym (append-nil (time_line (time moments))))
      ∙ (time_turns looked at told (time moments) shown (told_low time moments times tracks moments (omega arith)) times.small).words []

  times_read : shown_of (dump_of time moments tracks) [] 0 ≡ state (time moments) None
  times_read = dump_shows [] 0 None (none_seen [] 0 tracks few small_fits time moments times (λ i now. refl) moments (omega arith) None)

  values_read : (j k at : ℕ) (t : TrackValue) (v : Value) → slice_get tracks j ≡ Some t → value_at t k ≡ Some v → k < moments → time k ≤ at → at < time (k + 1)
      → digits_at (dump_of time moments tracks) (found j t).code at ≡ Some (digits_text v)
  values_read j k at t v is value low from to =
      let next : at < time (suc k) = subst (λ n. at < time n) (add-one k) to in
      ap (λ s. s.digits) (dump_shows (found j t).code at (Some (digits_text v)) (shown_after time moments times at j tracks t is few small_fits k v from next value moments low (omega arith)))

  track_found : (j : ℕ) (t : TrackValue) → slice_get tracks j ≡ Some t → IsFound time moments (dump_of time moments tracks) (found j t) t
  track_found j t at = record {
    path = refl;
    name = refl;
    width = refl;
    values = λ k now v low value from to.
        let width = width_of (value_at t 0) in
        let fit = fits j k t v at value in
        subst (λ o. IsSomeAnd o (AreDigitsOf width (bits_of v))) (sym (values_read j k now t v at value low from to))
        (value_digits width v (some_width (value_at t 0)) fit (no_wider (value_at t 0) (bits_of v) fit));
  }

  pub is_read_back : IsReadBack time moments tracks (dump_of time moments tracks)
  is_read_back =
      let dump = dump_of time moments tracks in
      let many = length tracks in
      record {
        unit = ap (λ h. h.unit) head_read;
        path = ap (λ h. h.path) head_read;
        end = ap (λ s. s.time) times_read;
        order = ap (λ s. s.in_order) times_read;
        variables = subst (λ l. AllZip (IsFound time moments dump) (head_of dump).variables l) (take_all many tracks (omega arith))
            (subst (λ h. AllZip (IsFound time moments dump) h.variables (take many tracks)) (sym head_read) (zip_found (IsFound time moments dump) tracks track_found many (omega arith)));
      }
