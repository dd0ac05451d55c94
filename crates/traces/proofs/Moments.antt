-- What a reader makes of the moments of a dump.
use Rattle.std.proofs.Common.{◌≡◌, inl, inr, ℕ, zero, suc, ◌-◌, ◌^◌, ◌<◌, ◌≤◌, Bool, true, false, cond, eqb, ◌&&◌, List, [], ◌∷◌, ◌++◌, Option, Some, None, bytes_eq, decimal, length, nat_le, slice_get, refl, sym, ap, ◌∙◌, subst, add-one, arith}
use Rattle.std.specs.Option.{option_map_or}
use Rattle.std.proofs.lemmas.Bool.{eqb-true, ne_eqb, cases_eq}
use Rattle.std.proofs.lemmas.Bool.Decides.{nat_tests}
use Rattle.std.proofs.lemmas.Fmt.{decimal_injective}
use Rattle.std.proofs.lemmas.Option.{slice_get_within, same_Some}
use Rattle.std.proofs.lemmas.Slice.Eq.{bytes_eq-Decides}
use Rattle.lists.proofs.Places.{element_at}
use Rattle.std_blocks.specs.declared.value.Value.{Value}
use Rattle.traces.specs.Laws.{bits_of}
use Rattle.traces.specs.Reader.{Shown}
use Rattle.traces.specs.Times.{AreTimes}
use Rattle.traces.specs.Tracks.{TrackValue, value_at, value_before}
use Rattle.traces.specs.ValueChanges.{begin_of_values, change_line, change_lines, change_of, end_of_values, last_told, moment_lines, moments_lines, time_line, timed, told_at, told_behind}
use Rattle.traces.proofs.Changes.{Hides, Turns, code_of, digits_text, hidden, keeps, seen, state, time_turns, turn_after}

other_code : (i j : ℕ) → i < 2 ^ 64 → j < 2 ^ 64 → (i ≡ j → ⊥) → bytes_eq (code_of i) (code_of j) ≡ false
other_code i j small_i small_j other = by (bytes_eq (decimal i) (decimal j)) refl
  where
    by : (b : Bool) → bytes_eq (decimal i) (decimal j) ≡ b → b ≡ false
    by false e = refl
    by true e = absurd (other (decimal_injective i j small_i small_j ((bytes_eq-Decides (decimal i) (decimal j)).0 e)))

module _ (looked : List ℕ) (at : ℕ) (shown next : Option (List ℕ)) where
  begins : Turns looked at begin_of_values (state 0 shown) (state 0 shown)
  unfolding begin_of_values
  begins = record { words = λ rest. refl }

  ends : Turns looked at end_of_values (state 0 next) (state 0 next)
  unfolding end_of_values
  ends = record { words = λ rest. refl }

  timed_turns : (told time : ℕ) (text : List ℕ) → told ≤ time → time < 2 ^ 64 → Turns looked at text (state time shown) (state time next)
      → Turns looked at (timed told time text) (state told shown) (state (told_behind told time text) next)
  timed_turns told time [] low small turns = subst (λ d. Turns looked at [] (state told shown) (state told d)) (ap (λ (s : Shown). s.digits) (turns.words [])) (keeps looked at (state told shown))
  timed_turns told time (c ∷ text) low small turns = by (eqb time told) refl
    where
      by : (b : Bool) → eqb time told ≡ b → Turns looked at (cond b [] (time_line time) ++ (c ∷ text)) (state told shown) (state time next)
      by true same = subst (λ n. Turns looked at (c ∷ text) (state n shown) (state time next)) (eqb-true time told same) turns
      by false other = turn_after looked at (time_line time) (c ∷ text) (state told shown) (state time shown) (state time next) (time_turns looked at told time shown low small) turns

  first_turns : (changes : List ℕ) → Turns looked at changes (state 0 shown) (state 0 next) → Turns looked at (begin_of_values ++ changes ++ end_of_values) (state 0 shown) (state 0 next)
  first_turns changes turns =
      turn_after looked at (begin_of_values ++ changes) end_of_values (state 0 shown) (state 0 next) (state 0 next)
      (turn_after looked at begin_of_values changes (state 0 shown) (state 0 shown) (state 0 next) begins turns) ends

  -- a moment shows what its changes make of what was shown; before the first one 0 was told
  pub moment_turns : (told time k : ℕ) (tracks : List TrackValue) → (k ≡ 0 → (told ≡ 0) × (time ≡ 0)) → told ≤ time → time < 2 ^ 64
      → Turns looked at (change_lines k tracks (length tracks)) (state time shown) (state time next)
      → Turns looked at (moment_lines told time tracks k) (state told shown) (state (told_at told time tracks k) next)
  moment_turns told time zero tracks first low small turns =
      let begun = first refl in
      let changes = change_lines 0 tracks (length tracks) in
      subst (λ n. Turns looked at (begin_of_values ++ changes ++ end_of_values) (state n shown) (state 0 next)) (sym begun.0)
      (first_turns changes (subst (λ n. Turns looked at changes (state n shown) (state n next)) begun.1 turns))
  moment_turns told time (suc k) tracks first low small turns =
      let changes = change_lines (suc k) tracks (length tracks) in
      subst (λ b. Turns looked at (cond b (begin_of_values ++ change_lines 0 tracks (length tracks) ++ end_of_values) (timed told time changes)) (state told shown) (state (cond b 0 (told_behind told time changes)) next))
      (sym (ne_eqb (suc k) 0 (λ e. omega (arith, e)))) (timed_turns told time changes low small turns)

-- times that don't fall
module _ (time : ℕ → ℕ) (moments : ℕ) (times : AreTimes time moments) where
  pub rises : (k m : ℕ) → k ≤ m → m ≤ moments → time k ≤ time m
  rises k zero low in_time = let same : k ≡ 0 = omega (arith, low) in subst (λ n. time n ≤ time 0) (sym same) (omega arith)
  rises k (suc m) low in_time = elim (cases_eq k (suc m)) [
    | inl same ↦ subst (λ n. time n ≤ time (suc m)) (sym same) (omega arith)
    | inr other ↦
        let step : time m ≤ time (suc m) = subst (λ n. time m ≤ time n) (add-one m) (times.order m (omega (arith, in_time))) in
        omega (arith, rises k m (omega (arith, low, other)) (omega (arith, in_time)), step)
  ]

  pub fits_64 : (k : ℕ) → k ≤ moments → time k < 2 ^ 64
  fits_64 k in_time = omega (arith, rises k moments in_time (omega arith), times.small)

  -- what was told last isn't later than the next moment
  pub told_low : (tracks : List TrackValue) (k : ℕ) → k ≤ moments → last_told time tracks k ≤ time k
  told_low tracks zero in_time = omega arith
  told_low tracks (suc k) in_time =
      let step = rises k (suc k) (omega arith) in_time in
      let before = told_low tracks k (omega (arith, in_time)) in
      by (eqb k 0) (change_lines k tracks (length tracks)) step before
    where
      by : (b : Bool) (changes : List ℕ) → time k ≤ time (suc k) → last_told time tracks k ≤ time k → cond b 0 (told_behind (last_told time tracks k) (time k) changes) ≤ time (suc k)
      by true changes step before = omega arith
      by false [] step before = omega (arith, step, before)
      by false (c ∷ changes) step before = step

  -- before the first moment 0 was told
  pub begun : (tracks : List TrackValue) (k : ℕ) → k ≡ 0 → (last_told time tracks k ≡ 0) × (time k ≡ 0)
  begun tracks zero is = (refl, times.first)
  begun tracks (suc k) is = absurd (omega (arith, is))

-- changes that aren't looked at
module _ (looked : List ℕ) (at : ℕ) (tracks : List TrackValue) (few : length tracks < 2 ^ 64)
    (fit : (i k : ℕ) (x : TrackValue) (v : Value) → slice_get tracks i ≡ Some x → value_at x k ≡ Some v → bits_of v < 2 ^ 64) where
  hides : (k i time : ℕ) (shown : Option (List ℕ)) → i < length tracks → Hides looked at time i → Turns looked at (change_of k tracks i) (state time shown) (state time shown)
  hides k i time shown low hidden_there =
      let x = element_at tracks i low in
      subst (λ o. Turns looked at (option_map_or (λ (y : TrackValue). change_line i (value_before y k) (value_at y k)) o []) (state time shown) (state time shown)) (sym x.1)
      (hidden looked at time i shown (value_before x.0 k) (value_at x.0 k) (omega (arith, low, few)) (λ v is_v. fit i k x.0 v x.1 is_v) hidden_there)

  all_hidden : (k i time : ℕ) (shown : Option (List ℕ)) → i ≤ length tracks → ((m : ℕ) → m < i → Hides looked at time m)
      → Turns looked at (change_lines k tracks i) (state time shown) (state time shown)
  all_hidden k zero time shown low hidden_there = keeps looked at (state time shown)
  all_hidden k (suc i) time shown low hidden_there =
      let s = state time shown in
      turn_after looked at (change_lines k tracks i) (change_of k tracks i) s s s (all_hidden k i time shown (omega (arith, low)) (λ m below. hidden_there m (omega (arith, below))))
      (hides k i time shown (omega (arith, low)) (hidden_there i (omega arith)))

  pub none_seen : (time : ℕ → ℕ) (moments : ℕ) → AreTimes time moments → ((i now : ℕ) → Hides looked at now i) → (m : ℕ) → m ≤ moments → (shown : Option (List ℕ))
      → Turns looked at (moments_lines time tracks m) (state 0 shown) (state (last_told time tracks m) shown)
  none_seen time moments times hidden_there zero in_time shown = keeps looked at (state 0 shown)
  none_seen time moments times hidden_there (suc m) in_time shown =
      let told = last_told time tracks m in
      turn_after looked at (moments_lines time tracks m) (moment_lines told (time m) tracks m) (state 0 shown) (state told shown) (state (last_told time tracks (suc m)) shown)
      (none_seen time moments times hidden_there m (omega (arith, in_time)) shown)
      (moment_turns looked at shown shown told (time m) m tracks (begun time moments times tracks m) (told_low time moments times tracks m (omega (arith, in_time))) (fits_64 time moments times m (omega (arith, in_time)))
      (all_hidden m (length tracks) (time m) shown (omega arith) (λ i low. hidden_there i (time m))))

-- variables of which one is looked at
module _ (time : ℕ → ℕ) (moments : ℕ) (times : AreTimes time moments) (at j : ℕ) (tracks : List TrackValue) (t : TrackValue) (is : slice_get tracks j ≡ Some t) (few : length tracks < 2 ^ 64)
    (fit : (i k : ℕ) (x : TrackValue) (v : Value) → slice_get tracks i ≡ Some x → value_at x k ≡ Some v → bits_of v < 2 ^ 64) where
  small_j : j < length tracks
  small_j = slice_get_within tracks j t is

  other : (i time : ℕ) → i < length tracks → (i ≡ j → ⊥) → Hides (code_of j) at time i
  other i time low not = ap (λ b. b && nat_le time at) (other_code i j (omega (arith, low, few)) (omega (arith, small_j, few)) not)

  late : (i time : ℕ) → at < time → Hides (code_of j) at time i
  late i time after = by (bytes_eq (code_of i) (code_of j))
    where
      no : nat_le time at ≡ false
      no = grind (arith, nat_tests)

      by : (b : Bool) → b && nat_le time at ≡ false
      by true = no
      by false = refl

  -- the changes of a moment show the value there
  one_seen : (k i time : ℕ) (shown : Option (List ℕ)) (v : Value) → j < i → i ≤ length tracks → time ≤ at → value_at t k ≡ Some v
      → ((u : Value) → value_before t k ≡ Some u → shown ≡ Some (digits_text u))
      → Turns (code_of j) at (change_lines k tracks i) (state time shown) (state time (Some (digits_text v)))
  one_seen k zero time shown v below low early value was = absurd (omega (arith, below))
  one_seen k (suc i) time shown v below low early value was = elim (cases_eq i j) [
    | inl same ↦
        let lines : Option TrackValue → List ℕ = λ o. option_map_or (λ (y : TrackValue). change_line j (value_before y k) (value_at y k)) o [] in
        let sees : bytes_eq (code_of j) (code_of j) && nat_le time at ≡ true =
        ap (λ b. b && nat_le time at) ((bytes_eq-Decides (code_of j) (code_of j)).1 refl) ∙ (grind (arith, nat_tests)) in
        let line : Turns (code_of j) at (change_line j (value_before t k) (value_at t k)) (state time shown) (state time (Some (digits_text v))) =
        subst (λ o. Turns (code_of j) at (change_line j (value_before t k) o) (state time shown) (state time (Some (digits_text v)))) (sym value)
        (seen (code_of j) at time j shown (value_before t k) v (omega (arith, small_j, few)) (fit j k t v is value) sees was) in
        subst (λ m. Turns (code_of j) at (change_lines k tracks m ++ change_of k tracks m) (state time shown) (state time (Some (digits_text v)))) (sym same)
        (turn_after (code_of j) at (change_lines k tracks j) (change_of k tracks j) (state time shown) (state time shown) (state time (Some (digits_text v)))
        (all_hidden (code_of j) at tracks few fit k j time shown (omega (arith, small_j)) (λ m under. other m time (omega (arith, under, small_j)) (λ e. omega (arith, e, under))))
        (subst (λ o. Turns (code_of j) at (lines o) (state time shown) (state time (Some (digits_text v)))) (sym is) line))
    | inr differs ↦
        turn_after (code_of j) at (change_lines k tracks i) (change_of k tracks i) (state time shown) (state time (Some (digits_text v))) (state time (Some (digits_text v)))
        (one_seen k i time shown v (omega (arith, below, differs)) (omega (arith, low)) early value was)
        (hides (code_of j) at tracks few fit k i time (Some (digits_text v)) (omega (arith, low)) (other i time (omega (arith, low)) differs))
  ]

  before_suc : (k : ℕ) → value_before t (suc k) ≡ value_at t k
  before_suc k =
      let back : suc k - 1 ≡ k = omega arith in
      ap (λ b. cond b None (slice_get t.values (suc k - 1))) (ne_eqb (suc k) 0 (λ e. omega (arith, e))) ∙ ap (slice_get t.values) back

  -- what is shown behind so many moments
  abbrev ShownBehind : ℕ → Option (List ℕ) → Type 0
  ShownBehind m shown = Turns (code_of j) at (moments_lines time tracks m) (state 0 None) (state (last_told time tracks m) shown)

  -- one moment more
  one_more : (k : ℕ) (shown next : Option (List ℕ)) → k ≤ moments → ShownBehind k shown
      → Turns (code_of j) at (change_lines k tracks (length tracks)) (state (time k) shown) (state (time k) next) → ShownBehind (suc k) next
  one_more k shown next in_time first changes =
      let told = last_told time tracks k in
      turn_after (code_of j) at (moments_lines time tracks k) (moment_lines told (time k) tracks k) (state 0 None) (state told shown) (state (last_told time tracks (suc k)) next) first
      (moment_turns (code_of j) at shown next told (time k) k tracks (begun time moments times tracks k) (told_low time moments times tracks k in_time) (fits_64 time moments times k in_time) changes)

  -- behind a moment that isn't late the value there is shown
  up_to : (k : ℕ) (v : Value) → time k ≤ at → k ≤ moments → value_at t k ≡ Some v → ShownBehind (suc k) (Some (digits_text v))
  up_to zero v early in_time value =
      one_more 0 None (Some (digits_text v)) in_time (keeps (code_of j) at (state 0 None))
      (one_seen 0 (length tracks) (time 0) None v small_j (omega arith) early value (λ u no. absurd (let e : None ≡ Some u = no in cc)))
  up_to (suc k) v early in_time value =
      let step = rises time moments times k (suc k) (omega arith) in_time in
      let before = element_at t.values k (omega (arith, slice_get_within t.values (suc k) v value)) in
      let u = before.0 in
      one_more (suc k) (Some (digits_text u)) (Some (digits_text v)) in_time (up_to k u (omega (arith, early, step)) (omega (arith, in_time)) before.1)
      (one_seen (suc k) (length tracks) (time (suc k)) (Some (digits_text u)) v small_j (omega arith) early value
      (λ w is_w. ap (λ x. Some (digits_text x)) (same_Some u w (sym before.1 ∙ sym (before_suc k) ∙ is_w))))

  -- and so it stays behind later moments
  pub shown_after : (k : ℕ) (v : Value) → time k ≤ at → at < time (suc k) → value_at t k ≡ Some v → (m : ℕ) → k < m → m ≤ moments → ShownBehind m (Some (digits_text v))
  shown_after k v early late_next value zero behind in_time = absurd (omega (arith, behind))
  shown_after k v early late_next value (suc m) behind in_time = elim (cases_eq m k) [
    | inl same ↦ subst (λ n. ShownBehind (suc n) (Some (digits_text v))) (sym same) (up_to k v early (omega (arith, in_time, same)) value)
    | inr other_moment ↦
        let grows = rises time moments times (suc k) m (omega (arith, behind, other_moment)) (omega (arith, in_time)) in
        one_more m (Some (digits_text v)) (Some (digits_text v)) (omega (arith, in_time)) (shown_after k v early late_next value m (omega (arith, behind, other_moment)) (omega (arith, in_time)))
        (all_hidden (code_of j) at tracks few fit m (length tracks) (time m) (Some (digits_text v)) (omega arith) (λ i low. late i (time m) (omega (arith, grows, late_next))))
  ]
