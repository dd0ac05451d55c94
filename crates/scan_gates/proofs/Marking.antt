-- Rows that show outputs.
use Rattle.std.proofs.Common.{◌≡◌, ℕ, ◌+◌, ◌<◌, ◌⊎◌, ◌↔◌, inl, inr, List, Bool, true, false, ◌||◌, Some, Any, length, get_or, set, take, arith, refl, sym, ap, ◌∙◌, subst}
use Rattle.std.proofs.lemmas.Bool.{cases_eq}
use Rattle.std.proofs.lemmas.List.{get_or-take, length-take}
use Rattle.std.proofs.lemmas.Option.{slice_get-get_or}
use Rattle.lists.proofs.Places.{some_same}
use Rattle.gates.specs.declared.signal.Signal.{Signal}
use Rattle.gates.specs.Signals.{signal_value}
use Rattle.std_blocks.specs.declared.pins.PinsOut.{PinsOut}
use Rattle.std_blocks.specs.Pins.{field_value}
use Rattle.scan_steps.specs.declared.bound_box.BoundOutput.{BoundOutput}
use Rattle.scan_steps.specs.Values.{is_true}
use Rattle.scan_steps.specs.Conducting.{bit_at}
use Rattle.scan_steps.specs.Steps.BoxSteps.{IsMarked, HasOutput}
use Rattle.scan_steps.specs.Steps.Passing.{AreMarked, ArePinsShown}
use Rattle.scan_gates.specs.Encoded.{bits_at}
use Rattle.scan_gates.proofs.Bits.{bit_there, bit_set_same, bit_set_other, either_on, first_on, second_on}

-- one more pin
any_more : {X : Type 0} (P : X → Type 0) (xs : List X) (i : ℕ) (d : X) → i < length xs → Any P (take i xs) ⊎ P (get_or xs i d) → Any P (take (i + 1) xs)
any_more P xs i d lt (inl (k, x, in', at, p)) =
    let long = length-take i xs in
    let more = length-take (i + 1) xs in
    (k, x, omega arith, get_or-take (i + 1) xs k x (omega arith) ∙ sym (get_or-take i xs k x (omega arith)) ∙ at, p)
any_more P xs i d lt (inr p) =
    let more = length-take (i + 1) xs in
    let there = slice_get-get_or xs i d lt in
    (i, get_or xs i d, omega arith, get_or-take (i + 1) xs i (get_or xs i d) (omega arith) ∙ some_same (sym (slice_get-get_or xs i (get_or xs i d) lt) ∙ there), p)

any_less : {X : Type 0} (P : X → Type 0) (xs : List X) (i : ℕ) (d : X) → i < length xs → Any P (take (i + 1) xs) → Any P (take i xs) ⊎ P (get_or xs i d)
any_less P xs i d lt (k, x, in', at, p) =
    let long = length-take i xs in
    let more = length-take (i + 1) xs in
    let there : get_or xs k x ≡ x = sym (get_or-take (i + 1) xs k x (omega arith)) ∙ at in
    elim (cases_eq k i) [
      | inl e ↦
          let here : get_or xs i x ≡ x = rw e at there in
          inr (subst P (sym here ∙ some_same (sym (slice_get-get_or xs i x lt) ∙ slice_get-get_or xs i d lt)) p)
      | inr ne ↦ inl (k, x, omega arith, get_or-take i xs k x (omega arith) ∙ there, p)
    ]

-- no pin is among the first none
pub none_marked : (pins : List BoundOutput) (values : PinsOut) (old : List Bool) (k : ℕ) → (bit_at old k ≡ true) ↔ ((bit_at old k ≡ true) ⊎ IsMarked (take 0 pins) values k)
none_marked pins values old k = (λ on. inl on, λ some. elim some [ inl on ↦ on | inr (i, o, lt, at, is) ↦ absurd (omega (arith, lt)) ])

abbrev Marks : PinsOut → ℕ → BoundOutput → Type 0
Marks values k o = (o.row ≡ k) × (is_true (Some (field_value values o.field)) ≡ true)

-- one more pin marks its row
pub mark_more : (v : ℕ → Bool) (pins : List BoundOutput) (values : PinsOut) (i : ℕ) (d : BoundOutput) (old : List Bool) (rows : List Signal) (s : Signal)
    → i < length pins → (get_or pins i d).row < length rows
    → ((k : ℕ) → (bit_at (bits_at v rows) k ≡ true) ↔ ((bit_at old k ≡ true) ⊎ IsMarked (take i pins) values k))
    → signal_value v s ≡ (bit_at (bits_at v rows) (get_or pins i d).row || is_true (Some (field_value values (get_or pins i d).field)))
    → (k : ℕ) → (bit_at (bits_at v (set rows (get_or pins i d).row s)) k ≡ true) ↔ ((bit_at old k ≡ true) ⊎ IsMarked (take (i + 1) pins) values k)
mark_more v pins values i d old rows s lt in' was is k = (there, back)
  where
    here : k ≡ (get_or pins i d).row → bit_at (bits_at v (set rows (get_or pins i d).row s)) k ≡ (bit_at (bits_at v rows) k || is_true (Some (field_value values (get_or pins i d).field)))
    here e = rw e (bit_set_same v rows (get_or pins i d).row s in' ∙ is)

    there : bit_at (bits_at v (set rows (get_or pins i d).row s)) k ≡ true → (bit_at old k ≡ true) ⊎ IsMarked (take (i + 1) pins) values k
    there h = elim (cases_eq k (get_or pins i d).row) [
      | inl e ↦ elim (either_on (bit_at (bits_at v rows) k) (is_true (Some (field_value values (get_or pins i d).field))) (sym (here e) ∙ h)) [
        | inl before ↦ elim ((was k).0 before) [ inl on ↦ inl on | inr m ↦ inr (any_more (Marks values k) pins i d lt (inl m)) ]
        | inr shown ↦ inr (any_more (Marks values k) pins i d lt (inr (sym e, shown)))
      ]
      | inr ne ↦ elim ((was k).0 (sym (bit_set_other v rows (get_or pins i d).row k s ne) ∙ h)) [ inl on ↦ inl on | inr m ↦ inr (any_more (Marks values k) pins i d lt (inl m)) ]
    ]

    before_on : bit_at (bits_at v rows) k ≡ true → bit_at (bits_at v (set rows (get_or pins i d).row s)) k ≡ true
    before_on h = elim (cases_eq k (get_or pins i d).row) [
      | inl e ↦ here e ∙ first_on (bit_at (bits_at v rows) k) (is_true (Some (field_value values (get_or pins i d).field))) h
      | inr ne ↦ bit_set_other v rows (get_or pins i d).row k s ne ∙ h
    ]

    back : (bit_at old k ≡ true) ⊎ IsMarked (take (i + 1) pins) values k → bit_at (bits_at v (set rows (get_or pins i d).row s)) k ≡ true
    back (inl on) = before_on ((was k).1 (inl on))
    back (inr m) = elim (any_less (Marks values k) pins i d lt m) [
      | inl less ↦ before_on ((was k).1 (inr less))
      | inr p ↦ here (sym p.0) ∙ second_on (bit_at (bits_at v rows) k) (is_true (Some (field_value values (get_or pins i d).field))) p.1
    ]

pub mark_one : (v : ℕ → Bool) (pins : List BoundOutput) (values : PinsOut) (i : ℕ) (d : BoundOutput) (old : List Bool) (rows : List Signal) (e s on : Signal)
    → i < length pins → (get_or pins i d).row < length rows
    → ((k : ℕ) → (bit_at (bits_at v rows) k ≡ true) ↔ ((bit_at old k ≡ true) ⊎ IsMarked (take i pins) values k))
    → signal_value v s ≡ (signal_value v (get_or rows (get_or pins i d).row e) || signal_value v on) → signal_value v on ≡ is_true (Some (field_value values (get_or pins i d).field))
    → (k : ℕ) → (bit_at (bits_at v (set rows (get_or pins i d).row s)) k ≡ true) ↔ ((bit_at old k ≡ true) ⊎ IsMarked (take (i + 1) pins) values k)
mark_one v pins values i d old rows e s on lt in' was is shown =
    mark_more v pins values i d old rows s lt in' was
    (is ∙ ap (λ b. b || signal_value v on) (sym (bit_there v rows (get_or pins i d).row e in')) ∙ ap (λ b. bit_at (bits_at v rows) (get_or pins i d).row || b) shown)

-- one more row is cleared
pub clear_more : (v : ℕ → Bool) (pins : List BoundOutput) (i : ℕ) (d : BoundOutput) (rows : List Signal) (off : Signal) → i < length pins → (get_or pins i d).row < length rows
    → ((r : ℕ) → HasOutput (take i pins) r → bit_at (bits_at v rows) r ≡ signal_value v off)
    → (r : ℕ) → HasOutput (take (i + 1) pins) r → bit_at (bits_at v (set rows (get_or pins i d).row off)) r ≡ signal_value v off
clear_more v pins i d rows off lt in' cleared r has = elim (cases_eq r (get_or pins i d).row) [
  | inl same ↦ rw same (bit_set_same v rows (get_or pins i d).row off in')
  | inr ne ↦ bit_set_other v rows (get_or pins i d).row r off ne ∙ cleared r (elim (any_less (λ o. o.row ≡ r) pins i d lt has) [ inl less ↦ less | inr e ↦ absurd (ne (sym e)) ])
]

pub clear_kept : (v : ℕ → Bool) (pins : List BoundOutput) (i : ℕ) (d : BoundOutput) (rows initial : List Signal) (off : Signal) → i < length pins
    → ((r : ℕ) → (HasOutput (take i pins) r → ⊥) → bit_at (bits_at v rows) r ≡ bit_at (bits_at v initial) r)
    → (r : ℕ) → (HasOutput (take (i + 1) pins) r → ⊥) → bit_at (bits_at v (set rows (get_or pins i d).row off)) r ≡ bit_at (bits_at v initial) r
clear_kept v pins i d rows initial off lt kept r none =
    bit_set_other v rows (get_or pins i d).row r off (λ e. none (any_more (λ o. o.row ≡ r) pins i d lt (inr (sym e)))) ∙ kept r (λ has. none (any_more (λ o. o.row ≡ r) pins i d lt (inl has)))

same_states : (a b : Bool) → (a ≡ true → b ≡ true) → (b ≡ true → a ≡ true) → a ≡ b
same_states true true there back = refl
same_states true false there back = absurd (let no = there refl in cc)
same_states false true there back = absurd (let no = back refl in cc)
same_states false false there back = refl

has_marked : (pins : List BoundOutput) (values : PinsOut) (r : ℕ) → IsMarked pins values r → HasOutput pins r
has_marked pins values r (k, o, lt, at, is) = (k, o, lt, at, is.0)

-- rows that are cleared, and then marked, show the outputs
pub shown_by : (pins : List BoundOutput) (values : PinsOut) (old mid new : List Bool) → length mid ≡ length old → length new ≡ length mid
    → ((r : ℕ) → HasOutput pins r → bit_at mid r ≡ false) → ((r : ℕ) → (HasOutput pins r → ⊥) → bit_at mid r ≡ bit_at old r)
    → AreMarked pins values mid new → ArePinsShown pins values old new
shown_by pins values old mid new long longer cleared kept marked = record {
  long = longer ∙ long;
  within = λ r has. (λ on. elim ((marked r).0 on) [ inl before ↦ absurd (let no = cleared r has in cc) | inr m ↦ m ], λ m. (marked r).1 (inr m));
  outside = λ r none. same_states (bit_at new r) (bit_at mid r)
      (λ on. elim ((marked r).0 on) [ inl before ↦ before | inr m ↦ absurd (none (has_marked pins values r m)) ]) (λ on. (marked r).1 (inl on))
      ∙ kept r none;
}
