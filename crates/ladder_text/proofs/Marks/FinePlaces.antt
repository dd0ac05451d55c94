-- Places in a row without boxes that have no fault, by their marks and what gives state to them.
use Rattle.std.proofs.Common.{ℕ, zero, suc, ◌+◌, ◌-◌, ◌<◌, ◌≤◌, ◌≡◌, ◌==◌, ◌&&◌, ◌||◌, length, not, if◌then◌else◌, Bool, true, false, refl, ap, ◌∙◌, arith}
use Rattle.std.specs.List.{list_any, range_with_len}
use Rattle.std.proofs.lemmas.Bool.{and_parts, and_from, and_left, and_right, or_from, or_parts, eqb-true}
use Rattle.drawings.specs.declared.mark.Mark.TheVariants.{Blank, Rail, Wire, Join, Upright, ContactPart, CoilPart, BoxPart}
use Rattle.ladder_rows.specs.declared.boxes.box_test.BoxTest.TheVariants.{BlindLeft, BlindRight}
use Rattle.ladder_text.specs.declared.places.place_fault.PlaceFault.{PlaceFault}
use Rattle.ladder_text.specs.declared.places.place_fault.PlaceFault.TheVariants.{BadMark, Crossing, NoSource}
use Rattle.ladder_rows.specs.Rows.{char_at, height, is_rail_char, run}
use Rattle.ladder_text.specs.Places.{Layout, mark, in_box, in_contact, in_coil, in_operand, is_taken, is_rail_column, is_wire, is_join, is_upright, is_vertical, is_symbol, is_box_part, gives}
use Rattle.ladder_text.specs.Faults.{has_meaning, is_blind, line_end, bad_mark, touches, crossing, upright_len, is_fed, has_fed_join, no_source, has_fault}
use Rattle.ladder_rows.specs.Steps.RowBoxes.{IsBare}
use Rattle.ladder_text.proofs.Marks.LaidMarks.{taken_by_mark}
use Rattle.ladder_text.proofs.Marks.SymbolPlaces.{first_by_mark}

wire_tests : (a b d e j u w : Bool)
    → (if a then BoxPart else (if b then ContactPart else (if d then CoilPart else (if e then Rail else (if j then Join else (if u then Upright else (if w then Wire else Blank))))))) ≡ Wire → w ≡ true
wire_tests true b d e j u w h = cc
wire_tests false true d e j u w h = cc
wire_tests false false true e j u w h = cc
wire_tests false false false true j u w h = cc
wire_tests false false false false true u w h = cc
wire_tests false false false false false true w h = cc
wire_tests false false false false false false true h = refl
wire_tests false false false false false false false h = cc

-- a wire is a dash
wire_char : (p : Layout) (r c : ℕ) → mark p r c ≡ Wire → char_at p.rows r c ≡ 45
unfolding mark
wire_char p r c h =
    eqb-true _ _ (and_parts _ _ (wire_tests (in_box p r c) (in_contact p r c) (in_coil p r c) (is_rail_column p c && is_rail_char (char_at p.rows r c))
    (char_at p.rows r c == 43) (char_at p.rows r c == 124) (char_at p.rows r c == 45 && not (in_operand p r c)) h)).0

wire_means : (p : Layout) (r c : ℕ) → mark p r c ≡ Wire → has_meaning (char_at p.rows r c) ≡ true
wire_means p r c h = rw (wire_char p r c h) refl

not_true : (b : Bool) → b ≡ true → not b ≡ false
not_true b h = rw h refl

not_blind : (p : Layout) (r c : ℕ) → IsBare p.boxes r → is_blind p r c ≡ false
not_blind p r c bare = and_right _ _ (or_from _ _ (bare.none BlindLeft c) (bare.none BlindRight (line_end p r c)))

no_bad_mark : (p : Layout) (r c : ℕ) → (not (is_taken p r c) && not (has_meaning (char_at p.rows r c))) ≡ false → is_blind p r c ≡ false → bad_mark p r c ≡ false
no_bad_mark p r c a b = or_from _ _ a b

sourced : (p : Layout) (r c : ℕ) → gives p r (c - 1) ≡ true → is_vertical (mark p r c) ≡ false → no_source p r c ≡ false
sourced p r c g v = or_from _ _ (and_right _ _ (not_true _ g)) (and_left _ _ (and_left _ _ v))

or-true : (b : Bool) → (b || true) ≡ true
or-true true = refl
or-true false = refl

-- a wire or a place of a symbol, where state enters
pub fine_wire : (p : Layout) (r c : ℕ) → IsBare p.boxes r → mark p r c ≡ Wire → gives p r (c - 1) ≡ true → (f : PlaceFault) → has_fault f p r c ≡ false
fine_wire p r c bare m g BadMark = no_bad_mark p r c (and_right _ _ (not_true _ (wire_means p r c m))) (not_blind p r c bare)
fine_wire p r c bare m g Crossing = and_left _ _ (ap is_upright m)
fine_wire p r c bare m g NoSource = sourced p r c g (ap is_vertical m)

pub fine_symbol : (p : Layout) (r c : ℕ) → IsBare p.boxes r → is_symbol (mark p r c) ≡ true → is_upright (mark p r c) ≡ false → is_vertical (mark p r c) ≡ false
    → gives p r (c - 1) ≡ true → (f : PlaceFault) → has_fault f p r c ≡ false
fine_symbol p r c bare m u v g BadMark =
    let taken : is_taken p r c ≡ true = taken_by_mark p r c ∙ ap (λ (b : Bool). is_box_part (mark p r c) || b) m ∙ or-true _ in
    no_bad_mark p r c (and_left _ _ (not_true _ taken)) (not_blind p r c bare)
fine_symbol p r c bare m u v g Crossing = and_left _ _ u
fine_symbol p r c bare m u v g NoSource = sourced p r c g v

pub fine_contact : (p : Layout) (r c : ℕ) → IsBare p.boxes r → mark p r c ≡ ContactPart → gives p r (c - 1) ≡ true → (f : PlaceFault) → has_fault f p r c ≡ false
fine_contact p r c bare m = fine_symbol p r c bare (rw m refl) (rw m refl) (rw m refl)

pub fine_coil : (p : Layout) (r c : ℕ) → IsBare p.boxes r → mark p r c ≡ CoilPart → gives p r (c - 1) ≡ true → (f : PlaceFault) → has_fault f p r c ≡ false
fine_coil p r c bare m = fine_symbol p r c bare (rw m refl) (rw m refl) (rw m refl)

join_tests : (a b d e j u w : Bool)
    → (if a then BoxPart else (if b then ContactPart else (if d then CoilPart else (if e then Rail else (if j then Join else (if u then Upright else (if w then Wire else Blank))))))) ≡ Join → j ≡ true
join_tests true b d e j u w h = cc
join_tests false true d e j u w h = cc
join_tests false false true e j u w h = cc
join_tests false false false true j u w h = cc
join_tests false false false false true u w h = refl
join_tests false false false false false true w h = cc
join_tests false false false false false false true h = cc
join_tests false false false false false false false h = cc

upright_tests : (a b d e j u w : Bool)
    → (if a then BoxPart else (if b then ContactPart else (if d then CoilPart else (if e then Rail else (if j then Join else (if u then Upright else (if w then Wire else Blank))))))) ≡ Upright → u ≡ true
upright_tests true b d e j u w h = cc
upright_tests false true d e j u w h = cc
upright_tests false false true e j u w h = cc
upright_tests false false false true j u w h = cc
upright_tests false false false false true u w h = cc
upright_tests false false false false false true w h = refl
upright_tests false false false false false false true h = cc
upright_tests false false false false false false false h = cc

join_means : (p : Layout) (r c : ℕ) → mark p r c ≡ Join → has_meaning (char_at p.rows r c) ≡ true
unfolding mark
join_means p r c h =
    let e : char_at p.rows r c ≡ 43 =
    eqb-true _ _ (join_tests (in_box p r c) (in_contact p r c) (in_coil p r c) (is_rail_column p c && is_rail_char (char_at p.rows r c))
    (char_at p.rows r c == 43) (char_at p.rows r c == 124) (char_at p.rows r c == 45 && not (in_operand p r c)) h) in
    rw e refl

upright_means : (p : Layout) (r c : ℕ) → mark p r c ≡ Upright → has_meaning (char_at p.rows r c) ≡ true
unfolding mark
upright_means p r c h =
    let e : char_at p.rows r c ≡ 124 =
    eqb-true _ _ (upright_tests (in_box p r c) (in_contact p r c) (in_coil p r c) (is_rail_column p c && is_rail_char (char_at p.rows r c))
    (char_at p.rows r c == 43) (char_at p.rows r c == 124) (char_at p.rows r c == 45 && not (in_operand p r c)) h) in
    rw e refl

run_some : (f : ℕ → Bool) (r n : ℕ) → 0 < n → f r ≡ true → 0 < run f r n
run_some f r zero h e = absurd (omega arith)
run_some f r (suc n) h e = rw e (omega arith)

any_first : (f : ℕ → Bool) (r n : ℕ) → 0 < n → f r ≡ true → list_any f (range_with_len r n) ≡ true
any_first f r zero h e = absurd (omega arith)
any_first f r (suc n) h e = rw e refl

-- a join that state enters feeds itself
fed_join : (p : Layout) (r c : ℕ) → 1 < length p.rows → mark p r c ≡ Join → gives p r (c - 1) ≡ true → has_fed_join p r c ≡ true
fed_join p r c high m g =
    let long : 0 < upright_len p r c = run_some (λ k. is_vertical (mark p k c)) r (height p.rows) (omega arith) (ap is_vertical m) in
    let fed : is_fed p c r ≡ true = and_from _ _ (ap is_join m) g in
    any_first (is_fed p c) r (upright_len p r c) long fed

-- a join that state enters
pub fine_join : (p : Layout) (r c : ℕ) → IsBare p.boxes r → 1 < length p.rows → mark p r c ≡ Join → gives p r (c - 1) ≡ true → (f : PlaceFault) → has_fault f p r c ≡ false
fine_join p r c bare high m g BadMark = no_bad_mark p r c (and_right _ _ (not_true _ (join_means p r c m))) (not_blind p r c bare)
fine_join p r c bare high m g Crossing = and_left _ _ (ap is_upright m)
fine_join p r c bare high m g NoSource = or_from _ _ (and_right _ _ (not_true _ g)) (and_right _ _ (not_true _ (fed_join p r c high m g)))

-- what a place of an upright without a crossing has above it
goes_up : (a b x y z w : Bool) → a ≡ true → (a && (x || y || not z || not w)) ≡ false → not z ≡ false
goes_up true b x y z w e h = (or_parts _ _ (or_parts _ _ h).0).1
goes_up false b x y z w e h = absurd (cc)

-- a place of an upright that no line crosses, between others
pub fine_upright : (p : Layout) (r c : ℕ) → IsBare p.boxes r → mark p r c ≡ Upright → crossing p r c ≡ false → (f : PlaceFault) → has_fault f p r c ≡ false
fine_upright p r c bare m x BadMark = no_bad_mark p r c (and_right _ _ (not_true _ (upright_means p r c m))) (not_blind p r c bare)
fine_upright p r c bare m x Crossing = x
fine_upright p r c bare m x NoSource =
    or_from _ _ (and_left _ _ (or_from _ _ (ap is_wire m) (first_by_mark p r c (ap is_symbol m))))
    (and_left _ _ (and_right _ _ (goes_up (is_upright (mark p r c)) true (touches p r (c - 1)) (touches p r (c + 1)) (is_vertical (mark p (r - 1) c)) (is_vertical (mark p (r + 1) c)) (ap is_upright m) x)))

-- a character that has a meaning, where no line is
fine_rest : (p : Layout) (r c : ℕ) → is_symbol (mark p r c) ≡ false → is_wire (mark p r c) ≡ false → is_join (mark p r c) ≡ false → is_upright (mark p r c) ≡ false
    → has_meaning (char_at p.rows r c) ≡ true → (f : PlaceFault) → has_fault f p r c ≡ false
fine_rest p r c s w j u t BadMark =
    no_bad_mark p r c (and_right _ _ (not_true _ t)) (and_left _ _ (or_from _ _ (or_from _ _ w j) (first_by_mark p r c s)))
fine_rest p r c s w j u t Crossing = and_left _ _ u
fine_rest p r c s w j u t NoSource = or_from _ _ (and_left _ _ (or_from _ _ w (first_by_mark p r c s))) (and_left _ _ (and_left _ _ (or_from _ _ j u)))

pub fine_blank : (p : Layout) (r c : ℕ) → mark p r c ≡ Blank → has_meaning (char_at p.rows r c) ≡ true → (f : PlaceFault) → has_fault f p r c ≡ false
fine_blank p r c m = fine_rest p r c (rw m refl) (rw m refl) (rw m refl) (rw m refl)

pub fine_rail : (p : Layout) (r c : ℕ) → mark p r c ≡ Rail → has_meaning (char_at p.rows r c) ≡ true → (f : PlaceFault) → has_fault f p r c ≡ false
fine_rail p r c m = fine_rest p r c (rw m refl) (rw m refl) (rw m refl) (rw m refl)

-- a row in which no kind of fault is
pub every_fault : (p : Layout) (r w : ℕ) → ((c : ℕ) → c ≤ w → has_fault BadMark p r c ≡ false) → ((c : ℕ) → c ≤ w → has_fault Crossing p r c ≡ false)
    → ((c : ℕ) → c ≤ w → has_fault NoSource p r c ≡ false) → (f : PlaceFault) (c : ℕ) → c ≤ w → has_fault f p r c ≡ false
every_fault p r w a b d BadMark = a
every_fault p r w a b d Crossing = b
every_fault p r w a b d NoSource = d
