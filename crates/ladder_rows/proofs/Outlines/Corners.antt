-- No box begins where no `+` is, and where no dash follows it.
use Rattle.std.proofs.Common.{ℕ, suc, ◌+◌, ◌-◌, ◌<◌, ◌≡◌, ◌≢◌, ◌==◌, [], true, false, IsFalse, None, refl, ap, sym, arith}
use Rattle.std.specs.Prelude.{slice_index_or}
use Rattle.std.proofs.lemmas.Bool.{and_left, and_right, and_parts, eqb-true, ltb-true, ne_eqb, false_from_ne_true}
use Rattle.ladder_rows.specs.Rows.{Rows, char_at, width}
use Rattle.ladder_rows.specs.Boxes.{begins_box, box_at, dashes_after, left_column, option_list, row_outlines}
use Rattle.ladder_rows.specs.Faults.{bad_box}
use Rattle.ladder_rows.specs.Steps.Search.{HasNoCorner}
use Rattle.ladder_rows.proofs.Rows.Runs.{run-none, upto-none}

no_corner : (d : Rows) (r c : ℕ) → char_at d r c ≢ 43 → begins_box d r c ≡ false
unfolding begins_box
no_corner d r c h = and_left _ _ (and_left _ _ (and_left _ _ (and_left _ _ (and_right _ _ (ne_eqb (char_at d r c) 43 h)))))

no_outline : (d : Rows) (r c : ℕ) → begins_box d r c ≡ false → box_at d r c ≡ None
unfolding box_at
no_outline d r c h = rw (h, box_at) refl

pub no_box_at : (d : Rows) (r c : ℕ) → char_at d r c ≢ 43 → box_at d r c ≡ None
no_box_at d r c h = no_outline d r c (no_corner d r c h)

pub no_bad_box : (d : Rows) (r c : ℕ) → char_at d r c ≢ 43 → bad_box d r c ≡ false
no_bad_box d r c h = and_left _ _ (no_corner d r c h)

-- no dash follows the place
no_dash : (d : Rows) (r c : ℕ) → char_at d r (c + 1) ≢ 45 → dashes_after d r c ≡ 0
no_dash d r c h = run-none (λ k. char_at d r k == 45) (c + 1) (width d - c) (ne_eqb (char_at d r (c + 1)) 45 h)

-- what stands where a box begins
begun : (d : Rows) (r c : ℕ) → begins_box d r c ≡ true → (left_column d < c) × (char_at d r c ≡ 43) × (0 < dashes_after d r c)
unfolding begins_box
begun d r c e =
    let a = (and_parts _ _ (and_parts _ _ (and_parts _ _ e).0).0).0 in
    let b = and_parts _ _ a in
    let f = and_parts _ _ b.0 in
    (ltb-true (left_column d) c f.0, eqb-true (char_at d r c) 43 f.1, ltb-true 0 (dashes_after d r c) b.1)

-- in a row without a corner no box begins
pub begins_nowhere : (d : Rows) (r : ℕ) → HasNoCorner (left_column d) (slice_index_or d r []) → (c : ℕ) → begins_box d r c ≡ false
unfolding char_at
begins_nowhere d r h c =
    false_from_ne_true (begins_box d r c) (λ e.
    let b = begun d r c e in
    let none : dashes_after d r c ≡ 0 = no_dash d r c (h c b.0 b.1) in
    absurd (omega (arith, none, b.2)))

-- where no box begins there are no outlines
pub none_in_row : (d : Rows) (r : ℕ) → ((c : ℕ) → begins_box d r c ≡ false) → [] ≡ row_outlines d r
unfolding row_outlines
none_in_row d r h = sym (upto-none (width d) (λ c. option_list (box_at d r c)) (λ c. ap option_list (no_outline d r (suc c) (h (suc c)))))

-- where no box begins none is bad
pub no_bad_one : (d : Rows) (r : ℕ) → ((c : ℕ) → begins_box d r c ≡ false) → (c : ℕ) → IsFalse (bad_box d r c)
no_bad_one d r h c = and_left _ _ (h c)
