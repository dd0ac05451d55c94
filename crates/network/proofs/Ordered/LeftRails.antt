-- The places of the left rail, row by row.
use Rattle.std.proofs.Common.{◌≡◌, ℕ, ◌+◌, ◌<◌, inl, inr, List, [], ◌∷◌, ◌++◌, Some, Contains, slice_get, length, refl, sym, ap, ◌∙◌, arith}
use Rattle.std.proofs.lemmas.Bool.{cases_eq}
use Rattle.std.proofs.lemmas.Option.{slice_get_within}
use Rattle.std.proofs.lemmas.List.Elements.{Contains-append_left}
use Rattle.lists.proofs.Places.{push_cases, push_here}
use Rattle.lists.proofs.Members.{contains_at}
use Rattle.drawings.specs.Picture.{Picture, IsSound, mark_at}
use Rattle.drawings.specs.declared.mark.Mark.TheVariants.{Rail}
use Rattle.drawings.specs.declared.place.Place.{Place}
use Rattle.network.specs.Links.{place}
use Rattle.network.specs.Networks.{IsLeftRail, AreLeftRails}
use Rattle.network.proofs.Elements.{place_same}
use Rattle.network.proofs.Listed.Sharing.{rail_row}

-- the places of the left rail in the rows above n
pub record RailsTo (g : Picture) (rails : List Place) (n : ℕ) : Type 0 where
  pub each : (k : ℕ) (p : Place) → slice_get rails k ≡ Some p → IsLeftRail g p
  pub above : (k : ℕ) (p : Place) → slice_get rails k ≡ Some p → p.row < n
  pub whole : (p : Place) → IsLeftRail g p → p.row < n → Contains rails p
  pub rising : (j k : ℕ) (p q : Place) → j < k → slice_get rails j ≡ Some p → slice_get rails k ≡ Some q → p.row < q.row

pub rails_none : (g : Picture) → IsSound g → RailsTo g [] 1
rails_none g sound = record {
  each = λ k p at. absurd (cc);
  above = λ k p at. absurd (cc);
  whole = λ p rail lt. absurd (let r = (rail_row g sound p rail).0 in omega arith);
  rising = λ j k p q lt at at'. absurd (cc);
}

pub rails_skip : (g : Picture) (rails : List Place) (n : ℕ) → (mark_at g n g.left ≡ Rail → ⊥) → RailsTo g rails n → RailsTo g rails (n + 1)
rails_skip g rails n other done = record {
  each = done.each;
  above = λ k p at. (let lt = done.above k p at in omega arith);
  whole = λ p rail lt. elim (cases_eq p.row n) [
    | inl e ↦ absurd (other (sym (ap (λ r. mark_at g r g.left) e) ∙ sym (ap (λ c. mark_at g p.row c) rail.column) ∙ rail.mark))
    | inr ne ↦ done.whole p rail (omega arith)
  ];
  rising = done.rising;
}

pub rails_more : (g : Picture) (rails : List Place) (n : ℕ) → mark_at g n g.left ≡ Rail → RailsTo g rails n → RailsTo g (rails ++ place n g.left ∷ []) (n + 1)
rails_more g rails n is done = record {
  each = λ k p at. elim (push_cases rails new k p at) [ inl old ↦ done.each k p old | inr e ↦ rw e.1 here ];
  above = λ k p at. elim (push_cases rails new k p at) [ inl old ↦ (let lt = done.above k p old in omega arith) | inr e ↦ (let r : p.row ≡ n = ap (λ (x : Place). x.row) e.1 in omega arith) ];
  whole = λ p rail lt. elim (cases_eq p.row n) [
    | inl e ↦ contains_at (rails ++ new ∷ []) (length rails) p (push_here rails new ∙ ap Some (sym (place_same p new e rail.column)))
    | inr ne ↦ keep p (done.whole p rail (omega arith))
  ];
  rising = λ j k p q lt at at'. elim (push_cases rails new k q at') [
    | inl old ↦ elim (push_cases rails new j p at) [
      | inl old' ↦ done.rising j k p q lt old' old
      | inr e ↦ absurd (let w = slice_get_within rails k q old in let h = e.0 in omega arith)
    ]
    | inr e ↦ elim (push_cases rails new j p at) [
      | inl old' ↦ (let r : q.row ≡ n = ap (λ (x : Place). x.row) e.1 in let a = done.above j p old' in omega arith)
      | inr e' ↦ absurd (let h = e.0 in let h' = e'.0 in omega arith)
    ]
  ];
}
  where
    new : Place
    new = place n g.left

    here : IsLeftRail g new
    here = record { column = refl; mark = is }

    keep : (p : Place) → Contains rails p → Contains (rails ++ new ∷ []) p
    keep p in' = Contains-append_left rails (new ∷ []) p in'

pub rails_all : (g : Picture) → IsSound g → (rails : List Place) (n : ℕ) → g.rows < n → RailsTo g rails n → AreLeftRails g rails
rails_all g sound rails n all done = record {
  each = done.each;
  whole = λ p rail. done.whole p rail (let r = (rail_row g sound p rail).1 in omega arith);
  rising = done.rising;
}
